-- What a run leaves of a flash, and what may be found of it after a power loss at any moment (this project's choice).
use Rattle.std.specs.Prelude.{◌≡◌, ℕ, List, drop, length, Option, None, Some, Result, Ok, Err, ◌⊎◌}
use Rattle.x7_words.specs.Flash.{FlashFails, FlashState}
use Rattle.x7_words.specs.FlashHistory.{FollowsCalls, MayLeave}
use Rattle.x7_words.specs.Word.{AreBytes}
use Rattle.x7_words.specs.declared.flash_call.FlashCall.{FlashCall}
use Rattle.x7_update.specs.After.{IsAfterUpdate, MayBeLeft}
use Rattle.x7_update.specs.Writing.{Becomes}
use Rattle.x7_forms.specs.declared.refusal.Why.{Why}
use Rattle.x7_forms.specs.declared.refusal.Why.TheVariants as why
use Rattle.x7_forms.specs.Event.{Event}
use Rattle.x7_forms.specs.Form.{flash_use, updated_by}
use Rattle.x7_forms.specs.AskedForm.{AskedForm}
use Rattle.x7_forms.specs.Known.{Answer, Known}
use Rattle.x7_outcome.specs.Outcome.{stream_data}
use Rattle.x7_outcome.specs.Outside.{UsesFlashAs, Outside, Sources, known_from, known_in}

-- where the contents are known, `bytes` are the data of the stream under the name `stream`
abbrev pub HasData : Option Known → List ℕ → List ℕ → Type 0
HasData None stream bytes = Unit {0}
HasData (Some known) stream bytes = stream_data known stream ≡ Ok bytes

-- What may be found of a flash: what it held; or, of a form with the name of a stream for it, what an update may leave
-- with the stream's data, or with some bytes where the contents aren't known.
abbrev pub MayBeFound : Option Known → Option (List ℕ) → List ℕ → List ℕ → Type 0
MayBeFound known None flash found = found ≡ flash
MayBeFound known (Some stream) flash found = (found ≡ flash) ⊎ ((bytes : List ℕ) × HasData known stream bytes × MayBeLeft bytes flash found)

-- a flash of which these bytes are known
abbrev pub holding : List ℕ → FlashState → FlashState
holding all state = record state { bytes = Some all }

-- the calls from one state of a flash to a later one
abbrev pub calls_since : FlashState → FlashState → List FlashCall
calls_since old new = drop (length old.calls) new.calls

-- a power loss at any moment of the calls from one state of a flash to a later one leaves what the flash held, whatever
-- that is
abbrev pub LeavesAsItWas : FlashState → FlashState → Type 0
LeavesAsItWas old new = (flash found : List ℕ) → MayLeave (calls_since old new) flash found → found ≡ flash

-- What a form leaves of a flash, whatever the flash held before: where it gives what it holds, a power loss at any
-- moment of the calls leaves what may be found of it.
abbrev pub LeavesAnyFlash : Option AskedForm → Sources → FlashState → Type 0
LeavesAnyFlash form old new =
    (flash found : List ℕ) → length flash ≡ new.extent → AreBytes flash → MayLeave (calls_since old.flash new) flash found
    → MayBeFound (known_from (record old { flash = holding flash old.flash })) (updated_by form) flash found

-- what a form does to the flash; that the flash's bytes, where they are known, are what its calls make of them; and what a
-- power loss at any moment of the calls may leave there, whatever the flash held before
pub record UsesFlash (form : Option AskedForm) (old : Sources) (new : FlashState) : Type 0 where
  pub keeps : UsesFlashAs (flash_use form) old.flash new
  pub follows : FollowsCalls old.flash new
  pub left : LeavesAnyFlash form old new

-- by the reason of an update that wasn't done: the flash's bytes stay, unless a write or a read of the flash failed, or
-- a byte differs
abbrev pub BytesAfterReason : Why → FlashState → FlashState → Type 0
BytesAfterReason why.ReadFault old new = FlashFails old new ⊎ (new.bytes ≡ old.bytes)
BytesAfterReason why.WriteFault old new = Unit {0}
BytesAfterReason (why.Differs place) old new = Unit {0}
BytesAfterReason reason old new = new.bytes ≡ old.bytes

-- An update that is done leaves the flash as it is after an update with the stream's data, or with some bytes where the
-- contents aren't known. Of one that isn't, `BytesAfterReason` says what it leaves.
abbrev pub UpdateLeaves : Option (List ℕ) → Outside → Outside → Result Answer Event → Type 0
UpdateLeaves None old new end = Unit {0}
UpdateLeaves (Some stream) old new (Ok answer) = (bytes : List ℕ) × HasData (known_in old new) stream bytes × Becomes old.flash new.flash (IsAfterUpdate bytes)
UpdateLeaves (Some stream) old new (Err event) = BytesAfterReason event.reason old.flash new.flash
