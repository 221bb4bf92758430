-- What may be found of a flash after a power loss at any moment of a run, and how that boots (this project's choice).
use Rattle.std.specs.Prelude.{◌≡◌, ℕ, List, length, Option, Some, Ok}
use Rattle.x7_words.specs.Flash.{FlashState, IfKnown}
use Rattle.x7_words.specs.FlashHistory.{MayLeave}
use Rattle.x7_words.specs.Word.{AreBytes}
use Rattle.x7_boot.specs.Boot.{BootedState, IsBoot}
use Rattle.x7_recovery.specs.Golden.{BootsAlike, IsPreparedByAttempt, UpdatingByAttempt}
use Rattle.x7_forms.specs.Form.{updated_by}
use Rattle.x7_forms.specs.AskedForm.{AskedForm}
use Rattle.x7_forms.specs.Known.{Known}
use Rattle.x7_outcome.specs.Outcome.{stream_data}
use Rattle.x7_outcome.specs.Outside.{Sources, known_from}
use Rattle.x7_outcome.specs.Leaving.{MayBeFound, calls_since, holding}

-- what a power loss at any moment of a run may leave of its flash, which held these bytes before the run
abbrev pub PowerLossMayLeave : Option AskedForm → Sources → List ℕ → Type 0
PowerLossMayLeave form old found = IfKnown old.flash.bytes (λ all. MayBeFound (known_from old) (updated_by form) all found)

-- A run updates a flash with a stream, where the flash's bytes and the stream's data are known. The flash can be
-- updated, and its golden stream, of any kind, starts where the first sector is erased, by an attempt that ends at the
-- update's place or before it.
pub record IsUpdateOf (form : Option AskedForm) (old : Sources) (u : UpdatingByAttempt) : Type 0 where
  pub known : Known
  pub is_known : known_from old ≡ Some known
  pub name : List ℕ
  pub updates : updated_by form ≡ Some name
  pub stream : stream_data known name ≡ Ok u.stream
  pub bytes : old.flash.bytes ≡ Some u.flash
  pub prepared : IsPreparedByAttempt u

-- where a run is an update as `IsUpdateOf` says, each boot from the bytes `found` is that of the flash before the
-- update, or starts as the golden stream does, or is that of the updated flash
abbrev pub EachBoots : Option AskedForm → Sources → List ℕ → Type 0
EachBoots form old found = (u : UpdatingByAttempt) (b : BootedState) → IsUpdateOf form old u → IsBoot u.part found b → BootsAlike u found b

-- Whatever a flash held before a run, where it gives what it holds: each boot from the bytes that a power loss at any
-- moment of the run's calls leaves is as `EachBoots` says of a flash that held these bytes.
abbrev pub EachBootsOfAny : Option AskedForm → Sources → FlashState → Type 0
EachBootsOfAny form old new =
    (flash found : List ℕ) → length flash ≡ new.extent → AreBytes flash → MayLeave (calls_since old.flash new) flash found → EachBoots form (record old { flash = holding flash old.flash }) found
