-- What an update called its flash for: of every flash, one of the system too (this project's choice).
use Rattle.std.specs.Prelude.{◌≡◌, ℕ, List, [], ◌∷◌, ◌++◌, Option, Some, Result, Ok, Err, ◌⊎◌}
use Rattle.x7_words.specs.Flash.{FlashState}
use Rattle.x7_words.specs.FlashHistory.{FlashHistory, history_of}
use Rattle.x7_words.specs.declared.flash_call.FlashCall.TheVariants.{Attached, NotAttached}
use Rattle.x7_words.specs.declared.input.SelectFault.{SelectFault}
use Rattle.x7_update.specs.Made.{HasUpdated, IsRefused}
use Rattle.x7_update.specs.declared.fault.UpdateFault.{UpdateFault}
use Rattle.x7_forms.specs.Event.{Event}
use Rattle.x7_forms.specs.AskedForm.{AskedForm}
use Rattle.x7_forms.specs.AskedForm as form
use Rattle.x7_forms.specs.Known.{Answer}
use Rattle.x7_outcome.specs.Leaving.{HasData}
use Rattle.x7_outcome.specs.Outcome.{UpdateNames, update_event}
use Rattle.x7_outcome.specs.Outside.{Outside, known_in}

-- a flash was attached under this name, and its history from then on begins with this one
pub record AttachedAs (name : List ℕ) (old : FlashState) (mid : FlashHistory) : Type 0 where
  pub made : mid.calls ≡ old.calls ++ Attached name mid.size ∷ []

-- a flash was attached under this name, or wasn't, and was called for nothing else
abbrev pub OnlyAttaches : List ℕ → FlashState → FlashState → Type 0
OnlyAttaches name old new = AttachedAs name old (history_of new) ⊎ ((fault : SelectFault) × (new.calls ≡ old.calls ++ NotAttached name fault ∷ []))

-- the flash of this name was attached and updated with these bytes: it was called for an update's calls, and no others
pub record CallsUpdate (name bytes : List ℕ) (old new : FlashState) : Type 0 where
  pub mid : FlashHistory
  pub attached : AttachedAs name old mid
  pub updated : HasUpdated bytes mid (history_of new)

-- the update of the flash of this name with these bytes was refused with a fault, which its last call shows
pub record CallsRefusedUpdate (name bytes : List ℕ) (old new : FlashState) (fault : UpdateFault) : Type 0 where
  pub mid : FlashHistory
  pub attached : AttachedAs name old mid
  pub refused : IsRefused bytes mid (history_of new) fault

-- why an update was refused, and what was called: the flash was attached at most, or the update with the stream's data
-- ended with a fault, which is the event's
abbrev pub RefusesUpdate : UpdateNames → Outside → Outside → Event → Type 0
RefusesUpdate names old new event =
    OnlyAttaches names.flash old.flash new.flash
    ⊎ ((bytes : List ℕ) × HasData (known_in old new) names.stream bytes × ((fault : UpdateFault) × (event ≡ update_event names fault) × CallsRefusedUpdate names.flash bytes old.flash new.flash fault))

-- What an update called its flash for: one that is done all calls of an update with the stream's data, and no others.
abbrev pub UpdateCalled : Option AskedForm → Outside → Outside → Result Answer Event → Type 0
UpdateCalled (Some (form.Update flash stream)) old new (Ok answer) = (bytes : List ℕ) × HasData (known_in old new) stream bytes × CallsUpdate flash bytes old.flash new.flash
UpdateCalled (Some (form.Update flash stream)) old new (Err event) = RefusesUpdate (record { flash = flash; stream = stream }) old new event
UpdateCalled form old new end = Unit {0}
