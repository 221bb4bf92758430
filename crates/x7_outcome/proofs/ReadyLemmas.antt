-- What a last step that reads nothing comes to: an end that is due, or want of memory.
use Rattle.std.proofs.Common.{◌≡◌, ℕ, List, OnOk, Result, Ok, Err, ap, subst, sym, inl, inr, ◌⊎◌}
use Rattle.x7_forms.specs.declared.bad_input.InputFault.{InputFault}
use Rattle.x7_forms.specs.Event.{Event, bad_input, no_memory}
use Rattle.x7_forms.specs.Known.{Answer}
use Rattle.x7_forms.specs.Step.{IsDecided, IsPossible}

-- what a last step that reads nothing comes to: want of memory, or an end that contents decide, known or not, and that
-- is due
abbrev pub EndsDue : (Result Answer Event → Type 0) → Result Answer Event → Type 0
EndsDue Due got = (got ≡ Err no_memory) ⊎ (IsPossible got × IsDecided got × Due got)

-- an event that lies in an input's contents
pub bad_due : (Due : Result Answer Event → Type 0) (name : List ℕ) (fault : InputFault) (event : Event) → bad_input name fault ≡ event → Due (Err event) → EndsDue Due (Err event)
bad_due Due name fault event e h = inr (subst (λ (x : Event). IsPossible {A = Answer} (Err x)) e tt, subst (λ (x : Event). IsDecided {A = Answer} (Err x)) e tt, h)

-- want of memory, by its event
pub want_due : (Due : Result Answer Event → Type 0) (event : Event) → no_memory ≡ event → EndsDue Due (Err event)
want_due Due event e = inl (sym (ap (λ (x : Event). Err x) e))

-- what holds whatever the result is, holds where it is a value
pub at_ok : {A B P : Type 0} (r : Result A B) → P → OnOk r P
at_ok (Ok a) p = p
at_ok (Err b) p = tt
