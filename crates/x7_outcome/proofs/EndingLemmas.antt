-- Each end of a form has its cause, and what other forms than `list` leave of the output.
use Rattle.std.proofs.Common.{◌≡◌, ℕ, List, Option, None, Some, Result, Ok, Err, refl, ap, subst, sym, ◌∙◌, inl, inr}
use Rattle.x7_forms.specs.declared.status.Status.{Status}
use Rattle.x7_forms.specs.Event.{Event, ReasonCause, Want, Fault, Absence, Break, Contents, cause_of_event}
use Rattle.x7_forms.specs.Form.{listed_by}
use Rattle.x7_forms.specs.AskedForm.{AskedForm}
use Rattle.x7_forms.specs.Known.{Answer, Failing, Known, Lacking, Mishap, mishap_event}
use Rattle.x7_forms.specs.Step.{DecidedBy, IsCausedBy, IsDue, IsFromOutside, PossibleBy}
use Rattle.x7_outcome.specs.Ahead.{StaysNear, StaysNearIn}
use Rattle.x7_outcome.specs.Outcome.{FormGives}
use Rattle.x7_outcome.specs.Outside.{CameInRun, Outside, known_in}
use Rattle.x7_outcome.specs.Ending.{AnswersOver, CausedBy, EndIsCaused, ReportsMishap, OutputAfterEvent, OutputByCause}

-- the cause of the event of a mishap
mishap_cause : (m : Mishap) (form : AskedForm) (old new : Outside) (event : Event) → mishap_event m ≡ event → ReportsMishap form old new event → CausedBy (cause_of_event event) form old new event
mishap_cause (Failing name given) form old new event e h = subst (λ (c : ReasonCause). CausedBy c form old new event) (ap cause_of_event e) h
mishap_cause (Lacking name) form old new event e h = subst (λ (c : ReasonCause). CausedBy c form old new event) (ap cause_of_event e) (inl h)

outside_cause : (form : AskedForm) (old new : Outside) (event : Event) → IsFromOutside {A = Answer} (known_in old new) (CameInRun (Some form) old new) (λ t end. FormGives t form end) (Err event) → CausedBy (cause_of_event event) form old new event
outside_cause form old new event (inl e) = subst (λ (x : Event). CausedBy (cause_of_event x) form old new x) (sym e) refl
outside_cause form old new event (inr h) = mishap_cause h.mishap form old new event h.reports h

known_cause : (cause : ReasonCause) (known : Known) (form : AskedForm) (old new : Outside) (event : Event) → known_in old new ≡ Some known → DecidedBy cause → FormGives known form (Err event) → CausedBy cause form old new event
known_cause Absence known form old new event k d h = inr (rw k h)
known_cause Contents known form old new event k d h = rw k h
known_cause cause known form old new event k d h = absurd d

open_cause : (cause : ReasonCause) (form : AskedForm) (old new : Outside) (event : Event) → known_in old new ≡ None → PossibleBy cause → CausedBy cause form old new event
open_cause Contents form old new event k o = rw k tt
open_cause cause form old new event k o = absurd o

due_cause : (known : Option Known) (form : AskedForm) (old new : Outside) (got : Result Answer Event) → known_in old new ≡ known → IsDue known (λ t end. FormGives t form end) got → EndIsCaused (Some form) old new got
due_cause None form old new (Ok answer) k h = rw k tt
due_cause (Some known) form old new (Ok answer) k h = rw k h.1
due_cause None form old new (Err event) k h = open_cause (cause_of_event event) form old new event k h
due_cause (Some known) form old new (Err event) k h = known_cause (cause_of_event event) known form old new event k h.0 h.1

-- a text that is ready, or none, has its cause
pub has_cause : (form : AskedForm) (old new : Outside) (got : Result Answer Event) → AnswersOver form old new got → EndIsCaused (Some form) old new got
has_cause form old new (Ok answer) (inl h) = absurd h
has_cause form old new (Err event) (inl h) = outside_cause form old new event h
has_cause form old new got (inr h) = due_cause (known_in old new) form old new got refl h

-- what forms other than `list` leave of the output where nothing was written
pub leaves_all : (form : AskedForm) (cause : ReasonCause) (old new : Outside) (event : Event) → listed_by (Some form) ≡ None → (cause ≡ Break → ⊥) → new.out.written ≡ old.out.written → OutputByCause cause (Some form) old new event
leaves_all form Break old new event l n e = absurd (n refl)
leaves_all form cause old new event l n e = subst (λ (s : Option (List ℕ)). OutputAfterEvent s event old new) (sym l) e

outside_by : (known : Option Known) (C : Mishap → Type 0) (Due : Known → Result Answer Event → Type 0) (event : Event) → IsFromOutside {A = Answer} known C Due (Err event) → cause_of_event event ≡ Break → ⊥
outside_by known C Due event (inl e) b = let c : Want ≡ Break = sym (ap cause_of_event e) ∙ b in absurd (cc)
outside_by known C Due event (inr h) b = by h.mishap h.reports
  where
    by : (m : Mishap) → mishap_event m ≡ event → ⊥
    by (Failing name given) e = let c : Fault ≡ Break = ap cause_of_event e ∙ b in absurd (cc)
    by (Lacking name) e = let c : Absence ≡ Break = ap cause_of_event e ∙ b in absurd (cc)

decided_by : (cause : ReasonCause) → DecidedBy cause → cause ≡ Break → ⊥
decided_by Break h e = h
decided_by cause h e = absurd (cc)

open_by : (cause : ReasonCause) → PossibleBy cause → cause ≡ Break → ⊥
open_by Break h e = h
open_by cause h e = absurd (cc)

-- a text that isn't ready was not refused by the output
pub no_break : (known : Option Known) (C : Mishap → Type 0) (Due : Known → Result Answer Event → Type 0) (event : Event) → IsCausedBy known C Due (Err event) → cause_of_event event ≡ Break → ⊥
no_break known C Due event (inl h) = outside_by known C Due event h
no_break None C Due event (inr h) = open_by (cause_of_event event) h
no_break (Some t) C Due event (inr h) = decided_by (cause_of_event event) h.0

-- how far a form that lists no stream reads ahead: nothing is said of it
pub near_all : (form : AskedForm) (s : Status) (old new : Outside) → listed_by (Some form) ≡ None → StaysNear s (Some form) old new
near_all form s old new l = subst (λ (x : Option (List ℕ)). StaysNearIn s x old new) (sym l) tt
