-- A text that is read line by line while it comes.
use Rattle.std.proofs.Common.{◌≡◌, ℕ, List, [], ◌++◌, Result, Ok, Err, subst, sym, append_assoc, append-nil, ◌∷◌, Option, None, Some, inl, inr}
use Rattle.x7_text.specs.LineReader.{ReaderState, StandsFor}
use Rattle.x7_text.specs.Lines.{split}
use Rattle.x7_outcome.specs.Feeding.{IsFed}
use Rattle.x7_words.specs.Input.{InputsState}
use Rattle.x7_forms.specs.Event.{Event}
use Rattle.x7_forms.specs.Known.{Answer, Known, Mishap, whole_known, with_inputs, with_mishap}
use Rattle.x7_forms.specs.Step.{AnswersBy, CameIn, DueBy, IsCaused, IsCausedBy, ReadsWhole, step_over}
use Rattle.x7_forms.proofs.ReadLemmas.{outside_goes, rest_go}
use Rattle.std.proofs.Common.{inl, inr, ◌≡◌, ℕ, List, [], ◌∷◌, ◌++◌, Option, None, Some, Ok, Err, sym, subst, append_assoc, append-nil, Result}
use Rattle.x7_words.specs.Input.{InputsStay, RestIsWhole, TakenBy, preceded}
use Rattle.x7_forms.specs.Step.{CameIn, step_over}
use Rattle.x7_forms.specs.Event.{Event}
use Rattle.x7_forms.specs.Known.{Mishap, with_inputs}

module _ {T F : Type 0} (took : T → List (List ℕ) → Type 0) (fails : F → List (List ℕ) → Type 0) (read : Result (ReaderState T) F) where
  -- a piece after a fault
  pub fed_on : (f : F) (text piece : List ℕ) → read ≡ Err f → IsFed took fails read text → IsFed took fails (Err f) (text ++ piece)
  fed_on f text piece e h = λ more. subst (λ t. fails f (split t)) (sym (append_assoc text piece more)) (subst (λ o. IsFed took fails o text) e h (piece ++ more))

  -- no fault was found
  pub fed_ok : (reader : ReaderState T) (text : List ℕ) → read ≡ Ok reader → IsFed took fails read text → StandsFor took reader text
  fed_ok reader text e h = subst (λ o. IsFed took fails o text) e h

  -- the fault of a whole text
  pub fed_fault : (f : F) (text : List ℕ) → read ≡ Err f → IsFed took fails read text → fails f (split text)
  fed_fault f text e h = subst (λ t. fails f (split t)) (append-nil text) (subst (λ o. IsFed took fails o text) e h [])

-- a text that was not read is the event of whatever is made of it
pub unread_by : (name : List ℕ) (limit : ℕ) (D : Known → Result Answer Event → Type 0) (old new : InputsState) (event : Event) → ((t : Known) → whole_known t limit name ≡ Err event → D t (Err event)) → ReadsWhole old new limit name (Err event)
    → AnswersBy (step_over (name ∷ []) old new) D (Err event)
unread_by name limit D old new event f h = λ flash. by (with_inputs new.contents flash) (h flash)
  where
    C : Mishap → Type 0
    C = CameIn (step_over (name ∷ []) old new)

    due : (known : Option Known) (m : Mishap) → DueBy {A = List ℕ} known m (λ t r. whole_known t limit name ≡ r) event → DueBy {A = Answer} known m D event
    due None m x = tt
    due (Some t) m x = f (with_mishap m t) x

    by : (known : Option Known) → IsCaused {A = List ℕ} known C (λ t. whole_known t limit name) (Err event) → IsCausedBy {A = Answer} known C D (Err event)
    by known (inl x) = inl (outside_goes (List ℕ) Answer known C C (λ t r. whole_known t limit name ≡ r) D event (λ m y. y) (λ m e y. due known m y) x)
    by None (inr x) = inr x
    by (Some t) (inr x) = inr (x.0, f t x.1)

-- bytes more were taken
pub taken_more : (mid new : InputsState) (name taken piece : List ℕ) → InputsStay mid new → RestIsWhole mid.contents name (preceded taken mid.rest) → TakenBy new.contents mid.rest piece new.rest → RestIsWhole new.contents name (preceded (taken ++ piece) new.rest)
taken_more mid new name taken piece s w t = rest_go mid.contents new.contents name taken piece mid.rest new.rest s.map t w
