-- Where reading stops, by which input of a form an event names, and how often inputs are asked for.
use Rattle.std.proofs.Common.{◌≤◌, suc, ◌≡◌, ℕ, length, List, [], ◌∷◌, Some, Result, Ok, Err, IfErr, inl, inr, subst, sym, arith}
use Rattle.x7_words.specs.Input.{AsksAtMost, InputsState}
use Rattle.x7_words.proofs.InputLemmas.{few_more, few_on}
use Rattle.x7_forms.specs.declared.refusal.Refusal.{Refusal}
use Rattle.x7_forms.specs.Event.{Absence, Break, ReasonCause, Contents, Difference, Event, Fault, Want, Wording, cause_of_event, event_of, no_memory}
use Rattle.x7_forms.specs.AskedForm.{AskedForm}
use Rattle.x7_forms.specs.Step.{result_by}
use Rattle.x7_forms.specs.ReadingStops.{IsAbout, Limited, StopsAmong}
use Rattle.x7_forms.specs.Turn.{IsLastAsked}
use Rattle.x7_forms.proofs.AskedLemmas.{about_among}
use Rattle.x7_outcome.specs.Stopping.{StopsReading, StopsBy, NamesItsStop, inputs_of}

-- ---- where reading stops

pub stops_by : (cause : ReasonCause) (form : AskedForm) (old now : InputsState) (event : Event) → NamesItsStop form old now event → StopsBy cause form old now event
stops_by Wording form old now event t = tt
stops_by Want form old now event t = tt
stops_by Break form old now event t = tt
stops_by Difference form old now event t = tt
stops_by Fault form old now event t = t
stops_by Absence form old now event t = t
stops_by Contents form old now event t = t

pub want_stops : (form : AskedForm) (old now : InputsState) (event : Event) → event ≡ no_memory → StopsBy (cause_of_event event) form old now event
want_stops form old now event e = subst (λ (x : Event). StopsBy (cause_of_event x) form old now x) (sym e) tt

-- reading stopped at one of the form's inputs
pub among_stops : (form : AskedForm) (old now : InputsState) (event : Event) → StopsAmong (inputs_of now.contents form) old now event → StopsBy (cause_of_event event) form old now event
among_stops form old now event (inl e) = want_stops form old now event e
among_stops form old now event (inr h) = stops_by (cause_of_event event) form old now event (inr (inr h))

-- reading stopped at the first of the form's inputs
pub first_stops : (form : AskedForm) (first : Limited) (others : List Limited) (old now : InputsState) (event : Event)
    → inputs_of now.contents form ≡ first ∷ others → IsLastAsked first.name first.limit now → AsksAtMost old 1 now → IsAbout first.name event → StopsBy (cause_of_event event) form old now event
first_stops form first others old now event i s n a = among_stops form old now event (about_among (inputs_of now.contents form) [] first others old now event i s n a)

-- reading stopped at the second of the form's inputs
pub second_stops : (form : AskedForm) (first second : Limited) (others : List Limited) (old now : InputsState) (event : Event)
    → inputs_of now.contents form ≡ first ∷ second ∷ others → IsLastAsked second.name second.limit now → AsksAtMost old 2 now → IsAbout second.name event → StopsBy (cause_of_event event) form old now event
second_stops form first second others old now event i s n a = among_stops form old now event (about_among (inputs_of now.contents form) (first ∷ []) second others old now event i s n a)

-- reading stopped at the third of the form's inputs
pub third_stops : (form : AskedForm) (first second third : Limited) (others : List Limited) (old now : InputsState) (event : Event)
    → inputs_of now.contents form ≡ first ∷ second ∷ third ∷ others → IsLastAsked third.name third.limit now → AsksAtMost old 3 now → IsAbout third.name event → StopsBy (cause_of_event event) form old now event
third_stops form first second third others old now event i s n a = among_stops form old now event (about_among (inputs_of now.contents form) (first ∷ second ∷ []) third others old now event i s n a)

-- a call's result, where each refusal stops so
pub result_stops : {A B : Type 0} (value : A → B) (form : AskedForm) (old now : InputsState) (r : Result A Refusal) → IfErr r (λ x. StopsBy (cause_of_event (event_of x)) form old now (event_of x)) → StopsReading (Some form) old now (result_by value r)
result_stops value form old now (Ok a) h = tt
result_stops value form old now (Err x) h = h

pub want_only : {A B : Type 0} (value : A → B) (form : AskedForm) (old now : InputsState) (r : Result A Refusal) → IfErr r (λ x. event_of x ≡ no_memory) → StopsReading (Some form) old now (result_by value r)
want_only value form old now (Ok a) h = tt
want_only value form old now (Err x) h = want_stops form old now (event_of x) h

-- ---- how often inputs are asked for, and their ends read

-- the first of a form's inputs was asked for
pub first_asked : (name : List ℕ) (others : List (List ℕ)) (old new : InputsState) → AsksAtMost old 1 new → AsksAtMost old (length (name ∷ others)) new
first_asked name others old new h = let some : 1 ≤ suc (length others) = omega arith in few_more old new 1 (length (name ∷ others)) some h

-- two inputs were asked for, one after the other
pub both_asked : (old mid new : InputsState) → AsksAtMost old 1 mid → AsksAtMost mid 1 new → AsksAtMost old 2 new
both_asked old mid new a b = few_on old mid new 1 1 a b
