-- What may end `list`: each of its ends has its cause.
use Rattle.std.proofs.Common.{◌≡◌, ℕ, List, [], ◌∷◌, ◌++◌, ◌≤◌, ◌<◌, length, length-append, Option, None, Some, Result, Ok, Err, IfErr, OnOk, refl, ap, append-nil, subst, sym, ◌∙◌, arith, inl, inr, ◌⊎◌, take, Bool, true, false}
use Rattle.std.specs.Prelude.{if◌then◌else◌, nat_eq, nat_lt}
use Rattle.std.specs.List.{starts_with}
use Rattle.std.proofs.lemmas.Bool.Decides.{nat_tests}
use Rattle.std.proofs.lemmas.List.{length-take}
use Rattle.x7_words.specs.Count.{HasRisen}
use Rattle.x7_words.specs.Input.{InputsState, AsksForName, AtEnd, MissesInput, RestIsWhole, InputsStay, preceded}
use Rattle.x7_words.specs.Input.{MapLacks}
use Rattle.x7_words.proofs.InputLemmas.{rest_on}
use Rattle.x7_words.specs.Sink.{SinkFails, SinkState, appended, PutsPrefix}
use Rattle.x7_words.specs.Word.{AreBytes}
use Rattle.x7_header.specs.Header.{fixed_bytes}
use Rattle.x7_header.proofs.HeaderLemmas.{raw_at}
use Rattle.x7_listing.specs.Listing.{listing_of}
use Rattle.x7_listing.specs.StreamListing.{stream_listing}
use Rattle.x7_forms.specs.declared.bad_input.InputFault.TheVariants as input
use Rattle.x7_forms.specs.AskedForm as form
use Rattle.x7_forms.specs.Event.{Event, ReasonCause, Break, bad_input, cause_of_event, event_of, missing, no_memory, reading_failed, status_of_event, too_large, writing_failed}
use Rattle.x7_forms.specs.Status.{final_status}
use Rattle.x7_forms.specs.declared.refusal.Refusal.{Refusal}
use Rattle.x7_forms.specs.declared.refusal.Why.{Why}
use Rattle.x7_forms.specs.declared.refusal.Why.TheVariants as why
use Rattle.x7_forms.specs.Known.{Absent, Answer, Broken, Failing, Found, Held, Known, Lacking, Mishap, broken_at, bytes_found, input_found, known_of, stream_limit, with_inputs}
use Rattle.x7_outcome.specs.Outcome.{listed, listed_bytes, listed_found}
use Rattle.x7_forms.specs.Turn.{IsHeaderRefused, FollowsUnlessLast, UnreadBeginning, Unopened}
use Rattle.x7_outcome.specs.Outside.{Outside, known_in}
use Rattle.x7_outcome.specs.Ahead.{StaysNear}
use Rattle.x7_outcome.specs.Ending.{EndIsCaused, CommandEnds, CommandEndsAs, GetsPrefixOfText, IsPrefixOfInput, OutputByCause, ListingAfterReason, ListsSoFar}
use Rattle.x7_forms.specs.Step.{CameIn, DueBy, FailsAmong, IsCaused, result_by, step_over}
use Rattle.x7_forms.proofs.BeginningLemmas.{raw_listed}
use Rattle.x7_forms.proofs.ReadLemmas.{absence_from, at_fault, at_open, fault_from, known_all}
use Rattle.x7_outcome.proofs.FlashLemmas.{answers_over}
use Rattle.x7_outcome.proofs.EndingLemmas.{has_cause}
use Rattle.x7_words.proofs.ListLemmas.{same_as_itself}

-- ---- how a listing ends, by what is known of its stream and by what failed

-- a prefix of the listing of these bytes was put
abbrev pub PutsListed : List ℕ → Option (List ℕ) → Option (List ℕ) → Type 0
PutsListed bytes old new = (text : List ℕ) × ((stream_listing bytes ≡ Ok text) × PutsPrefix old text new)

-- nothing was put, or a prefix of the listing of a prefix of the stream, and of whatever may follow it
abbrev pub PutsPrefixOf : Option Known → List ℕ → Option (List ℕ) → Option (List ℕ) → Type 0
PutsPrefixOf known stream old new = (new ≡ old) ⊎ ((bytes : List ℕ) × (IsPrefixOfInput known stream bytes × ListsSoFar bytes old new))

-- what a listing that ended for a reason wrote of its text
abbrev pub LeftAs : Why → Option Known → List ℕ → Option (List ℕ) → Option (List ℕ) → Type 0
LeftAs why.ReadFault known stream old new = PutsPrefixOf known stream old new
LeftAs why.TooLarge known stream old new = PutsPrefixOf known stream old new
LeftAs why.NoMemory known stream old new = PutsPrefixOf known stream old new
LeftAs _ known stream old new = new ≡ old

-- where the stream is known, a prefix of its listing was put
abbrev pub PutsSomeOf : Option Known → List ℕ → Option (List ℕ) → Option (List ℕ) → Type 0
PutsSomeOf None stream old new = (text : List ℕ) × PutsPrefix old text new
PutsSomeOf (Some known) stream old new = (bytes : List ℕ) × ((known.inputs stream ≡ Held bytes) × (AreBytes bytes → PutsListed bytes old new))

abbrev pub EndedBy : ReasonCause → Option Known → (Mishap → Type 0) → List ℕ → Type 0 → Option (List ℕ) → Option (List ℕ) → Event → Type 0
EndedBy Break known C stream Full old new event = (event ≡ writing_failed) × Full × PutsSomeOf known stream old new
EndedBy _ known C stream Full old new event = IsCaused {A = Answer} known C (λ t. listed t stream) (Err event) × LeftAs event.reason known stream old new

abbrev pub Ended : Option Known → (Mishap → Type 0) → List ℕ → Type 0 → Option (List ℕ) → Option (List ℕ) → Result Answer Event → Type 0
Ended known C stream Full old new (Ok answer) = IsCaused known C (λ t. listed t stream) (Ok answer) × (new ≡ appended old answer.text)
Ended known C stream Full old new (Err event) = EndedBy (cause_of_event event) known C stream Full old new event

-- what a listing ended with, over the outside before and after
abbrev pub EndedIn : List ℕ → Outside → Outside → Result Answer Event → Type 0
EndedIn stream old new end =
    Ended (known_in old new) (CameIn (step_over (stream ∷ []) old.inputs new.inputs)) stream (SinkFails old.out new.out) old.out.written new.out.written end

ended_cause : (cause : ReasonCause) (stream : List ℕ) (old new : Outside) (event : Event) → cause_of_event event ≡ cause
    → EndedBy cause (known_in old new) (CameIn (step_over (stream ∷ []) old.inputs new.inputs)) stream (SinkFails old.out new.out) old.out.written new.out.written event
    → EndIsCaused (Some (form.List stream)) old new (Err event)
ended_cause Break stream old new event e h = rw e (h.0, inl h.1)
ended_cause cause stream old new event e h = has_cause (form.List stream) old new (Err event) (answers_over (form.List stream) old new (Err event) h.0)

left_as : (reason : Why) (stream : List ℕ) (old new : Outside) → LeftAs reason (known_in old new) stream old.out.written new.out.written → ListingAfterReason reason stream old new
left_as why.ReadFault stream old new h = h
left_as why.TooLarge stream old new h = h
left_as why.NoMemory stream old new h = h
left_as reason stream old new h = h

some_of : (known : Option Known) (stream : List ℕ) (old new : SinkState) → PutsSomeOf known stream old.written new.written → GetsPrefixOfText known (form.List stream) old new
some_of None stream old new h = h
some_of (Some known) stream old new h = h

ended_left : (cause : ReasonCause) (stream : List ℕ) (old new : Outside) (event : Event)
    → EndedBy cause (known_in old new) (CameIn (step_over (stream ∷ []) old.inputs new.inputs)) stream (SinkFails old.out new.out) old.out.written new.out.written event
    → OutputByCause cause (Some (form.List stream)) old new event
ended_left Break stream old new event h = some_of (known_in old new) stream old.out new.out h.2
ended_left cause stream old new event h = left_as event.reason stream old new h.1

pub list_ends : (stream : List ℕ) (old new : Outside) (end : Result Answer Event) → EndedIn stream old new end → StaysNear (final_status end) (Some (form.List stream)) old new → CommandEnds (Some (form.List stream)) old new end
list_ends stream old new (Ok answer) h n = record { cause = has_cause (form.List stream) old new (Ok answer) (answers_over (form.List stream) old new (Ok answer) h.0); wrote = h.1; near = n; measured = λ name a. absurd a; fails_last = tt; updates = tt; called = tt; as_read = tt }
list_ends stream old new (Err event) h n = record { cause = ended_cause (cause_of_event event) stream old new event refl h; wrote = ended_left (cause_of_event event) stream old new event h; near = n; measured = λ name a e. absurd a; fails_last = λ name a e at. absurd a; updates = tt; called = tt; as_read = tt }

-- a listing ends as it should, by the result of the call that ended it
pub list_seen : {A : Type 0} (stream : List ℕ) (old new : Outside) (r : Result A Refusal) → OnOk r ((text : List ℕ) × EndedIn stream old new (Ok (record { stopped = false; text = text })))
    → IfErr r (λ x. EndedIn stream old new (Err (event_of x))) → IfErr r (λ x. StaysNear (status_of_event (event_of x)) (Some (form.List stream)) old new) → CommandEndsAs (Some (form.List stream)) old new (result_by (λ _. false) r)
list_seen stream old new (Ok a) ok err near = (ok.0, list_ends stream old new (Ok (record { stopped = false; text = ok.0 })) ok.1 tt)
list_seen stream old new (Err x) ok err near = list_ends stream old new (Err (event_of x)) err near

-- a stream that fails within its limit, or isn't there
broken_by : (found : Found) (stream : List ℕ) (given : ℕ) → given ≤ stream_limit → listed_found stream (broken_at given found) ≡ Err (reading_failed stream)
broken_by (Held bytes) stream given h = let short : nat_lt stream_limit (length (take given bytes)) ≡ false = grind (arith, nat_tests, h, length-take given bytes) in rw short refl
broken_by Absent stream given h = refl
broken_by (Broken bytes) stream given h = let short : nat_lt stream_limit (length (take given bytes)) ≡ false = grind (arith, nat_tests, h, length-take given bytes) in rw short refl

broken_due : (contents : Option (List ℕ → Option (List ℕ))) (flash : Option (List ℕ)) (stream : List ℕ) (given : ℕ) → given ≤ stream_limit → DueBy {A = Answer} (with_inputs contents flash) (Failing stream given) (λ t r. listed t stream ≡ r) (reading_failed stream)
broken_due None flash stream given h = tt
broken_due (Some inputs) flash stream given h = let here = same_as_itself stream in rw here (broken_by (input_found (inputs stream)) stream given h)

absent_due : (contents : Option (List ℕ → Option (List ℕ))) (flash : Option (List ℕ)) (stream : List ℕ) → DueBy {A = Answer} (with_inputs contents flash) (Lacking stream) (λ t r. listed t stream ≡ r) (missing stream)
absent_due None flash stream = tt
absent_due (Some inputs) flash stream = let here = same_as_itself stream in rw here refl

-- a name that isn't there
pub absent : (old new : InputsState) (flash : Option (List ℕ)) (name : List ℕ) → AsksForName name new → new.selected ≡ false → MissesInput old name new
    → IsCaused {A = Answer} (with_inputs new.contents flash) (CameIn (step_over (name ∷ []) old new)) (λ known. listed known name) (Err (missing name))
absent old new flash name a s m = by new.contents refl m
  where
    by : (contents : Option (List ℕ → Option (List ℕ))) → new.contents ≡ contents → MapLacks contents name ⊎ HasRisen old.absences new.absences
        → IsCaused {A = Answer} (with_inputs contents flash) (CameIn (step_over (name ∷ []) old new)) (λ known. listed known name) (Err (missing name))
    by None e (inl h) = absurd h
    by (Some inputs) e (inl h) = inr (tt, rw h refl)
    by contents e (inr h) = inl (absence_from Answer (with_inputs contents flash) old new name (λ t r. listed t name ≡ r) (record { among = inl refl; deselected = record { asked = a.asked; selected = s }; risen = h }) (absent_due contents flash name))

-- a fault of the stream
pub faulted : (old new : InputsState) (flash : Option (List ℕ)) (stream : List ℕ) → FailsAmong (stream ∷ []) old new stream → new.given ≤ stream_limit
    → IsCaused {A = Answer} (with_inputs new.contents flash) (CameIn (step_over (stream ∷ []) old new)) (λ known. listed known stream) (Err (reading_failed stream))
faulted old new flash stream f g = inl (fault_from Answer (with_inputs new.contents flash) old new stream (λ t r. listed t stream ≡ r) f (broken_due new.contents flash stream new.given g))

pub nothing_listed : stream_listing [] ≡ Ok (listing_of [])
nothing_listed = raw_listed [] ((raw_at [] (starts_with nat_eq [] fixed_bytes) refl).1 (λ rest. λ e. absurd cc))

-- the bytes that were taken are a prefix of the input
prefix_taken : (contents : Option (List ℕ → Option (List ℕ))) (flash : Option (List ℕ)) (name taken : List ℕ) (rest : Option (List ℕ)) → RestIsWhole contents name (preceded taken rest) → IsPrefixOfInput (with_inputs contents flash) name taken
prefix_taken None flash name taken rest s = tt
prefix_taken (Some inputs) flash name taken None s = let h = s.2 in absurd (cc)
prefix_taken (Some inputs) flash name taken (Some rest) s =
    let h = s.2 in
    let same : taken ++ rest ≡ s.0 = cc in
    (rest, ap (λ (t : Option (List ℕ)). bytes_found (input_found t)) s.1 ∙ sym same)

-- a stream whose reading failed after these bytes
pub broken : (contents : Option (List ℕ → Option (List ℕ))) (flash : Option (List ℕ)) (C : Mishap → Type 0) (stream taken : List ℕ) (rest : Option (List ℕ)) (Full : Type 0) (old now : Option (List ℕ))
    → RestIsWhole contents stream (preceded taken rest) → IsCaused {A = Answer} (with_inputs contents flash) C (λ known. listed known stream) (Err (reading_failed stream)) → ListsSoFar taken old now → Ended (with_inputs contents flash) C stream Full old now (Err (reading_failed stream))
broken contents flash C stream taken rest Full old now s c p = (c, inr (taken, (prefix_taken contents flash stream taken rest s, p)))

-- memory that ended after these bytes
pub out_of_memory : (contents : Option (List ℕ → Option (List ℕ))) (flash : Option (List ℕ)) (C : Mishap → Type 0) (stream taken : List ℕ) (rest : Option (List ℕ)) (Full : Type 0) (old now : Option (List ℕ))
    → RestIsWhole contents stream (preceded taken rest) → ListsSoFar taken old now → Ended (with_inputs contents flash) C stream Full old now (Err no_memory)
out_of_memory contents flash C stream taken rest Full old now s p = (inl (inl refl), inr (taken, (prefix_taken contents flash stream taken rest s, p)))

-- memory that ended before anything was put
pub out_of_memory_before : (known : Option Known) (C : Mishap → Type 0) (stream : List ℕ) (Full : Type 0) (old now : Option (List ℕ)) → now ≡ old → Ended known C stream Full old now (Err no_memory)
out_of_memory_before known C stream Full old now e = (inl (inl refl), inl e)

-- what may follow the bytes that were taken
pub may_follow : (last : Bool) (rest : Option (List ℕ)) (left : List ℕ) → rest ≡ Some left → (last ≡ true → AtEnd rest) → FollowsUnlessLast last left
may_follow last rest left e end = λ l. let none = rw e at (end l) in none

-- a sink that failed after a prefix of the listing of these bytes and any that may follow
pub unwritten : (contents : Option (List ℕ → Option (List ℕ))) (flash : Option (List ℕ)) (C : Mishap → Type 0) (stream taken : List ℕ) (rest : Option (List ℕ)) (last : Bool) (Full : Type 0) (old now : Option (List ℕ))
    → RestIsWhole contents stream (preceded taken rest) → (last ≡ true → AtEnd rest) → Full → PutsListed taken old now → ((left : List ℕ) → FollowsUnlessLast last left → AreBytes (taken ++ left) → PutsListed (taken ++ left) old now)
    → Ended (with_inputs contents flash) C stream Full old now (Err writing_failed)
unwritten None flash C stream taken rest last Full old now s e f here p = (refl, f, (here.0, here.1.1))
unwritten (Some inputs) flash C stream taken rest last Full old now s e f here p =
    let all = known_all inputs stream taken rest s in
    (refl, f, (taken ++ all.0, (ap input_found all.1.1, λ fits. p all.0 (may_follow last rest all.0 all.1.0 e) fits)))

-- what is due for a stream of these bytes, by its listing and its length
due_over : (stream bytes text : List ℕ) (b : Bool) → stream_listing bytes ≡ Ok text → nat_lt stream_limit (length bytes) ≡ b → listed_bytes stream bytes ≡ (if b then Err (too_large stream) else Ok (record { stopped = false; text = text }))
due_over stream bytes text true h l = rw (h, l) refl
due_over stream bytes text false h l = rw (h, l) refl

due_refused : (stream bytes : List ℕ) (place : ℕ) → stream_listing bytes ≡ Err place → listed_bytes stream bytes ≡ Err (bad_input stream (input.Byte place))
due_refused stream bytes place h = rw h refl

listed_is : (inputs : List ℕ → Option (List ℕ)) (flash : Option (List ℕ)) (stream bytes : List ℕ) → inputs stream ≡ Some bytes → listed (known_of inputs flash) stream ≡ listed_bytes stream bytes
listed_is inputs flash stream bytes e = rw e refl

-- a stream of which more than the limit was taken
pub oversized : (contents : Option (List ℕ → Option (List ℕ))) (flash : Option (List ℕ)) (C : Mishap → Type 0) (stream taken listed_prefix : List ℕ) (rest more : Option (List ℕ)) (Full : Type 0) (old now : Option (List ℕ))
    → RestIsWhole contents stream (preceded taken rest) → RestIsWhole contents stream (preceded listed_prefix more) → ((left : List ℕ) → (text : List ℕ) × (stream_listing (taken ++ left) ≡ Ok text)) → stream_limit < length taken → ListsSoFar listed_prefix old now
    → Ended (with_inputs contents flash) C stream Full old now (Err (too_large stream))
oversized None flash C stream taken listed_prefix rest more Full old now s t h l p = (inr tt, inr (listed_prefix, (tt, p)))
oversized (Some inputs) flash C stream taken listed_prefix rest more Full old now s t h l p =
    let all = known_all inputs stream taken rest s in
    let text = h all.0 in
    let long : nat_lt stream_limit (length (taken ++ all.0)) ≡ true = grind (arith, length-append taken all.0, l, nat_tests) in
    (inr (tt, listed_is inputs flash stream (taken ++ all.0) all.1.1 ∙ due_over stream (taken ++ all.0) text.0 true text.1 long), inr (listed_prefix, (prefix_taken (Some inputs) flash stream listed_prefix more t, p)))

-- a stream whose header is refused
pub refused : (contents : Option (List ℕ → Option (List ℕ))) (flash : Option (List ℕ)) (C : Mishap → Type 0) (stream taken : List ℕ) (rest : Option (List ℕ)) (last : Bool) (place : ℕ) (Full : Type 0) (old : Option (List ℕ))
    → RestIsWhole contents stream (preceded taken rest) → (last ≡ true → AtEnd rest) → IsHeaderRefused taken last place → Ended (with_inputs contents flash) C stream Full old old (Err (bad_input stream (input.Byte place)))
refused None flash C stream taken rest last place Full old s e r = (inr tt, refl)
refused (Some inputs) flash C stream taken rest last place Full old s e r =
    let all = known_all inputs stream taken rest s in
    (inr (tt, listed_is inputs flash stream (taken ++ all.0) all.1.1 ∙ due_refused stream (taken ++ all.0) place (r all.0 (may_follow last rest all.0 all.1.0 e))), refl)

-- a stream whose listing was written
pub listed_whole : (contents : Option (List ℕ → Option (List ℕ))) (flash : Option (List ℕ)) (C : Mishap → Type 0) (stream taken text : List ℕ) (rest : Option (List ℕ)) (Full : Type 0) (old now : Option (List ℕ))
    → RestIsWhole contents stream (preceded taken rest) → AtEnd rest → stream_listing taken ≡ Ok text → length taken ≤ stream_limit → now ≡ appended old text
    → Ended (with_inputs contents flash) C stream Full old now (Ok (record { stopped = false; text = text }))
listed_whole None flash C stream taken text rest Full old now s e h l p = (inr tt, p)
listed_whole (Some inputs) flash C stream taken text rest Full old now s e h l p =
    let all = known_all inputs stream taken rest s in
    let none : all.0 ≡ [] = let end = rw all.1.0 at e in end in
    let whole : inputs stream ≡ Some taken = all.1.1 ∙ ap (λ t. Some (taken ++ t)) none ∙ ap Some (append-nil taken) in
    let short : nat_lt stream_limit (length taken) ≡ false = grind (arith, l, nat_tests) in
    (inr (tt, listed_is inputs flash stream taken whole ∙ due_over stream taken text false h short), p)

-- how a listing ended, by an equal event
pub ends_same : (known : Option Known) (C : Mishap → Type 0) (stream : List ℕ) (Full : Type 0) (old now : Option (List ℕ)) (x y : Event) → x ≡ y → Ended known C stream Full old now (Err y) → Ended known C stream Full old now (Err x)
ends_same known C stream Full old now x y e h = subst (λ (event : Event). Ended known C stream Full old now (Err event)) (sym e) h

-- a stream that could not be opened
pub unopened : (s n : InputsState) (flash : Option (List ℕ)) (stream : List ℕ) (Full : Type 0) (old : Option (List ℕ)) (event : Event) → Unopened s stream n event → AsksForName stream n
    → Ended (with_inputs n.contents flash) (CameIn (step_over (stream ∷ []) s n)) stream Full old old (Err event)
unopened s n flash stream Full old event (inl h, none) a =
    ends_same (with_inputs n.contents flash) (CameIn (step_over (stream ∷ []) s n)) stream Full old old event (missing stream) h.0 (absent s n flash stream a none h.1, refl)
unopened s n flash stream Full old event (inr h, none) a =
    ends_same (with_inputs n.contents flash) (CameIn (step_over (stream ∷ []) s n)) stream Full old old event (reading_failed stream) h.0
    (faulted s n flash stream (record { among = inl refl; deselected = record { asked = a.asked; selected = none }; risen = h.1 }) (omega (arith, a.given)), inl refl)

-- an error by two of its clauses
pub both_err : {A B : Type 0} (r : Result A B) (P Q R : B → Type 0) → ((e : B) → P e → Q e → R e) → IfErr r P → IfErr r Q → IfErr r R
both_err (Ok a) P Q R f p q = tt
both_err (Err e) P Q R f p q = f e p q

-- nothing was taken of a selected stream
pub nothing_taken : (contents : Option (List ℕ → Option (List ℕ))) (stream : List ℕ) (rest : Option (List ℕ)) → RestIsWhole contents stream rest → RestIsWhole contents stream (preceded [] rest)
nothing_taken contents stream None s = s
nothing_taken contents stream (Some rest) s = s

-- a stream whose beginning was not read
pub without_prefix : (s m n : InputsState) (flash : Option (List ℕ)) (stream : List ℕ) (Full : Type 0) (old : Option (List ℕ)) (event : Event)
    → InputsStay s m → InputsStay m n → RestIsWhole m.contents stream m.rest → AsksForName stream m → UnreadBeginning m stream n event
    → Ended (with_inputs n.contents flash) (CameIn (step_over (stream ∷ []) s n)) stream Full old old (Err event)
without_prefix s m n flash stream Full old event f later sel a (inl h) =
    ends_same (with_inputs n.contents flash) (CameIn (step_over (stream ∷ []) s n)) stream Full old old event no_memory h
    (out_of_memory_before (with_inputs n.contents flash) (CameIn (step_over (stream ∷ []) s n)) stream Full old old refl)
without_prefix s m n flash stream Full old event f later sel a (inr (inl h)) =
    let fault = at_fault s m n stream [] stream_limit f (at_open stream m a) h.1 h.2 in
    ends_same (with_inputs n.contents flash) (CameIn (step_over (stream ∷ []) s n)) stream Full old old event (reading_failed stream) h.0
    (faulted s n flash stream fault.0 (omega (arith, fault.1)), inl refl)
without_prefix s m n flash stream Full old event f later sel a (inr (inr h)) =
    ends_same (with_inputs n.contents flash) (CameIn (step_over (stream ∷ []) s n)) stream Full old old event (bad_input stream (input.Byte h.place)) h.reports
    (refused n.contents flash (CameIn (step_over (stream ∷ []) s n)) stream h.bytes n.rest h.last h.place Full old (rest_on m.contents n.contents stream h.bytes m.rest n.rest later.map h.taken sel) h.end h.refused)
