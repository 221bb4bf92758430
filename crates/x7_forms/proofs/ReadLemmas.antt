-- Inputs that are read whole, one after the other, and what that comes to.
use Rattle.std.proofs.Common.{◌≡◌, ◌≢◌, ◌⊎◌, ℕ, zero, suc, List, [], Bool, true, false, append-nil, ◌∷◌, ◌++◌, ◌+◌, ◌-◌, ◌≤◌, ◌<◌, drop, drop-cons, get_or, take, add-one, length, length-append, map, Option, None, Some, Result, Ok, Err, refl, ap, append_assoc, subst, sym, ◌∙◌, arith, inl, inr}
use Rattle.std.specs.Prelude.{IfSome, if◌then◌else◌, nat_lt}
use Rattle.std.specs.Str.{bytes_eq}
use Rattle.std.proofs.lemmas.Bool.Decides.{nat_tests}
use Rattle.std.proofs.lemmas.List.{drop-take, length-take, length-take-le, take-take, drop_all}
use Rattle.x7_words.specs.Count.{HasRisen}
use Rattle.x7_words.specs.Input.{InputsState, AsksForName, AtEnd, MissesInput, RestIsWhole, InputsStay, NoInputFault, StillKnown, TakenBy, TakesInput, preceded}
use Rattle.x7_words.specs.Input.{MapLacks}
use Rattle.x7_words.specs.Word.{AreBytes}
use Rattle.x7_words.proofs.CountLemmas.{risen_from}
use Rattle.x7_words.proofs.InputLemmas.{preceded_preceded, rest_on, stays_at, stays_on, taken_before, taken_on, takes_none, takes_on}
use Rattle.x7_header.specs.Header.{HeaderContents, longest_header}
use Rattle.x7_header.specs.Reading.{header_at}
use Rattle.x7_header.specs.declared.fault.HeaderFault.{HeaderFault}
use Rattle.x7_header.specs.declared.fault.HeaderFault.TheVariants as header
use Rattle.x7_part.specs.Part.{PartData}
use Rattle.x7_part.specs.PartFile.{part_in}
use Rattle.x7_forms.specs.declared.bad_input.InputFault.TheVariants as input
use Rattle.x7_forms.specs.declared.refusal.Why.TheVariants as why
use Rattle.x7_forms.specs.Event.{Event, bad_input, missing, no_memory, reading_failed, too_large}
use Rattle.x7_forms.specs.Known.{Absent, Broken, Failing, Found, Held, Known, Lacking, Mishap, StreamRead, and_so, broken_at, data_by, data_in, streams_known, input_found, known_of, mishap_event, part_by, part_limit, part_known, put_before, stream_known, spoiled, spoiled_name, taken_whole, whole_known, with_inputs, with_mishap}
use Rattle.x7_forms.specs.Turn.{BreaksWithin, ReadsBytes, Unopened, UnreadToEnd, UnreadRest}
use Rattle.x7_forms.proofs.HeadLemmas.{data_more}
use Rattle.x7_forms.specs.Step.{Among, AnswersAs, AnswersBy, CameIn, DueBy, FailsAmong, IsCaused, IsCausedBy, IsDecided, IsDue, IsFromOutside, IsOneUnplayed, IsPossible, IsUnplayed, IsUnread, LacksAmong, step_over}
use Rattle.std.proofs.Math.Seq.{take-append-add}
use Rattle.x7_words.proofs.ListLemmas.{same_by_test, same_as_itself}

-- ---- no fault of an input

-- where nothing happened, no fault was counted
pub no_fault_at : (s : InputsState) → NoInputFault s s
no_fault_at s = record { faults = refl; absences = refl }

-- where no fault was counted over one call, nor over the next, none was over both
pub no_fault_on : (a b c : InputsState) → NoInputFault a b → NoInputFault b c → NoInputFault a c
no_fault_on a b c p q = record { faults = q.faults ∙ p.faults; absences = q.absences ∙ p.absences }

-- ---- what was taken

-- what is known of a stream of which these bytes were taken
pub known_all : (inputs : List ℕ → Option (List ℕ)) (stream taken : List ℕ) (rest : Option (List ℕ)) → RestIsWhole (Some inputs) stream (preceded taken rest) → (left : List ℕ) × ((rest ≡ Some left) × (inputs stream ≡ Some (taken ++ left)))
known_all inputs stream taken None s = let h = s.2 in absurd (cc)
known_all inputs stream taken (Some left) s =
    let h = s.2 in
    let same : taken ++ left ≡ s.0 = cc in
    (left, (refl, s.1 ∙ ap Some (sym same)))

-- the prefix of a buffer, where what was read stands after what it held
pub filled : (xs ys zs : List ℕ) (at n : ℕ) → at ≤ length xs → n ≤ length ys → take (at + length ys) zs ≡ take at xs ++ ys → take (at + n) zs ≡ take at xs ++ take n ys
filled xs ys zs at n a k e =
    let long : at + n ≤ at + length ys = omega (arith, k) in
    sym (take-take (at + n) (at + length ys) zs long) ∙ ap (take (at + n)) e ∙ ap (λ m. take (m + n) (take at xs ++ ys)) (sym (length-take-le at xs a)) ∙ take-append-add (take at xs) ys n

-- ---- what a mishap changes

-- a step that gave a value gives the same with a mishap of a name, or the mishap's event
pub record Steady (A : Type 0) (f : Known → Result A Event) : Type 0 where
  pub steady : (m : Mishap) (t : Known) (a : A) → f t ≡ Ok a → (f (with_mishap m t) ≡ Ok a) ⊎ (f (with_mishap m t) ≡ Err (mishap_event m))

-- the first bytes of an input that is within its limit, and then a fault
broken_within : (name bytes a : List ℕ) (limit given : ℕ) (b : Bool) → nat_lt limit (length bytes) ≡ b → (if b then Err (too_large name) else Ok bytes) ≡ Ok a → taken_whole name limit (Broken (take given bytes)) ≡ Err (reading_failed name)
broken_within name bytes a limit given true e h = absurd (cc)
broken_within name bytes a limit given false e h =
    let short : nat_lt limit (length (take given bytes)) ≡ false = grind (arith, nat_tests, e, length-take given bytes) in
    rw short refl

never_ok : (name bytes a : List ℕ) (b : Bool) → and_so (if b then Err (too_large name) else Ok bytes) (λ _. Err (reading_failed name)) ≡ Ok a → ⊥
never_ok name bytes a true h = absurd (cc)
never_ok name bytes a false h = absurd (cc)

spoiled_whole : (name a : List ℕ) (limit : ℕ) (m : Mishap) (i : Found) → name ≡ spoiled_name m → taken_whole name limit i ≡ Ok a → taken_whole name limit (spoiled m i) ≡ Err (mishap_event m)
spoiled_whole name a limit (Lacking other) i e h = ap (λ (n : List ℕ). Err (missing n)) e
spoiled_whole name a limit (Failing other given) (Held bytes) e h = broken_within name bytes a limit given (nat_lt limit (length bytes)) refl h ∙ ap (λ (n : List ℕ). Err (reading_failed n)) e
spoiled_whole name a limit (Failing other given) Absent e h = absurd (cc)
spoiled_whole name a limit (Failing other given) (Broken bytes) e h = absurd (never_ok name bytes a (nat_lt limit (length bytes)) h)

whole_by : (name a : List ℕ) (limit : ℕ) (m : Mishap) (i : Found) (b : Bool) → bytes_eq name (spoiled_name m) ≡ b → taken_whole name limit i ≡ Ok a
    → (taken_whole name limit (if b then spoiled m i else i) ≡ Ok a) ⊎ (taken_whole name limit (if b then spoiled m i else i) ≡ Err (mishap_event m))
whole_by name a limit m i true e h = inr (spoiled_whole name a limit m i (same_by_test name (spoiled_name m) e) h)
whole_by name a limit m i false e h = inl h

pub whole_steady : (limit : ℕ) (name : List ℕ) → Steady (List ℕ) (λ t. whole_known t limit name)
whole_steady limit name = record { steady = λ m t a h. whole_by name a limit m (t.inputs name) (bytes_eq name (spoiled_name m)) refl h }

pub work_steady : (A : Type 0) (r : Result A Event) → Steady A (λ t. r)
work_steady A r = record { steady = λ m t a h. inl h }

so_by : {A B : Type 0} (f : Known → Result A Event) (g : Known → A → Result B Event) (m : Mishap) (t : Known) (b : B) (r : Result A Event) → f t ≡ r → Steady A f → ((a : A) → Steady B (λ k. g k a)) → and_so r (g t) ≡ Ok b
    → (and_so (f (with_mishap m t)) (g (with_mishap m t)) ≡ Ok b) ⊎ (and_so (f (with_mishap m t)) (g (with_mishap m t)) ≡ Err (mishap_event m))
so_by f g m t b (Err event) e sf sg h = absurd (cc)
so_by f g m t b (Ok a) e sf sg h = elim (sf.steady m t a e) [
  | inl same ↦ elim ((sg a).steady m t b h) [
    | inl next ↦ inl (rw same next)
    | inr next ↦ inr (rw same next)
  ]
  | inr ends ↦ inr (rw ends refl)
]

pub so_steady : (A B : Type 0) (f : Known → Result A Event) (g : Known → A → Result B Event) → Steady A f → ((a : A) → Steady B (λ t. g t a)) → Steady B (λ t. and_so (f t) (g t))
so_steady A B f g sf sg = record { steady = λ m t b h. so_by f g m t b (f t) refl sf sg h }

pub part_steady : (name : List ℕ) → Steady PartData (λ t. part_known t name)
part_steady name = so_steady (List ℕ) PartData (λ t. whole_known t part_limit name) (λ t text. part_by name (part_in text)) (whole_steady part_limit name) (λ text. work_steady PartData (part_by name (part_in text)))

pub read_steady : (limit : ℕ) (name : List ℕ) → Steady StreamRead (λ t. stream_known t limit name)
read_steady limit name =
    so_steady (List ℕ) StreamRead (λ t. whole_known t limit name) (λ t whole. and_so (data_in name whole) (λ bytes. Ok (record { bytes = bytes; room = limit - length whole }))) (whole_steady limit name)
    (λ whole. work_steady StreamRead (and_so (data_in name whole) (λ bytes. Ok (record { bytes = bytes; room = limit - length whole }))))

-- ---- causes of steps one after the other

-- a step's event from outside is another's: its mishaps are, and what is due with one of them
pub outside_goes : (A B : Type 0) (known : Option Known) (C D : Mishap → Type 0) (Due : Known → Result A Event → Type 0) (Next : Known → Result B Event → Type 0) (event : Event) → ((m : Mishap) → C m → D m)
    → ((m : Mishap) → mishap_event m ≡ event → DueBy {A = A} known m Due event → DueBy {A = B} known m Next event) → IsFromOutside {A = A} known C Due (Err event) → IsFromOutside {A = B} known D Next (Err event)
outside_goes A B known C D Due Next event f g (inl h) = inl h
outside_goes A B known C D Due Next event f g (inr h) = inr (record { mishap = h.mishap; came = f h.mishap h.came; reports = h.reports; due = g h.mishap h.reports h.due })

-- a cause over some names and counts of calls is one over more names and later counts
pub caused_on_by : (A : Type 0) (known : Option Known) (C D : Mishap → Type 0) (Due : Known → Result A Event → Type 0) (got : Result A Event) → ((m : Mishap) → C m → D m) → IsCausedBy known C Due got → IsCausedBy known D Due got
caused_on_by A known C D Due (Ok a) f (inl h) = absurd h
caused_on_by A known C D Due (Err event) f (inl h) = inl (outside_goes A A known C D Due Due event f (λ m e q. q) h)
caused_on_by A known C D Due got f (inr h) = inr h

-- a cause of an event, by an equal event
pub caused_event : {A : Type 0} (known : Option Known) (C : Mishap → Type 0) (due : Known → Result A Event) (x y : Event) → x ≡ y → IsCaused known C due (Err y) → IsCaused known C due (Err x)
caused_event known C due x y e h = subst (λ (event : Event). IsCaused known C due (Err event)) (sym e) h

-- a mishap of a step that follows one which gave a value
due_follows : (A B : Type 0) (known : Option Known) (m : Mishap) (due : Known → Result A Event) (next : Known → A → Result B Event) (a : A) (event : Event) → Steady A due → IsDue {A = A} known (λ t r. due t ≡ r) (Ok a) → mishap_event m ≡ event
    → DueBy {A = B} known m (λ t r. next t a ≡ r) event → DueBy {A = B} known m (λ t r. and_so (due t) (next t) ≡ r) event
due_follows A B None m due next a event s h e q = tt
due_follows A B (Some t) m due next a event s h e q = elim (s.steady m t a h.1) [
  | inl same ↦ rw same q
  | inr ends ↦ rw ends (ap (λ (x : Event). Err x) e)
]

-- a step that went on
pub follows : {A B : Type 0} (known : Option Known) (C D : Mishap → Type 0) (due : Known → Result A Event) (next : Known → A → Result B Event) (a : A) (got : Result B Event) → Steady A due → IsCaused known C due (Ok a)
    → IsCaused known D (λ t. next t a) got → IsCaused known D (λ t. and_so (due t) (next t)) got
follows known C D due next a got s (inl h) q = absurd h
follows {A} {B} known C D due next a (Ok b) s (inr h) (inl q) = absurd q
follows {A} {B} known C D due next a (Err event) s (inr h) (inl q) =
    inl (outside_goes B B known D D (λ t r. next t a ≡ r) (λ t r. and_so (due t) (next t) ≡ r) event (λ m x. x) (λ m e x. due_follows A B known m due next a event s h e x) q)
follows None C D due next a got s (inr h) (inr q) = inr q
follows (Some t) C D due next a got s (inr h) (inr q) = inr (q.0, rw h.1 q.1)

-- a step that gave a value has a cause by what is known later
pub later_ok : {A : Type 0} (mid new : Option (List ℕ → Option (List ℕ))) (flash : Option (List ℕ)) (C : Mishap → Type 0) (due : Known → Result A Event) (a : A) → StillKnown mid new → IsCaused (with_inputs mid flash) C due (Ok a) → IsCaused (with_inputs new flash) C due (Ok a)
later_ok mid None flash C due a p h = inr tt
later_ok mid (Some map) flash C due a p h = subst (λ (c : Option (List ℕ → Option (List ℕ))). IsCaused (with_inputs c flash) C due (Ok a)) p h

-- a step that ended the command
due_stops : (A B : Type 0) (known : Option Known) (m : Mishap) (due : Known → Result A Event) (next : Known → A → Result B Event) (event : Event) → DueBy {A = A} known m (λ t r. due t ≡ r) event → DueBy {A = B} known m (λ t r. and_so (due t) (next t) ≡ r) event
due_stops A B None m due next event q = tt
due_stops A B (Some t) m due next event q = rw q refl

pub stops : {A B : Type 0} (known : Option Known) (C : Mishap → Type 0) (due : Known → Result A Event) (next : Known → A → Result B Event) (event : Event) → IsCaused known C due (Err event)
    → IsCaused known C (λ t. and_so (due t) (next t)) (Err event)
stops {A} {B} known C due next event (inl q) = inl (outside_goes A B known C C (λ t r. due t ≡ r) (λ t r. and_so (due t) (next t) ≡ r) event (λ m x. x) (λ m e x. due_stops A B known m due next event x) q)
stops None C due next event (inr q) = inr q
stops (Some t) C due next event (inr q) = inr (q.0, rw q.1 refl)

-- a step that reads nothing
pub works : {A : Type 0} (known : Option Known) (C : Mishap → Type 0) (due got : Result A Event) → IsPossible got → IsDecided got → due ≡ got → IsCaused known C (λ t. due) got
works None C due got o d e = inr o
works (Some t) C due got o d e = inr (d, e)

-- ---- streams one after the other

pub before_none : (more : Result (List ℕ) Event) → put_before [] more ≡ more
before_none (Ok more) = refl
before_none (Err event) = refl

before_before : (prefix bytes : List ℕ) (more : Result (List ℕ) Event) → put_before prefix (put_before bytes more) ≡ put_before (prefix ++ bytes) more
before_before prefix bytes (Ok more) = ap Ok (sym (append_assoc prefix bytes more))
before_before prefix bytes (Err event) = refl

-- what is due for streams: `whole`, which was read, and what is due for those that are left, within `room` bytes; a
-- mishap of a name changes nothing of this, or its event is due
pub record RestsIn (t : Known) (names : List (List ℕ)) (limit : ℕ) (left : List (List ℕ)) (room : ℕ) (whole : List ℕ) : Type 0 where
  pub is : streams_known t limit names ≡ put_before whole (streams_known t room left)
  pub steady : (m : Mishap) → (streams_known (with_mishap m t) limit names ≡ put_before whole (streams_known (with_mishap m t) room left)) ⊎ (streams_known (with_mishap m t) limit names ≡ Err (mishap_event m))

abbrev pub Rests : Option (List ℕ → Option (List ℕ)) → List (List ℕ) → ℕ → List (List ℕ) → ℕ → List ℕ → Type 0
Rests None names limit left room whole = Unit {0}
Rests (Some inputs) names limit left room whole = (flash : Option (List ℕ)) → RestsIn (known_of inputs flash) names limit left room whole

-- a stream more was read
one_more : (read : Result StreamRead Event) (rest : ℕ → Result (List ℕ) Event) (whole : List ℕ) (s : StreamRead) → read ≡ Ok s → put_before whole (and_so read (λ stream. put_before stream.bytes (rest stream.room))) ≡ put_before (whole ++ s.bytes) (rest s.room)
one_more read rest whole s e = rw e (before_before whole s.bytes (rest s.room))

-- a stream was refused
one_less : (read : Result StreamRead Event) (rest : ℕ → Result (List ℕ) Event) (whole : List ℕ) (event : Event) → read ≡ Err event → put_before whole (and_so read (λ stream. put_before stream.bytes (rest stream.room))) ≡ Err event
one_less read rest whole event e = rw e refl

rests_more : (t : Known) (names : List (List ℕ)) (limit : ℕ) (name : List ℕ) (left : List (List ℕ)) (room : ℕ) (whole : List ℕ) (s : StreamRead) → RestsIn t names limit (name ∷ left) room whole → stream_known t room name ≡ Ok s → RestsIn t names limit left s.room (whole ++ s.bytes)
rests_more t names limit name left room whole s r e = record {
  is = r.is ∙ one_more (stream_known t room name) (λ room. streams_known t room left) whole s e;
  steady = λ m.
      let k = with_mishap m t in
      elim (r.steady m) [
        | inr ends ↦ inr ends
        | inl same ↦ elim ((read_steady room name).steady m t s e) [
          | inl next ↦ inl (same ∙ one_more (stream_known k room name) (λ room. streams_known k room left) whole s next)
          | inr next ↦ inr (same ∙ one_less (stream_known k room name) (λ room. streams_known k room left) whole (mishap_event m) next)
        ]
      ];
}

rests_next : (contents : Option (List ℕ → Option (List ℕ))) (C : Mishap → Type 0) (names : List (List ℕ)) (limit : ℕ) (name : List ℕ) (left : List (List ℕ)) (room : ℕ) (whole : List ℕ) (s : StreamRead) → Rests contents names limit (name ∷ left) room whole
    → ((flash : Option (List ℕ)) → IsCaused (with_inputs contents flash) C (λ t. stream_known t room name) (Ok s)) → Rests contents names limit left s.room (whole ++ s.bytes)
rests_next None C names limit name left room whole s r h = tt
rests_next (Some inputs) C names limit name left room whole s r h = λ flash. at flash (h flash)
  where
    at : (flash : Option (List ℕ)) → IsCaused (Some (known_of inputs flash)) C (λ t. stream_known t room name) (Ok s) → RestsIn (known_of inputs flash) names limit left s.room (whole ++ s.bytes)
    at flash (inl q) = absurd q
    at flash (inr q) = rests_more (known_of inputs flash) names limit name left room whole s (r flash) q.1

-- what is due for streams, by what is known later
pub rests_later : (mid new : Option (List ℕ → Option (List ℕ))) (names : List (List ℕ)) (limit : ℕ) (left : List (List ℕ)) (room : ℕ) (whole : List ℕ) → StillKnown mid new → Rests mid names limit left room whole → Rests new names limit left room whole
rests_later mid None names limit left room whole p r = tt
rests_later mid (Some map) names limit left room whole p r = subst (λ (c : Option (List ℕ → Option (List ℕ))). Rests c names limit left room whole) p r

-- a mishap of a stream is one of all
rests_due : (contents : Option (List ℕ → Option (List ℕ))) (flash : Option (List ℕ)) (names : List (List ℕ)) (limit : ℕ) (name : List ℕ) (left : List (List ℕ)) (room : ℕ) (whole : List ℕ) (m : Mishap) (event : Event) → Rests contents names limit (name ∷ left) room whole
    → mishap_event m ≡ event → DueBy {A = StreamRead} (with_inputs contents flash) m (λ t r. stream_known t room name ≡ r) event → DueBy {A = List ℕ} (with_inputs contents flash) m (λ t r. streams_known t limit names ≡ r) event
rests_due None flash names limit name left room whole m event r e q = tt
rests_due (Some inputs) flash names limit name left room whole m event r e q = elim ((r flash).steady m) [
  | inl same ↦ same ∙ one_less (stream_known (with_mishap m (known_of inputs flash)) room name) (λ room. streams_known (with_mishap m (known_of inputs flash)) room left) whole event q
  | inr ends ↦ ends ∙ ap (λ (x : Event). Err x) e
]

rests_stop : (contents : Option (List ℕ → Option (List ℕ))) (flash : Option (List ℕ)) (C : Mishap → Type 0) (names : List (List ℕ)) (limit : ℕ) (name : List ℕ) (left : List (List ℕ)) (room : ℕ) (whole : List ℕ) (event : Event) → Rests contents names limit (name ∷ left) room whole
    → IsCaused (with_inputs contents flash) C (λ t. stream_known t room name) (Err event) → IsCaused (with_inputs contents flash) C (λ t. streams_known t limit names) (Err event)
rests_stop contents flash C names limit name left room whole event r (inl q) =
    inl (outside_goes StreamRead (List ℕ) (with_inputs contents flash) C C (λ t r. stream_known t room name ≡ r) (λ t r. streams_known t limit names ≡ r) event (λ m x. x) (λ m e x. rests_due contents flash names limit name left room whole m event r e x) q)
rests_stop None flash C names limit name left room whole event r (inr q) = inr q
rests_stop (Some inputs) flash C names limit name left room whole event r (inr q) =
    inr (q.0, (r flash).is ∙ one_less (stream_known (known_of inputs flash) room name) (λ room. streams_known (known_of inputs flash) room left) whole event q.1)

among_at : {X : Type 0} (f : X → List ℕ) (ss : List X) (k : ℕ) (s : X) → k < length ss → s ≡ get_or ss k s → Among (map f ss) (f s)
among_at f [] k s h e = absurd (omega arith)
among_at f (x ∷ xs) zero s h e = inl (ap f e)
among_at f (x ∷ xs) (suc k) s h e = inr (among_at f xs k s (omega arith) e)

among_one : (names : List (List ℕ)) (name : List ℕ) → Among names name → (n : List ℕ) → Among (name ∷ []) n → Among names n
among_one names name h n (inl e) = rw e h
among_one names name h n (inr e) = absurd e

-- a name that failed is one of more names, and its count rose over more calls
fails_in : (some all : List (List ℕ)) (old mid new : InputsState) → ((n : List ℕ) → Among some n → Among all n) → InputsStay old mid → (n : List ℕ) → FailsAmong some mid new n → FailsAmong all old new n
fails_in some all old mid new a s n f = record { among = a n f.among; deselected = f.deselected; risen = risen_from old.faults mid.faults new.faults s.faults f.risen }

lacks_in : (some all : List (List ℕ)) (old mid new : InputsState) → ((n : List ℕ) → Among some n → Among all n) → InputsStay old mid → (n : List ℕ) → LacksAmong some mid new n → LacksAmong all old new n
lacks_in some all old mid new a s n f = record { among = a n f.among; deselected = f.deselected; risen = risen_from old.absences mid.absences new.absences s.absences f.risen }

pub came_in : (some all : List (List ℕ)) (old mid new : InputsState) → ((n : List ℕ) → Among some n → Among all n) → InputsStay old mid → (m : Mishap) → CameIn (step_over some mid new) m → CameIn (step_over all old new) m
came_in some all old mid new a s (Failing name given) h = (h.0, fails_in some all old mid new a s name h.1)
came_in some all old mid new a s (Lacking name) h = lacks_in some all old mid new a s name h

pub left_at : {X : Type 0} (f : X → List ℕ) (ss : List X) (k : ℕ) (s : X) → k < length ss → s ≡ get_or ss k s → map f (drop k ss) ≡ f s ∷ map f (drop (suc k) ss)
left_at f ss k s h e =
    let prefix : f (get_or ss k s) ≡ f s = ap f (sym e) in
    rw (drop-cons ss k s) (ap (λ x. x ∷ map f (drop (suc k) ss)) prefix)

-- a stream that ended the command
pub stream_err : {X : Type 0} (f : X → List ℕ) (old mid new : InputsState) (flash : Option (List ℕ)) (ss : List X) (k limit room : ℕ) (s : X) (name whole : List ℕ) (event : Event)
    → InputsStay old mid → InputsStay mid new → k < length ss → s ≡ get_or ss k s → name ≡ f s → Rests mid.contents (map f ss) limit (map f (drop k ss)) room whole
    → IsCaused (with_inputs new.contents flash) (CameIn (step_over (name ∷ []) mid new)) (λ t. stream_known t room name) (Err event)
    → IsCaused (with_inputs new.contents flash) (CameIn (step_over (map f ss) old new)) (λ t. streams_known t limit (map f ss)) (Err event)
stream_err f old mid new flash ss k limit room s name whole event stays later h e nm due got =
    let eq : map f (drop k ss) ≡ name ∷ map f (drop (suc k) ss) = rw nm (left_at f ss k s h e) in
    let due1 = rests_later mid.contents new.contents (map f ss) limit (name ∷ map f (drop (suc k) ss)) room whole later.map (rw eq at due) in
    let among : Among (map f ss) name = rw nm (among_at f ss k s h e) in
    caused_on_by (List ℕ) (with_inputs new.contents flash) (CameIn (step_over (name ∷ []) mid new)) (CameIn (step_over (map f ss) old new)) (λ t r. streams_known t limit (map f ss) ≡ r) (Err event)
    (came_in (name ∷ []) (map f ss) old mid new (among_one (map f ss) name among) stays)
    (rests_stop new.contents flash (CameIn (step_over (name ∷ []) mid new)) (map f ss) limit name (map f (drop (suc k) ss)) room whole event due1 got)

-- a stream whose data were read
pub stream_next : {X : Type 0} (f : X → List ℕ) (contents now : Option (List ℕ → Option (List ℕ))) (C : Mishap → Type 0) (ss : List X) (k limit room : ℕ) (s : X) (name whole : List ℕ) (read : StreamRead)
    → StillKnown contents now → k < length ss → s ≡ get_or ss k s → name ≡ f s → Rests contents (map f ss) limit (map f (drop k ss)) room whole
    → ((flash : Option (List ℕ)) → IsCaused (with_inputs now flash) C (λ t. stream_known t room name) (Ok read))
    → Rests now (map f ss) limit (map f (drop (k + 1) ss)) read.room (whole ++ read.bytes)
stream_next f contents now C ss k limit room s name whole read same h e nm due got =
    let eq : map f (drop k ss) ≡ name ∷ map f (drop (suc k) ss) = rw nm (left_at f ss k s h e) in
    let due1 = rests_later contents now (map f ss) limit (name ∷ map f (drop (suc k) ss)) room whole same (rw eq at due) in
    rw add-one (rests_next now C (map f ss) limit name (map f (drop (suc k) ss)) room whole read due1 got)

-- nothing was read
rests_start : (t : Known) (names : List (List ℕ)) (limit : ℕ) → RestsIn t names limit names limit []
rests_start t names limit = record { is = sym (before_none (streams_known t limit names)); steady = λ m. inl (sym (before_none (streams_known (with_mishap m t) limit names))) }

pub rests_none : (contents : Option (List ℕ → Option (List ℕ))) (names : List (List ℕ)) (limit : ℕ) → Rests contents names limit names limit []
rests_none None names limit = tt
rests_none (Some inputs) names limit = λ flash. rests_start (known_of inputs flash) names limit

-- all streams were read
pub rests_all : {X : Type 0} (f : X → List ℕ) (contents : Option (List ℕ → Option (List ℕ))) (flash : Option (List ℕ)) (C : Mishap → Type 0) (ss : List X) (k limit room : ℕ) (whole : List ℕ) → length ss ≤ k → Rests contents (map f ss) limit (map f (drop k ss)) room whole
    → IsCaused (with_inputs contents flash) C (λ t. streams_known t limit (map f ss)) (Ok whole)
rests_all f None flash C ss k limit room whole h due = inr tt
rests_all f (Some inputs) flash C ss k limit room whole h due =
    let left : map f (drop k ss) ≡ [] = ap (map f) (drop_all k ss h) in
    let is = (due flash).is ∙ ap (λ names. put_before whole (streams_known (known_of inputs flash) room names)) left ∙ ap Ok (append-nil whole) in
    inr (tt, is)

-- data that follow from all streams, with a mishap
pub data_steady : (names : List (List ℕ)) (limit : ℕ) → Steady (List ℕ) (λ t. streams_known t limit names)
data_steady [] limit = work_steady (List ℕ) (Ok [])
data_steady (name ∷ names) limit =
    so_steady StreamRead (List ℕ) (λ t. stream_known t limit name) (λ t stream. put_before stream.bytes (streams_known t stream.room names)) (read_steady limit name)
    (λ stream. so_steady (List ℕ) (List ℕ) (λ t. streams_known t stream.room names) (λ t bytes. Ok (stream.bytes ++ bytes)) (data_steady names stream.room) (λ bytes. work_steady (List ℕ) (Ok (stream.bytes ++ bytes))))

-- what a text comes to that was read whole
pub after_text : {A : Type 0} (known : Option Known) (C : Mishap → Type 0) (limit : ℕ) (name text : List ℕ) (next : List ℕ → Result A Event) (got : Result A Event) → IsCaused known C (λ t. whole_known t limit name) (Ok text)
    → IsCaused known C (λ t. next text) got → IsCaused known C (λ t. and_so (whole_known t limit name) next) got
after_text known C limit name text next got whole next_due = follows known C C (λ t. whole_known t limit name) (λ t bytes. next bytes) text got (whole_steady limit name) whole next_due

-- an event of a step, under a relation that keeps it
due_kept : (A B : Type 0) (known : Option Known) (m : Mishap) (due : Known → Result A Event) (event : Event) (Next : Result A Event → Result B Event → Type 0)
    → ((x : Event) → Next (Err x) (Err x)) → DueBy {A = A} known m (λ t r. due t ≡ r) event → DueBy {A = B} known m (λ t end. Next (due t) end) event
due_kept A B None m due event Next keeps h = tt
due_kept A B (Some t) m due event Next keeps h = subst (λ (r : Result A Event). Next r (Err event)) (sym h) (keeps event)

pub unread_by : {A B : Type 0} (known : Option Known) (C : Mishap → Type 0) (due : Known → Result B Event) (event : Event) (Next : Result B Event → Result A Event → Type 0) → ((x : Event) → Next (Err x) (Err x)) → IsCaused known C due (Err event)
    → IsCausedBy known C (λ t end. Next (due t) end) (Err event)
unread_by {A} {B} known C due event Next keeps (inl h) = inl (outside_goes B A known C C (λ t r. due t ≡ r) (λ t end. Next (due t) end) event (λ m x. x) (λ m e x. due_kept B A known m due event Next keeps x) h)
unread_by None C due event Next keeps (inr h) = inr h
unread_by {A} {B} (Some t) C due event Next keeps (inr h) = inr (h.0, subst (λ (r : Result B Event). Next r (Err event)) (sym h.1) (keeps event))

-- ---- the header of a stream

-- a header that is refused is a matter of the contents
head_by : (A : Type 0) (name bytes : List ℕ) (read : Result (HeaderContents × ℕ) HeaderFault) (event : Event) → data_by name bytes read ≡ Err event → IsPossible {A = A} (Err event) × IsDecided {A = A} (Err event)
head_by A name bytes (Ok head) event e = absurd (cc)
head_by A name bytes (Err header.Raw) event e = absurd (cc)
head_by A name bytes (Err (header.Cut place)) event e =
    let same : bad_input name (input.Byte place) ≡ event = cc in
    subst (λ (x : Event). IsPossible {A = A} (Err x) × IsDecided {A = A} (Err x)) same (tt, tt)
head_by A name bytes (Err (header.Field place)) event e =
    let same : bad_input name (input.Byte place) ≡ event = cc in
    subst (λ (x : Event). IsPossible {A = A} (Err x) × IsDecided {A = A} (Err x)) same (tt, tt)

judged_by : (name bytes : List ℕ) (got : Result (List ℕ) Event) (made : List ℕ → StreamRead) → got ≡ data_in name bytes → let end : Result StreamRead Event = and_so got (λ x. Ok (made x)) in IsPossible end × IsDecided end
judged_by name bytes (Ok after) made e = (tt, tt)
judged_by name bytes (Err event) made e = head_by StreamRead name bytes (header_at bytes) event (sym e)

-- a stream that was read whole, and its header judged
pub stream_judged : (known : Option Known) (C : Mishap → Type 0) (limit : ℕ) (name whole : List ℕ) (got : Result (List ℕ) Event) → IsCaused known C (λ t. whole_known t limit name) (Ok whole) → got ≡ data_in name whole
    → IsCaused known C (λ t. stream_known t limit name) (and_so got (λ bytes. Ok (record { bytes = bytes; room = limit - length whole })))
stream_judged known C limit name whole got read e =
    let made : List ℕ → StreamRead = λ bytes. record { bytes = bytes; room = limit - length whole } in
    let judged = judged_by name whole got made e in
    after_text known C limit name whole (λ text. and_so (data_in name text) (λ bytes. Ok (record { bytes = bytes; room = limit - length text }))) (and_so got (λ bytes. Ok (made bytes))) read
    (works known C (and_so (data_in name whole) (λ bytes. Ok (made bytes))) (and_so got (λ bytes. Ok (made bytes))) judged.0 judged.1 (ap (λ d. and_so d (λ bytes. Ok (made bytes))) (sym e)))

-- ---- an input that is read turn by turn

pub rest_more : (old mid new : InputsState) (taken piece : List ℕ) → InputsStay mid new → TakenBy mid.contents old.rest taken mid.rest → TakenBy new.contents mid.rest piece new.rest → TakenBy new.contents old.rest (taken ++ piece) new.rest
rest_more old mid new taken piece s e f = taken_on new.contents old.rest mid.rest new.rest taken piece (taken_before mid.contents new.contents old.rest taken mid.rest s.map e) f

-- a rest that is whole with the bytes before it is so by what is known later
pub whole_later : (mid new : Option (List ℕ → Option (List ℕ))) (name : List ℕ) (rest : Option (List ℕ)) → StillKnown mid new → RestIsWhole mid name rest → RestIsWhole new name rest
whole_later mid None name rest p w = tt
whole_later mid (Some map) name rest p w = subst (λ (m : Option (List ℕ → Option (List ℕ))). RestIsWhole m name rest) p w

-- the rest is whole with the bytes taken before it, and a piece more
pub rest_go : (old new : Option (List ℕ → Option (List ℕ))) (name taken piece : List ℕ) (before after : Option (List ℕ)) → StillKnown old new → TakenBy new before piece after → RestIsWhole old name (preceded taken before) → RestIsWhole new name (preceded (taken ++ piece) after)
rest_go old None name taken piece before after p t w = tt
rest_go old (Some map) name taken piece before after p t w =
    subst (λ (r : Option (List ℕ)). RestIsWhole (Some map) name r) (ap (preceded taken) t ∙ preceded_preceded taken piece after) (subst (λ (m : Option (List ℕ → Option (List ℕ))). RestIsWhole m name (preceded taken before)) p w)

-- what was read of an input from a moment on, and a piece more
pub reads_on : (old mid new : InputsState) (taken piece : List ℕ) → ReadsBytes old taken mid → TakesInput mid piece new → new.asked ≡ mid.asked → InputsStay mid new → ReadsBytes old (taken ++ piece) new
reads_on old mid new taken piece r t a s = record { takes = takes_on old mid new taken piece s r.takes t; asked = a ∙ r.asked; stays = stays_on old mid new r.stays s }

pub reads_none : (s : InputsState) → s.selected ≡ true → ReadsBytes s [] s
reads_none s e = record { takes = takes_none s e; asked = refl; stays = stays_at s }

-- bytes that were read, by equal bytes
pub reads_as : (old new : InputsState) (bytes same : List ℕ) → bytes ≡ same → ReadsBytes old same new → ReadsBytes old bytes new
reads_as old new bytes same e r = subst (λ (b : List ℕ). ReadsBytes old b new) (sym e) r

-- a turn that was not read, after others
pub unread_on : (old mid new : InputsState) (name taken : List ℕ) (limit left : ℕ) (event : Event) → InputsStay mid new → ReadsBytes old taken mid → length taken + left ≡ limit → UnreadToEnd mid name new left event → UnreadToEnd old name new limit event
unread_on old mid new name taken limit left event s r n (inl h) =
    inl (h.0, record { risen = risen_from old.faults mid.faults new.faults r.stays.faults h.1.risen; selected = h.1.selected; given = omega (arith, n, r.takes.given, h.1.given) })
unread_on old mid new name taken limit left event s r n (inr h) =
    let piece = h.1.0 in
    inr (h.0, (taken ++ piece, (rest_more old mid new taken piece s r.takes.taken h.1.1.0, omega (arith, n, h.1.1.1, length-append taken piece))))

pub rest_unread : (old mid new : InputsState) (name taken : List ℕ) (limit left : ℕ) (event : Event) → InputsStay mid new → ReadsBytes old taken mid → length taken + left ≡ limit → UnreadToEnd mid name new left event → new.asked ≡ mid.asked → UnreadRest old name new limit event
rest_unread old mid new name taken limit left event s r n u a = (unread_on old mid new name taken limit left event s r n u, a ∙ r.asked)

-- the first turn of an input
pub reads_first : (old new : InputsState) (piece : List ℕ) → TakesInput old piece new → new.asked ≡ old.asked → InputsStay old new → ReadsBytes old piece new
reads_first old new piece t a s = record { takes = t; asked = a; stays = s }

-- want of memory, or what was left after the first turn was not read
pub want_or_rest : (old mid new : InputsState) (name taken : List ℕ) (limit left : ℕ) (event : Event) → InputsStay mid new → ReadsBytes old taken mid → length taken + left ≡ limit → (event ≡ no_memory) ⊎ UnreadRest mid name new left event → (event ≡ no_memory) ⊎ UnreadRest old name new limit event
want_or_rest old mid new name taken limit left event s r n (inl e) = inl e
want_or_rest old mid new name taken limit left event s r n (inr h) = inr (rest_unread old mid new name taken limit left event s r n h.0 h.1)

-- an input that was read to its end
pub whole_read : (contents : Option (List ℕ → Option (List ℕ))) (flash : Option (List ℕ)) (C : Mishap → Type 0) (name whole : List ℕ) (rest : Option (List ℕ)) (limit : ℕ) → RestIsWhole contents name (preceded whole rest) → AtEnd rest → length whole ≤ limit
    → IsCaused (with_inputs contents flash) C (λ t. whole_known t limit name) (Ok whole)
whole_read None flash C name whole rest limit s e h = inr tt
whole_read (Some inputs) flash C name whole rest limit s e h =
    let all = known_all inputs name whole rest s in
    let none : all.0 ≡ [] = let end = rw all.1.0 at e in end in
    let is : inputs name ≡ Some whole = all.1.1 ∙ ap (λ t. Some (whole ++ t)) none ∙ ap Some (append-nil whole) in
    let short : nat_lt limit (length whole) ≡ false = grind (arith, h, nat_tests) in
    inr (tt, rw (is, short) refl)

-- where the first turn was the last one, nothing more was read
none_more : (inputs : List ℕ → Option (List ℕ)) (name first more : List ℕ) (mid rest : Option (List ℕ)) → RestIsWhole (Some inputs) name (preceded first mid) → mid ≡ preceded more rest → AtEnd mid → more ≡ []
none_more inputs name first more mid None s e h = let t = known_all inputs name first mid s in let same = t.1.0 in absurd (cc)
none_more inputs name first [] mid (Some rest) s e h = refl
none_more inputs name first (x ∷ more) mid (Some rest) s e h = let none = rw e at h in absurd (cc)

-- the first turn is the whole stream, or has as many bytes as the longest header
enough : (inputs : List ℕ → Option (List ℕ)) (name first more : List ℕ) (mid rest : Option (List ℕ)) (last : Bool) → RestIsWhole (Some inputs) name (preceded first mid) → mid ≡ preceded more rest → (last ≡ true → AtEnd mid) → (last ≡ false → longest_header ≤ length first)
    → (more ≡ []) ⊎ (longest_header ≤ length first)
enough inputs name first more mid rest true s e end long = inl (none_more inputs name first more mid rest s e (end refl))
enough inputs name first more mid rest false s e end long = inr (long refl)

sum_more : (first more : List ℕ) (left limit : ℕ) → length more + left ≡ limit - length first → length first ≤ limit → (left ≡ limit - length (first ++ more)) × (length (first ++ more) ≤ limit)
sum_more first more left limit n l = (omega (arith, n, l, length-append first more), omega (arith, n, l, length-append first more))

-- a stream whose data were read turn by turn
pub stream_read : (contents : Option (List ℕ → Option (List ℕ))) (flash : Option (List ℕ)) (C : Mishap → Type 0) (name first more after : List ℕ) (mid rest : Option (List ℕ)) (limit left : ℕ) (last : Bool) → RestIsWhole contents name (preceded first mid) → TakenBy contents mid more rest → AtEnd rest
    → (last ≡ true → AtEnd mid) → (last ≡ false → longest_header ≤ length first) → AreBytes first → length more + left ≡ limit - length first → length first ≤ limit → Ok after ≡ data_in name first
    → IsCaused (with_inputs contents flash) C (λ t. stream_known t limit name) (Ok (record { bytes = after ++ more; room = left }))
stream_read None flash C name first more after mid rest limit left last s e end ends long fits n l head = inr tt
stream_read (Some inputs) flash C name first more after mid rest limit left last s e end ends long fits n l head =
    let whole = first ++ more in
    let sizes = sum_more first more left limit n l in
    let taken : RestIsWhole (Some inputs) name (preceded whole rest) = subst (λ (r : Option (List ℕ)). RestIsWhole (Some inputs) name r) (ap (preceded first) e ∙ preceded_preceded first more rest) s in
    let judged : data_in name whole ≡ Ok (after ++ more) = data_more name first more fits (enough inputs name first more mid rest last s e ends long) ∙ ap (λ d. and_so d (λ bytes. Ok (bytes ++ more))) (sym head) in
    let read = stream_judged (with_inputs (Some inputs) flash) C limit name whole (Ok (after ++ more)) (whole_read (Some inputs) flash C name whole rest limit taken end sizes.1) (sym judged) in
    subst (λ (room : ℕ). IsCaused (with_inputs (Some inputs) flash) C (λ t. stream_known t limit name) (Ok (record { bytes = after ++ more; room = room }))) (sym sizes.0) read

-- ---- what ended the reading of an input

-- an input that failed within its limit
broken_by : (found : Found) (name : List ℕ) (limit given : ℕ) → given ≤ limit → taken_whole name limit (broken_at given found) ≡ Err (reading_failed name)
broken_by (Held bytes) name limit given h = let short : nat_lt limit (length (take given bytes)) ≡ false = grind (arith, nat_tests, h, length-take given bytes) in rw short refl
broken_by Absent name limit given h = let short : nat_lt limit 0 ≡ false = grind (arith, nat_tests) in rw short refl
broken_by (Broken bytes) name limit given h = let short : nat_lt limit (length (take given bytes)) ≡ false = grind (arith, nat_tests, h, length-take given bytes) in rw short refl

pub broken_due : (contents : Option (List ℕ → Option (List ℕ))) (flash : Option (List ℕ)) (name : List ℕ) (limit given : ℕ) → given ≤ limit → DueBy {A = List ℕ} (with_inputs contents flash) (Failing name given) (λ t r. whole_known t limit name ≡ r) (reading_failed name)
broken_due None flash name limit given h = tt
broken_due (Some inputs) flash name limit given h = let here = same_as_itself name in rw here (broken_by (input_found (inputs name)) name limit given h)

pub absent_due : (contents : Option (List ℕ → Option (List ℕ))) (flash : Option (List ℕ)) (name : List ℕ) (limit : ℕ) → DueBy {A = List ℕ} (with_inputs contents flash) (Lacking name) (λ t r. whole_known t limit name ≡ r) (missing name)
absent_due None flash name limit = tt
absent_due (Some inputs) flash name limit = let here = same_as_itself name in rw here refl

-- the name is that of the last select
pub asked_on : (name : List ℕ) (opened now : InputsState) → AsksForName name opened → now.asked ≡ opened.asked → IfSome now.asked (λ kept. kept ≡ name)
asked_on name opened now a e = subst (λ (k : Option (List ℕ)). IfSome k (λ kept. kept ≡ name)) (sym e) a.asked

-- a fault of an input, or its absence, by its count
pub fault_from : (A : Type 0) (known : Option Known) (old new : InputsState) (name : List ℕ) (Due : Known → Result A Event → Type 0) → FailsAmong (name ∷ []) old new name → DueBy {A = A} known (Failing name new.given) Due (reading_failed name)
    → IsFromOutside {A = A} known (CameIn (step_over (name ∷ []) old new)) Due (Err (reading_failed name))
fault_from A known old new name Due f d = inr (record { mishap = Failing name new.given; came = (refl, f); reports = refl; due = d })

pub absence_from : (A : Type 0) (known : Option Known) (old new : InputsState) (name : List ℕ) (Due : Known → Result A Event → Type 0) → LacksAmong (name ∷ []) old new name → DueBy {A = A} known (Lacking name) Due (missing name)
    → IsFromOutside {A = A} known (CameIn (step_over (name ∷ []) old new)) Due (Err (missing name))
absence_from A known old new name Due l d = inr (record { mishap = Lacking name; came = l; reports = refl; due = d })

-- an input that was not opened
unopened_free : (old new : InputsState) (flash : Option (List ℕ)) (name : List ℕ) (limit : ℕ) → AsksForName name new → new.selected ≡ false → MissesInput old name new
    → IsCaused (with_inputs new.contents flash) (CameIn (step_over (name ∷ []) old new)) (λ t. whole_known t limit name) (Err (missing name))
unopened_free old new flash name limit a s m = by new.contents refl m
  where
    by : (contents : Option (List ℕ → Option (List ℕ))) → new.contents ≡ contents → MapLacks contents name ⊎ HasRisen old.absences new.absences
        → IsCaused (with_inputs contents flash) (CameIn (step_over (name ∷ []) old new)) (λ t. whole_known t limit name) (Err (missing name))
    by None e (inl h) = absurd h
    by (Some inputs) e (inl h) = inr (tt, rw h refl)
    by contents e (inr h) = inl (absence_from (List ℕ) (with_inputs contents flash) old new name (λ t r. whole_known t limit name ≡ r) (record { among = inl refl; deselected = record { asked = a.asked; selected = s }; risen = h }) (absent_due contents flash name limit))

pub open_refused : (old new : InputsState) (flash : Option (List ℕ)) (name : List ℕ) (limit : ℕ) (event : Event) → Unopened old name new event → AsksForName name new
    → IsCaused (with_inputs new.contents flash) (CameIn (step_over (name ∷ []) old new)) (λ t. whole_known t limit name) (Err event)
open_refused old new flash name limit event (inl h, s) a =
    caused_event (with_inputs new.contents flash) (CameIn (step_over (name ∷ []) old new)) (λ t. whole_known t limit name) event (missing name) h.0 (unopened_free old new flash name limit a s h.1)
open_refused old new flash name limit event (inr h, s) a =
    caused_event (with_inputs new.contents flash) (CameIn (step_over (name ∷ []) old new)) (λ t. whole_known t limit name) event (reading_failed name) h.0
    (inl (fault_from (List ℕ) (with_inputs new.contents flash) old new name (λ t r. whole_known t limit name ≡ r) (record { among = inl refl; deselected = record { asked = a.asked; selected = s }; risen = h.1 }) (broken_due new.contents flash name limit new.given (omega (arith, a.given)))))

-- an input of which more was taken than its limit
over_whole : (contents : Option (List ℕ → Option (List ℕ))) (flash : Option (List ℕ)) (C : Mishap → Type 0) (name whole : List ℕ) (rest : Option (List ℕ)) (limit : ℕ) → RestIsWhole contents name (preceded whole rest) → limit < length whole
    → IsCaused (with_inputs contents flash) C (λ t. whole_known t limit name) (Err (too_large name))
over_whole None flash C name whole rest limit s h = inr tt
over_whole (Some inputs) flash C name whole rest limit s h =
    let all = known_all inputs name whole rest s in
    let long : nat_lt limit (length (whole ++ all.0)) ≡ true = grind (arith, h, length-append whole all.0, nat_tests) in
    inr (tt, rw (all.1.1, long) refl)

-- an input that was opened and then not read to its end
pub whole_refused : (old opened new : InputsState) (flash : Option (List ℕ)) (name : List ℕ) (limit : ℕ) (event : Event) → InputsStay old opened → InputsStay opened new → RestIsWhole opened.contents name opened.rest → AsksForName name opened → (event ≡ no_memory) ⊎ UnreadRest opened name new limit event
    → IsCaused (with_inputs new.contents flash) (CameIn (step_over (name ∷ []) old new)) (λ t. whole_known t limit name) (Err event)
whole_refused old opened new flash name limit event k later s a (inl e) =
    caused_event (with_inputs new.contents flash) (CameIn (step_over (name ∷ []) old new)) (λ t. whole_known t limit name) event no_memory e (inl (inl refl))
whole_refused old opened new flash name limit event k later s a (inr (inl h, q)) =
    caused_event (with_inputs new.contents flash) (CameIn (step_over (name ∷ []) old new)) (λ t. whole_known t limit name) event (reading_failed name) h.0
    (inl (fault_from (List ℕ) (with_inputs new.contents flash) old new name (λ t r. whole_known t limit name ≡ r)
    (record { among = inl refl; deselected = record { asked = asked_on name opened new a q; selected = h.1.selected }; risen = risen_from old.faults opened.faults new.faults k.faults h.1.risen })
    (broken_due new.contents flash name limit new.given (omega (arith, a.given, h.1.given)))))
whole_refused old opened new flash name limit event k later s a (inr (inr h, q)) =
    let more = h.1.0 in
    let taken = rest_on opened.contents new.contents name more opened.rest new.rest later.map h.1.1.0 s in
    caused_event (with_inputs new.contents flash) (CameIn (step_over (name ∷ []) old new)) (λ t. whole_known t limit name) event (too_large name) h.0
    (over_whole new.contents flash (CameIn (step_over (name ∷ []) old new)) name more new.rest limit taken (omega (arith, h.1.1.1)))

-- no more than these bytes were given of the input of this name, the last that was asked for
pub record IsAt (name bytes : List ℕ) (now : InputsState) : Type 0 where
  pub asked : IfSome now.asked (λ kept. kept ≡ name)
  pub given : now.given ≤ length bytes

-- where an input is at, turn by turn
pub at_open : (name : List ℕ) (s : InputsState) → AsksForName name s → IsAt name [] s
at_open name s a = record { asked = a.asked; given = omega (arith, a.given) }

pub at_on : (name taken piece : List ℕ) (mid new : InputsState) → IsAt name taken mid → TakesInput mid piece new → new.asked ≡ mid.asked → IsAt name (taken ++ piece) new
at_on name taken piece mid new a t q = record { asked = subst (λ (k : Option (List ℕ)). IfSome k (λ kept. kept ≡ name)) (sym q) a.asked; given = omega (arith, a.given, t.given, length-append taken piece) }

-- an input that failed within its limit
pub at_fault : (old mid new : InputsState) (name taken : List ℕ) (left : ℕ) → InputsStay old mid → IsAt name taken mid → BreaksWithin mid (left + 1) new → new.asked ≡ mid.asked → FailsAmong (name ∷ []) old new name × (new.given ≤ length taken + left)
at_fault old mid new name taken left k a b q =
    (record { among = inl refl; deselected = record { asked = subst (λ (k : Option (List ℕ)). IfSome k (λ kept. kept ≡ name)) (sym q) a.asked; selected = b.selected }; risen = risen_from old.faults mid.faults new.faults k.faults b.risen }, omega (arith, a.given, b.given))

-- a turn of an input that was not read
pub turn_refused : (old mid new : InputsState) (flash : Option (List ℕ)) (name taken : List ℕ) (limit left : ℕ) (event : Event) → InputsStay old mid → InputsStay mid new
    → RestIsWhole mid.contents name (preceded taken mid.rest) → IsAt name taken mid → length taken + left ≡ limit → UnreadToEnd mid name new left event → new.asked ≡ mid.asked
    → IsCaused (with_inputs new.contents flash) (CameIn (step_over (name ∷ []) old new)) (λ t. whole_known t limit name) (Err event)
turn_refused old mid new flash name taken limit left event k later s a n (inl h) q =
    let f = at_fault old mid new name taken left k a h.1 q in
    caused_event (with_inputs new.contents flash) (CameIn (step_over (name ∷ []) old new)) (λ t. whole_known t limit name) event (reading_failed name) h.0
    (inl (fault_from (List ℕ) (with_inputs new.contents flash) old new name (λ t r. whole_known t limit name ≡ r) f.0 (broken_due new.contents flash name limit new.given (omega (arith, f.1, n)))))
turn_refused old mid new flash name taken limit left event k later s a n (inr h) q =
    let piece = h.1.0 in
    let all = rest_go mid.contents new.contents name taken piece mid.rest new.rest later.map h.1.1.0 s in
    caused_event (with_inputs new.contents flash) (CameIn (step_over (name ∷ []) old new)) (λ t. whole_known t limit name) event (too_large name) h.0
    (over_whole new.contents flash (CameIn (step_over (name ∷ []) old new)) name (taken ++ piece) new.rest limit all (omega (arith, n, h.1.1.1, length-append taken piece)))

-- a stream whose data are read, and whose rest was not
pub stream_unread : (old opened new : InputsState) (flash : Option (List ℕ)) (name : List ℕ) (limit : ℕ) (event : Event) → InputsStay old opened → InputsStay opened new → RestIsWhole opened.contents name opened.rest → AsksForName name opened → (event ≡ no_memory) ⊎ UnreadRest opened name new limit event
    → IsCaused (with_inputs new.contents flash) (CameIn (step_over (name ∷ []) old new)) (λ t. stream_known t limit name) (Err event)
stream_unread old opened new flash name limit event k later s a h =
    stops (with_inputs new.contents flash) (CameIn (step_over (name ∷ []) old new)) (λ t. whole_known t limit name) (λ t whole. and_so (data_in name whole) (λ bytes. Ok (record { bytes = bytes; room = limit - length whole }))) event
    (whole_refused old opened new flash name limit event k later s a h)

pub stream_unopened : (old new : InputsState) (flash : Option (List ℕ)) (name : List ℕ) (limit : ℕ) (event : Event) → Unopened old name new event → AsksForName name new
    → IsCaused (with_inputs new.contents flash) (CameIn (step_over (name ∷ []) old new)) (λ t. stream_known t limit name) (Err event)
stream_unopened old new flash name limit event u a =
    stops (with_inputs new.contents flash) (CameIn (step_over (name ∷ []) old new)) (λ t. whole_known t limit name) (λ t whole. and_so (data_in name whole) (λ bytes. Ok (record { bytes = bytes; room = limit - length whole }))) event
    (open_refused old new flash name limit event u a)

-- a stream whose header is refused, after it was read to its end
pub stream_refused : (contents : Option (List ℕ → Option (List ℕ)))
    (flash : Option (List ℕ)) (C : Mishap → Type 0) (name first more : List ℕ) (mid rest : Option (List ℕ)) (limit : ℕ) (last : Bool) (event : Event) → RestIsWhole contents name (preceded first mid)
    → TakenBy contents mid more rest → AtEnd rest
    → (last ≡ true → AtEnd mid) → (last ≡ false → longest_header ≤ length first) → AreBytes first → length more ≤ limit - length first → length first ≤ limit → Err event ≡ data_in name first
    → IsCaused (with_inputs contents flash) C (λ t. stream_known t limit name) (Err event)
stream_refused None flash C name first more mid rest limit last event s e end ends long fits n l head = inr (head_by StreamRead name first (header_at first) event (sym head)).0
stream_refused (Some inputs) flash C name first more mid rest limit last event s e end ends long fits n l head =
    let whole = first ++ more in
    let size : length whole ≤ limit = omega (arith, n, l, length-append first more) in
    let taken : RestIsWhole (Some inputs) name (preceded whole rest) = subst (λ (r : Option (List ℕ)). RestIsWhole (Some inputs) name r) (ap (preceded first) e ∙ preceded_preceded first more rest) s in
    let judged : data_in name whole ≡ Err event = data_more name first more fits (enough inputs name first more mid rest last s e ends long) ∙ ap (λ d. and_so d (λ bytes. Ok (bytes ++ more))) (sym head) in
    stream_judged (with_inputs (Some inputs) flash) C limit name whole (Err event) (whole_read (Some inputs) flash C name whole rest limit taken end size) (sym judged)

-- a slice of a buffer's first bytes
pub slice_of : (start count : ℕ) (buf : List ℕ) → start ≤ count → drop start (take count buf) ≡ take (count - start) (drop start buf)
slice_of start count buf h =
    let sum : start + (count - start) ≡ count = omega (arith, h) in
    sym (ap (λ k. drop start (take k buf)) sum) ∙ drop-take start (count - start) buf

-- ---- steps, whatever the flash holds

-- a first name is among more
pub first_of : (name : List ℕ) (names : List (List ℕ)) (n : List ℕ) → Among (name ∷ []) n → Among (name ∷ names) n
first_of name names n (inl e) = inl e
first_of name names n (inr e) = absurd e

-- a step that ended the command, among more names
pub answers_stop : (A B : Type 0) (some all : List (List ℕ)) (old new : InputsState) (due : Known → Result A Event) (next : Known → A → Result B Event) (event : Event) → ((n : List ℕ) → Among some n → Among all n)
    → AnswersAs {A = A} (step_over some old new) due (Err event) → AnswersAs {A = B} (step_over all old new) (λ t. and_so (due t) (next t)) (Err event)
answers_stop A B some all old new due next event a h flash =
    caused_on_by B (with_inputs new.contents flash) (CameIn (step_over some old new)) (CameIn (step_over all old new)) (λ t r. and_so (due t) (next t) ≡ r) (Err event)
    (came_in some all old old new a (stays_at old))
    (stops (with_inputs new.contents flash) (CameIn (step_over some old new)) due next event (h flash))

-- a step that went on, and the next
pub answers_go : (A B : Type 0) (some more all : List (List ℕ)) (old mid new : InputsState) (due : Known → Result A Event) (next : Known → A → Result B Event) (a : A) (got : Result B Event) → Steady A due → InputsStay old mid → InputsStay mid new → ((n : List ℕ) → Among more n → Among all n)
    → AnswersAs {A = A} (step_over some old mid) due (Ok a) → AnswersAs {A = B} (step_over more mid new) (λ t. next t a) got → AnswersAs {A = B} (step_over all old new) (λ t. and_so (due t) (next t)) got
answers_go A B some more all old mid new due next a got steady stays later names h q flash =
    let q2 = caused_on_by B (with_inputs new.contents flash) (CameIn (step_over more mid new)) (CameIn (step_over all old new)) (λ t r. next t a ≡ r) got
    (came_in more all old mid new names stays) (q flash) in
    follows (with_inputs new.contents flash) (CameIn (step_over some old mid)) (CameIn (step_over all old new)) due next a got steady (later_ok mid.contents new.contents flash (CameIn (step_over some old mid)) due a later.map (h flash)) q2

-- a step that went on to one that reads nothing: want of memory, or what it says
pub answers_end : (A B : Type 0) (names : List (List ℕ)) (old new : InputsState) (due : Known → Result A Event) (next : A → Result B Event) (a : A) (got : Result B Event) → Steady A due → AnswersAs {A = A} (step_over names old new) due (Ok a)
    → (got ≡ Err no_memory) ⊎ (IsPossible got × IsDecided got × (next a ≡ got)) → AnswersAs {A = B} (step_over names old new) (λ t. and_so (due t) next) got
answers_end A B names old new due next a got steady h (inl e) flash = subst (λ (r : Result B Event). IsCaused (with_inputs new.contents flash) (CameIn (step_over names old new)) (λ t. and_so (due t) next) r) (sym e) (inl (inl refl))
answers_end A B names old new due next a got steady h (inr q) flash =
    follows (with_inputs new.contents flash) (CameIn (step_over names old new)) (CameIn (step_over names old new)) due (λ t x. next x) a got steady (h flash)
    (works (with_inputs new.contents flash) (CameIn (step_over names old new)) (next a) got q.0 q.1 q.2)

-- a step that ended the command, where a relation says what the next step comes to
pub answers_kept : (A B : Type 0) (names : List (List ℕ)) (old new : InputsState) (due : Known → Result A Event) (Next : Result A Event → Result B Event → Type 0) (event : Event) → ((x : Event) → Next (Err x) (Err x))
    → AnswersAs {A = A} (step_over names old new) due (Err event) → AnswersBy {A = B} (step_over names old new) (λ t end. Next (due t) end) (Err event)
answers_kept A B names old new due Next event keeps h flash = unread_by (with_inputs new.contents flash) (CameIn (step_over names old new)) due event Next keeps (h flash)

after_by : (A B : Type 0) (known : Option Known) (C : Mishap → Type 0) (due : Known → Result A Event) (a : A) (Next : Result A Event → Result B Event → Type 0) (got : Result B Event) → IsCaused {A = A} known C due (Ok a)
    → (got ≡ Err no_memory) ⊎ (IsPossible got × IsDecided got × Next (Ok a) got) → IsCausedBy {A = B} known C (λ t end. Next (due t) end) got
after_by A B known C due a Next got (inl h) then_so = absurd h
after_by A B known C due a Next got (inr h) (inl q) = subst (λ (r : Result B Event). IsCausedBy known C (λ t end. Next (due t) end) r) (sym q) (inl (inl refl))
after_by A B None C due a Next got (inr h) (inr q) = inr q.0
after_by A B (Some t) C due a Next got (inr h) (inr q) = inr (q.1, subst (λ (r : Result A Event). Next r got) (sym h.1) q.2)

pub answers_by : (A B : Type 0) (names : List (List ℕ)) (old new : InputsState) (due : Known → Result A Event) (a : A) (Next : Result A Event → Result B Event → Type 0) (got : Result B Event) → AnswersAs {A = A} (step_over names old new) due (Ok a)
    → (got ≡ Err no_memory) ⊎ (IsPossible got × IsDecided got × Next (Ok a) got) → AnswersBy {A = B} (step_over names old new) (λ t end. Next (due t) end) got
answers_by A B names old new due a Next got h q flash = after_by A B (with_inputs new.contents flash) (CameIn (step_over names old new)) due a Next got (h flash) q

-- ---- why an input isn't read, whatever it holds

pub unopened_unread : (old new : InputsState) (name : List ℕ) (event : Event) → Unopened old name new event → IsUnread name event
unopened_unread old new name event (inl h, s) = inr (inl h.0)
unopened_unread old new name event (inr h, s) = inr (inr (inl h.0))

pub turn_unread : (old new : InputsState) (name : List ℕ) (left : ℕ) (event : Event) → UnreadToEnd old name new left event → IsUnread name event
turn_unread old new name left event (inl h) = inr (inr (inl h.0))
turn_unread old new name left event (inr h) = inr (inr (inr h.0))

-- an input that wasn't opened is no want of memory
pub unopened_named : (old new : InputsState) (name : List ℕ) (event : Event) → Unopened old name new event → event ≢ no_memory
unopened_named old new name event (inl h, s) e = let f : why.Missing ≡ why.NoMemory = ap (λ (x : Event). x.reason) (sym h.0 ∙ e) in absurd (cc)
unopened_named old new name event (inr h, s) e = let f : why.ReadFault ≡ why.NoMemory = ap (λ (x : Event). x.reason) (sym h.0 ∙ e) in absurd (cc)

-- an input that wasn't read to its end is no want of memory
pub turn_named : (old new : InputsState) (name : List ℕ) (left : ℕ) (event : Event) → UnreadToEnd old name new left event → event ≢ no_memory
turn_named old new name left event (inl h) e = let f : why.ReadFault ≡ why.NoMemory = ap (λ (x : Event). x.reason) (sym h.0 ∙ e) in absurd (cc)
turn_named old new name left event (inr h) e = let f : why.TooLarge ≡ why.NoMemory = ap (λ (x : Event). x.reason) (sym h.0 ∙ e) in absurd (cc)

pub want_unread : (old new : InputsState) (name : List ℕ) (limit : ℕ) (event : Event) → (event ≡ no_memory) ⊎ UnreadRest old name new limit event → IsUnread name event
want_unread old new name limit event (inl e) = inl e
want_unread old new name limit event (inr h) = turn_unread old new name limit event h.0

-- a header that is refused
refused_by : (name bytes : List ℕ) (read : Result (HeaderContents × ℕ) HeaderFault) (event : Event) → Err event ≡ data_by name bytes read → (place : ℕ) × (event ≡ bad_input name (input.Byte place))
refused_by name bytes (Ok head) event e = absurd (cc)
refused_by name bytes (Err header.Raw) event e = absurd (cc)
refused_by name bytes (Err (header.Cut place)) event e = (place, cc)
refused_by name bytes (Err (header.Field place)) event e = (place, cc)

pub header_refused : (name bytes : List ℕ) (event : Event) → Err event ≡ data_in name bytes → IsUnplayed name event
header_refused name bytes event e = inr (refused_by name bytes (header_at bytes) event e)

-- a header that is refused is no want of memory
pub header_named : (name bytes : List ℕ) (event : Event) → Err event ≡ data_in name bytes → event ≢ no_memory
header_named name bytes event h e = let at = refused_by name bytes (header_at bytes) event h in let f : why.BadInput (input.Byte at.0) ≡ why.NoMemory = ap (λ (x : Event). x.reason) (sym at.1 ∙ e) in absurd (cc)

-- a stream of several
pub one_unplayed : {X : Type 0} (f : X → List ℕ) (ss : List X) (k : ℕ) (s : X) (name : List ℕ) (event : Event) → k < length ss → s ≡ get_or ss k s → name ≡ f s → IsUnplayed name event → IsOneUnplayed (map f ss) event
one_unplayed f ss k s name event h e nm u = inr (name, (rw nm (among_at f ss k s h e), u))
