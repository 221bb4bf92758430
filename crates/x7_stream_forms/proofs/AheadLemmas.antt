-- Lemmas on specs/Ahead.
use Rattle.std.proofs.Common.{IfSome, ◌≡◌, ℕ, ◌+◌, ◌<◌, ◌≤◌, ◌⊎◌, inl, inr, List, [], ◌++◌, Option, Some, Result, Ok, Err, length, length-append, ap, refl, sym, subst, ◌∙◌, append-nil, append_assoc, arith}
use Rattle.x7_header.specs.Header.{HasOtherLetterAt}
use Rattle.x7_words.specs.Input.{AsksForName, InputsState, InputsStay, preceded, RestIsWhole}
use Rattle.x7_words.proofs.InputLemmas.{rest_on}
use Rattle.x7_words.specs.Word.{AreBytes}
use Rattle.x7_words.specs.Sink.{SinkState, appended, PutsPrefix}
use Rattle.x7_words.proofs.SinkLemmas.{appended_appended, appended_nil}
use Rattle.x7_listing.specs.Lister.{ListerState}
use Rattle.x7_listing.proofs.BoundLemmas.{few_held, listing_held}
use Rattle.x7_listing.specs.Listing.{listing_of}
use Rattle.x7_listing.specs.StreamListing.{stream_listing}
use Rattle.x7_forms.specs.declared.bad_input.InputFault.TheVariants as input
use Rattle.x7_outcome.specs.Ahead.{GivesNear, HasWritten, ExtendsOutput, ReadsNear, StaysNear, StaysNearBy, most_bytes_ahead}
use Rattle.x7_outcome.specs.Outside.{Outside}
use Rattle.x7_forms.specs.declared.status.Status.{Status}
use Rattle.x7_forms.specs.declared.status.Status.TheVariants as status
use Rattle.x7_forms.specs.Event.{Event, status_of_event, bad_input, missing, no_memory, reading_failed, too_large, writing_failed}
use Rattle.x7_forms.specs.AskedForm as form
use Rattle.x7_forms.specs.Turn.{IsBadBeginning, NoLetterGiven, UnreadBeginning, Unopened, UnreadToEnd, longest_beginning, turn_size}
use Rattle.x7_stream_forms.specs.Between.{ListsInTurns, ListsStream}
use Rattle.x7_forms.proofs.BeginningLemmas.{letter_there}
use Rattle.x7_forms.proofs.ReadLemmas.{known_all, whole_later}
use Rattle.x7_stream_forms.proofs.Causes.{may_follow, nothing_listed, nothing_taken}
use Rattle.x7_stream_forms.proofs.TurnLemmas.{stream_whole}
use Rattle.x7_outcome.proofs.FeedLemmas.{taken_more}

-- ---- the definitions, by the contents, the rest and what was written

-- few bytes more were read of the stream than are listed
abbrev pub NearBy : Option (List ℕ → Option (List ℕ)) → List ℕ → Option (List ℕ) → Option (List ℕ) → Option (List ℕ) → Type 0
NearBy contents stream rest old new =
    (inputs : List ℕ → Option (List ℕ)) (bytes left before after : List ℕ) → contents ≡ Some inputs → inputs stream ≡ Some bytes → rest ≡ Some left → old ≡ Some before → new ≡ Some after → ReadsNear bytes left before after

-- few bytes more were given of the stream than are listed
abbrev pub GivenBy : Option (List ℕ → Option (List ℕ)) → List ℕ → ℕ → Option (List ℕ) → Option (List ℕ) → Type 0
GivenBy contents stream given old new =
    (inputs : List ℕ → Option (List ℕ)) (bytes before after : List ℕ) → contents ≡ Some inputs → inputs stream ≡ Some bytes → old ≡ Some before → new ≡ Some after → GivesNear bytes given before after

-- no byte was read after the one at which the header is refused
abbrev pub SoonBy : Option (List ℕ → Option (List ℕ)) → List ℕ → Option (List ℕ) → Type 0
SoonBy contents stream rest =
    (inputs : List ℕ → Option (List ℕ)) (bytes left : List ℕ) (place : ℕ) → contents ≡ Some inputs → inputs stream ≡ Some bytes → rest ≡ Some left → stream_listing bytes ≡ Err place
    → length bytes ≤ length left + (place + 1)

-- the byte at which the header is refused, where it is one of the stream's, was not given
abbrev pub UnjudgedBy : Option (List ℕ → Option (List ℕ)) → List ℕ → ℕ → Type 0
UnjudgedBy contents stream given =
    (inputs : List ℕ → Option (List ℕ)) (bytes : List ℕ) (place : ℕ) → contents ≡ Some inputs → inputs stream ≡ Some bytes → AreBytes bytes → stream_listing bytes ≡ Err place → place < length bytes → given ≤ place

abbrev pub StaysBy : Status → Option (List ℕ → Option (List ℕ)) → List ℕ → ℕ → Option (List ℕ) → Option (List ℕ) → Option (List ℕ) → Type 0
StaysBy status.WriteFault contents stream given rest old new = NearBy contents stream rest old new
StaysBy status.TooLarge contents stream given rest old new = NearBy contents stream rest old new
StaysBy status.BadInput contents stream given rest old new = SoonBy contents stream rest
StaysBy status.ReadFault contents stream given rest old new = UnjudgedBy contents stream given × GivenBy contents stream given old new
StaysBy status.NoMemory contents stream given rest old new = GivenBy contents stream given old new
StaysBy s contents stream given rest old new = Unit {0}

stays_by : (s : Status) (stream : List ℕ) (old new : Outside) → StaysBy s new.inputs.contents stream new.inputs.given new.inputs.rest old.out.written new.out.written → StaysNearBy s stream old new
stays_by status.WriteFault stream old new h = h
stays_by status.TooLarge stream old new h = h
stays_by status.BadInput stream old new h = h
stays_by status.ReadFault stream old new h = h
stays_by status.NoMemory stream old new h = h
stays_by s stream old new h = tt

pub stays_near : (event : Event) (stream : List ℕ) (old new : Outside) → StaysBy (status_of_event event) new.inputs.contents stream new.inputs.given new.inputs.rest old.out.written new.out.written → StaysNear (status_of_event event) (Some (form.List stream)) old new
stays_near event stream old new h = stays_by (status_of_event event) stream old new h

-- ---- what has become longer

-- what is listed begins with what was listed
abbrev pub Longer : Option (List ℕ) → Option (List ℕ) → Type 0
Longer old new = (more : List ℕ) × (new ≡ appended old more)

pub same_now : (old : SinkState) → ExtendsOutput old old
same_now old = ([], sym (appended_nil old.written))

pub longer_prefix : (old new : Option (List ℕ)) (text : List ℕ) → PutsPrefix old text new → Longer old new
longer_prefix old new text p = (p.0, p.1.2)

pub longer_twice : (old mid new : Option (List ℕ)) → Longer old mid → Longer mid new → Longer old new
longer_twice old mid new a b = (a.0 ++ b.0, b.1 ∙ ap (λ (k : Option (List ℕ)). appended k b.0) a.1 ∙ appended_appended old a.0 b.0)

-- why a turn was not written
pub why_weaker : {A B C D : Type 0} → (A × B) ⊎ (C × D) → A ⊎ (C × D)
why_weaker (inl h) = inl h.0
why_weaker (inr h) = inr h

-- ---- what is listed

-- of no bytes nothing is listed
nothing_written : (old new : Option (List ℕ)) → Longer old new → (before after : List ℕ) → old ≡ Some before → new ≡ Some after → HasWritten [] before after
nothing_written old new l before after o n =
    let all : after ≡ before ++ l.0 = let e = l.1 in let f : appended old l.0 ≡ Some (before ++ l.0) = ap (λ (k : Option (List ℕ)). appended k l.0) o in cc in
    let none : length {A = ℕ} [] ≡ 0 = refl in
    record { text = []; lists = nothing_listed; written = omega (arith, none, ap length all, length-append before l.0) }

-- the listing so far of the bytes that were taken, and whatever was put after it
turn_written : (taken line content : List ℕ) (l : ListerState) (old mid new : Option (List ℕ)) → stream_listing taken ≡ Ok (line ++ listing_of content) → ListsInTurns l (appended old line) mid content → Longer mid new
    → (before after : List ℕ) → old ≡ Some before → new ≡ Some after → HasWritten taken before after
turn_written taken line content l old mid new e t m before after o n =
    let got : mid ≡ Some (before ++ line ++ t.given) = t.put ∙ ap (λ (k : Option (List ℕ)). appended (appended k line) t.given) o in
    let all : after ≡ before ++ line ++ t.given ++ m.0 = let e = m.1 in let f : appended mid m.0 ≡ Some (before ++ line ++ t.given ++ m.0) = ap (λ (k : Option (List ℕ)). appended k m.0) got in cc in
    let held = listing_held l t.given [] content t.stands in
    let known : length (t.given ++ l.text) ≡ length t.given = ap (λ (x : List ℕ). length (t.given ++ x)) t.clear ∙ ap length (append-nil t.given) in
    record {
      text = line ++ listing_of content;
      lists = e;
      written = omega (arith, held, known, ap length all, length-append (before ++ line ++ t.given) m.0, length-append (before ++ line) t.given, length-append before line, length-append line (listing_of content));
    }

-- ---- what the sink's failure finds

near_by : (contents : Option (List ℕ → Option (List ℕ))) (stream early late : List ℕ) (rest old new : Option (List ℕ)) → RestIsWhole contents stream (preceded (early ++ late) rest) → length late ≤ most_bytes_ahead
    → ((before after : List ℕ) → old ≡ Some before → new ≡ Some after → HasWritten early before after × (length (early ++ late) + length before ≤ length after + most_bytes_ahead)) → NearBy contents stream rest old new
near_by contents stream early late rest old new s few h inputs bytes left before after c b r o n =
    let t = known_all inputs stream (early ++ late) rest (subst (λ (k : Option (List ℕ → Option (List ℕ))). RestIsWhole k stream (preceded (early ++ late) rest)) c s) in
    let tail : left ≡ t.0 = let e = t.1.0 in cc in
    let whole : bytes ≡ (early ++ late) ++ t.0 = let e = t.1.1 in cc in
    let w = h before after o n in
    record {
      early = early;
      late = late;
      split = whole ∙ ap (λ (x : List ℕ). (early ++ late) ++ x) (sym tail) ∙ append_assoc early late left;
      not_far = few;
      written = w.0;
      near = omega (arith, ap length whole, ap length tail, length-append (early ++ late) t.0, w.1);
    }

pub prefix_near : (contents : Option (List ℕ → Option (List ℕ))) (stream taken : List ℕ) (rest old new : Option (List ℕ)) → RestIsWhole contents stream (preceded taken rest) → length taken ≤ longest_beginning → Longer old new → NearBy contents stream rest old new
prefix_near contents stream taken rest old new s few l =
    near_by contents stream [] taken rest old new s (omega (arith, few))
    (λ before after o n.
    let w = nothing_written old new l before after o n in
    let all : after ≡ before ++ l.0 = let e = l.1 in let f : appended old l.0 ≡ Some (before ++ l.0) = ap (λ (k : Option (List ℕ)). appended k l.0) o in cc in
    let near : length taken + length before ≤ length after + most_bytes_ahead = omega (arith, few, ap length all, length-append before l.0) in
    (w, near))

pub turn_near : (contents : Option (List ℕ → Option (List ℕ))) (stream taken piece line content : List ℕ) (l : ListerState) (rest old mid new : Option (List ℕ)) → RestIsWhole contents stream (preceded (taken ++ piece) rest)
    → length taken ≤ length content + longest_beginning → length piece ≤ turn_size → stream_listing taken ≡ Ok (line ++ listing_of content) → ListsInTurns l (appended old line) mid content → Longer mid new → NearBy contents stream rest old new
turn_near contents stream taken piece line content l rest old mid new s close few e t m =
    near_by contents stream taken piece rest old new s (omega (arith, few))
    (λ before after o n.
    let got : mid ≡ Some (before ++ line ++ t.given) = t.put ∙ ap (λ (k : Option (List ℕ)). appended (appended k line) t.given) o in
    let all : after ≡ before ++ line ++ t.given ++ m.0 = let e = m.1 in let f : appended mid m.0 ≡ Some (before ++ line ++ t.given ++ m.0) = ap (λ (k : Option (List ℕ)). appended k m.0) got in cc in
    let held = few_held l t.given [] content t.stands in
    let known : length (t.given ++ l.text) ≡ length t.given = ap (λ (x : List ℕ). length (t.given ++ x)) t.clear ∙ ap length (append-nil t.given) in
    (turn_written taken line content l old mid new e t m before after o n, omega (arith, few, close, held, known, ap length all, length-append (before ++ line ++ t.given) m.0, length-append (before ++ line) t.given, length-append before line, length-append taken piece)))

-- ---- what was given

pub prefix_given : (contents : Option (List ℕ → Option (List ℕ))) (stream : List ℕ) (given : ℕ) (old new : Option (List ℕ)) → given ≤ longest_beginning → Longer old new → GivenBy contents stream given old new
prefix_given contents stream given old new few l inputs bytes before after c b o n =
    let none : length {A = ℕ} [] ≡ 0 = refl in
    record { early = []; others = bytes; split = refl; not_far = omega (arith, none, few); written = nothing_written old new l before after o n }

pub turn_given : (contents : Option (List ℕ → Option (List ℕ))) (stream taken line content : List ℕ) (given : ℕ) (l : ListerState) (rest old mid new : Option (List ℕ)) → RestIsWhole contents stream (preceded taken rest)
    → given ≤ length taken + turn_size → stream_listing taken ≡ Ok (line ++ listing_of content) → ListsInTurns l (appended old line) mid content → Longer mid new → GivenBy contents stream given old new
turn_given contents stream taken line content given l rest old mid new s few e t m inputs bytes before after c b o n =
    let k = known_all inputs stream taken rest (subst (λ (k : Option (List ℕ → Option (List ℕ))). RestIsWhole k stream (preceded taken rest)) c s) in
    let whole : bytes ≡ taken ++ k.0 = let e = k.1.1 in cc in
    record { early = taken; others = k.0; split = whole; not_far = omega (arith, few); written = turn_written taken line content l old mid new e t m before after o n }

-- ---- what the refusal of a header finds

same_place : (m n : ℕ) (r : Result (List ℕ) ℕ) → r ≡ Err m → r ≡ Err n → m ≡ n
same_place m n r a b = let e : Err m ≡ r = sym a in cc

pub bad_soon : (stream name : List ℕ) (m n : InputsState) (event : Event) → InputsStay m n → RestIsWhole m.contents stream m.rest → IsBadBeginning m n name event → SoonBy n.contents stream n.rest
bad_soon stream name m n event later s b inputs bytes left place c i r l =
    let sel = rest_on m.contents n.contents stream b.bytes m.rest n.rest later.map b.taken s in
    let t = known_all inputs stream b.bytes n.rest (subst (λ (k : Option (List ℕ → Option (List ℕ))). RestIsWhole k stream (preceded b.bytes n.rest)) c sel) in
    let tail : left ≡ t.0 = let e = t.1.0 in cc in
    let whole : bytes ≡ b.bytes ++ t.0 = let e = t.1.1 in cc in
    let refused = b.refused t.0 (may_follow b.last n.rest t.0 t.1.0 b.end) in
    let same = same_place place b.place (stream_listing (b.bytes ++ t.0)) (ap stream_listing (sym whole) ∙ l) refused in
    omega (arith, b.no_byte_after, same, ap length whole, ap length tail, length-append b.bytes t.0)

-- ---- what a fault finds

-- where the header was not judged yet, no wrong letter was given
pub prefix_unjudged : (stream name : List ℕ) (m n : InputsState) → RestIsWhole n.contents stream m.rest → AsksForName name m → NoLetterGiven m n → UnjudgedBy n.contents stream n.given
prefix_unjudged stream name m n s a g inputs bytes place c i fits e l =
    let none = subst (λ (k : Option (List ℕ → Option (List ℕ))). IfSome k (λ map. (bytes : List ℕ) (place : ℕ) → m.rest ≡ Some bytes → HasOtherLetterAt bytes place → n.given ≤ m.given + place)) c g in
    let t = known_all inputs stream [] m.rest (nothing_taken (Some inputs) stream m.rest (subst (λ (k : Option (List ℕ → Option (List ℕ))). RestIsWhole k stream m.rest) c s)) in
    let whole : bytes ≡ t.0 = let f = t.1.1 in cc in
    let rest : m.rest ≡ Some bytes = t.1.0 ∙ ap Some (sym whole) in
    omega (arith, a.given, none bytes place rest (letter_there bytes place fits e l))

-- where the header was judged well, none is refused
pub judged_unjudged : (contents : Option (List ℕ → Option (List ℕ))) (stream taken : List ℕ) (rest : Option (List ℕ)) (given : ℕ) → RestIsWhole contents stream (preceded taken rest) → ((left : List ℕ) → (text : List ℕ) × (stream_listing (taken ++ left) ≡ Ok text))
    → UnjudgedBy contents stream given
judged_unjudged contents stream taken rest given s goes inputs bytes place c i fits e l =
    let t = known_all inputs stream taken rest (subst (λ (k : Option (List ℕ → Option (List ℕ))). RestIsWhole k stream (preceded taken rest)) c s) in
    let whole : bytes ≡ taken ++ t.0 = let f = t.1.1 in cc in
    let well = goes t.0 in
    let both : Err place ≡ Ok well.0 = sym e ∙ ap stream_listing whole ∙ well.1 in
    absurd cc

-- ---- by the event

module _ (contents : Option (List ℕ → Option (List ℕ))) (stream : List ℕ) (rest old new : Option (List ℕ)) where
  as_event : (given : ℕ) (event other : Event) → event ≡ other → StaysBy (status_of_event other) contents stream given rest old new → StaysBy (status_of_event event) contents stream given rest old new
  as_event given event other e h = subst (λ (x : Event). StaysBy (status_of_event x) contents stream given rest old new) (sym e) h

  pub unopened_near : (s n : InputsState) (name : List ℕ) (event : Event) → AsksForName name n → Longer old new → Unopened s name n event → StaysBy (status_of_event event) contents stream n.given rest old new
  unopened_near s n name event a l (inl h, none) = as_event n.given event (missing name) h.0 tt
  unopened_near s n name event a l (inr h, none) = as_event n.given event (reading_failed name) h.0 (λ inputs bytes place c i fits e f. omega (arith, a.given), prefix_given contents stream n.given old new (omega (arith, a.given)) l)

  pub without_prefix_near : (m n : InputsState) (name : List ℕ) (event : Event) → n.rest ≡ rest → n.contents ≡ contents → InputsStay m n → RestIsWhole m.contents stream m.rest → AsksForName name m → n.given ≤ m.given + longest_beginning → Longer old new → UnreadBeginning m name n event
      → StaysBy (status_of_event event) contents stream n.given rest old new
  without_prefix_near m n name event e k later s a few l (inl h) = as_event n.given event no_memory h (prefix_given contents stream n.given old new (omega (arith, a.given, few)) l)
  without_prefix_near m n name event e k later s a few l (inr (inl h)) =
      as_event n.given event (reading_failed name) h.0 (subst (λ (c : Option (List ℕ → Option (List ℕ))). UnjudgedBy c stream n.given) k (prefix_unjudged stream name m n (whole_later m.contents n.contents stream m.rest later.map s) a h.3), prefix_given contents stream n.given old new (omega (arith, a.given, few)) l)
  without_prefix_near m n name event e k later s a few l (inr (inr h)) =
      as_event n.given event (bad_input name (input.Byte h.place)) h.reports (subst (λ (r : Option (List ℕ)). SoonBy contents stream r) e (subst (λ (c : Option (List ℕ → Option (List ℕ))). SoonBy c stream n.rest) k (bad_soon stream name m n event later s h)))

  pub unread_near : (s n : InputsState) (name taken : List ℕ) (l : ListerState) (left : ℕ) (event : Event) → n.rest ≡ rest → n.contents ≡ contents → InputsStay s n → RestIsWhole s.contents stream (preceded taken s.rest) → (t : ListsStream l old new taken)
      → n.given ≤ length taken + turn_size → (event ≡ too_large name → left < turn_size) → Longer new new → UnreadToEnd s name n left event → StaysBy (status_of_event event) contents stream n.given rest old new
  unread_near s n name taken l left event e k later sel t few over same (inl h) =
      let here = subst (λ (c : Option (List ℕ → Option (List ℕ))). RestIsWhole c stream (preceded taken s.rest)) k (whole_later s.contents n.contents stream (preceded taken s.rest) later.map sel) in
      as_event n.given event (reading_failed name) h.0 (
        judged_unjudged contents stream taken s.rest n.given here (λ more. (t.line ++ listing_of (t.content ++ more), t.listing more)),
        turn_given contents stream taken t.line t.content n.given l s.rest old new new here few (stream_whole taken t.line t.content (t.listing [])) t.lists same,
      )
  unread_near s n name taken l left event e k later sel t few over same (inr h) =
      let piece = h.1.0 in
      let some = over h.0 in
      let near = turn_near contents stream taken piece t.line t.content l n.rest old new new (subst (λ (c : Option (List ℕ → Option (List ℕ))). RestIsWhole c stream (preceded (taken ++ piece) n.rest)) k (taken_more s n stream taken piece later sel h.1.1.0)) t.short_header (omega (arith, some, h.1.1.1)) (stream_whole taken t.line t.content (t.listing [])) t.lists same in
      as_event n.given event (too_large name) h.0 (subst (λ (r : Option (List ℕ)). NearBy contents stream r old new) e near)

  pub unwritten_near : (Q : Type 0) (given : ℕ) (event : Event) → GivenBy contents stream given old new → NearBy contents stream rest old new → (event ≡ no_memory) ⊎ ((event ≡ writing_failed) × Q) → StaysBy (status_of_event event) contents stream given rest old new
  unwritten_near Q given event g n (inl h) = as_event given event no_memory h g
  unwritten_near Q given event g n (inr h) = as_event given event writing_failed h.0 n
