-- Positions: from one to another, and the least later one where something holds.
use Rattle.std.proofs.lemmas.Bool.{cases_lt, cases_order}
use Rattle.std.proofs.lemmas.Option.{none-some}
use Rattle.std.proofs.Common.{◌≡◌, inl, inr, ℕ, zero, suc, ◌+◌, ◌-◌, ◌<◌, ◌≤◌, ◌==◌, Bool, true, false, if◌then◌else◌, List, ◌++◌, length, take, drop, min, cond, Option, Some, None, refl, ap, sym, subst, ◌∙◌, arith}
use Rattle.std.specs.Prelude.{unwrap_or}
use Rattle.std.specs.List.{find, range_with_len}
use Rattle.std.proofs.lemmas.List.{length-take-le, take-append-drop, take-take}
use Rattle.x7_words.specs.Word.{AreBytes}
use Rattle.x7_words.proofs.ListLemmas.{all_prefix, take_up_to}
use Rattle.x7_packets.specs.History.{history_of}
use Rattle.x7_part.specs.Part.{PartData}
use Rattle.x7_engine.specs.declared.fault.Fault.TheVariants as faults
use Rattle.x7_engine.specs.declared.stop.StopCause.TheVariants as stops
use Rattle.x7_engine.specs.FirstStop.{why_at_byte, why_at_newest}
use Rattle.x7_engine.specs.Kept.{on_the_bench}
use Rattle.x7_engine.specs.Standing.{DeviceState, DeviceStandsFor, NoWordDue}
use Rattle.x7_engine.specs.State.{first_stop_of_bytes, taken_of}
use Rattle.x7_engine.specs.Stop.{Stopped}
use Rattle.x7_engine.specs.Watching.{watchdog_fires}
use Rattle.x7_engine.proofs.FirstStopLemmas.{no_stop_none, stop_is_first}
use Rattle.x7_engine.proofs.StateLemmas.{stop_is_final_stop, stop_place, taken_is}
use Rattle.x7_debug.specs.declared.order.Stop.{Stop}
use Rattle.x7_engine.specs.declared.snapshot.End.{End}
use Rattle.x7_debug.specs.declared.order.Stop.TheVariants as stops-to
use Rattle.x7_debug.specs.Position.{BeginsAtSoonest, holds_at, holds_in, last_of, state_at_position, until_of}
use Rattle.x7_debug.specs.Session.{StandsAtPosition}
use Rattle.x7_debug.proofs.FeedLemmas.{taken_all, taken_stopped, taken_within}

pub last_within : (part : PartData) (stream : List ℕ) → AreBytes stream → last_of part stream ≤ length stream
last_within part stream fits = taken_within part on_the_bench stream fits

-- whether a byte stops a device is known by the bytes up to it
same_cause : (part : PartData) (stream : List ℕ) (n m : ℕ) → m ≤ n → why_at_byte part on_the_bench (take n stream) m ≡ why_at_byte part on_the_bench stream m
same_cause part stream n m le =
    ap (λ (b : List ℕ). if watchdog_fires part on_the_bench (history_of b) m then Some (stops.Fault faults.Watchdog) else why_at_newest part on_the_bench (history_of (take m (take n stream))) m) (take-take (m - 1) n stream (omega (arith, le)))
    ∙ ap (λ (b : List ℕ). if watchdog_fires part on_the_bench (history_of (take (m - 1) stream)) m then Some (stops.Fault faults.Watchdog) else why_at_newest part on_the_bench (history_of b) m) (take-take m n stream le)

-- bytes without a stop end at the last position or before it
goes_on : (part : PartData) (stream : List ℕ) (n : ℕ) → AreBytes stream → n ≤ length stream → first_stop_of_bytes part on_the_bench (take n stream) ≡ None → n ≤ last_of part stream
goes_on part stream n fits few none = by (first_stop_of_bytes part on_the_bench stream) refl
  where
    prefix : AreBytes (take n stream)
    prefix = all_prefix (λ b. b < 256) (take n stream) (drop n stream) (subst (λ b. AreBytes b) (sym (take-append-drop n stream)) fits)

    by : (o : Option Stopped) → first_stop_of_bytes part on_the_bench stream ≡ o → n ≤ last_of part stream
    by None e = omega (arith, taken_all part on_the_bench stream e, few)
    by (Some s) e =
        let first = stop_is_first part on_the_bench stream s fits e in
        elim (cases_lt n s.place) [
          | inl before ↦ omega (arith, taken_stopped part on_the_bench stream s e, before)
          | inr after ↦
              absurd (none-some s.why (sym (no_stop_none part on_the_bench (take n stream) s.place prefix none first.at_least_one (omega (arith, length-take-le n stream few, after))) ∙ same_cause part stream n s.place after ∙ first.holds))
        ]

-- how many of the first bytes are taken: all, or those up to the last position
taken_first : (part : PartData) (stream : List ℕ) (n : ℕ) → AreBytes stream → n ≤ length stream → taken_of part on_the_bench (take n stream) ≡ min n (last_of part stream)
taken_first part stream n fits few = by (first_stop_of_bytes part on_the_bench (take n stream)) refl
  where
    long : length (take n stream) ≡ n
    long = length-take-le n stream few

    whole : take n stream ++ drop n stream ≡ stream
    whole = take-append-drop n stream

    fit : AreBytes (take n stream ++ drop n stream)
    fit = subst (λ b. AreBytes b) (sym whole) fits

    by : (o : Option Stopped) → first_stop_of_bytes part on_the_bench (take n stream) ≡ o → taken_of part on_the_bench (take n stream) ≡ min n (last_of part stream)
    by None e = omega (arith, taken_all part on_the_bench (take n stream) e, long, goes_on part stream n fits few e)
    by (Some s) e =
        let later : first_stop_of_bytes part on_the_bench stream ≡ Some s = ap (first_stop_of_bytes part on_the_bench) (sym whole) ∙ stop_is_final_stop part on_the_bench (take n stream) (drop n stream) s fit e in
        let last : last_of part stream ≡ s.place = taken_stopped part on_the_bench stream s later in
        let here : taken_of part on_the_bench (take n stream) ≡ s.place = taken_stopped part on_the_bench (take n stream) s e in
        let place = stop_place part on_the_bench (take n stream) s (all_prefix (λ b. b < 256) (take n stream) (drop n stream) fit) e in
        omega (arith, last, here, place.1, long)

-- a device that took the first bytes of a stream stands there
pub stands_first_bytes : (part : PartData) (stream : List ℕ) (d : DeviceState) (n : ℕ) → AreBytes stream → n ≤ length stream → DeviceStandsFor part on_the_bench false d (take n stream) → NoWordDue d → StandsAtPosition part stream d n
stands_first_bytes part stream d n fits few s due =
    let long : length (take n stream) ≡ n = length-take-le n stream few in
    record { stands = s; taken = s.taken_is ∙ long; within = omega (arith, taken_first part stream n fits few, taken_is part on_the_bench false d (take n stream) s, long); no_word_due = due }

-- a device that was fed the bytes from one position to another stands there, or at the last position where that is less
pub moved : (part : PartData) (stream piece : List ℕ) (d : DeviceState) (from to : ℕ) → AreBytes stream → from ≤ to → to ≤ length stream → piece ≡ take (to - from) (drop from stream)
    → DeviceStandsFor part on_the_bench false d (take (taken_of part on_the_bench (take from stream ++ piece)) (take from stream ++ piece)) → NoWordDue d → StandsAtPosition part stream d (min to (last_of part stream))
moved part stream piece d from to fits le few is stands due =
    let whole : take from stream ++ piece ≡ take to stream = ap (λ t. take from stream ++ t) is ∙ take_up_to stream from to le in
    let at : ℕ = min to (last_of part stream) in
    let same : take (taken_of part on_the_bench (take from stream ++ piece)) (take from stream ++ piece) ≡ take at stream
    = ap (λ b. take (taken_of part on_the_bench b) b) whole ∙ ap (λ (k : ℕ). take k (take to stream)) (taken_first part stream to fits few) ∙ take-take at to stream (omega arith) in
    let there : DeviceStandsFor part on_the_bench false d (take at stream) = subst (λ b. DeviceStandsFor part on_the_bench false d b) same stands in
    record { stands = there; taken = there.taken_is ∙ length-take-le at stream (omega (arith, few)); within = omega arith; no_word_due = due }

-- the position to which a device was fed, where that is not after the last one
pub stands_there : (part : PartData) (stream : List ℕ) (d : DeviceState) (to : ℕ) → to ≤ last_of part stream → StandsAtPosition part stream d (min to (last_of part stream)) → StandsAtPosition part stream d to
stands_there part stream d to within s = (let same : min to (last_of part stream) ≡ to = omega (arith, within) in subst (λ (k : ℕ). StandsAtPosition part stream d k) same s)

-- where a device stands, by its own part and count of bytes
pub own : (part : PartData) (stream : List ℕ) (d : DeviceState) (n : ℕ) → StandsAtPosition part stream d n → StandsAtPosition d.part stream d d.taken
own part stream d n s = subst (λ p. StandsAtPosition p stream d d.taken) (sym s.stands.part_is) (subst (λ (k : ℕ). StandsAtPosition part stream d k) (sym s.taken) s)

-- a device that stands at a position of a stream has taken this many bytes
pub by_taken : (part : PartData) (stream : List ℕ) (d : DeviceState) (n : ℕ) → StandsAtPosition part stream d n → StandsAtPosition part stream d d.taken
by_taken part stream d n s = subst (λ (k : ℕ). StandsAtPosition part stream d k) (sym s.taken) s

-- ---- the least later position

pub until_found : (p : ℕ → Bool) (count from n last : ℕ) → from < n → n ≤ from + count → p n ≡ true → ((k : ℕ) → from < k → k < n → p k ≡ false) → unwrap_or (find p (range_with_len (from + 1) count)) last ≡ n
until_found p zero from n last lt le is none = absurd (omega arith)
until_found p (suc count) from n last lt le is none =
    elim (cases_order n (from + 1)) [
      | inl same ↦
          let here : p (from + 1) ≡ true = ap p (sym same) ∙ is in
          ap (λ (b : Bool). unwrap_or (cond b (Some (from + 1)) (find p (range_with_len (from + 1 + 1) count))) last) here ∙ sym same
      | inr (inl below) ↦ absurd (omega arith)
      | inr (inr above) ↦
          let here : p (from + 1) ≡ false = none (from + 1) (omega arith) above in
          ap (λ (b : Bool). unwrap_or (cond b (Some (from + 1)) (find p (range_with_len (from + 1 + 1) count))) last) here
          ∙ until_found p count (from + 1) n last above (omega arith) is (λ k h j. none k (omega arith) j)
    ]

pub until_none : (p : ℕ → Bool) (count from last : ℕ) → ((k : ℕ) → from < k → k ≤ from + count → p k ≡ false) → unwrap_or (find p (range_with_len (from + 1) count)) last ≡ last
until_none p zero from last none = refl
until_none p (suc count) from last none =
    let here : p (from + 1) ≡ false = none (from + 1) (omega arith) (omega arith) in
    ap (λ (b : Bool). unwrap_or (cond b (Some (from + 1)) (find p (range_with_len (from + 1 + 1) count))) last) here
    ∙ until_none p count (from + 1) last (λ k h j. none k (omega arith) (omega arith))

module _ (part : PartData) (stream : List ℕ) (stop : Stop) (from : ℕ) where
  pub until_there : (n : ℕ) → from < n → n ≤ last_of part stream → holds_at part stream stop n ≡ true → ((k : ℕ) → from < k → k < n → holds_at part stream stop k ≡ false) → until_of part stream stop from ≡ n
  until_there n lt le is none = until_found (holds_at part stream stop) (last_of part stream - from) from n (last_of part stream) lt (omega arith) is none

  pub until_last : (n : ℕ) → last_of part stream ≤ n → n ≤ last_of part stream → from ≤ n → ((k : ℕ) → from < k → k ≤ n → holds_at part stream stop k ≡ false) → until_of part stream stop from ≡ n
  until_last n low high le none = until_none (holds_at part stream stop) (last_of part stream - from) from (last_of part stream) (λ k h j. none k h (omega arith)) ∙ (let e : last_of part stream ≡ n = omega arith in e)

-- what a test of the end and the phase says of the position
pub holds_is : (part : PartData) (stream : List ℕ) (stop : Stop) (n : ℕ) (end : End) (phase : ℕ) (b : Bool) → end ≡ (state_at_position part stream n).end → phase ≡ (state_at_position part stream n).phase → b ≡ holds_in stop end phase → holds_at part stream stop n ≡ b
holds_is part stream stop n end phase b e f h = ap (λ (x : End). holds_in stop x (state_at_position part stream n).phase) (sym e) ∙ ap (holds_in stop end) (sym f) ∙ sym h

-- ---- positions that are passed over

find_after : (p : ℕ → Bool) (count from n last : ℕ) → from ≤ n → n ≤ from + count → ((k : ℕ) → from < k → k ≤ n → p k ≡ false)
    → unwrap_or (find p (range_with_len (from + 1) count)) last ≡ unwrap_or (find p (range_with_len (n + 1) (from + count - n))) last
find_after p zero from n last l m none =
    let same : n ≡ from = omega (arith, l, m) in
    subst (λ (k : ℕ). unwrap_or (find p (range_with_len (from + 1) 0)) last ≡ unwrap_or (find p (range_with_len (k + 1) (from + 0 - k))) last) (sym same)
    (ap (λ (c : ℕ). unwrap_or (find p (range_with_len (from + 1) c)) last) (let z : 0 ≡ from + 0 - from = omega arith in z))
find_after p (suc count) from n last l m none =
    elim (cases_order n from) [
      | inl same ↦
          subst (λ (k : ℕ). unwrap_or (find p (range_with_len (from + 1) (suc count))) last ≡ unwrap_or (find p (range_with_len (k + 1) (from + suc count - k))) last) (sym same)
          (ap (λ (c : ℕ). unwrap_or (find p (range_with_len (from + 1) c)) last) (let z : suc count ≡ from + suc count - from = omega arith in z))
      | inr (inl below) ↦ absurd (omega (arith, l, below))
      | inr (inr above) ↦
          let here : p (from + 1) ≡ false = none (from + 1) (omega arith) (omega (arith, above)) in
          let sum : from + 1 + count - n ≡ from + suc count - n = omega arith in
          ap (λ (b : Bool). unwrap_or (cond b (Some (from + 1)) (find p (range_with_len (from + 1 + 1) count))) last) here
          ∙ find_after p count (from + 1) n last (omega (arith, above)) (omega (arith, m)) (λ k h j. none k (omega (arith, h)) j)
          ∙ ap (λ (c : ℕ). unwrap_or (find p (range_with_len (n + 1) c)) last) sum
    ]

found_after : (p : ℕ → Bool) (count from low last : ℕ) → low ≤ last → ((k : ℕ) → from < k → k < low → p k ≡ false) → low ≤ unwrap_or (find p (range_with_len (from + 1) count)) last
found_after p zero from low last l none = l
found_after p (suc count) from low last l none = by (p (from + 1)) refl (found_after p count (from + 1) low last l (λ k h j. none k (omega (arith, h)) j))
  where
    at_first : p (from + 1) ≡ true → low ≤ from + 1
    at_first e = elim (cases_lt (from + 1) low) [
      | inl less ↦ absurd (let both : true ≡ false = sym e ∙ none (from + 1) (omega arith) less in cc)
      | inr more ↦ more
    ]

    by : (b : Bool) → p (from + 1) ≡ b → low ≤ unwrap_or (find p (range_with_len (from + 1 + 1) count)) last → low ≤ unwrap_or (cond (p (from + 1)) (Some (from + 1)) (find p (range_with_len (from + 1 + 1) count))) last
    by true e later = subst (λ (b : Bool). low ≤ unwrap_or (cond b (Some (from + 1)) (find p (range_with_len (from + 1 + 1) count))) last) (sym e) (at_first e)
    by false e later = subst (λ (b : Bool). low ≤ unwrap_or (cond b (Some (from + 1)) (find p (range_with_len (from + 1 + 1) count))) last) (sym e) later

module _ (part : PartData) (stream : List ℕ) (phase : ℕ) (begins : ℕ) (b : BeginsAtSoonest part stream begins) (some : 0 < phase) where
  none_unbegun : (k : ℕ) → k < begins → holds_at part stream (stops-to.Phase phase) k ≡ false
  none_unbegun k l = ap (λ (q : ℕ). q == phase) (b.zero k l) ∙ grind (arith, some)

  -- a position that is passed over changes nothing of where `until` leads
  pub until_near : (from n : ℕ) → from ≤ n → n ≤ last_of part stream → ((k : ℕ) → from < k → k ≤ n → k < begins) → until_of part stream (stops-to.Phase phase) from ≡ until_of part stream (stops-to.Phase phase) n
  until_near from n l m few =
      let sum : from + (last_of part stream - from) - n ≡ last_of part stream - n = omega (arith, l, m) in
      find_after (holds_at part stream (stops-to.Phase phase)) (last_of part stream - from) from n (last_of part stream) l (omega (arith, l, m)) (λ k h j. none_unbegun k (few k h j))
      ∙ ap (λ (c : ℕ). unwrap_or (find (holds_at part stream (stops-to.Phase phase)) (range_with_len (n + 1) c)) (last_of part stream)) sum

  pub until_begun : (n : ℕ) → begins ≤ until_of part stream (stops-to.Phase phase) n
  until_begun n = found_after (holds_at part stream (stops-to.Phase phase)) (last_of part stream - n) n begins (last_of part stream) b.within (λ k h j. none_unbegun k j)
