-- The words that a device reads out of more bytes begin with those that it read out of the first of them.
use Rattle.std.proofs.Common.{◌≡◌, ℕ, zero, suc, ◌+◌, ◌-◌, ◌≤◌, ◌<◌, List, [], ◌∷◌, ◌++◌, length, length-append, Bool, true, false, Option, None, Some, refl, ap, sym, ◌∙◌, append_assoc, append-nil, arith}
use Rattle.std.specs.Prelude.{if◌then◌else◌, nat_lt}
use Rattle.std.proofs.lemmas.Bool.Decides.{nat_tests}
use Rattle.std.specs.Option.{option_or}
use Rattle.x7_words.specs.Word.{AreBytes}
use Rattle.x7_words.proofs.ListLemmas.{all_prefix}
use Rattle.x7_packets.specs.History.{AllAfter, History, Placed, history_of, until}
use Rattle.x7_packets.proofs.GrowthLemmas.{newer_of, placed_of}
use Rattle.x7_part.specs.Part.{PartData}
use Rattle.x7_engine.specs.declared.kept.Kept.{Kept}
use Rattle.x7_engine.specs.declared.stop.StopCause.{StopCause}
use Rattle.x7_engine.specs.State.{history_by, history_taken, last_counted, reads_of, first_stop_of_bytes}
use Rattle.x7_engine.specs.Stop.{Stopped, why_at_access, first_stop_of_history, stop_at_place, stop_at_firing}
use Rattle.x7_engine.specs.Value.{words_read_by, read_out}
use Rattle.x7_engine.specs.Watching.{fired_or, watchdog_fires, first_firing}
use Rattle.x7_engine.proofs.StateLemmas.{stop_is_final_reads, parts_none, counted_most}

-- ---- where there is no stop in the first bytes, one comes after them

firing_after : (part : PartData) (kept : Kept) (h : History) (from first more place : ℕ) → first_firing part kept h from first ≡ None → first_firing part kept h from (first + more) ≡ Some place → from + first < place
firing_after part kept h from first zero place none e =
    let same : first + 0 ≡ first = omega arith in
    let here = rw (same, none) at e in
    absurd (cc)
firing_after part kept h from first (suc more) place none e =
    let next : first + suc more ≡ suc (first + more) = omega arith in
    let here = rw next at e in
    by (first_firing part kept h from (first + more)) (watchdog_fires part kept h (from + (first + more) + 1)) refl here (firing_after part kept h from first more place none)
  where
    by : (o : Option ℕ) (now : Bool) → first_firing part kept h from (first + more) ≡ o → fired_or o now (from + (first + more) + 1) ≡ Some place → (first_firing part kept h from (first + more) ≡ Some place → from + first < place) → from + first < place
    by (Some q) now p g before = before (p ∙ g)
    by None true p g before =
        let same : from + (first + more) + 1 ≡ place = cc in
        omega (arith, same)
    by None false p g before = absurd (cc)

watchdog_after : (part : PartData) (kept : Kept) (h : History) (from first n : ℕ) (s : Stopped) → first ≤ n → stop_at_firing (first_firing part kept h from first) ≡ None → stop_at_firing (first_firing part kept h from n) ≡ Some s → from + first < s.place
watchdog_after part kept h from first n s l none e = by (first_firing part kept h from first) (first_firing part kept h from n) refl refl none e
  where
    by : (a b : Option ℕ) → first_firing part kept h from first ≡ a → first_firing part kept h from n ≡ b → stop_at_firing a ≡ None → stop_at_firing b ≡ Some s → from + first < s.place
    by (Some q) b p r x y = absurd (cc)
    by None None p r x y = absurd (cc)
    by None (Some q) p r x y =
        let sum : n ≡ first + (n - first) = omega (arith, l) in
        let place : q ≡ s.place = ap (λ (o : Option Stopped). place_of o) y in
        let less : from + first < q = firing_after part kept h from first (n - first) q p (sym (ap (first_firing part kept h from) sum) ∙ r) in
        omega (arith, less, place)
      where
        place_of : Option Stopped → ℕ
        place_of None = 0
        place_of (Some t) = t.place

stop_after : (part : PartData) (kept : Kept) (h : History) (first n : ℕ) (s : Stopped) → first ≤ n → first_stop_of_history part kept h first ≡ None → first_stop_of_history part kept h n ≡ Some s → first < s.place
stop_after part kept [] first n s l none e =
    let less : 0 + first < s.place = watchdog_after part kept [] 0 first n s l none e in
    omega (arith, less)
stop_after part kept (x ∷ h) first n s l none e =
    let parts = parts_none (first_stop_of_history part kept h x.place) _ none in
    let own = parts_none (stop_at_place x.place (why_at_access part kept h x.access)) _ parts.1 in
    let here : option_or (stop_at_place x.place (why_at_access part kept h x.access)) (stop_at_firing (first_firing part kept (x ∷ h) x.place (n - x.place))) ≡ Some s =
    ap (λ (o : Option Stopped). option_or o (option_or (stop_at_place x.place (why_at_access part kept h x.access)) (stop_at_firing (first_firing part kept (x ∷ h) x.place (n - x.place))))) (sym parts.0) ∙ e in
    let fired : stop_at_firing (first_firing part kept (x ∷ h) x.place (n - x.place)) ≡ Some s = ap (λ (o : Option Stopped). option_or o (stop_at_firing (first_firing part kept (x ∷ h) x.place (n - x.place)))) (sym own.0) ∙ here in
    let less : x.place + (first - x.place) < s.place = watchdog_after part kept (x ∷ h) x.place (first - x.place) (n - x.place) s (omega (arith, l)) own.1 fired in
    omega (arith, less)

newer_stop : (part : PartData) (kept : Kept) (newer h : History) (first most n : ℕ) (s : Stopped) → AllAfter first most newer → first ≤ n → first_stop_of_history part kept h first ≡ None → first_stop_of_history part kept (newer ++ h) n ≡ Some s → first < s.place
newer_stop part kept [] h first most n s a l none e = stop_after part kept h first n s l none e
newer_stop part kept (x ∷ newer) h first most n s a l none e =
    by (first_stop_of_history part kept (newer ++ h) x.place) (why_at_access part kept (newer ++ h) x.access) refl (newer_stop part kept newer h first most x.place s a.2 (omega (arith, a.0)) none) e
  where
    by : (o : Option Stopped) (why : Option StopCause) → first_stop_of_history part kept (newer ++ h) x.place ≡ o → (first_stop_of_history part kept (newer ++ h) x.place ≡ Some s → first < s.place)
        → option_or o (option_or (stop_at_place x.place why) (stop_at_firing (first_firing part kept (x ∷ (newer ++ h)) x.place (n - x.place)))) ≡ Some s → first < s.place
    by (Some q) why p before g = before (p ∙ g)
    by None (Some q) p before g =
        let place : x.place ≡ s.place = ap place_of g in
        omega (arith, place, a.0)
      where
        place_of : Option Stopped → ℕ
        place_of None = 0
        place_of (Some t) = t.place
    by None None p before g =
        let less : x.place + 0 < s.place = watchdog_after part kept (x ∷ (newer ++ h)) x.place 0 (n - x.place) s (omega arith) refl g in
        omega (arith, less, a.0)

-- ---- so all accesses of the first bytes count

until_all : (first n : ℕ) (h : History) → Placed first h → first ≤ n → until n h ≡ h
until_all first n [] p l = refl
until_all first n (x ∷ h) p l =
    let no : nat_lt n x.place ≡ false = grind (arith, nat_tests, p.1, l) in
    rw no refl

until_prefix : (first most n : ℕ) (newer h : History) → Placed first h → first ≤ n → (rest : History) × (until n (newer ++ h) ≡ rest ++ h)
until_prefix first most n [] h p l = ([], until_all first n h p l)
until_prefix first most n (x ∷ newer) h p l = by (nat_lt n x.place) (until_prefix first most n newer h p l)
  where
    by : (b : Bool) → (rest : History) × (until n (newer ++ h) ≡ rest ++ h) → (rest : History) × ((if b then until n (newer ++ h) else x ∷ (newer ++ h)) ≡ rest ++ h)
    by true more = more
    by false more = (x ∷ newer, refl)

reads_prefix : (part : PartData) (kept : Kept) (newer h : History) → (rest : List ℕ) × (read_out part kept (newer ++ h) ≡ read_out part kept h ++ rest)
reads_prefix part kept [] h = ([], sym (append-nil (read_out part kept h)))
reads_prefix part kept (x ∷ newer) h =
    let more = reads_prefix part kept newer h in
    let answer = words_read_by part kept (newer ++ h) x.access x.place in
    (more.0 ++ answer, ap (λ (r : List ℕ). r ++ answer) more.1 ∙ append_assoc (read_out part kept h) more.0 answer)

reads_on : (part : PartData) (kept : Kept) (bytes more : List ℕ) → AreBytes bytes → AreBytes (bytes ++ more) → first_stop_of_bytes part kept bytes ≡ None → (rest : List ℕ) × (reads_of part kept (bytes ++ more) ≡ reads_of part kept bytes ++ rest)
reads_on part kept bytes more fits all none =
    let grown = newer_of bytes more all in
    let h = history_of bytes in
    let placed = placed_of bytes fits in
    let before : history_taken part kept bytes ≡ h = ap (λ (o : Option Stopped). history_by o h) none in
    let kept_all : (rest : History) × (history_taken part kept (bytes ++ more) ≡ rest ++ h) = by grown.0 grown.1 grown.2 (first_stop_of_bytes part kept (bytes ++ more)) refl in
    let reads = reads_prefix part kept kept_all.0 h in
    (reads.0, ap (read_out part kept) kept_all.1 ∙ reads.1 ∙ ap (λ (x : History). read_out part kept x ++ reads.0) (sym before))
  where
    by : (newer : History) → history_of (bytes ++ more) ≡ newer ++ history_of bytes → AllAfter (length bytes) (length (bytes ++ more)) newer → (o : Option Stopped) → first_stop_of_bytes part kept (bytes ++ more) ≡ o
        → (rest : History) × (history_taken part kept (bytes ++ more) ≡ rest ++ history_of bytes)
    by newer e a None s = (newer, ap (λ (o : Option Stopped). history_by o (history_of (bytes ++ more))) s ∙ e)
    by newer e a (Some t) s =
        let long : length bytes ≤ length (bytes ++ more) = omega (arith, length-append bytes more) in
        let at : first_stop_of_history part kept (newer ++ history_of bytes) (length (bytes ++ more)) ≡ Some t = ap (λ (x : History). first_stop_of_history part kept x (length (bytes ++ more))) (sym e) ∙ s in
        let after : length bytes < t.place = newer_stop part kept newer (history_of bytes) (length bytes) (length (bytes ++ more)) (length (bytes ++ more)) t a long none at in
        let prefix = until_prefix (length bytes) (length (bytes ++ more)) (last_counted t.why t.place) newer (history_of bytes) (placed_of bytes fits) (counted_most t.why t.place (length bytes) after) in
        (prefix.0, ap (λ (o : Option Stopped). history_by o (history_of (bytes ++ more))) s ∙ ap (λ (x : History). until (last_counted t.why t.place) x) e ∙ prefix.1)

pub reads_grow : (part : PartData) (kept : Kept) (bytes more : List ℕ) → AreBytes (bytes ++ more) → (rest : List ℕ) × (reads_of part kept (bytes ++ more) ≡ reads_of part kept bytes ++ rest)
reads_grow part kept bytes more all = by (first_stop_of_bytes part kept bytes) refl
  where
    by : (o : Option Stopped) → first_stop_of_bytes part kept bytes ≡ o → (rest : List ℕ) × (reads_of part kept (bytes ++ more) ≡ reads_of part kept bytes ++ rest)
    by None e = reads_on part kept bytes more (all_prefix (λ b. b < 256) bytes more all) all e
    by (Some s) e = ([], stop_is_final_reads part kept bytes more s all e ∙ sym (append-nil (reads_of part kept bytes)))
