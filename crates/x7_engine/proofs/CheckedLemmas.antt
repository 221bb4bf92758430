-- Lemmas on specs/Checked: no access before a stop stops a device.
use Rattle.std.proofs.Common.{◌≡◌, ◌==◌, ◌&&◌, ◌||◌, ◌-◌, ◌<◌, ◌≤◌, IsTrue, ℕ, Bool, true, false, not, if◌then◌else◌, Option, None, Some, List, [], ◌∷◌, ◌++◌, length, take, drop, refl, ap, sym, subst, ◌∙◌, append_assoc, arith}
use Rattle.std.specs.Prelude.{nat_lt}
use Rattle.std.proofs.lemmas.Bool.Decides.{nat_tests}
use Rattle.std.proofs.lemmas.List.{length-take-le, take-append-drop}
use Rattle.x7_words.specs.Word.{AreBytes}
use Rattle.x7_packets.specs.History.{Access, Bad, Entry, History, Placed, Read, Write, entry, executes, history_of, until}
use Rattle.x7_packets.proofs.GrowthLemmas.{prefix_of, placed_of, placed_within}
use Rattle.x7_crc.specs.RunningCheck.{running_check}
use Rattle.x7_part.specs.Part.{PartData}
use Rattle.x7_startup.specs.Startup.{Begun, NotBegun, StartupProgress}
use Rattle.x7_engine.specs.declared.fault.Fault.TheVariants as fault
use Rattle.x7_engine.specs.declared.kept.Kept.{Kept}
use Rattle.x7_engine.specs.declared.stop.StopCause.{StopCause}
use Rattle.x7_engine.specs.declared.stop.StopCause.TheVariants as stop
use Rattle.x7_engine.specs.Checked.{HasStartAndDesync, StandsIn}
use Rattle.x7_flow.specs.Controls.{has_idcode, same_idcode}
use Rattle.x7_engine.specs.Sequence.{StartupBegins}
use Rattle.x7_engine.specs.Startup.{phase_by, startup_progress}
use Rattle.x7_engine.specs.State.{history_by, history_taken, last_counted, state_of, first_stop_of_bytes, taken_by, taken_of}
use Rattle.x7_engine.specs.Stop.{Stopped, asks_decryption, why_at_access, needs_idcode, first_stop_of_history, stop_at_place, why_by_write}
use Rattle.x7_engine.proofs.BeginsLemmas.{begins_by}
use Rattle.x7_engine.proofs.StateLemmas.{counted_least, no_stop_before, stop_place, parts_none}
use Rattle.x7_engine.proofs.TurnLemmas.{until_until}
use Rattle.x7_words.proofs.CaseLemmas.{not_false}

pub none_at : (place : ℕ) (o : Option StopCause) → stop_at_place place o ≡ None → o ≡ None
none_at place None e = refl
none_at place (Some why) e = absurd (cc)

-- ---- nothing in a history without a stop stops a device

no_why : (part : PartData) (kept : Kept) (newer older : History) (access : Access) (place n : ℕ) → first_stop_of_history part kept (newer ++ entry access place ∷ older) n ≡ None → why_at_access part kept older access ≡ None
no_why part kept [] older access place n e =
    let parts = parts_none (first_stop_of_history part kept older place) _ e in
    let own = parts_none (stop_at_place place (why_at_access part kept older access)) _ parts.1 in
    none_at place (why_at_access part kept older access) own.0
no_why part kept (x ∷ newer) older access place n e =
    no_why part kept newer older access place x.place (parts_none (first_stop_of_history part kept (newer ++ entry access place ∷ older) x.place) _ e).0

-- ---- the history of fewer bytes

until_keeps : (m : ℕ) (newer older : History) (access : Access) (place : ℕ) → place ≤ m → (kept : History) × (until m (newer ++ entry access place ∷ older) ≡ kept ++ entry access place ∷ older)
until_keeps m [] older access place l = ([], (let no : nat_lt m place ≡ false = grind (arith, nat_tests, l) in rw no refl))
until_keeps m (x ∷ newer) older access place l = by (nat_lt m x.place) (until_keeps m newer older access place l)
  where
    by : (b : Bool) → (kept : History) × (until m (newer ++ entry access place ∷ older) ≡ kept ++ entry access place ∷ older)
        → (kept : History) × ((if b then until m (newer ++ entry access place ∷ older) else x ∷ (newer ++ entry access place ∷ older)) ≡ kept ++ entry access place ∷ older)
    by true more = more
    by false more = (x ∷ newer, refl)

placed_until : (n k : ℕ) (h : History) → Placed n h → Placed k (until k h)
placed_until n k [] p = tt
placed_until n k (x ∷ h) p = by (nat_lt k x.place) refl (placed_until (x.place - 1) k h p.2)
  where
    by : (b : Bool) → nat_lt k x.place ≡ b → Placed k (until k h) → Placed k (if b then until k h else x ∷ h)
    by true e i = i
    by false e i = (p.0, grind (arith, nat_tests, e), p.2)

counted_most : (why : StopCause) (place : ℕ) → place - 1 ≤ last_counted why place
counted_most (stop.Fault fault.Watchdog) place = omega arith
counted_most (stop.Fault (fault.Packet w)) place = omega arith
counted_most (stop.Fault (fault.Id want got)) place = omega arith
counted_most (stop.Fault (fault.Crc want got)) place = omega arith
counted_most (stop.Fault (fault.Address far)) place = omega arith
counted_most (stop.Fault fault.Overrun) place = omega arith
counted_most (stop.Fault fault.Multi) place = omega arith
counted_most (stop.Fault fault.Encrypted) place = omega arith
counted_most stop.Iprog place = omega arith

-- ---- no access that ends before the last byte taken stops a device

pub taken_placed : (part : PartData) (kept : Kept) (bytes : List ℕ) → AreBytes bytes → Placed (taken_of part kept bytes) (history_taken part kept bytes)
taken_placed part kept bytes fits = by (first_stop_of_bytes part kept bytes)
  where
    by : (o : Option Stopped) → Placed (taken_by o (length bytes)) (history_by o (history_of bytes))
    by None = placed_of bytes fits
    by (Some s) = placed_within (last_counted s.why s.place) s.place (until (last_counted s.why s.place) (history_of bytes)) (counted_least s.why s.place) (placed_until (length bytes) (last_counted s.why s.place) (history_of bytes) (placed_of bytes fits))

pub none_before : (part : PartData) (kept : Kept) (bytes : List ℕ) (access : Access) (place : ℕ) (older : History) → AreBytes bytes → StandsIn (history_taken part kept bytes) access place older → place < taken_of part kept bytes
    → why_at_access part kept older access ≡ None
none_before part kept bytes access place older fits s l = by (first_stop_of_bytes part kept bytes) refl s.newer s.split l
  where
    by : (o : Option Stopped) → first_stop_of_bytes part kept bytes ≡ o → (newer : History) → history_by o (history_of bytes) ≡ newer ++ entry access place ∷ older → place < taken_by o (length bytes) → why_at_access part kept older access ≡ None
    by None e newer p k = no_why part kept newer older access place (length bytes) (ap (λ (h : History). first_stop_of_history part kept h (length bytes)) (sym p) ∙ e)
    by (Some t) e newer p k =
        let m : ℕ = t.place - 1 in
        let within = stop_place part kept bytes t fits e in
        let prefix : List ℕ = take m bytes in
        let all : prefix ++ drop m bytes ≡ bytes = take-append-drop m bytes in
        let count : length prefix ≡ m = length-take-le m bytes (omega (arith, within.1)) in
        let whole : AreBytes (prefix ++ drop m bytes) = subst AreBytes (sym all) fits in
        let none : first_stop_of_bytes part kept prefix ≡ None = no_stop_before part kept prefix (drop m bytes) t whole (ap (first_stop_of_bytes part kept) all ∙ e) (omega (arith, count, within.0)) in
        let kept_on = until_keeps m newer older access place (omega (arith, k)) in
        let same : history_of prefix ≡ kept_on.0 ++ entry access place ∷ older =
        sym (prefix_of prefix (drop m bytes) whole)
        ∙ ap (λ (x : ℕ). until x (history_of (prefix ++ drop m bytes))) count
        ∙ ap (λ (b : List ℕ). until m (history_of b)) all
        ∙ sym (until_until m (last_counted t.why t.place) (history_of bytes) (counted_most t.why t.place))
        ∙ ap (until m) p
        ∙ kept_on.1 in
        no_why part kept kept_on.0 older access place (length prefix) (ap (λ (h : History). first_stop_of_history part kept h (length prefix)) (sym same) ∙ none)

-- ---- what holds of a write that stops nothing

none_of : {A : Type 0} (a b c d e : Bool) (v w x y z : A) → (if a then Some v else if b then Some w else if c then Some x else if d then Some y else if e then Some z else None) ≡ None → (a ≡ false) × (b ≡ false) × (c ≡ false) × (d ≡ false)
none_of true b c d e v w x y z q = absurd (cc)
none_of false true c d e v w x y z q = absurd (cc)
none_of false false true d e v w x y z q = absurd (cc)
none_of false false false true e v w x y z q = absurd (cc)
none_of false false false false e v w x y z q = (refl, refl, refl, refl)

write_none : (part : PartData) (kept : Kept) (h : History) (register w : ℕ) → why_at_access part kept h (Write register w) ≡ None
    → ((register == 0 && not (w == running_check h)) ≡ false) × (asks_decryption h register w ≡ false) × ((register == 12 && not (same_idcode part.idcode w)) ≡ false) × ((needs_idcode h register w && not (has_idcode part.idcode h)) ≡ false)
write_none part kept h register w e = none_of _ _ _ _ _ _ _ _ _ _ (parts_none (why_by_write part kept h register w) _ e).0

and_not : (a b : Bool) → (a && not b) ≡ false → a ≡ true → b ≡ true
and_not true b e f = not_false b e
and_not false b e f = absurd (cc)

pub check_equals : (part : PartData) (kept : Kept) (h : History) (w : ℕ) → why_at_access part kept h (Write 0 w) ≡ None → w ≡ running_check h
check_equals part kept h w e =
    let same : (w == running_check h) ≡ true = not_false (w == running_check h) (write_none part kept h 0 w e).0 in
    grind (arith, nat_tests, same)

pub idcode_matches : (part : PartData) (kept : Kept) (h : History) (w : ℕ) → why_at_access part kept h (Write 12 w) ≡ None → IsTrue (same_idcode part.idcode w)
idcode_matches part kept h w e = not_false (same_idcode part.idcode w) (write_none part kept h 12 w e).2

needs_start : (h : History) (register w : ℕ) → executes 5 h (Write register w) ≡ true → needs_idcode h register w ≡ true
needs_start h register w e = by (register == 2) (register == 10)
  where
    by : (a b : Bool) → (a || (b || executes 5 h (Write register w))) ≡ true
    by true b = refl
    by false true = refl
    by false false = e

matched_at : (part : PartData) (kept : Kept) (h : History) (access : Access) → executes 5 h access ≡ true → why_at_access part kept h access ≡ None → IsTrue (has_idcode part.idcode h)
matched_at part kept h (Read register n) x e = absurd (cc)
matched_at part kept h (Bad w) x e = absurd (cc)
matched_at part kept h (Write register w) x e = and_not (needs_idcode h register w) (has_idcode part.idcode h) (write_none part kept h register w e).3 (needs_start h register w x)

-- ---- where startup has begun

placed_split : (n : ℕ) (newer older : History) (e : Entry) → Placed n (newer ++ e ∷ older) → (0 < e.place) × (e.place ≤ n) × Placed (e.place - 1) older
placed_split n [] older e p = p
placed_split n (x ∷ newer) older e p =
    let s = placed_split (x.place - 1) newer older e p.2 in
    (s.0, omega (arith, s.1, p.1), s.2)

begun_started : (part : PartData) (kept : Kept) (bytes : List ℕ) → AreBytes bytes → StartupBegins (history_taken part kept bytes) → HasStartAndDesync part.idcode (history_taken part kept bytes) (taken_of part kept bytes)
begun_started part kept bytes fits b =
    let armed = b.armed.1 in
    let h : History = history_taken part kept bytes in
    let n : ℕ = taken_of part kept bytes in
    let placed : Placed n h = taken_placed part kept bytes fits in
    let desync = placed_split n b.newer b.older b.desync (subst (λ (x : History). Placed n x) b.split placed) in
    let start = placed_split (b.desync.place - 1) armed.newer armed.older armed.latest (subst (λ (x : History). Placed (b.desync.place - 1) x) armed.split desync.2) in
    let split : h ≡ b.newer ++ b.desync ∷ (armed.newer ++ armed.latest ∷ armed.older) = b.split ∙ ap (λ (x : History). b.newer ++ b.desync ∷ x) armed.split in
    let whole : h ≡ (b.newer ++ b.desync ∷ armed.newer) ++ armed.latest ∷ armed.older = split ∙ sym (append_assoc b.newer (b.desync ∷ armed.newer) (armed.latest ∷ armed.older)) in
    let none : why_at_access part kept armed.older armed.latest.access ≡ None =
    none_before part kept bytes armed.latest.access armed.latest.place armed.older fits (record { newer = b.newer ++ b.desync ∷ armed.newer; split = whole }) (omega (arith, start.1, desync.0, desync.1)) in
    record {
      newer = b.newer;
      desync = b.desync;
      between = armed.newer;
      start = armed.latest;
      older = armed.older;
      split = split;
      desync_is = subst (λ (x : History). executes 13 x b.desync.access ≡ true) armed.split b.armed.0;
      start_is = armed.kind_is;
      has_idcode = matched_at part kept armed.older armed.latest.access armed.kind_is none;
      order = omega (arith, start.1, desync.0);
      within = desync.1;
    }

pub phase_started : (part : PartData) (kept : Kept) (wrapped : Bool) (bytes : List ℕ) → AreBytes bytes → 0 < (state_of part kept wrapped bytes).phase → HasStartAndDesync part.idcode (history_taken part kept bytes) (taken_of part kept bytes)
phase_started part kept wrapped bytes fits some = by (startup_progress (history_taken part kept bytes) (taken_of part kept bytes)) refl some
  where
    by : (p : StartupProgress) → startup_progress (history_taken part kept bytes) (taken_of part kept bytes) ≡ p → 0 < phase_by part p → HasStartAndDesync part.idcode (history_taken part kept bytes) (taken_of part kept bytes)
    by NotBegun e l = absurd (omega (arith, l))
    by (Begun cor0 count) e l = begun_started part kept bytes fits (begins_by (history_taken part kept bytes) (taken_of part kept bytes) cor0 count (taken_placed part kept bytes fits) e).0
