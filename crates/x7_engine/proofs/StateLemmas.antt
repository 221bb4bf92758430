-- Lemmas on specs/State: the state of a device that stands for its bytes, and of bytes after a stop.
use Rattle.std.proofs.Common.{◌≡◌, ◌+◌, ◌-◌, ◌<◌, ◌≤◌, ℕ, zero, suc, Bool, true, false, if◌then◌else◌, Option, None, Some, List, [], ◌∷◌, ◌++◌, length, refl, ap, sym, ◌∙◌, arith, length-append}
use Rattle.std.proofs.lemmas.Bool.{lt-ltb}
use Rattle.std.specs.Option.{option_or}
use Rattle.x7_words.specs.Word.{AreBytes}
use Rattle.x7_words.proofs.ListLemmas.{all_prefix}
use Rattle.x7_packets.specs.ByHand.{reading_of}
use Rattle.x7_packets.specs.History.{AllAfter, History, Placed, history_of, until}
use Rattle.x7_packets.specs.Reading.{is_synced}
use Rattle.x7_packets.proofs.GrowthLemmas.{IsLater, newer_of, placed_of, placed_within}
use Rattle.x7_part.specs.Part.{PartData}
use Rattle.x7_engine.specs.Course.{course_at}
use Rattle.x7_engine.specs.declared.kept.Kept.{Kept}
use Rattle.x7_engine.specs.declared.fault.Fault.TheVariants as fault
use Rattle.x7_engine.specs.declared.stop.StopCause.{StopCause}
use Rattle.x7_engine.specs.declared.stop.StopCause.TheVariants as stop
use Rattle.x7_engine.specs.Standing.{DeviceStandsFor, DeviceState}
use Rattle.x7_flow.specs.FrameMemory.{memory_of}
use Rattle.x7_engine.specs.State.{history_by, history_taken, last_counted, why_stopped, reads_of, state_by, state_of, first_stop_of_bytes, taken_by, taken_of, memory_of_bytes}
use Rattle.x7_engine.specs.Stop.{Stopped, why_at_access, first_stop_of_history, stop_at_place, stop_at_firing}
use Rattle.x7_engine.specs.Watching.{fired_or, watchdog_fires, first_firing}
use Rattle.x7_engine.specs.Value.{read_out}

why_at_end : (n : ℕ) (d : Option StopCause) → why_stopped (stop_at_place n d) ≡ d
why_at_end n None = refl
why_at_end n (Some why) = refl

taken_at_end : (n : ℕ) (d : Option StopCause) → taken_by (stop_at_place n d) n ≡ n
taken_at_end n None = refl
taken_at_end n (Some why) = refl

-- why the bytes stop a device is what the device holds
pub why_is : (part : PartData) (kept : Kept) (wrapped : Bool) (d : DeviceState) (bytes : List ℕ) → DeviceStandsFor part kept wrapped d bytes → why_stopped (first_stop_of_bytes part kept bytes) ≡ d.registers.values.stop
why_is part kept wrapped d bytes s = ap why_stopped s.stop_is ∙ why_at_end (length bytes) d.registers.values.stop

-- all bytes are taken
pub taken_is : (part : PartData) (kept : Kept) (wrapped : Bool) (d : DeviceState) (bytes : List ℕ) → DeviceStandsFor part kept wrapped d bytes → taken_of part kept bytes ≡ length bytes
taken_is part kept wrapped d bytes s = ap (λ (o : Option Stopped). taken_by o (length bytes)) s.stop_is ∙ taken_at_end (length bytes) d.registers.values.stop

-- ---- a stop is final

firing_later : (part : PartData) (kept : Kept) (h : History) (from count more place : ℕ) → first_firing part kept h from count ≡ Some place → first_firing part kept h from (count + more) ≡ Some place
firing_later part kept h from count zero place e =
    let same : count + 0 ≡ count = omega arith in
    ap (first_firing part kept h from) same ∙ e
firing_later part kept h from count (suc more) place e =
    let next : count + suc more ≡ suc (count + more) = omega arith in
    ap (first_firing part kept h from) next
    ∙ ap (λ (o : Option ℕ). fired_or o (watchdog_fires part kept h (from + (count + more) + 1)) (from + (count + more) + 1)) (firing_later part kept h from count more place e)

-- the first firing among bytes is also that among more of them
watchdog_later : (part : PartData) (kept : Kept) (h : History) (from n m : ℕ) (s : Stopped) → n ≤ m → stop_at_firing (first_firing part kept h from n) ≡ Some s → stop_at_firing (first_firing part kept h from m) ≡ Some s
watchdog_later part kept h from n m s l e = by_firing (first_firing part kept h from n) refl e
  where
    by_firing : (o : Option ℕ) → first_firing part kept h from n ≡ o → stop_at_firing o ≡ Some s → stop_at_firing (first_firing part kept h from m) ≡ Some s
    by_firing None f g = absurd cc
    by_firing (Some place) f g =
        let sum : m ≡ n + (m - n) = omega arith in
        ap stop_at_firing (ap (first_firing part kept h from) sum ∙ firing_later part kept h from n (m - n) place f) ∙ g

-- the first of three stops stays, where the third stays
later_why : (first why : Option Stopped) (now next : Option Stopped) (s : Stopped) → (now ≡ Some s → next ≡ Some s) → option_or first (option_or why now) ≡ Some s → option_or first (option_or why next) ≡ Some s
later_why (Some x) why now next s f e = e
later_why None (Some x) now next s f e = e
later_why None None now next s f e = f e

stop_later : (part : PartData) (kept : Kept) (h : History) (n m : ℕ) (s : Stopped) → n ≤ m → first_stop_of_history part kept h n ≡ Some s → first_stop_of_history part kept h m ≡ Some s
stop_later part kept [] n m s l e = watchdog_later part kept [] 0 n m s l e
stop_later part kept (x ∷ h) n m s l e =
    later_why (first_stop_of_history part kept h x.place) (stop_at_place x.place (why_at_access part kept h x.access)) _ _ s
    (watchdog_later part kept (x ∷ h) x.place (n - x.place) (m - x.place) s (omega arith)) e

-- newer accesses leave a stop
stop_stays_after : (part : PartData) (kept : Kept) (newer h : History) (n k m : ℕ) (s : Stopped) → AllAfter n k newer → n ≤ m → first_stop_of_history part kept h n ≡ Some s → first_stop_of_history part kept (newer ++ h) m ≡ Some s
stop_stays_after part kept [] h n k m s a l e = stop_later part kept h n m s l e
stop_stays_after part kept (x ∷ newer) h n k m s a l e =
    let before : first_stop_of_history part kept (newer ++ h) x.place ≡ Some s = stop_stays_after part kept newer h n k x.place s a.2 (omega (arith, a.0)) e in
    ap (λ (o : Option Stopped). option_or o (option_or (stop_at_place x.place (why_at_access part kept (newer ++ h) x.access)) (stop_at_firing (first_firing part kept (x ∷ (newer ++ h)) x.place (m - x.place))))) before

-- the first stop of bytes is that of further bytes too
pub stop_is_final_stop : (part : PartData) (kept : Kept) (bytes more : List ℕ) (s : Stopped) → AreBytes (bytes ++ more) → first_stop_of_bytes part kept bytes ≡ Some s → first_stop_of_bytes part kept (bytes ++ more) ≡ Some s
stop_is_final_stop part kept bytes more s f e =
    let n : IsLater (length bytes) (history_of bytes) (bytes ++ more) = newer_of bytes more f in
    ap (λ (h : History). first_stop_of_history part kept h (length (bytes ++ more))) n.1
    ∙ stop_stays_after part kept n.0 (history_of bytes) (length bytes) (length (bytes ++ more)) (length (bytes ++ more)) s n.2 (omega (arith, length-append bytes more)) e

-- the place of a stop lies in the bytes
firing_by_sooner : (from count place : ℕ) (o : Option ℕ) (b : Bool) → (o ≡ Some place → (from < place) × (place ≤ from + count)) → fired_or o b (from + count + 1) ≡ Some place → (from < place) × (place ≤ from + suc count)
firing_by_sooner from count place None true f g = let p : from + count + 1 ≡ place = cc in (omega arith, omega arith)
firing_by_sooner from count place None false f g = absurd cc
firing_by_sooner from count place (Some q) b f g = ((f g).0, omega (arith, (f g).1))

pub firing_within : (part : PartData) (kept : Kept) (h : History) (from count place : ℕ) → first_firing part kept h from count ≡ Some place → (from < place) × (place ≤ from + count)
firing_within part kept h from zero place e = absurd cc
firing_within part kept h from (suc count) place e =
    firing_by_sooner from count place (first_firing part kept h from count) (watchdog_fires part kept h (from + count + 1)) (firing_within part kept h from count place) e

watchdog_within : (part : PartData) (kept : Kept) (h : History) (from count n : ℕ) (s : Stopped) → stop_at_firing (first_firing part kept h from count) ≡ Some s → from + count ≤ n → (0 < s.place) × (s.place ≤ n)
watchdog_within part kept h from count n s e l = by_firing (first_firing part kept h from count) (firing_within part kept h from count) e
  where
    by_firing : (o : Option ℕ) → ((place : ℕ) → o ≡ Some place → (from < place) × (place ≤ from + count)) → stop_at_firing o ≡ Some s → (0 < s.place) × (s.place ≤ n)
    by_firing None f g = absurd cc
    by_firing (Some place) f g =
        let w : (from < place) × (place ≤ from + count) = f place refl in
        let p : place ≡ s.place = cc in
        (omega (arith, w.0), omega (arith, w.1))

some_why : (place : ℕ) (o : Option StopCause) (s : Stopped) → stop_at_place place o ≡ Some s → s.place ≡ place
some_why place None s e = absurd cc
some_why place (Some why) s e = cc

-- which of three stops comes
of_three : {A : Type 0} (a b c : Option A) (x : A) (P : Type 0) → (a ≡ Some x → P) → (b ≡ Some x → P) → (c ≡ Some x → P) → option_or a (option_or b c) ≡ Some x → P
of_three (Some y) b c x P f g h e = f e
of_three None (Some y) c x P f g h e = g e
of_three None None c x P f g h e = h e

stop_within : (part : PartData) (kept : Kept) (h : History) (n : ℕ) (s : Stopped) → Placed n h → first_stop_of_history part kept h n ≡ Some s → (0 < s.place) × (s.place ≤ n)
stop_within part kept [] n s p e = watchdog_within part kept [] 0 n n s e (omega arith)
stop_within part kept (x ∷ h) n s p e =
    of_three (first_stop_of_history part kept h x.place) (stop_at_place x.place (why_at_access part kept h x.access)) (stop_at_firing (first_firing part kept (x ∷ h) x.place (n - x.place))) s ((0 < s.place) × (s.place ≤ n))
    (λ f. let w : (0 < s.place) × (s.place ≤ x.place) = stop_within part kept h x.place s (placed_within (x.place - 1) x.place h (omega arith) p.2) f in (w.0, omega (arith, w.1, p.1)))
    (λ f. let w : s.place ≡ x.place = some_why x.place (why_at_access part kept h x.access) s f in (omega (arith, p.0), omega (arith, p.1)))
    (λ f. watchdog_within part kept (x ∷ h) x.place (n - x.place) n s f (omega (arith, p.1)))
    e

pub stop_place : (part : PartData) (kept : Kept) (bytes : List ℕ) (s : Stopped) → AreBytes bytes → first_stop_of_bytes part kept bytes ≡ Some s → (0 < s.place) × (s.place ≤ length bytes)
stop_place part kept bytes s f e = stop_within part kept (history_of bytes) (length bytes) s (placed_of bytes f) e

pub counted_least : (why : StopCause) (place : ℕ) → last_counted why place ≤ place
counted_least (stop.Fault (fault.Packet w)) place = omega arith
counted_least (stop.Fault (fault.Id want got)) place = omega arith
counted_least (stop.Fault (fault.Crc want got)) place = omega arith
counted_least (stop.Fault (fault.Address far)) place = omega arith
counted_least (stop.Fault fault.Overrun) place = omega arith
counted_least (stop.Fault fault.Multi) place = omega arith
counted_least (stop.Fault fault.Encrypted) place = omega arith
counted_least (stop.Fault fault.Watchdog) place = omega arith
counted_least stop.Iprog place = omega arith

-- accesses past a place don't count up to it
after_it : (n k m : ℕ) (newer h : History) → AllAfter n m newer → k ≤ n → until k (newer ++ h) ≡ until k h
after_it n k m [] h a l = refl
after_it n k m (x ∷ newer) h a l = ap (λ (b : Bool). if b then until k (newer ++ h) else x ∷ (newer ++ h)) (lt-ltb k x.place (omega (arith, a.0))) ∙ after_it n k m newer h a.2 l

-- the history taken is that of further bytes too
history_final : (part : PartData) (kept : Kept) (bytes more : List ℕ) (s : Stopped) → AreBytes (bytes ++ more) → first_stop_of_bytes part kept bytes ≡ Some s → history_taken part kept (bytes ++ more) ≡ history_taken part kept bytes
history_final part kept bytes more s f e =
    let n : IsLater (length bytes) (history_of bytes) (bytes ++ more) = newer_of bytes more f in
    let least : last_counted s.why s.place ≤ length bytes = omega (arith, counted_least s.why s.place, (stop_place part kept bytes s (all_prefix (λ b. b < 256) bytes more f) e).1) in
    ap (λ (o : Option Stopped). history_by o (history_of (bytes ++ more))) (stop_is_final_stop part kept bytes more s f e)
    ∙ ap (until (last_counted s.why s.place)) n.1
    ∙ after_it (length bytes) (last_counted s.why s.place) (length (bytes ++ more)) n.0 (history_of bytes) n.2 least
    ∙ sym (ap (λ (o : Option Stopped). history_by o (history_of bytes)) e)

pub stop_is_final_reads : (part : PartData) (kept : Kept) (bytes more : List ℕ) (s : Stopped) → AreBytes (bytes ++ more) → first_stop_of_bytes part kept bytes ≡ Some s → reads_of part kept (bytes ++ more) ≡ reads_of part kept bytes
stop_is_final_reads part kept bytes more s f e = ap (read_out part kept) (history_final part kept bytes more s f e)

pub stop_is_final_memory : (part : PartData) (kept : Kept) (bytes more : List ℕ) (s : Stopped) → AreBytes (bytes ++ more) → first_stop_of_bytes part kept bytes ≡ Some s → memory_of_bytes part kept (bytes ++ more) ≡ memory_of_bytes part kept bytes
stop_is_final_memory part kept bytes more s f e = ap (memory_of part) (history_final part kept bytes more s f e)

-- after a stop it doesn't matter whether the bytes end in a session
stopped_state : (part : PartData) (kept : Kept) (wrapped : Bool) (why : StopCause) (h : History) (n : ℕ) (a b : Bool) → state_by (course_at part kept h n) wrapped (Some why) a ≡ state_by (course_at part kept h n) wrapped (Some why) b
stopped_state part kept wrapped (stop.Fault f) h n a b = refl
stopped_state part kept wrapped stop.Iprog h n a b = refl

pub stop_is_final_state : (part : PartData) (kept : Kept) (wrapped : Bool) (bytes more : List ℕ) (s : Stopped) → AreBytes (bytes ++ more) → first_stop_of_bytes part kept bytes ≡ Some s → state_of part kept wrapped (bytes ++ more) ≡ state_of part kept wrapped bytes
stop_is_final_state part kept wrapped bytes more s f e =
    let later : first_stop_of_bytes part kept (bytes ++ more) ≡ Some s = stop_is_final_stop part kept bytes more s f e in
    let session : Bool = is_synced (reading_of (bytes ++ more)).place in
    ap (λ (o : Option Stopped). state_by (course_at part kept (history_taken part kept (bytes ++ more)) (taken_by o (length (bytes ++ more)))) wrapped (why_stopped o) session) later
    ∙ ap (λ (h : History). state_by (course_at part kept h s.place) wrapped (Some s.why) session) (history_final part kept bytes more s f e)
    ∙ stopped_state part kept wrapped s.why (history_taken part kept bytes) s.place session (is_synced (reading_of bytes).place)
    ∙ sym (ap (λ (o : Option Stopped). state_by (course_at part kept (history_taken part kept bytes) (taken_by o (length bytes))) wrapped (why_stopped o) (is_synced (reading_of bytes).place)) e)

-- bytes that end before the place of a stop have none
pub no_stop_before : (part : PartData) (kept : Kept) (bytes more : List ℕ) (s : Stopped) → AreBytes (bytes ++ more) → first_stop_of_bytes part kept (bytes ++ more) ≡ Some s → length bytes < s.place → first_stop_of_bytes part kept bytes ≡ None
no_stop_before part kept bytes more s f e l = by_stop (first_stop_of_bytes part kept bytes) refl
  where
    by_stop : (o : Option Stopped) → first_stop_of_bytes part kept bytes ≡ o → first_stop_of_bytes part kept bytes ≡ None
    by_stop None g = g
    by_stop (Some t) g =
        let same : t ≡ s = (let later : first_stop_of_bytes part kept (bytes ++ more) ≡ Some t = stop_is_final_stop part kept bytes more t f g in cc) in
        absurd (omega (arith, (stop_place part kept bytes t (all_prefix (λ b. b < 256) bytes more f) g).1, ap (λ (x : Stopped). x.place) same, l))

-- each byte before the place of a stop counts
pub counted_most : (why : StopCause) (place n : ℕ) → n < place → n ≤ last_counted why place
counted_most (stop.Fault (fault.Packet w)) place n l = omega (arith, l)
counted_most (stop.Fault (fault.Id want got)) place n l = omega (arith, l)
counted_most (stop.Fault (fault.Crc want got)) place n l = omega (arith, l)
counted_most (stop.Fault (fault.Address far)) place n l = omega (arith, l)
counted_most (stop.Fault fault.Overrun) place n l = omega (arith, l)
counted_most (stop.Fault fault.Multi) place n l = omega (arith, l)
counted_most (stop.Fault fault.Encrypted) place n l = omega (arith, l)
counted_most (stop.Fault fault.Watchdog) place n l = omega (arith, l)
counted_most stop.Iprog place n l = omega (arith, l)

-- the first of two is none where both are
pub parts_none : {A : Type 0} (first second : Option A) → option_or first second ≡ None → (first ≡ None) × (second ≡ None)
parts_none None second e = (refl, e)
parts_none (Some x) second e = absurd (cc)
