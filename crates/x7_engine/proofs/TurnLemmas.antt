-- Lemmas on one run more of a stream: the accesses up to a byte, and the stop at it.
use Rattle.std.proofs.Common.{◌≡◌, ◌==◌, ◌+◌, ◌-◌, ◌*◌, ◌<◌, ◌≤◌, ◌⊎◌, inl, inr, ℕ, Bool, true, false, if◌then◌else◌, Option, None, Some, List, [], ◌∷◌, ◌++◌, length, take, drop, refl, ap, sym, subst, ◌∙◌, append-nil, arith}
use Rattle.std.specs.Option.{is_some, option_or}
use Rattle.std.specs.Prelude.{nat_lt}
use Rattle.std.proofs.lemmas.Bool.{lt-ltb}
use Rattle.std.proofs.lemmas.Bool.Decides.{nat_tests}
use Rattle.std.proofs.lemmas.List.{length-take-le, take-append-drop}
use Rattle.x7_packets.specs.declared.cutter.Cut.{Cut}
use Rattle.x7_packets.specs.declared.cutter.Cut.TheVariants.{Body, Head, Need, Skip, Sync, Word}
use Rattle.x7_packets.specs.declared.header.Step.{Step}
use Rattle.x7_packets.specs.declared.header.Step.TheVariants as step
use Rattle.x7_packets.specs.History.{Bad, History, Placed, Read, Write, entered, entered_all, entry, until}
use Rattle.x7_packets.specs.Packet.{payload_steps}
use Rattle.x7_packets.proofs.GrowthLemmas.{placed_within, until_placed}
use Rattle.x7_packets.proofs.HistoryLemmas.{entered_all_append}
use Rattle.x7_part.specs.Part.{PartData}
use Rattle.x7_engine.specs.Course.{course_at}
use Rattle.x7_engine.specs.declared.fault.Fault.TheVariants as fault
use Rattle.x7_engine.specs.declared.kept.Kept.{Kept}
use Rattle.x7_engine.specs.declared.stop.StopCause.{StopCause}
use Rattle.x7_engine.specs.declared.stop.StopCause.TheVariants as stop
use Rattle.x7_engine.specs.Clock.{ClockState, ClockTakes, newest_place}
use Rattle.x7_engine.specs.Entering.{run_entered}
use Rattle.x7_engine.specs.Standing.{FramesAre, HasNoWord, IsNextAccess, RegistersStandFor, RegistersState, counted_in, frames_due}
use Rattle.x7_engine.specs.State.{history_by, last_counted}
use Rattle.x7_engine.specs.Stop.{Stopped, why_at_access, first_stop_of_history, stop_at_place, stop_at_firing}
use Rattle.x7_engine.specs.Value.{read_out}
use Rattle.x7_engine.specs.Watching.{first_firing}
use Rattle.x7_engine.proofs.ClockLemmas.{firing_more, stop_more_bytes}
use Rattle.x7_engine.proofs.StateLemmas.{firing_within, counted_least}

-- ---- accesses after a place

step_after : (m p : ℕ) (s : Step) (h : History) → m < p → until m (entered p s h) ≡ until m h
step_after m p (step.Payload r w) h l = ap (λ (b : Bool). if b then until m h else entry (Write r w) p ∷ h) (lt-ltb m p l)
step_after m p (step.Read r n) h l =
    elim (n == 0) as (λ b. until m (if b then h else entry (Read r n) p ∷ h) ≡ until m h) [ true ↦ refl | false ↦ ap (λ (b : Bool). if b then until m h else entry (Read r n) p ∷ h) (lt-ltb m p l) ]
step_after m p (step.Bad w) h l = ap (λ (b : Bool). if b then until m h else entry (Bad w) p ∷ h) (lt-ltb m p l)
step_after m p step.Filler h l = refl
step_after m p step.Nop h l = refl
step_after m p (step.Open r n) h l = refl

steps_after : (m p : ℕ) (ss : List (ℕ × Step)) (h : History) → m < p + 4 → until m (entered_all p ss h) ≡ until m h
steps_after m p [] h l = refl
steps_after m p (s ∷ ss) h l = steps_after m (p + 4) ss (entered (p + 4) s.1 h) (omega (arith, l)) ∙ step_after m (p + 4) s.1 h l

-- up to a byte before the end of word k + 1, the accesses of words are those of the first k
pub prefix_until : (n k m : ℕ) (ss : List (ℕ × Step)) (h : History) → k ≤ length ss → m < n + 4 * k + 4 → until m (entered_all n ss h) ≡ until m (entered_all n (take k ss) h)
prefix_until n k m ss h l e =
    let count : length (take k ss) ≡ k = length-take-le k ss l in
    ap (λ t. until m (entered_all n t h)) (sym (take-append-drop k ss))
    ∙ ap (until m) (entered_all_append n (take k ss) (drop k ss) h)
    ∙ steps_after m (n + 4 * length (take k ss)) (drop k ss) (entered_all n (take k ss) h) (omega (arith, count, e))

-- up to a byte before its end, a word more enters no access
pub step_until : (n m p : ℕ) (s : Step) (h : History) → Placed n h → n ≤ m → m < p → until m (entered p s h) ≡ h
step_until n m p s h a l e = step_after m p s h e ∙ until_placed m h (placed_within n m h l a)

pub until_until : (k m : ℕ) (h : History) → k ≤ m → until k (until m h) ≡ until k h
until_until k m [] l = refl
until_until k m (e ∷ h) l = by (until_until k m h l) (nat_lt m e.place) refl
  where
    by : until k (until m h) ≡ until k h → (b : Bool) → nat_lt m e.place ≡ b → until k (if b then until m h else e ∷ h) ≡ until k (e ∷ h)
    by i true f =
        let after : m < e.place = grind (arith, nat_tests, f) in
        i ∙ sym (ap (λ (b : Bool). if b then until k h else e ∷ h) (lt-ltb k e.place (omega (arith, l, after))))
    by i false f = refl

-- ---- the stop at the last byte taken

pub counted_within : (d : Option StopCause) (n : ℕ) → counted_in d n ≤ n
counted_within None n = omega arith
counted_within (Some why) n = counted_least why n

-- the history taken, where the stop comes at the last byte
pub history_until : (d : Option StopCause) (m : ℕ) (h : History) → history_by (stop_at_place m d) (until m h) ≡ until (counted_in d m) h
history_until None m h = refl
history_until (Some why) m h = until_until (last_counted why m) m h (counted_least why m)

-- the access at the last byte doesn't matter for a stop that comes before it
stop_at_last : (part : PartData) (kept : Kept) (k m : ℕ) (h : History) (s : Stopped) → Placed k h → first_stop_of_history part kept (until (m - 1) h) m ≡ Some s → first_stop_of_history part kept (until m h) m ≡ Some s
stop_at_last part kept k m [] s p e = e
stop_at_last part kept k m (x ∷ h) s p e = by (λ q. stop_at_last part kept (x.place - 1) m h s p.2 q) (nat_lt m x.place) (nat_lt (m - 1) x.place) refl refl e
  where
    by : (first_stop_of_history part kept (until (m - 1) h) m ≡ Some s → first_stop_of_history part kept (until m h) m ≡ Some s)
        → (b c : Bool) → nat_lt m x.place ≡ b → nat_lt (m - 1) x.place ≡ c → first_stop_of_history part kept (if c then until (m - 1) h else x ∷ h) m ≡ Some s → first_stop_of_history part kept (if b then until m h else x ∷ h) m ≡ Some s
    by i true true f g e = i e
    by i true false f g e = absurd (let a : m < x.place = grind (arith, nat_tests, f) in let b : x.place ≤ m - 1 = grind (arith, nat_tests, g) in omega (arith, a, b))
    by i false false f g e = e
    by i false true f g e =
        let a : x.place ≤ m = grind (arith, nat_tests, f) in
        let b : m - 1 < x.place = grind (arith, nat_tests, g) in
        let here : m ≡ x.place = omega (arith, a, b, p.0) in
        let all : until (m - 1) h ≡ h = until_placed (m - 1) h (placed_within (x.place - 1) (m - 1) h (omega (arith, here)) p.2) in
        let before : first_stop_of_history part kept h x.place ≡ Some s = ap (first_stop_of_history part kept h) (sym here) ∙ sym (ap (λ (t : History). first_stop_of_history part kept t m) all) ∙ e in
        ap (λ (o : Option Stopped). option_or o (option_or (stop_at_place x.place (why_at_access part kept h x.access)) (stop_at_firing (first_firing part kept (x ∷ h) x.place (m - x.place))))) before

pub stop_until : (part : PartData) (kept : Kept) (d : Option StopCause) (k m : ℕ) (h : History) → Placed k h → first_stop_of_history part kept (until (counted_in d m) h) m ≡ stop_at_place m d → first_stop_of_history part kept (until m h) m ≡ stop_at_place m d
stop_until part kept None k m h p e = e
stop_until part kept (Some (stop.Fault (fault.Packet w))) k m h p e = e
stop_until part kept (Some (stop.Fault (fault.Id want got))) k m h p e = e
stop_until part kept (Some (stop.Fault (fault.Crc want got))) k m h p e = e
stop_until part kept (Some (stop.Fault (fault.Address far))) k m h p e = e
stop_until part kept (Some (stop.Fault fault.Overrun)) k m h p e = e
stop_until part kept (Some (stop.Fault fault.Multi)) k m h p e = e
stop_until part kept (Some (stop.Fault fault.Encrypted)) k m h p e = e
stop_until part kept (Some (stop.Fault fault.Watchdog)) k m h p e = stop_at_last part kept k m h (record { place = m; why = stop.Fault fault.Watchdog }) p e
stop_until part kept (Some stop.Iprog) k m h p e = e

-- ---- registers, bytes more

pub newest_within : (n : ℕ) (h : History) → Placed n h → newest_place h ≤ n
newest_within n [] p = omega arith
newest_within n (e ∷ h) p = p.1

-- the registers after bytes at none of which the watchdog fires
pub ticked : (part : PartData) (kept : Kept) (d : RegistersState) (clock : ClockState) (h : History) (n count m : ℕ) → m ≡ n + count → d.values.stop ≡ None → RegistersStandFor part kept d h n → ClockTakes (course_at part kept h n) clock count None
    → RegistersStandFor part kept (record d { values = record d.values { clock = clock } }) h m
ticked part kept d clock h n count m i e s t = subst (λ (x : ℕ). RegistersStandFor part kept (record d { values = record d.values { clock = clock } }) h x) (sym i) record {
  places = placed_within n (n + count) h (omega arith) s.places;
  words = s.words;
  controls = s.controls;
  progress = s.progress;
  kind = s.kind;
  before = s.before;
  clock = t.0;
  stop =
      stop_more_bytes part kept h n count (newest_within n h s.places)
      ∙ ap (λ (o : Option Stopped). option_or o (stop_at_firing (first_firing part kept h n count))) (s.stop ∙ ap (stop_at_place n) e)
      ∙ ap stop_at_firing t.1
      ∙ sym (ap (stop_at_place (n + count)) e);
  frames = s.frames;
  due_kind = s.due_kind;
}

-- the first firing among bytes is also that among those up to it
some_some : (o p : Option ℕ) (k : ℕ) → option_or o p ≡ Some k → (o ≡ Some k) ⊎ ((o ≡ None) × (p ≡ Some k))
some_some None p k e = inr (refl, e)
some_some (Some x) p k e = inl e

fires_last : (part : PartData) (kept : Kept) (h : History) (n count k : ℕ) → 0 < k → k ≤ count → first_firing part kept h n count ≡ Some (n + k) → first_firing part kept h n k ≡ Some (n + k)
fires_last part kept h n count k a b e =
    let sum : k + (count - k) ≡ count = omega (arith, b) in
    elim (some_some (first_firing part kept h n k) (first_firing part kept h (n + k) (count - k)) (n + k) (sym (firing_more part kept h n k (count - k)) ∙ ap (first_firing part kept h n) sum ∙ e)) [
      | inl f ↦ f
      | inr f ↦ absurd (omega (arith, (firing_within part kept h (n + k) (count - k) (n + k) f.1).0))
    ]

-- the frames stay where the watchdog fires
frames_fired : (part : PartData) (d : RegistersState) (h : History) (due : ℕ) → d.values.stop ≡ None → FramesAre part d.frames d.values.stop h due → FramesAre part d.frames (Some (stop.Fault fault.Watchdog)) h due
frames_fired part d h due e s =
    let now : FramesAre part d.frames None h due = subst (λ (o : Option StopCause). FramesAre part d.frames o h due) e s in
    record { stands = now.stands; memory_same = now.memory_same; far_same = now.far_same }

-- the registers after bytes up to the one at which the watchdog fires
pub fired : (part : PartData) (kept : Kept) (d : RegistersState) (clock : ClockState) (h : History) (n count k m : ℕ) → m ≡ n + k → d.values.stop ≡ None → RegistersStandFor part kept d h n → ClockTakes (course_at part kept h n) clock count (Some k)
    → RegistersStandFor part kept (record d { values = record d.values { clock = clock; stop = Some (stop.Fault fault.Watchdog) } }) h m
fired part kept d clock h n count k m i e s t =
    let rest : n + count ≡ n + k + (count - k) = omega (arith, t.1) in
    let first : first_firing part kept h n k ≡ Some (n + k) = fires_last part kept h n count k t.0 t.1 t.3 in
    subst (λ (x : ℕ). RegistersStandFor part kept (record d { values = record d.values { clock = clock; stop = Some (stop.Fault fault.Watchdog) } }) h x) (sym i) record {
      places = placed_within n (n + k) h (omega arith) s.places;
      words = s.words;
      controls = s.controls;
      progress = s.progress;
      kind = s.kind;
      before = s.before;
      clock = t.2;
      stop =
          stop_more_bytes part kept h n k (newest_within n h s.places)
          ∙ ap (λ (o : Option Stopped). option_or o (stop_at_firing (first_firing part kept h n k))) (s.stop ∙ ap (stop_at_place n) e)
          ∙ ap stop_at_firing first;
      frames = frames_fired part d h (frames_due d.values.due) e s.frames;
      due_kind = s.due_kind;
    }

-- the registers are those of all accesses up to the last byte that counts
pub all_counted : (part : PartData) (kept : Kept) (d : RegistersState) (h : History) (m : ℕ) → counted_in d.values.stop m ≡ m → RegistersStandFor part kept d h m → RegistersStandFor part kept d (until (counted_in d.values.stop m) h) m
all_counted part kept d h m e s = subst (λ (t : History). RegistersStandFor part kept d t m) (sym (ap (λ (k : ℕ). until k h) e ∙ until_placed m h s.places)) s

-- at a firing of the watchdog a word that ends there, or after it, enters no access
pub fired_until : (d : Option StopCause) (n count left : ℕ) (s : Step) (h : History) → is_some d ≡ true → ((why : StopCause) → d ≡ Some why → (why ≡ stop.Fault fault.Watchdog) × (left < count)) → Placed n h
    → until (counted_in d (n + (count - left))) (entered (n + count) s h) ≡ h
fired_until None n count left s h e f p = absurd cc
fired_until (Some why) n count left s h e f p =
    let w : (why ≡ stop.Fault fault.Watchdog) × (left < count) = f why refl in
    ap (λ (l : StopCause). until (last_counted l (n + (count - left))) (entered (n + count) s h)) w.0
    ∙ step_until n (n + (count - left) - 1) (n + count) s h p (omega (arith, w.1)) (omega (arith, w.1))

-- ---- the words read out

pub write_until : (part : PartData) (kept : Kept) (n m place register w : ℕ) (h : History) → Placed n h → n ≤ m → read_out part kept (until m (entry (Write register w) place ∷ h)) ≡ read_out part kept h
write_until part kept n m place register w h p l = by (nat_lt m place)
  where
    by : (b : Bool) → read_out part kept (if b then until m h else entry (Write register w) place ∷ h) ≡ read_out part kept h
    by true = ap (read_out part kept) (until_placed m h (placed_within n m h l p))
    by false = append-nil (read_out part kept h)

pub writes_until : (part : PartData) (kept : Kept) (n m register : ℕ) (ws : List ℕ) (h : History) → Placed n h → n ≤ m → read_out part kept (until m (entered_all n (payload_steps register ws) h)) ≡ read_out part kept h
writes_until part kept n m register [] h p l = ap (read_out part kept) (until_placed m h (placed_within n m h l p))
writes_until part kept n m register (w ∷ ws) h p l =
    by (λ far. writes_until part kept (n + 4) m register ws (entry (Write register w) (n + 4) ∷ h) (omega arith, omega arith, placed_within n (n + 4 - 1) h (omega arith) p) far) (nat_lt m (n + 4)) refl
  where
    by : (n + 4 ≤ m → read_out part kept (until m (entered_all (n + 4) (payload_steps register ws) (entry (Write register w) (n + 4) ∷ h))) ≡ read_out part kept (entry (Write register w) (n + 4) ∷ h))
        → (b : Bool) → nat_lt m (n + 4) ≡ b → read_out part kept (until m (entered_all n (payload_steps register (w ∷ ws)) h)) ≡ read_out part kept h
    by i true f =
        let near : m < n + 4 = grind (arith, nat_tests, f) in
        ap (read_out part kept) (steps_after m n (payload_steps register (w ∷ ws)) h near ∙ until_placed m h (placed_within n m h l p))
    by i false f =
        let far : n + 4 ≤ m = grind (arith, nat_tests, f) in
        i far
        ∙ append-nil (read_out part kept h)

pub no_rest : (cut more rest : List ℕ) → cut ≡ more ++ rest → length rest ≡ 0 → more ≡ cut
no_rest cut more [] e l = sym (e ∙ append-nil more)
no_rest cut more (x ∷ rest) e l = absurd (omega arith)

pub none_there : {A : Type 0} (o : Option A) → is_some o ≡ false → o ≡ None
none_there None e = refl
none_there (Some x) e = absurd cc

-- an access may come next after some bytes more
pub next_at : (n count : ℕ) (h : History) → 0 < count → Placed n h → IsNextAccess (n + count) h
next_at n count h l p = (omega (arith, l), placed_within n (n + count - 1) h (omega (arith, l)) p)

pub until_all : (part : PartData) (kept : Kept) (d : RegistersState) (h : History) (m : ℕ) → counted_in d.values.stop m ≡ m → RegistersStandFor part kept d h m → until (counted_in d.values.stop m) h ≡ h
until_all part kept d h m e s = ap (λ (k : ℕ). until k h) e ∙ until_placed m h s.places

-- where a byte is taken, no access before it is left out
pub counted_more : (d : Option StopCause) (n k : ℕ) → 0 < k → n ≤ counted_in d (n + k)
counted_more None n k l = omega arith
counted_more (Some (stop.Fault (fault.Packet w))) n k l = omega arith
counted_more (Some (stop.Fault (fault.Id want got))) n k l = omega arith
counted_more (Some (stop.Fault (fault.Crc want got))) n k l = omega arith
counted_more (Some (stop.Fault (fault.Address far))) n k l = omega arith
counted_more (Some (stop.Fault fault.Overrun)) n k l = omega arith
counted_more (Some (stop.Fault fault.Multi)) n k l = omega arith
counted_more (Some (stop.Fault fault.Encrypted)) n k l = omega arith
counted_more (Some (stop.Fault fault.Watchdog)) n k l = omega (arith, l)
counted_more (Some stop.Iprog) n k l = omega arith

-- bytes without a word leave all accesses
pub quiet_until : (d : Option StopCause) (n count left : ℕ) (h : History) → ((why : StopCause) → d ≡ Some why → (why ≡ stop.Fault fault.Watchdog) × (left < count)) → Placed n h → until (counted_in d (n + (count - left))) h ≡ h
quiet_until None n count left h f p = until_placed (n + (count - left)) h (placed_within n (n + (count - left)) h (omega arith) p)
quiet_until (Some why) n count left h f p =
    let w : (why ≡ stop.Fault fault.Watchdog) × (left < count) = f why refl in
    ap (λ (l : StopCause). until (last_counted l (n + (count - left))) h) w.0
    ∙ until_placed (n + (count - left) - 1) h (placed_within n (n + (count - left) - 1) h (omega (arith, w.1)) p)

-- a run without a word enters no access
pub none_entered : (run : Cut) (from : ℕ) (h : History) → HasNoWord run → run_entered run from h ≡ h
none_entered Need from h none = refl
none_entered (Skip bytes) from h none = refl
none_entered Sync from h none = refl
none_entered (Head w s) from h none = absurd none
none_entered (Word register w) from h none = absurd none
none_entered (Body register bytes) from h none = absurd none
