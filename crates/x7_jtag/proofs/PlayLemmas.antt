-- Lemmas on specs/Play: clocks one after another.
use Rattle.std.proofs.Common.{◌≡◌, ℕ, zero, suc, ◌+◌, ◌*◌, ◌-◌, ◌^◌, ◌<◌, ◌≤◌, ◌==◌, Bool, true, false, if◌then◌else◌, List, [], ◌∷◌, ◌++◌, length, take, drop, replicate, slice_index_or, Option, Some, None, refl, ap, ap₂, sym, subst, ◌∙◌, append_assoc, append-nil, length-append, length-drop, arith}
use Rattle.std.specs.List.{fold, slice_get}
use Rattle.std.proofs.Math.Seq.{take-add}
use Rattle.std.proofs.lemmas.List.{nil_from_length, take_all}
use Rattle.std.proofs.lemmas.List.Sums.{fold-append}
use Rattle.x7_part.specs.Part.{PartData}
use Rattle.x7_engine.specs.Standing.{DeviceState}
use Rattle.x7_jtag.specs.declared.play.Differ.{Differ}
use Rattle.x7_jtag.specs.declared.state.State.{State}
use Rattle.x7_jtag.specs.declared.state.State.TheVariants as state
use Rattle.x7_svf.specs.declared.statement.Scan.{Scan}
use Rattle.x7_svf.specs.declared.statement.ScannedRegister.{ScannedRegister}
use Rattle.x7_svf.specs.declared.statement.ScannedRegister.TheVariants as scanned
use Rattle.x7_svf.specs.declared.statement.Statement.{Statement}
use Rattle.x7_svf.specs.declared.statement.Statement.TheVariants as statement
use Rattle.x7_jtag.specs.Clocks.{clock, clocks, clocks_of, from_exit, from_reset, inner_clocks, shift_clocks, to_shift}
use Rattle.x7_svf.specs.Bits.{bytes_bits}
use Rattle.x7_jtag.specs.Play.{MayClock, after_clocks, scan_bit, difference, difference_from, tdo_differs_at, first_by, first_from, first_found, differs_from_wanted, least, tdo_at, walk_clocks}
use Rattle.x7_jtag.specs.Port.{Port, after_clock, new_port, port_after, tdo_of}
use Rattle.x7_jtag.specs.State.{PortClock, moved_by, state_after, test_logic_reset}
use Rattle.x7_jtag.specs.Tap.{CanAllBeOffered, CanBeOffered, TapStandsFor, TapState}
use Rattle.x7_jtag.proofs.ShiftLemmas.{inner_append}
use Rattle.x7_jtag.proofs.ShortLemmas.{held_short, taken_short}

-- ---- one clock

pub ready_fits : (t : TapState) (d : DeviceState) (more : ℕ) → MayClock t d more → 0 < more → CanBeOffered d
ready_fits t d more r l = omega (arith, taken_short r.part t d r.before r.stands, r.few, l)

pub ready_less : (t : TapState) (d : DeviceState) (more less : ℕ) → less ≤ more → MayClock t d more → MayClock t d less
ready_less t d more less l r = record { part = r.part; before = r.before; stands = r.stands; few = omega (arith, l, r.few) }

pub ready_on : (t u : TapState) (d e : DeviceState) (more later : ℕ) (r : MayClock t d more) (ds : List PortClock) → TapStandsFor r.part u e (r.before ++ ds) → length ds + later ≤ more → MayClock u e later
ready_on t u d e more later r ds s l = record { part = r.part; before = r.before ++ ds; stands = s; few = omega (arith, l, r.few, length-append r.before ds) }

pub stands_at : (part : PartData) (t : TapState) (d : DeviceState) (cs ds : List PortClock) → cs ≡ ds → TapStandsFor part t d cs → TapStandsFor part t d ds
stands_at part t d cs ds e s = subst (TapStandsFor part t d) e s

pub after : (part : PartData) (cs ds : List PortClock) → port_after part (cs ++ ds) ≡ after_clocks part (port_after part cs) ds
after part cs ds = fold-append (after_clock part) new_port cs ds

-- ---- a walk

abbrev pub Walked : TapState → DeviceState → TapState → DeviceState → List Bool → List Bool → Type 0
Walked t d u e path rest = (done : List Bool) × (done ++ rest ≡ path) × ((part : PartData) (cs : List PortClock) → TapStandsFor part t d cs → TapStandsFor part u e (cs ++ walk_clocks done))

pub walk_begins : (t : TapState) (d : DeviceState) (path : List Bool) → Walked t d t d path path
walk_begins t d path = ([], refl, λ part cs s. stands_at part t d cs (cs ++ []) (sym (append-nil cs)) s)

walk_more : (done : List Bool) (b : Bool) → walk_clocks (done ++ b ∷ []) ≡ walk_clocks done ++ clock b false ∷ []
walk_more [] b = refl
walk_more (c ∷ cs) b = ap (λ t. clock c false ∷ t) (walk_more cs b)

first_bit : (xs : List Bool) → 0 < length xs → xs ≡ slice_index_or xs 0 false ∷ drop 1 xs
first_bit [] l = absurd (omega (arith, l))
first_bit (x ∷ xs) l = refl

rest_bits : (xs : List Bool) → take (length xs - 1) (drop 1 xs) ≡ drop 1 xs
rest_bits xs = take_all (length xs - 1) (drop 1 xs) (omega (arith, length-drop 1 xs))

pub walk_on : (t : TapState) (d : DeviceState) (u v : TapState) (e f : DeviceState) (path rest : List Bool) → 0 < length rest → Walked t d u e path rest
    → ((part : PartData) (cs : List PortClock) → TapStandsFor part u e cs → TapStandsFor part v f (cs ++ clock (slice_index_or rest 0 false) false ∷ []))
    → Walked t d v f path (take (length rest - 1) (drop 1 rest))
walk_on t d u v e f path rest some w step =
    let b : Bool = slice_index_or rest 0 false in
    let whole : w.0 ++ b ∷ drop 1 rest ≡ path = ap (λ r. w.0 ++ r) (sym (first_bit rest some)) ∙ w.1 in (
      w.0 ++ b ∷ [],
      append_assoc w.0 (b ∷ []) (take (length rest - 1) (drop 1 rest)) ∙ ap (λ r. w.0 ++ b ∷ r) (rest_bits rest) ∙ whole,
      λ part cs s.
          stands_at part v f ((cs ++ walk_clocks w.0) ++ clock b false ∷ []) (cs ++ walk_clocks (w.0 ++ b ∷ []))
          (append_assoc cs (walk_clocks w.0) (clock b false ∷ []) ∙ ap (λ r. cs ++ r) (sym (walk_more w.0 b)))
          (step part (cs ++ walk_clocks w.0) (w.2 part cs s)),
    )

pub walk_ends : (t : TapState) (d : DeviceState) (u : TapState) (e : DeviceState) (path rest : List Bool) → length rest ≡ 0 → Walked t d u e path rest
    → (part : PartData) (cs : List PortClock) → TapStandsFor part t d cs → TapStandsFor part u e (cs ++ walk_clocks path)
walk_ends t d u e path rest none w part cs s =
    let all : w.0 ≡ path = sym (append-nil w.0) ∙ ap (λ r. w.0 ++ r) (sym (nil_from_length rest none)) ∙ w.1 in
    stands_at part u e (cs ++ walk_clocks w.0) (cs ++ walk_clocks path) (ap (λ r. cs ++ walk_clocks r) all) (w.2 part cs s)

-- ---- idle clocks

replicate_more : (n : ℕ) (c : PortClock) → replicate n c ++ c ∷ [] ≡ replicate (suc n) c
replicate_more zero c = refl
replicate_more (suc n) c = ap (λ t. c ∷ t) (replicate_more n c)

pub idle_on : (part : PartData) (u v : TapState) (e f : DeviceState) (cs : List PortClock) (c : PortClock) (n m : ℕ) → TapStandsFor part u e (cs ++ replicate n c) → m ≡ suc n
    → TapStandsFor part v f ((cs ++ replicate n c) ++ c ∷ []) → TapStandsFor part v f (cs ++ replicate m c)
idle_on part u v e f cs c n m s is step =
    stands_at part v f ((cs ++ replicate n c) ++ c ∷ []) (cs ++ replicate m c) (append_assoc cs (replicate n c) (c ∷ []) ∙ ap (λ r. cs ++ r) (replicate_more n c ∙ ap (λ k. replicate k c) (sym is))) step

pub idle_whole : (part : PartData) (u : TapState) (e : DeviceState) (cs : List PortClock) (c : PortClock) (n m : ℕ) → TapStandsFor part u e (cs ++ replicate n c) → n ≡ m → TapStandsFor part u e (cs ++ replicate m c)
idle_whole part u e cs c n m s is = stands_at part u e (cs ++ replicate n c) (cs ++ replicate m c) (ap (λ k. cs ++ replicate k c) is) s

-- ---- shifting

pub shift_length : (bs : List Bool) → length (shift_clocks bs) ≡ length bs
shift_length [] = refl
shift_length (b ∷ []) = refl
shift_length (b ∷ c ∷ cs) = ap suc (shift_length (c ∷ cs))

shift_at : (bs : List Bool) (i : ℕ) (tms : Bool) → i < length bs → tms ≡ (i == length bs - 1) → take i (shift_clocks bs) ++ clock tms (scan_bit bs i) ∷ [] ≡ take (suc i) (shift_clocks bs)
shift_at [] i tms l e = absurd (omega (arith, l))
shift_at (b ∷ []) zero tms l e = let t : tms ≡ true = grind (arith, e) in ap (λ (x : Bool). clock x b ∷ []) t
shift_at (b ∷ []) (suc i) tms l e = absurd (omega (arith, l))
shift_at (b ∷ c ∷ cs) zero tms l e = let t : tms ≡ false = grind (arith, e) in ap (λ (x : Bool). clock x b ∷ []) t
shift_at (b ∷ c ∷ cs) (suc i) tms l e =
    let t : tms ≡ (i == length (c ∷ cs) - 1) = grind (arith, e) in
    ap (λ r. clock false b ∷ r) (shift_at (c ∷ cs) i tms (omega (arith, l)) t)

pub shift_on : (part : PartData) (u v : TapState) (e f : DeviceState) (cs : List PortClock) (bs : List Bool) (i m : ℕ) (tms bit : Bool) → TapStandsFor part u e (cs ++ take i (shift_clocks bs)) → i < length bs → m ≡ suc i → tms ≡ (i == length bs - 1) → bit ≡ scan_bit bs i
    → TapStandsFor part v f ((cs ++ take i (shift_clocks bs)) ++ clock tms bit ∷ []) → TapStandsFor part v f (cs ++ take m (shift_clocks bs))
shift_on part u v e f cs bs i m tms bit s l is t b step =
    stands_at part v f ((cs ++ take i (shift_clocks bs)) ++ clock tms bit ∷ []) (cs ++ take m (shift_clocks bs))
    (append_assoc cs (take i (shift_clocks bs)) (clock tms bit ∷ []) ∙ ap (λ (x : Bool). cs ++ (take i (shift_clocks bs) ++ clock tms x ∷ [])) b ∙ ap (λ r. cs ++ r) (shift_at bs i tms l t) ∙ ap (λ k. cs ++ take k (shift_clocks bs)) (sym is)) step

pub shift_ends : (part : PartData) (u : TapState) (e : DeviceState) (cs : List PortClock) (bs : List Bool) (i : ℕ) → length bs ≤ i → TapStandsFor part u e (cs ++ take i (shift_clocks bs)) → TapStandsFor part u e (cs ++ shift_clocks bs)
shift_ends part u e cs bs i l s = stands_at part u e (cs ++ take i (shift_clocks bs)) (cs ++ shift_clocks bs) (ap (λ r. cs ++ r) (take_all i (shift_clocks bs) (omega (arith, l, shift_length bs)))) s

-- ---- whole bytes of a scan

inner_first : (bs : List Bool) (k : ℕ) → k < length bs → take k (shift_clocks bs) ≡ inner_clocks (take k bs)
inner_first [] k l = absurd (omega (arith, l))
inner_first (b ∷ []) zero l = refl
inner_first (b ∷ []) (suc k) l = absurd (omega (arith, l))
inner_first (b ∷ c ∷ cs) zero l = refl
inner_first (b ∷ c ∷ cs) (suc k) l = ap (λ t. clock false b ∷ t) (inner_first (c ∷ cs) k (omega (arith, l)))

inner_part : (bs : List Bool) (at k : ℕ) → at + k < length bs → take at (shift_clocks bs) ++ inner_clocks (take k (drop at bs)) ≡ take (at + k) (shift_clocks bs)
inner_part bs at k l =
    ap (λ t. t ++ inner_clocks (take k (drop at bs))) (inner_first bs at (omega (arith, l))) ∙ sym (inner_append (take at bs) (take k (drop at bs)))
    ∙ ap inner_clocks (sym (take-add at k bs)) ∙ sym (inner_first bs (at + k) l)

inner_length : (bs : List Bool) → length (inner_clocks bs) ≡ length bs
inner_length [] = refl
inner_length (b ∷ bs) = ap suc (inner_length bs)

pub bytes_on : (part : PartData) (v : TapState) (f : DeviceState) (cs : List PortClock) (bs : List Bool) (bytes : List ℕ) (at m : ℕ) → bytes_bits bytes ≡ take (8 * length bytes) (drop at bs) → at + 8 * length bytes < length bs → m ≡ at + 8 * length bytes
    → TapStandsFor part v f ((cs ++ take at (shift_clocks bs)) ++ inner_clocks (bytes_bits bytes)) → TapStandsFor part v f (cs ++ take m (shift_clocks bs))
bytes_on part v f cs bs bytes at m e l is step =
    stands_at part v f ((cs ++ take at (shift_clocks bs)) ++ inner_clocks (bytes_bits bytes)) (cs ++ take m (shift_clocks bs))
    (append_assoc cs (take at (shift_clocks bs)) (inner_clocks (bytes_bits bytes))
    ∙ ap (λ (t : List Bool). cs ++ (take at (shift_clocks bs) ++ inner_clocks t)) e
    ∙ ap (λ r. cs ++ r) (inner_part bs at (8 * length bytes) l) ∙ ap (λ (k : ℕ). cs ++ take k (shift_clocks bs)) (sym is)) step

pub bits_count : (bytes : List ℕ) → length (bytes_bits bytes) ≡ 8 * length bytes
bits_count [] = refl
bits_count (b ∷ bs) = omega (arith, bits_count bs)

pub ready_bytes : (t u : TapState) (d e : DeviceState) (more later : ℕ) (bytes : List ℕ) → MayClock t d more → ((part : PartData) (cs : List PortClock) → TapStandsFor part t d cs → TapStandsFor part u e (cs ++ inner_clocks (bytes_bits bytes)))
    → 8 * length bytes + later ≤ more → MayClock u e later
ready_bytes t u d e more later bytes r s l = ready_on t u d e more later r (inner_clocks (bytes_bits bytes)) (s r.part r.before r.stands) (omega (arith, l, inner_length (bytes_bits bytes), bits_count bytes))

pub ready_holds : (t : TapState) (d : DeviceState) (more count : ℕ) → MayClock t d more → count ≤ 2 ^ 32 → CanAllBeOffered t.queue d count
ready_holds t d more count r l = omega (arith, held_short r.part t d r.before r.stands, r.few, l)

least_none : (holds : ℕ → Bool) → ((i : ℕ) → holds i ≡ false) → (from n : ℕ) → least holds from n ≡ None
least_none holds f from zero = refl
least_none holds f from (suc n) = ap (λ (b : Bool). if b then Some from else least holds (from + 1) n) (f from) ∙ least_none holds f (from + 1) n

-- a scan of which no bit is wanted differs nowhere
pub found_first : (part : PartData) (p : Port) (s : Scan) (first : ℕ) → (0 < first → s.tdo ≡ None) → first ≤ length s.tdi → difference_from part p s 0 ≡ difference_from part p s first
found_first part p s zero none l = refl
found_first part p s (suc n) none l =
    let e : s.tdo ≡ None = none (omega arith) in
    let f : (i : ℕ) → tdo_differs_at part p s i ≡ false = λ i. ap (λ (o : Option (List Bool)). differs_from_wanted o s.mask i (tdo_at part p s.tdi i)) e in
    least_none (tdo_differs_at part p s) f 0 (length s.tdi - 0) ∙ sym (least_none (tdo_differs_at part p s) f (suc n) (length s.tdi - suc n))

-- the first place found, or a later one
abbrev pub found_or : Option ℕ → Option ℕ → Option ℕ
found_or None later = later
found_or (Some first) later = Some first

found_by : (found : Option ℕ) (b : Bool) (i : ℕ) (later : Option ℕ) → found_or found (if b then Some i else later) ≡ found_or (first_found found b i) later
found_by None true i later = refl
found_by None false i later = refl
found_by (Some first) b i later = refl

pub found_on : (holds : ℕ → Bool) (found new : Option ℕ) (n i m : ℕ) (b : Bool) (all : Option ℕ) → i < n → m ≡ suc i → all ≡ found_or found (least holds i (n - i)) → b ≡ holds i → new ≡ first_found found b i → all ≡ found_or new (least holds m (n - m))
found_on holds found new n i m b all l is e h f =
    let count : n - i ≡ suc (n - m) = omega (arith, l, is) in
    let next : i + 1 ≡ m = omega (arith, is) in
    e ∙ ap (λ k. found_or found (least holds i k)) count ∙ found_by found (holds i) i (least holds (i + 1) (n - m))
    ∙ ap₂ (λ (x : Bool) (k : ℕ). found_or (first_found found x i) (least holds k (n - m))) (sym h) next
    ∙ ap (λ o. found_or o (least holds m (n - m))) (sym f)

found_none : (found : Option ℕ) → found_or found None ≡ found
found_none None = refl
found_none (Some x) = refl

pub found_ends : (holds : ℕ → Bool) (found : Option ℕ) (n i : ℕ) (all : Option ℕ) → n ≤ i → all ≡ found_or found (least holds i (n - i)) → found ≡ all
found_ends holds found n i all l e =
    let count : n - i ≡ 0 = omega (arith, l) in
    sym (e ∙ ap (λ k. found_or found (least holds i k)) count ∙ found_none found)

-- what TDO shows at a shift clock
pub shown_is : (part : PartData) (cs : List PortClock) (s : Scan) (i : ℕ) (shown b : Bool) → shown ≡ tdo_of part (port_after part (cs ++ take i (shift_clocks s.tdi))) → b ≡ differs_from_wanted s.tdo s.mask i shown → b ≡ tdo_differs_at part (port_after part cs) s i
shown_is part cs s i shown b e f = f ∙ ap (differs_from_wanted s.tdo s.mask i) (e ∙ ap (tdo_of part) (after part cs (take i (shift_clocks s.tdi))))

-- ---- lengths of walks

pub leave_length : (s : State) → length (from_reset s) ≤ 1
leave_length state.TestLogicReset = omega arith
leave_length state.RunTestIdle = omega arith
leave_length state.SelectDr = omega arith
leave_length state.CaptureDr = omega arith
leave_length state.ShiftDr = omega arith
leave_length state.Exit1Dr = omega arith
leave_length state.PauseDr = omega arith
leave_length state.Exit2Dr = omega arith
leave_length state.UpdateDr = omega arith
leave_length state.SelectIr = omega arith
leave_length state.CaptureIr = omega arith
leave_length state.ShiftIr = omega arith
leave_length state.Exit1Ir = omega arith
leave_length state.PauseIr = omega arith
leave_length state.Exit2Ir = omega arith
leave_length state.UpdateIr = omega arith

pub to_shift_length : (r : ScannedRegister) → length (to_shift r) ≤ 4
to_shift_length scanned.Instruction = omega arith
to_shift_length scanned.Data = omega arith

pub ready_left : (t u : TapState) (d e : DeviceState) (more later : ℕ) → MayClock t d more → ((part : PartData) (cs : List PortClock) → TapStandsFor part t d cs → TapStandsFor part u e (cs ++ from_reset (port_after part cs).state)) → 1 + later ≤ more → MayClock u e later
ready_left t u d e more later r s l =
    let c : State = (port_after r.part r.before).state in
    ready_on t u d e more later r (from_reset c) (s r.part r.before r.stands) (omega (arith, l, leave_length c))

pub ready_in_shift : (t u : TapState) (d e : DeviceState) (more later : ℕ) (register : ScannedRegister) → MayClock t d more → ((part : PartData) (cs : List PortClock) → TapStandsFor part t d cs → TapStandsFor part u e (cs ++ to_shift register)) → 4 + later ≤ more → MayClock u e later
ready_in_shift t u d e more later register r s l = ready_on t u d e more later r (to_shift register) (s r.part r.before r.stands) (omega (arith, l, to_shift_length register))

pub ready_shifted : (t u : TapState) (d e : DeviceState) (more later : ℕ) (bs : List Bool) → MayClock t d more → ((part : PartData) (cs : List PortClock) → TapStandsFor part t d cs → TapStandsFor part u e (cs ++ shift_clocks bs)) → length bs + later ≤ more → MayClock u e later
ready_shifted t u d e more later bs r s l = ready_on t u d e more later r (shift_clocks bs) (s r.part r.before r.stands) (omega (arith, l, shift_length bs))

pub ready_clocked : (t u : TapState) (d e : DeviceState) (more later : ℕ) (c : PortClock) → MayClock t d more → ((part : PartData) (cs : List PortClock) → TapStandsFor part t d cs → TapStandsFor part u e (cs ++ c ∷ [])) → 1 + later ≤ more → MayClock u e later
ready_clocked t u d e more later c r s l = ready_on t u d e more later r (c ∷ []) (s r.part r.before r.stands) (omega (arith, l))

pub ready_walked : (t u : TapState) (d e : DeviceState) (rest : List Bool) (tms : Bool) → 0 < length rest → MayClock t d (length rest) → ((part : PartData) (cs : List PortClock) → TapStandsFor part t d cs → TapStandsFor part u e (cs ++ clock tms false ∷ []))
    → MayClock u e (length (take (length rest - 1) (drop 1 rest)))
ready_walked t u d e rest tms some r s =
    ready_clocked t u d e (length rest) (length (take (length rest - 1) (drop 1 rest))) (clock tms false) r s (omega (arith, some, ap length (rest_bits rest), length-drop 1 rest))

pub ready_played : (t u : TapState) (d e : DeviceState) (more later : ℕ) (x : Statement) → MayClock t d more → ((part : PartData) (cs : List PortClock) → TapStandsFor part t d cs → TapStandsFor part u e (cs ++ clocks_of (port_after part cs).state x))
    → ((s : State) → length (clocks_of s x) ≤ 2 ^ 33) → 2 ^ 33 + later ≤ more → MayClock u e later
ready_played t u d e more later x r s short l =
    let c : State = (port_after r.part r.before).state in
    ready_on t u d e more later r (clocks_of c x) (s r.part r.before r.stands) (omega (arith, l, short c))

-- ---- a scan

four_walks : (cs a b c d : List PortClock) → (((cs ++ a) ++ b) ++ c) ++ d ≡ cs ++ (((a ++ b) ++ c) ++ d)
four_walks cs a b c d = ap (λ t. t ++ d) (ap (λ t. t ++ c) (append_assoc cs a b) ∙ append_assoc cs (a ++ b) c) ∙ append_assoc cs ((a ++ b) ++ c) d

pub scan_ends : (part : PartData) (u : TapState) (e : DeviceState) (cs : List PortClock) (s : State) (x : Scan) → TapStandsFor part u e ((((cs ++ from_reset s) ++ to_shift x.register) ++ shift_clocks x.tdi) ++ from_exit)
    → TapStandsFor part u e (cs ++ clocks_of s (statement.Scan x))
scan_ends part u e cs s x t =
    stands_at part u e ((((cs ++ from_reset s) ++ to_shift x.register) ++ shift_clocks x.tdi) ++ from_exit) (cs ++ clocks_of s (statement.Scan x)) (four_walks cs (from_reset s) (to_shift x.register) (shift_clocks x.tdi) from_exit) t

pub scan_finds : (part : PartData) (cs : List PortClock) (x : Scan) (found : Option ℕ) → found ≡ difference_from part (port_after part ((cs ++ from_reset (port_after part cs).state) ++ to_shift x.register)) x 0
    → found ≡ difference part (port_after part cs) (statement.Scan x)
scan_finds part cs x found e =
    let s : State = (port_after part cs).state in
    e ∙ ap (λ (p : Port). difference_from part p x 0) (ap (port_after part) (append_assoc cs (from_reset s) (to_shift x.register)) ∙ after part cs (from_reset s ++ to_shift x.register))

-- ---- a statement

pub idle_ends : (part : PartData) (u : TapState) (e : DeviceState) (cs : List PortClock) (s : State) (count : ℕ) → TapStandsFor part u e ((cs ++ from_reset s) ++ replicate count (clock false false)) → TapStandsFor part u e (cs ++ clocks_of s (statement.IdleClocks count))
idle_ends part u e cs s count t = stands_at part u e ((cs ++ from_reset s) ++ replicate count (clock false false)) (cs ++ (from_reset s ++ replicate count (clock false false))) (append_assoc cs (from_reset s) (replicate count (clock false false))) t

pub of_statement : (part : PartData) (u : TapState) (e : DeviceState) (cs : List PortClock) (s : State) (x y : Statement) → y ≡ x → TapStandsFor part u e (cs ++ clocks_of s x) → TapStandsFor part u e (cs ++ clocks_of s y)
of_statement part u e cs s x y is t = subst (λ (z : Statement). TapStandsFor part u e (cs ++ clocks_of s z)) (sym is) t

pub short_scan : (s : State) (x : Scan) (y : Statement) → y ≡ statement.Scan x → length x.tdi < 2 ^ 32 → length (clocks_of s y) ≤ 2 ^ 33
short_scan s x y is few =
    omega (
      arith,
      ap (λ (z : Statement). length (clocks_of s z)) is,
      few,
      length-append (from_reset s) (to_shift x.register),
      leave_length s,
      length-append (from_reset s ++ to_shift x.register) (shift_clocks x.tdi),
      to_shift_length x.register,
      length-append (from_reset s ++ to_shift x.register ++ shift_clocks x.tdi) from_exit,
      shift_length x.tdi,
    )

-- ---- statements

take_more : (ss : List Statement) (i : ℕ) (x : Statement) → slice_get ss i ≡ Some x → take i ss ++ x ∷ [] ≡ take (suc i) ss
take_more [] i x e = absurd (let P : Option Statement → Bool = λ o. elim o as (λ y. Bool) [ None ↦ false | Some y ↦ true ] in let b : false ≡ true = ap P e in cc)
take_more (s ∷ ss) zero x e = let P : Option Statement → Statement = λ o. elim o as (λ y. Statement) [ None ↦ s | Some y ↦ y ] in ap (λ (y : Statement). y ∷ []) (sym (ap P e))
take_more (s ∷ ss) (suc i) x e = ap (λ t. s ∷ t) (take_more ss i x e)

drop_more : (ss : List Statement) (i : ℕ) (x : Statement) → slice_get ss i ≡ Some x → drop i ss ≡ x ∷ drop (suc i) ss
drop_more [] i x e = absurd (let P : Option Statement → Bool = λ o. elim o as (λ y. Bool) [ None ↦ false | Some y ↦ true ] in let b : false ≡ true = ap P e in cc)
drop_more (s ∷ ss) zero x e = let P : Option Statement → Statement = λ o. elim o as (λ y. Statement) [ None ↦ s | Some y ↦ y ] in ap (λ (y : Statement). y ∷ ss) (ap P e)
drop_more (s ∷ ss) (suc i) x e = drop_more ss i x e

clocks_more : (s : State) (ss : List Statement) (x : Statement) → clocks s (ss ++ x ∷ []) ≡ clocks s ss ++ clocks_of (state_after s (clocks s ss)) x
clocks_more s [] x = append-nil (clocks_of s x)
clocks_more s (y ∷ ss) x =
    let first : List PortClock = clocks_of s y in
    let t : State = state_after s first in
    ap (λ r. first ++ r) (clocks_more t ss x)
    ∙ sym (append_assoc first (clocks t ss) (clocks_of (state_after t (clocks t ss)) x))
    ∙ ap (λ (u : State). (first ++ clocks t ss) ++ clocks_of u x) (sym (fold-append moved_by s first (clocks t ss)))

state_by : (part : PartData) (p : Port) (cs : List PortClock) → (fold (after_clock part) p cs).state ≡ state_after p.state cs
state_by part p [] = refl
state_by part p (c ∷ cs) = state_by part (after_clock part p c) cs

pub state_is : (part : PartData) (cs : List PortClock) → (port_after part cs).state ≡ state_after test_logic_reset cs
state_is part cs = state_by part new_port cs

-- the clocks of a statement more
later_clocks : (ss : List Statement) (i m : ℕ) (x : Statement) → slice_get ss i ≡ Some x → m ≡ suc i
    → (let cs : List PortClock = clocks test_logic_reset (take i ss) in cs ++ clocks_of (state_after test_logic_reset cs) x ≡ clocks test_logic_reset (take m ss))
later_clocks ss i m x e is = sym (clocks_more test_logic_reset (take i ss) x) ∙ ap (clocks test_logic_reset) (take_more ss i x e ∙ ap (λ k. take k ss) (sym is))

played_more : (part : PartData) (ss : List Statement) (i m : ℕ) (x : Statement) → slice_get ss i ≡ Some x → m ≡ suc i
    → (let cs : List PortClock = clocks test_logic_reset (take i ss) in cs ++ clocks_of (port_after part cs).state x ≡ clocks test_logic_reset (take m ss))
played_more part ss i m x e is =
    let cs : List PortClock = clocks test_logic_reset (take i ss) in
    ap (λ (u : State). cs ++ clocks_of u x) (state_is part cs) ∙ later_clocks ss i m x e is

pub plays_on : (part : PartData) (v : TapState) (f : DeviceState) (ss : List Statement) (i m : ℕ) (x : Statement) → slice_get ss i ≡ Some x → m ≡ suc i
    → (let cs : List PortClock = clocks test_logic_reset (take i ss) in TapStandsFor part v f (cs ++ clocks_of (port_after part cs).state x)) → TapStandsFor part v f (clocks test_logic_reset (take m ss))
plays_on part v f ss i m x e is s =
    let cs : List PortClock = clocks test_logic_reset (take i ss) in
    stands_at part v f (cs ++ clocks_of (port_after part cs).state x) (clocks test_logic_reset (take m ss)) (played_more part ss i m x e is) s

finds_by : (part : PartData) (p q : Port) (n : ℕ) (rest : List Statement) (x : Statement) (xs : List Statement) (d : Option ℕ) → rest ≡ x ∷ xs → d ≡ difference part p x → after_clocks part p (clocks_of p.state x) ≡ q → first_from part p n rest ≡ first_by d n (first_from part q (n + 1) xs)
finds_by part p q n rest x xs d e f g = ap (first_from part p n) e ∙ ap₂ (λ (o : Option ℕ) (r : Port). first_by o n (first_from part r (n + 1) xs)) (sym f) g

pub finds_on : (part : PartData) (ss : List Statement) (i m : ℕ) (x : Statement) (d : Option ℕ) (all : Option Differ) → slice_get ss i ≡ Some x → m ≡ suc i
    → (let cs : List PortClock = clocks test_logic_reset (take i ss) in all ≡ first_from part (port_after part cs) (i + 1) (drop i ss) → d ≡ difference part (port_after part cs) x
    → all ≡ first_by d (i + 1) (first_from part (port_after part (clocks test_logic_reset (take m ss))) (m + 1) (drop m ss)))
finds_on part ss i m x d all e is h f =
    let cs : List PortClock = clocks test_logic_reset (take i ss) in
    let ds : List PortClock = clocks test_logic_reset (take m ss) in
    let on : after_clocks part (port_after part cs) (clocks_of (port_after part cs).state x) ≡ port_after part ds =
    sym (after part cs (clocks_of (port_after part cs).state x)) ∙ ap (port_after part) (played_more part ss i m x e is) in
    let next : i + 1 ≡ m = omega (arith, is) in
    h ∙ finds_by part (port_after part cs) (port_after part ds) (i + 1) (drop i ss) x (drop m ss) d (drop_more ss i x e ∙ ap (λ k. x ∷ drop k ss) (sym is)) f on
    ∙ ap (λ (k : ℕ). first_by d (i + 1) (first_from part (port_after part ds) (k + 1) (drop m ss))) next

pub one_there : (ss : List Statement) (i : ℕ) → i < length ss → (x : Statement) × (slice_get ss i ≡ Some x)
one_there [] i l = absurd (omega (arith, l))
one_there (s ∷ ss) zero l = (s, refl)
one_there (s ∷ ss) (suc i) l = one_there ss i (omega (arith, l))

pub all_statements : (ss : List Statement) (i : ℕ) → length ss ≤ i → take i ss ≡ ss
all_statements ss i l = take_all i ss l

pub none_further : (part : PartData) (p : Port) (n : ℕ) (ss : List Statement) (i : ℕ) → length ss ≤ i → first_from part p n (drop i ss) ≡ None
none_further part p n ss i l = ap (first_from part p n) (none ss i l)
  where
    none : (xs : List Statement) (k : ℕ) → length xs ≤ k → drop k xs ≡ []
    none [] zero m = refl
    none [] (suc k) m = refl
    none (x ∷ xs) zero m = absurd (omega (arith, m))
    none (x ∷ xs) (suc k) m = none xs k (omega (arith, m))

-- ---- the statement found at a place

pub of_found : (P : Statement → Type 0) (found : Option Statement) (list : List Statement) (i : ℕ) (s x : Statement) → found ≡ slice_get list i → found ≡ Some s → slice_get list i ≡ Some x → P s → P x
of_found P found list i s x at is there h =
    let both : Some s ≡ Some x = sym is ∙ at ∙ there in
    let same : s ≡ x = cc in
    subst P same h

pub none_found : {P : Type 0} (found : Option Statement) (list : List Statement) (i : ℕ) (x : Statement) → found ≡ slice_get list i → found ≡ None → slice_get list i ≡ Some x → P
none_found found list i x at is there = let e : None ≡ Some x = sym is ∙ at ∙ there in absurd cc
