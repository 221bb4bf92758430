-- Lemmas on specs/Clock: bytes more and an access more.
use Rattle.std.proofs.Common.{◌≡◌, ◌==◌, ◌&&◌, ◌+◌, ◌-◌, ◌*◌, ◌<◌, ◌≤◌, ℕ, zero, suc, Bool, true, false, if◌then◌else◌, Option, None, Some, List, [], ◌∷◌, ◌++◌, replicate, IsTrue, ◌↔◌, refl, sym, ap, subst, ◌∙◌, append_assoc, append-nil, arith, not}
use Rattle.std.proofs.lemmas.Bool.Decides.{nat_tests}
use Rattle.std.proofs.lemmas.List.{replicate-append-replicate}
use Rattle.std.specs.Option.{option_or}
use Rattle.x7_packets.specs.History.{Access, Bad, History, Read, Write, command_held, entry, executed_by, executes, last_word, written}
use Rattle.x7_part.specs.Part.{PartData}
use Rattle.x7_startup.specs.Startup.{Begun, Call, IsPhaseOf, NotBegun, StartupProgress, StandsForCalls, StartupState, progress_of}
use Rattle.x7_startup.specs.Startup as call
use Rattle.x7_startup.specs.Watchdog.{FiresNext, Reload, WatchdogState, WatchCall, Watched, WatchesFor, bytes_alike, watched_count, is_on, timer_after, timer_value_of}
use Rattle.x7_startup.proofs.CallLemmas.{idle_stands, one_phase_after, phase_never_falls}
use Rattle.x7_startup.proofs.WatchdogLemmas.{idle_fires, idle_watches, timer_load, timer_reload, timer_watched}
use Rattle.x7_engine.specs.Course.{course_at}
use Rattle.x7_engine.specs.declared.kept.Kept.{Kept}
use Rattle.x7_engine.specs.Clock.{AreEndedAlike, ClockState, IsClock, ClockTakes, newest_place}
use Rattle.x7_engine.specs.Kept.{is_fallback}
use Rattle.x7_engine.specs.Registers.{takes_shutdown}
use Rattle.x7_engine.specs.Startup.{startup_ended, phase_by, phase_of, startup_call, startup_calls, startup_progress, startup_call_by}
use Rattle.x7_engine.specs.Stop.{why_at_access, first_stop_of_history, stop_at_place, stop_at_firing, Stopped}
use Rattle.x7_engine.specs.Watching.{fired_or, watchdog_fires, first_firing, timer_held, watch_call, watch_calls, watched_bytes, watch_call_by}
use Rattle.x7_engine.proofs.StartupLemmas.{phase_is}

-- ---- the calls of bytes more

pub startup_more : (h : History) (n k : ℕ) → newest_place h ≤ n → startup_calls h (n + k) ≡ startup_calls h n ++ replicate k call.Byte
startup_more [] n k l = sym (replicate-append-replicate n k call.Byte)
startup_more (e ∷ h) n k l =
    let prefix : List Call = startup_calls h e.place ++ startup_call h e.access in
    let count : n + k - e.place ≡ n - e.place + k = omega (arith, l) in
    ap (λ (m : ℕ). prefix ++ replicate m call.Byte) count
    ∙ ap (λ t. prefix ++ t) (sym (replicate-append-replicate (n - e.place) k call.Byte))
    ∙ sym (append_assoc prefix (replicate (n - e.place) call.Byte) (replicate k call.Byte))

watched_more : (part : PartData) (h : History) (from a b : ℕ) → watched_bytes part h from (a + b) ≡ watched_bytes part h from a ++ watched_bytes part h (from + a) b
watched_more part h from a zero =
    let same : a + 0 ≡ a = omega arith in
    ap (watched_bytes part h from) same ∙ sym (append-nil (watched_bytes part h from a))
watched_more part h from a (suc b) =
    let next : a + suc b ≡ suc (a + b) = omega arith in
    let here : from + (a + b) + 1 ≡ from + a + b + 1 = omega arith in
    ap (watched_bytes part h from) next
    ∙ ap (λ t. t ++ Watched (startup_ended part h (from + (a + b) + 1)) ∷ []) (watched_more part h from a b)
    ∙ ap (λ (m : ℕ). (watched_bytes part h from a ++ watched_bytes part h (from + a) b) ++ Watched (startup_ended part h m) ∷ []) here
    ∙ append_assoc (watched_bytes part h from a) (watched_bytes part h (from + a) b) (Watched (startup_ended part h (from + a + b + 1)) ∷ [])

pub watch_more : (part : PartData) (h : History) (n k : ℕ) → newest_place h ≤ n → watch_calls part h (n + k) ≡ watch_calls part h n ++ watched_bytes part h n k
watch_more part [] n k l = let first : 0 + n ≡ n = omega arith in watched_more part [] 0 n k ∙ ap (λ (m : ℕ). watched_bytes part [] 0 n ++ watched_bytes part [] m k) first
watch_more part (e ∷ h) n k l =
    let prefix : List WatchCall = watch_calls part h e.place ++ watch_call h e.access in
    let count : n + k - e.place ≡ n - e.place + k = omega (arith, l) in
    let place : e.place + (n - e.place) ≡ n = omega (arith, l) in
    ap (λ (m : ℕ). prefix ++ watched_bytes part (e ∷ h) e.place m) count
    ∙ ap (λ t. prefix ++ t) (watched_more part (e ∷ h) e.place (n - e.place) k)
    ∙ ap (λ (m : ℕ). prefix ++ (watched_bytes part (e ∷ h) e.place (n - e.place) ++ watched_bytes part (e ∷ h) m k)) place
    ∙ sym (append_assoc prefix (watched_bytes part (e ∷ h) e.place (n - e.place)) (watched_bytes part (e ∷ h) n k))

-- ---- the firings of bytes more

or_fired : (o p : Option ℕ) (b : Bool) (n : ℕ) → fired_or (option_or o p) b n ≡ option_or o (fired_or p b n)
or_fired None p b n = refl
or_fired (Some x) p b n = refl

pub or_none : {A : Type 0} (o : Option A) → option_or o None ≡ o
or_none None = refl
or_none (Some x) = refl

pub firing_more : (part : PartData) (kept : Kept) (h : History) (from a b : ℕ) → first_firing part kept h from (a + b) ≡ option_or (first_firing part kept h from a) (first_firing part kept h (from + a) b)
firing_more part kept h from a zero =
    let same : a + 0 ≡ a = omega arith in
    ap (first_firing part kept h from) same ∙ sym (or_none (first_firing part kept h from a))
firing_more part kept h from a (suc b) =
    let next : a + suc b ≡ suc (a + b) = omega arith in
    let here : from + (a + b) + 1 ≡ from + a + b + 1 = omega arith in
    ap (first_firing part kept h from) next
    ∙ ap (λ (o : Option ℕ). fired_or o (watchdog_fires part kept h (from + (a + b) + 1)) (from + (a + b) + 1)) (firing_more part kept h from a b)
    ∙ ap (λ (m : ℕ). fired_or (option_or (first_firing part kept h from a) (first_firing part kept h (from + a) b)) (watchdog_fires part kept h m) m) here
    ∙ or_fired (first_firing part kept h from a) (first_firing part kept h (from + a) b) (watchdog_fires part kept h (from + a + b + 1)) (from + a + b + 1)

watchdog_or : (o p : Option ℕ) → stop_at_firing (option_or o p) ≡ option_or (stop_at_firing o) (stop_at_firing p)
watchdog_or None p = refl
watchdog_or (Some x) p = refl

or_assoc : {A : Type 0} (a b c d : Option A) → option_or a (option_or b (option_or c d)) ≡ option_or (option_or a (option_or b c)) d
or_assoc (Some x) b c d = refl
or_assoc None (Some x) c d = refl
or_assoc None None c d = refl

-- the first stop with k bytes more is that of before, or else the first firing at these
pub stop_more_bytes : (part : PartData) (kept : Kept) (h : History) (n k : ℕ) → newest_place h ≤ n → first_stop_of_history part kept h (n + k) ≡ option_or (first_stop_of_history part kept h n) (stop_at_firing (first_firing part kept h n k))
stop_more_bytes part kept [] n k l =
    let first : 0 + n ≡ n = omega arith in
    ap stop_at_firing (firing_more part kept [] 0 n k ∙ ap (λ (m : ℕ). option_or (first_firing part kept [] 0 n) (first_firing part kept [] m k)) first)
    ∙ watchdog_or (first_firing part kept [] 0 n) (first_firing part kept [] n k)
stop_more_bytes part kept (e ∷ h) n k l =
    let count : n + k - e.place ≡ n - e.place + k = omega (arith, l) in
    let place : e.place + (n - e.place) ≡ n = omega (arith, l) in
    let before : Option Stopped = first_stop_of_history part kept h e.place in
    let why : Option Stopped = stop_at_place e.place (why_at_access part kept h e.access) in
    let first : Option ℕ = first_firing part kept (e ∷ h) e.place (n - e.place) in
    ap (λ (m : ℕ). option_or before (option_or why (stop_at_firing (first_firing part kept (e ∷ h) e.place m)))) count
    ∙ ap (λ (o : Option ℕ). option_or before (option_or why (stop_at_firing o)))
    (firing_more part kept (e ∷ h) e.place (n - e.place) k ∙ ap (λ (m : ℕ). option_or first (first_firing part kept (e ∷ h) m k)) place)
    ∙ ap (λ (o : Option Stopped). option_or before (option_or why o)) (watchdog_or first (first_firing part kept (e ∷ h) n k))
    ∙ or_assoc before why (stop_at_firing first) (stop_at_firing (first_firing part kept (e ∷ h) n k))

-- where nothing stopped before, the stop at the place of an access more is by this access
pub stop_of_access : (part : PartData) (kept : Kept) (h : History) (access : Access) (place : ℕ) → first_stop_of_history part kept h place ≡ None → first_stop_of_history part kept (entry access place ∷ h) place ≡ stop_at_place place (why_at_access part kept h access)
stop_of_access part kept h access place e =
    let none : place - place ≡ 0 = omega arith in
    ap (λ (o : Option Stopped). option_or o (option_or (stop_at_place place (why_at_access part kept h access)) (stop_at_firing (first_firing part kept (entry access place ∷ h) place (place - place))))) e
    ∙ ap (λ (m : ℕ). option_or (stop_at_place place (why_at_access part kept h access)) (stop_at_firing (first_firing part kept (entry access place ∷ h) place m))) none
    ∙ or_none (stop_at_place place (why_at_access part kept h access))

-- ---- an access more

pub startup_entered : (h : History) (access : Access) (place : ℕ) → startup_calls (entry access place ∷ h) place ≡ startup_calls h place ++ startup_call h access
startup_entered h access place =
    let none : place - place ≡ 0 = omega arith in
    ap (λ (m : ℕ). (startup_calls h place ++ startup_call h access) ++ replicate m call.Byte) none ∙ append-nil (startup_calls h place ++ startup_call h access)

pub watch_entered : (part : PartData) (h : History) (access : Access) (place : ℕ) → watch_calls part (entry access place ∷ h) place ≡ watch_calls part h place ++ watch_call h access
watch_entered part h access place =
    let none : place - place ≡ 0 = omega arith in
    ap (λ (m : ℕ). (watch_calls part h place ++ watch_call h access) ++ watched_bytes part (entry access place ∷ h) place m) none ∙ append-nil (watch_calls part h place ++ watch_call h access)

-- ---- TIMER by the calls

timer_bytes : (part : PartData) (h : History) (t from count : ℕ) (calls : List WatchCall) → timer_after t (calls ++ watched_bytes part h from count) ≡ timer_after t calls
timer_bytes part h t from zero calls = ap (timer_after t) (append-nil calls)
timer_bytes part h t from (suc count) calls =
    ap (timer_after t) (sym (append_assoc calls (watched_bytes part h from count) (Watched (startup_ended part h (from + count + 1)) ∷ [])))
    ∙ timer_watched t (calls ++ watched_bytes part h from count) (startup_ended part h (from + count + 1))
    ∙ timer_bytes part h t from count calls

timer_none : (t : ℕ) (calls : List WatchCall) (b : Bool) → timer_after t (calls ++ (if b then Reload ∷ [] else [])) ≡ timer_after t calls
timer_none t calls true = timer_reload t calls
timer_none t calls false = ap (timer_after t) (append-nil calls)

timer_call : (h : History) (t : ℕ) (calls : List WatchCall) (access : Access) → timer_after t (calls ++ watch_call h access) ≡ written 17 access (timer_after t calls)
timer_call h t calls (Read register count) = ap (timer_after t) (append-nil calls)
timer_call h t calls (Bad w) = ap (timer_after t) (append-nil calls)
timer_call h t calls (Write register w) = by_timer (register == 17) refl
  where
    by_timer : (b : Bool) → (register == 17) ≡ b → timer_after t (calls ++ watch_call h (Write register w)) ≡ written 17 (Write register w) (timer_after t calls)
    by_timer true e =
        let cmd : (register == 4) ≡ false = grind (arith, nat_tests, e) in
        let far : (register == 1) ≡ false = grind (arith, nat_tests, e) in
        rw (cmd, far, e) (timer_load t calls w)
    by_timer false e = rw e (timer_none t calls (executes 17 h (Write register w)))

pub timer_is : (part : PartData) (kept : Kept) (h : History) (n : ℕ) → timer_after kept.timer (watch_calls part h n) ≡ timer_held kept h
timer_is part kept [] n = timer_bytes part [] kept.timer 0 n []
timer_is part kept (e ∷ h) n =
    timer_bytes part (e ∷ h) kept.timer e.place (n - e.place) (watch_calls part h e.place ++ watch_call h e.access)
    ∙ timer_call h kept.timer (watch_calls part h e.place) e.access
    ∙ ap (written 17 e.access) (timer_is part kept h e.place)

-- ---- firing by the calls

full_is : (on : Bool) (c v : ℕ) → IsTrue on → c ≡ v → (on && c == v) ≡ true
full_is true c v o e = grind (arith, nat_tests, e)
full_is false c v o e = absurd cc

full_not : (on : Bool) (c v : ℕ) → ¬ (IsTrue on × (c ≡ v)) → (on && c == v) ≡ false
full_not true c v f = elim (c == v) as (λ b. (c == v) ≡ b → b ≡ false) [ true ↦ λ e. absurd (f (refl, grind (arith, nat_tests, e))) | false ↦ λ e. refl ] refl
full_not false c v f = refl

-- the watchdog's calls with one byte more
pub one_watched : (part : PartData) (h : History) (n : ℕ) → newest_place h ≤ n → watch_calls part h (n + 1) ≡ watch_calls part h n ++ Watched (startup_ended part h (n + 1)) ∷ []
one_watched part h n l =
    let here : n + 0 + 1 ≡ n + 1 = omega arith in
    watch_more part h n 1 l ∙ ap (λ (m : ℕ). watch_calls part h n ++ Watched (startup_ended part h m) ∷ []) here

pub fires_by : (part : PartData) (kept : Kept) (h : History) (n : ℕ) → newest_place h ≤ n → FiresNext (is_fallback kept.kind) kept.timer (watch_calls part h n) (startup_ended part h (n + 1)) → watchdog_fires part kept h (n + 1) ≡ true
fires_by part kept h n l f =
    let off : Bool = is_fallback kept.kind in
    let eos : Bool = startup_ended part h (n + 1) in
    let timer : timer_after kept.timer (watch_calls part h n) ≡ timer_held kept h = timer_is part kept h n in
    let on : IsTrue (is_on off (timer_held kept h) eos) = subst (λ (t : ℕ). IsTrue (is_on off t eos)) timer f.0 in
    let count : watched_count off kept.timer (watch_calls part h (n + 1)) ≡ timer_value_of (timer_held kept h) * 4 = ap (watched_count off kept.timer) (one_watched part h n l) ∙ f.1 ∙ ap (λ (t : ℕ). timer_value_of t * 4) timer in
    full_is (is_on off (timer_held kept h) eos) (watched_count off kept.timer (watch_calls part h (n + 1))) (timer_value_of (timer_held kept h) * 4) on count

pub fires_not : (part : PartData) (kept : Kept) (h : History) (n : ℕ) → newest_place h ≤ n → ¬ FiresNext (is_fallback kept.kind) kept.timer (watch_calls part h n) (startup_ended part h (n + 1)) → watchdog_fires part kept h (n + 1) ≡ false
fires_not part kept h n l f =
    let off : Bool = is_fallback kept.kind in
    let eos : Bool = startup_ended part h (n + 1) in
    let timer : timer_after kept.timer (watch_calls part h n) ≡ timer_held kept h = timer_is part kept h n in
    full_not (is_on off (timer_held kept h) eos) (watched_count off kept.timer (watch_calls part h (n + 1))) (timer_value_of (timer_held kept h) * 4)
    (λ g. f (subst (λ (t : ℕ). IsTrue (is_on off t eos)) (sym timer) g.0, sym (ap (watched_count off kept.timer) (one_watched part h n l)) ∙ g.1 ∙ sym (ap (λ (t : ℕ). timer_value_of t * 4) timer)))

-- ---- bytes that are alike: startup has ended at each of them, or at none

one_more_alike : (k : ℕ) (e : Bool) → bytes_alike k e ++ Watched e ∷ [] ≡ bytes_alike (suc k) e
one_more_alike k e =
    let next : k + 1 ≡ suc k = omega arith in
    replicate-append-replicate k 1 (Watched e) ∙ ap (λ (m : ℕ). replicate m (Watched e)) next

watched_alike : (part : PartData) (h : History) (n k : ℕ) (eos : Bool) → ((i : ℕ) → i < k → startup_ended part h (n + i + 1) ≡ eos) → watched_bytes part h n k ≡ bytes_alike k eos
watched_alike part h n zero eos f = refl
watched_alike part h n (suc k) eos f =
    ap (λ t. t ++ Watched (startup_ended part h (n + k + 1)) ∷ []) (watched_alike part h n k eos (λ i l. f i (omega arith)))
    ∙ ap (λ (b : Bool). bytes_alike k eos ++ Watched b ∷ []) (f k (omega arith))
    ∙ one_more_alike k eos

pub calls_alike : (part : PartData) (h : History) (n k : ℕ) (eos : Bool) → newest_place h ≤ n → ((i : ℕ) → i < k → startup_ended part h (n + i + 1) ≡ eos) → watch_calls part h (n + k) ≡ watch_calls part h n ++ bytes_alike k eos
calls_alike part h n k eos l f = watch_more part h n k l ∙ ap (λ t. watch_calls part h n ++ t) (watched_alike part h n k eos f)

pub none_fires : (part : PartData) (kept : Kept) (h : History) (n count : ℕ) → ((i : ℕ) → i < count → watchdog_fires part kept h (n + i + 1) ≡ false) → first_firing part kept h n count ≡ None
none_fires part kept h n zero f = refl
none_fires part kept h n (suc count) f =
    ap (λ (o : Option ℕ). fired_or o (watchdog_fires part kept h (n + count + 1)) (n + count + 1)) (none_fires part kept h n count (λ i l. f i (omega arith)))
    ∙ ap (λ (b : Bool). fired_or None b (n + count + 1)) (f count (omega arith))

-- where the watchdog fires at none of i bytes, and at the next one, it first fires there
pub first_is : (part : PartData) (kept : Kept) (h : History) (n i count : ℕ) → i < count → first_firing part kept h n i ≡ None → watchdog_fires part kept h (n + i + 1) ≡ true → first_firing part kept h n count ≡ Some (n + (i + 1))
first_is part kept h n i count l e f =
    let split : count ≡ i + (suc (count - i - 1)) = omega arith in
    let sum : count ≡ suc i + (count - i - 1) = omega arith in
    let place : n + i + 1 ≡ n + (i + 1) = omega arith in
    let here : first_firing part kept h n (suc i) ≡ Some (n + (i + 1)) =
    ap (λ (o : Option ℕ). fired_or o (watchdog_fires part kept h (n + i + 1)) (n + i + 1)) e ∙ ap (λ (b : Bool). fired_or None b (n + i + 1)) f ∙ ap (λ (m : ℕ). Some m) place in
    ap (first_firing part kept h n) sum
    ∙ firing_more part kept h n (suc i) (count - i - 1)
    ∙ ap (λ (o : Option ℕ). option_or o (first_firing part kept h (n + suc i) (count - i - 1))) here

-- one byte more at which the watchdog doesn't fire
pub none_more : (part : PartData) (kept : Kept) (h : History) (n i : ℕ) → first_firing part kept h n i ≡ None → watchdog_fires part kept h (n + i + 1) ≡ false → first_firing part kept h n (i + 1) ≡ None
none_more part kept h n i e f =
    let next : i + 1 ≡ suc i = omega arith in
    ap (first_firing part kept h n) next
    ∙ ap (λ (o : Option ℕ). fired_or o (watchdog_fires part kept h (n + i + 1)) (n + i + 1)) e ∙ ap (λ (b : Bool). fired_or None b (n + i + 1)) f

-- at a byte of those that are alike the watchdog fires as the calls before it say
alike_here : (part : PartData) (kept : Kept) (h : History) (n i : ℕ) (eos : Bool) → newest_place h ≤ n → ((j : ℕ) → j < i + 1 → startup_ended part h (n + j + 1) ≡ eos)
    → FiresNext (is_fallback kept.kind) kept.timer (watch_calls part h (n + i)) (startup_ended part h (n + i + 1)) ≡ FiresNext (is_fallback kept.kind) kept.timer (watch_calls part h n ++ bytes_alike i eos) eos
alike_here part kept h n i eos l f =
    ap (λ t. FiresNext (is_fallback kept.kind) kept.timer t (startup_ended part h (n + i + 1))) (calls_alike part h n i eos l (λ j m. f j (omega arith)))
    ∙ ap (λ (b : Bool). FiresNext (is_fallback kept.kind) kept.timer (watch_calls part h n ++ bytes_alike i eos) b) (f i (omega arith))

pub alike_quiet : (part : PartData) (kept : Kept) (h : History) (n count : ℕ) (eos : Bool) → newest_place h ≤ n → ((i : ℕ) → i < count → startup_ended part h (n + i + 1) ≡ eos)
    → ((i : ℕ) → i < count → ¬ FiresNext (is_fallback kept.kind) kept.timer (watch_calls part h n ++ bytes_alike i eos) eos) → first_firing part kept h n count ≡ None
alike_quiet part kept h n count eos l f g =
    none_fires part kept h n count (λ i m. fires_not part kept h (n + i) (omega (arith, l)) (λ x. g i m (subst (λ (t : Type 0). t) (alike_here part kept h n i eos l (λ j o. f j (omega arith))) x)))

pub alike_fires : (part : PartData) (kept : Kept) (h : History) (n k count : ℕ) (eos : Bool) → newest_place h ≤ n → ((i : ℕ) → i < count → startup_ended part h (n + i + 1) ≡ eos) → 0 < k → k ≤ count
    → FiresNext (is_fallback kept.kind) kept.timer (watch_calls part h n ++ bytes_alike (k - 1) eos) eos
    → ((i : ℕ) → i < k - 1 → ¬ FiresNext (is_fallback kept.kind) kept.timer (watch_calls part h n ++ bytes_alike i eos) eos) → first_firing part kept h n count ≡ Some (n + k)
alike_fires part kept h n k count eos l f some few x g =
    let last : n + (k - 1) + 1 ≡ n + (k - 1 + 1) = omega arith in
    let here : n + (k - 1 + 1) ≡ n + k = omega arith in
    first_is part kept h n (k - 1) count (omega arith) (alike_quiet part kept h n (k - 1) eos l (λ i m. f i (omega arith)) g)
    (fires_by part kept h (n + (k - 1)) (omega (arith, l)) (subst (λ (t : Type 0). t) (sym (alike_here part kept h n (k - 1) eos l (λ j o. f j (omega arith)))) x))
    ∙ ap (λ (m : ℕ). Some m) here

-- ---- the phase

pub phase_by_clock : (part : PartData) (h : History) (n phase : ℕ) → IsPhaseOf part.lock part.matched (startup_progress h n) phase → phase ≡ phase_of part h n
phase_by_clock part h n phase p = one_phase_after part.lock part.matched (startup_calls h n) phase (phase_of part h n) p (phase_is part (startup_progress h n))

pub phase_rises : (part : PartData) (h : History) (n k : ℕ) → newest_place h ≤ n → phase_of part h n ≤ phase_of part h (n + k)
phase_rises part h n k l =
    phase_never_falls part.lock part.matched (startup_calls h n) k (phase_of part h n) (phase_of part h (n + k)) (phase_is part (startup_progress h n))
    (subst (λ t. IsPhaseOf part.lock part.matched (progress_of t) (phase_of part h (n + k))) (startup_more h n k l) (phase_is part (startup_progress h (n + k))))

pub last_of : (part : PartData) (p : StartupProgress) → phase_by part p ≤ 7
last_of part NotBegun = omega arith
last_of part (Begun cor0 bytes) = (phase_is part (Begun cor0 bytes)).most

-- where startup has ended both before and after some bytes, or neither, so it is at each of them
pub ends_alike : (part : PartData) (h : History) (n count i : ℕ) (eos : Bool) → newest_place h ≤ n → eos ≡ startup_ended part h n → eos ≡ startup_ended part h (n + count) → i < count → startup_ended part h (n + i + 1) ≡ eos
ends_alike part h n count i eos l e f m =
    let near : n + i + 1 ≡ n + (i + 1) = omega arith in
    let far : n + count ≡ n + (i + 1) + (count - i - 1) = omega arith in
    let below : phase_of part h n ≤ phase_of part h (n + (i + 1)) = phase_rises part h n (i + 1) l in
    let above : phase_of part h (n + (i + 1)) ≤ phase_of part h (n + (i + 1) + (count - i - 1)) = phase_rises part h (n + (i + 1)) (count - i - 1) (omega (arith, l)) in
    let after : eos ≡ startup_ended part h (n + (i + 1) + (count - i - 1)) = f ∙ ap (startup_ended part h) far in
    ap (startup_ended part h) near
    ∙ by (phase_of part h n) (phase_of part h (n + (i + 1))) (phase_of part h (n + (i + 1) + (count - i - 1))) eos below above (last_of part (startup_progress h (n + (i + 1) + (count - i - 1)))) e after
  where
    by : (a b c : ℕ) (eos : Bool) → a ≤ b → b ≤ c → c ≤ 7 → eos ≡ (a == 7) → eos ≡ (c == 7) → (b == 7) ≡ eos
    by a b c true l m o e f = let last : a ≡ 7 = grind (arith, nat_tests, sym e) in let here : b ≡ 7 = omega (arith, l, m, o) in grind (arith, nat_tests, here)
    by a b c false l m o e f = elim (b == 7) as (λ x. (b == 7) ≡ x → x ≡ false) [
      | true ↦ λ g.
          let here : b ≡ 7 = grind (arith, nat_tests, g) in
          let last : c ≡ 7 = omega (arith, l, m, o, here) in
          let yes : (c == 7) ≡ true = grind (arith, nat_tests, last) in
          absurd (let no : false ≡ true = f ∙ yes in cc)
      | false ↦ λ g. refl
    ] refl

-- ---- what the calls of the code come to

pub startup_written : (h : History) (access : Access) (place : ℕ) (command : Option ℕ) (taken : Bool) (cor0 : ℕ) → command ≡ executed_by (command_held h) access → taken ≡ takes_shutdown h access → cor0 ≡ last_word 9 0 h
    → startup_calls h place ++ startup_call_by command taken cor0 ≡ startup_calls (entry access place ∷ h) place
startup_written h access place command taken cor0 e t z =
    ap (λ (o : Option ℕ). startup_calls h place ++ startup_call_by o taken cor0) e
    ∙ ap (λ (b : Bool). startup_calls h place ++ startup_call_by (executed_by (command_held h) access) b cor0) t
    ∙ ap (λ (k : ℕ). startup_calls h place ++ startup_call_by (executed_by (command_held h) access) (takes_shutdown h access) k) z
    ∙ sym (startup_entered h access place)

pub watch_written : (part : PartData) (h : History) (access : Access) (place : ℕ) (command : Option ℕ) → command ≡ executed_by (command_held h) access
    → watch_calls part h place ++ watch_call_by command access ≡ watch_calls part (entry access place ∷ h) place
watch_written part h access place command e =
    ap (λ (o : Option ℕ). watch_calls part h place ++ watch_call_by o access) e ∙ sym (watch_entered part h access place)

pub startup_bytes : (part : PartData) (h : History) (n k lock matched : ℕ) (old new : StartupState) → lock ≡ part.lock → matched ≡ part.matched
    → ((calls : List Call) → StandsForCalls lock matched old calls → StandsForCalls lock matched new (calls ++ replicate k call.Byte)) → newest_place h ≤ n
    → StandsForCalls part.lock part.matched old (startup_calls h n) → StandsForCalls part.lock part.matched new (startup_calls h (n + k))
startup_bytes part h n k lock matched old new a b f l s =
    let here : StandsForCalls lock matched old (startup_calls h n) = subst (λ (x : ℕ). StandsForCalls x matched old (startup_calls h n)) (sym a) (subst (λ (x : ℕ). StandsForCalls part.lock x old (startup_calls h n)) (sym b) s) in
    subst (λ t. StandsForCalls part.lock part.matched new t) (sym (startup_more h n k l))
    (subst (λ (x : ℕ). StandsForCalls part.lock x new (startup_calls h n ++ replicate k call.Byte)) b
    (subst (λ (x : ℕ). StandsForCalls x matched new (startup_calls h n ++ replicate k call.Byte)) a (f (startup_calls h n) here)))

pub watch_byte : (part : PartData) (kept : Kept) (h : History) (n : ℕ) (eos : Bool) (new : WatchdogState) → newest_place h ≤ n → eos ≡ startup_ended part h (n + 1)
    → WatchesFor (is_fallback kept.kind) kept.timer new (watch_calls part h n ++ Watched eos ∷ []) → WatchesFor (is_fallback kept.kind) kept.timer new (watch_calls part h (n + 1))
watch_byte part kept h n eos new l e s =
    subst (λ t. WatchesFor (is_fallback kept.kind) kept.timer new t) (ap (λ (b : Bool). watch_calls part h n ++ Watched b ∷ []) e ∙ sym (one_watched part h n l)) s

pub fires_bool : (part : PartData) (kept : Kept) (h : History) (n : ℕ) (eos b : Bool) → newest_place h ≤ n → eos ≡ startup_ended part h (n + 1)
    → (IsTrue b ↔ FiresNext (is_fallback kept.kind) kept.timer (watch_calls part h n) eos) → b ≡ watchdog_fires part kept h (n + 1)
fires_bool part kept h n eos true l e f =
    sym (fires_by part kept h n l (subst (λ (x : Bool). FiresNext (is_fallback kept.kind) kept.timer (watch_calls part h n) x) e (f.0 refl)))
fires_bool part kept h n eos false l e f =
    sym (fires_not part kept h n l (λ x. absurd (let no : false ≡ true = f.1 (subst (λ (y : Bool). FiresNext (is_fallback kept.kind) kept.timer (watch_calls part h n) y) (sym e) x) in cc)))

-- ---- bytes where startup hasn't begun and the watchdog doesn't run

never_counts : (w : WatchdogState) (eos : Bool) → w.limit ≡ 0 → false ≡ (not (w.limit == 0) && not eos)
never_counts w eos e = let none : (w.limit == 0) ≡ true = grind (arith, nat_tests, e) in rw none refl

idle_watchdog : (part : PartData) (kept : Kept) (w : WatchdogState) (h : History) (n k : ℕ) → newest_place h ≤ n → w.limit ≡ 0 → WatchesFor (is_fallback kept.kind) kept.timer w (watch_calls part h n) → WatchesFor (is_fallback kept.kind) kept.timer w (watch_calls part h (n + k))
idle_watchdog part kept w h n zero l e s =
    let same : n + 0 ≡ n = omega arith in
    subst (λ (m : ℕ). WatchesFor (is_fallback kept.kind) kept.timer w (watch_calls part h m)) (sym same) s
idle_watchdog part kept w h n (suc k) l e s =
    let next : n + k + 1 ≡ n + suc k = omega arith in
    let eos : Bool = startup_ended part h (n + k + 1) in
    let before : WatchesFor (is_fallback kept.kind) kept.timer w (watch_calls part h (n + k)) = idle_watchdog part kept w h n k l e s in
    subst (λ (m : ℕ). WatchesFor (is_fallback kept.kind) kept.timer w (watch_calls part h m)) next
    (watch_byte part kept h (n + k) eos w (omega (arith, l)) refl (idle_watches (is_fallback kept.kind) kept.timer w (watch_calls part h (n + k)) eos false before (never_counts w eos e) refl))

idle_quiet : (part : PartData) (kept : Kept) (w : WatchdogState) (h : History) (n k : ℕ) → newest_place h ≤ n → w.limit ≡ 0 → WatchesFor (is_fallback kept.kind) kept.timer w (watch_calls part h n) → first_firing part kept h n k ≡ None
idle_quiet part kept w h n k l e s = none_fires part kept h n k (λ i m.
    let eos : Bool = startup_ended part h (n + i + 1) in
    let before : WatchesFor (is_fallback kept.kind) kept.timer w (watch_calls part h (n + i)) = idle_watchdog part kept w h n i l e s in
    fires_not part kept h (n + i) (omega (arith, l)) (λ f.
    let no : false ≡ true = (idle_fires (is_fallback kept.kind) kept.timer w (watch_calls part h (n + i)) eos false before (never_counts w eos e) refl).1 f in
    absurd (cc)))

pub idle_ticks : (part : PartData) (kept : Kept) (c : ClockState) (h : History) (n k : ℕ) → newest_place h ≤ n → c.startup.begun_with ≡ None → c.watchdog.limit ≡ 0 → IsClock part kept c h n → ClockTakes (course_at part kept h n) c k None
idle_ticks part kept c h n k l b e s = (
  record {
    startup = subst (λ (calls : List Call). StandsForCalls part.lock part.matched c.startup calls) (sym (startup_more h n k l)) (idle_stands part.lock part.matched c.startup (startup_calls h n) k b s.startup);
    watchdog = idle_watchdog part kept c.watchdog h n k l e s.watchdog;
  },
  idle_quiet part kept c.watchdog h n k l e s.watchdog,
)

-- ---- bytes more, after some at which nothing fires

ended_on : (part : PartData) (h : History) (n i : ℕ) → newest_place h ≤ n → startup_ended part h n ≡ true → startup_ended part h (n + i + 1) ≡ true
ended_on part h n i l e =
    let place : n + i + 1 ≡ n + (i + 1) = omega arith in
    let rises : phase_of part h n ≤ phase_of part h (n + (i + 1)) = phase_rises part h n (i + 1) l in
    ap (startup_ended part h) place ∙ by (phase_of part h n) (phase_of part h (n + (i + 1))) rises (last_of part (startup_progress h (n + (i + 1)))) e
  where
    by : (a b : ℕ) → a ≤ b → b ≤ 7 → (a == 7) ≡ true → (b == 7) ≡ true
    by a b l m e = let first : a ≡ 7 = grind (arith, nat_tests, e) in let here : b ≡ 7 = omega (arith, l, m, first) in grind (arith, nat_tests, here)

pub ended_alike : (part : PartData) (kept : Kept) (c : ClockState) (h : History) (n a count : ℕ) → newest_place h ≤ n → startup_ended part h (n + a) ≡ true → IsClock part kept c h (n + a) → AreEndedAlike (course_at part kept h (n + a)) c count true
ended_alike part kept c h n a count l e s =
    let newest : newest_place h ≤ n + a = omega (arith, l) in
    record { newest = newest; each = λ i m. ended_on part h (n + a) i newest e; stands = s }

pub ticks_none : (part : PartData) (kept : Kept) (c : ClockState) (h : History) (n a b count : ℕ) → a + b ≡ count → first_firing part kept h n a ≡ None → ClockTakes (course_at part kept h (n + a)) c b None → ClockTakes (course_at part kept h n) c count None
ticks_none part kept c h n a b count e f t =
    let place : n + a + b ≡ n + count = omega (arith, e) in (
      subst (λ (m : ℕ). IsClock part kept c h m) place t.0,
      ap (first_firing part kept h n) (sym e) ∙ firing_more part kept h n a b ∙ ap (λ (o : Option ℕ). option_or o (first_firing part kept h (n + a) b)) f ∙ t.1,
    )

pub ticks_some : (part : PartData) (kept : Kept) (c : ClockState) (h : History) (n a b count k : ℕ) → a + b ≡ count → first_firing part kept h n a ≡ None → ClockTakes (course_at part kept h (n + a)) c b (Some k) → ClockTakes (course_at part kept h n) c count (Some (a + k))
ticks_some part kept c h n a b count k e f t =
    let place : n + a + k ≡ n + (a + k) = omega arith in (
      omega (arith, t.0),
      omega (arith, t.1, e),
      subst (λ (m : ℕ). IsClock part kept c h m) place t.2,
      ap (first_firing part kept h n) (sym e) ∙ firing_more part kept h n a b ∙ ap (λ (o : Option ℕ). option_or o (first_firing part kept h (n + a) b)) f ∙ t.3 ∙ ap (λ (m : ℕ). Some m) place,
    )
