-- Lemmas on specs/Timeout: the count by the calls is that of the bytes after the last load.
use Rattle.std.proofs.Common.{◌≡◌, ◌==◌, ◌&&◌, ◌||◌, ◌+◌, ◌-◌, ◌*◌, ◌<◌, ◌≤◌, inl, inr, ℕ, zero, suc, Bool, true, false, if◌then◌else◌, List, [], ◌∷◌, ◌++◌, length, take, refl, ap, sym, ◌∙◌, append-nil, arith}
use Rattle.x7_words.specs.Word.{AreBytes}
use Rattle.x7_packets.specs.History.{Access, Bad, History, Placed, Read, Write, executes, history_of}
use Rattle.x7_packets.proofs.GrowthLemmas.{OneMore}
use Rattle.x7_part.specs.Part.{PartData}
use Rattle.x7_startup.specs.Watchdog.{Load, Reload, WatchCall, watched_count, is_on, timer_value_of}
use Rattle.x7_startup.proofs.WatchdogLemmas.{count_loaded, count_watched}
use Rattle.x7_engine.specs.declared.kept.Kept.{Kept}
use Rattle.x7_engine.specs.Kept.{is_fallback}
use Rattle.x7_engine.specs.Startup.{startup_ended}
use Rattle.x7_engine.specs.Timeout.{before_byte, bytes_on_since_load, times_out_at, is_on_at, last_load, loads, bytes_on_after}
use Rattle.x7_engine.specs.Watching.{watchdog_fires, timer_held, watch_call, watch_calls}
use Rattle.x7_engine.proofs.ClockLemmas.{one_watched, timer_is, watch_entered}
use Rattle.x7_engine.proofs.FirstStopLemmas.{one_more}
use Rattle.x7_engine.proofs.TurnLemmas.{newest_within}

-- ---- the last load

load_within : (n : ℕ) (h : History) → Placed n h → last_load h ≤ n
load_within n [] p = omega arith
load_within n (e ∷ h) p = by (loads h e.access) (load_within (e.place - 1) h p.2)
  where
    by : (b : Bool) → last_load h ≤ e.place - 1 → (if b then e.place else last_load h) ≤ n
    by true l = p.1
    by false l = omega (arith, l, p.1)

-- ---- a byte and an access more

count_byte : (part : PartData) (kept : Kept) (h : History) (n : ℕ) → Placed n h
    → watched_count (is_fallback kept.kind) kept.timer (watch_calls part h (n + 1)) ≡ watched_count (is_fallback kept.kind) kept.timer (watch_calls part h n) + (if is_on (is_fallback kept.kind) (timer_held kept h) (startup_ended part h (n + 1)) then 1 else 0)
count_byte part kept h n p =
    let off : Bool = is_fallback kept.kind in
    let eos : Bool = startup_ended part h (n + 1) in
    let calls : List WatchCall = watch_calls part h n in
    ap (watched_count off kept.timer) (one_watched part h n (newest_within n h p))
    ∙ count_watched off kept.timer calls eos
    ∙ ap (λ (t : ℕ). watched_count off kept.timer calls + (if is_on off t eos then 1 else 0)) (timer_is part kept h n)

count_call : (off : Bool) (t : ℕ) (h : History) (calls : List WatchCall) (access : Access) → watched_count off t (calls ++ watch_call h access) ≡ (if loads h access then 0 else watched_count off t calls)
count_call off t h calls (Read register n) = ap (watched_count off t) (append-nil calls)
count_call off t h calls (Bad w) = ap (watched_count off t) (append-nil calls)
count_call off t h calls (Write register w) = by (executes 17 h (Write register w)) (register == 17)
  where
    by : (x b : Bool) → watched_count off t (calls ++ (if x then Reload ∷ [] else (if b then Load w ∷ [] else []))) ≡ (if b || x then 0 else watched_count off t calls)
    by true true = count_loaded off t calls Reload refl
    by true false = count_loaded off t calls Reload refl
    by false true = count_loaded off t calls (Load w) refl
    by false false = ap (watched_count off t) (append-nil calls)

-- ---- the count of bytes

abbrev Counts : PartData → Kept → List ℕ → ℕ → Type 0
Counts part kept bytes n = watched_count (is_fallback kept.kind) kept.timer (watch_calls part (history_of (take n bytes)) n) ≡ bytes_on_after part kept bytes (last_load (history_of (take n bytes))) (n - last_load (history_of (take n bytes)))

-- the count up to byte n + 1, without the access that ends there
counted_here : (part : PartData) (kept : Kept) (bytes : List ℕ) (n : ℕ) → Placed n (history_of (take n bytes)) → Counts part kept bytes n
    → watched_count (is_fallback kept.kind) kept.timer (watch_calls part (history_of (take n bytes)) (n + 1)) ≡ bytes_on_after part kept bytes (last_load (history_of (take n bytes))) (suc n - last_load (history_of (take n bytes)))
counted_here part kept bytes n p e =
    let h : History = history_of (take n bytes) in
    let from : ℕ = last_load h in
    let within : from ≤ n = load_within n h p in
    let count : suc n - from ≡ suc (n - from) = omega (arith, within) in
    let place : from + (n - from) + 1 ≡ n + 1 = omega (arith, within) in
    let before : n + 1 - 1 ≡ n = omega arith in
    count_byte part kept h n p
    ∙ ap (λ (k : ℕ). k + (if is_on (is_fallback kept.kind) (timer_held kept h) (startup_ended part h (n + 1)) then 1 else 0)) e
    ∙ ap (λ (m : ℕ). bytes_on_after part kept bytes from (n - from) + (if is_on (is_fallback kept.kind) (timer_held kept (history_of (take m bytes))) (startup_ended part (history_of (take m bytes)) (n + 1)) then 1 else 0)) (sym before)
    ∙ ap (λ (m : ℕ). bytes_on_after part kept bytes from (n - from) + (if is_on_at part kept bytes m then 1 else 0)) (sym place)
    ∙ ap (bytes_on_after part kept bytes from) (sym count)

counted_next : (part : PartData) (kept : Kept) (bytes : List ℕ) (n : ℕ) → Placed n (history_of (take n bytes)) → OneMore (suc n) (history_of (take n bytes)) (history_of (take (suc n) bytes)) → Counts part kept bytes n → Counts part kept bytes (suc n)
counted_next part kept bytes n p (inl same) e =
    let h : History = history_of (take n bytes) in
    let next : suc n ≡ n + 1 = omega arith in
    ap (λ (g : History). watched_count (is_fallback kept.kind) kept.timer (watch_calls part g (suc n))) same
    ∙ ap (λ (m : ℕ). watched_count (is_fallback kept.kind) kept.timer (watch_calls part h m)) next
    ∙ counted_here part kept bytes n p e
    ∙ ap (λ (g : History). bytes_on_after part kept bytes (last_load g) (suc n - last_load g)) (sym same)
counted_next part kept bytes n p (inr more) e =
    let h : History = history_of (take n bytes) in
    let access : Access = more.0 in
    let next : suc n ≡ n + 1 = omega arith in
    let off : Bool = is_fallback kept.kind in
    ap (λ (g : History). watched_count off kept.timer (watch_calls part g (suc n))) more.1
    ∙ ap (watched_count off kept.timer) (watch_entered part h access (suc n))
    ∙ count_call off kept.timer h (watch_calls part h (suc n)) access
    ∙ by (loads h access) (ap (λ (m : ℕ). watched_count off kept.timer (watch_calls part h m)) next ∙ counted_here part kept bytes n p e)
    ∙ ap (λ (g : History). bytes_on_after part kept bytes (last_load g) (suc n - last_load g)) (sym more.1)
  where
    by : (b : Bool) → watched_count (is_fallback kept.kind) kept.timer (watch_calls part (history_of (take n bytes)) (suc n)) ≡ bytes_on_after part kept bytes (last_load (history_of (take n bytes))) (suc n - last_load (history_of (take n bytes)))
        → (if b then 0 else watched_count (is_fallback kept.kind) kept.timer (watch_calls part (history_of (take n bytes)) (suc n)))
        ≡ bytes_on_after part kept bytes (if b then suc n else last_load (history_of (take n bytes))) (suc n - (if b then suc n else last_load (history_of (take n bytes))))
    by true f = let none : 0 ≡ suc n - suc n = omega arith in ap (bytes_on_after part kept bytes (suc n)) none
    by false f = f

counted_all : (part : PartData) (kept : Kept) (bytes : List ℕ) (n : ℕ) → AreBytes bytes → n ≤ length bytes → Counts part kept bytes n
counted_all part kept bytes zero f l = refl
counted_all part kept bytes (suc n) f l =
    let few : n ≤ length bytes = omega (arith, l) in
    let more = one_more bytes n f (omega (arith, l)) in
    counted_next part kept bytes n more.0 more.1 (counted_all part kept bytes n f few)

pub fires_by_bytes : (part : PartData) (kept : Kept) (bytes : List ℕ) (n : ℕ) → AreBytes bytes → 0 < n → n ≤ length bytes → watchdog_fires part kept (before_byte bytes n) n ≡ times_out_at part kept bytes n
fires_by_bytes part kept bytes n f some few =
    let m : ℕ = n - 1 in
    let h : History = before_byte bytes n in
    let next : n ≡ m + 1 = omega (arith, some) in
    let up : suc m ≡ n = omega (arith, some) in
    let more = one_more bytes m f (omega (arith, some, few)) in
    let count : watched_count (is_fallback kept.kind) kept.timer (watch_calls part h n) ≡ bytes_on_since_load part kept bytes n =
    ap (λ (k : ℕ). watched_count (is_fallback kept.kind) kept.timer (watch_calls part h k)) next
    ∙ counted_here part kept bytes m more.0 (counted_all part kept bytes m f (omega (arith, few)))
    ∙ ap (λ (k : ℕ). bytes_on_after part kept bytes (last_load h) (k - last_load h)) up in
    ap (λ (c : ℕ). is_on (is_fallback kept.kind) (timer_held kept h) (startup_ended part h n) && c == timer_value_of (timer_held kept h) * 4) count
