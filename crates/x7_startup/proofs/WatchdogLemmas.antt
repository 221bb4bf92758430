-- One call more at the end of a list of calls of a watchdog.
use Rattle.std.proofs.Common.{◌≡◌, ◌==◌, ℕ, zero, suc, ◌+◌, ◌-◌, ◌*◌, ◌^◌, ◌<◌, ◌≤◌, min, Bool, true, false, not, List, [], ◌∷◌, ◌++◌, if◌then◌else◌, refl, sym, ap, ◌∙◌, arith, add_assoc, IsTrue, ◌↔◌, ◌&&◌, inl, inr, eq-eqb, eqb-true}
use Rattle.std.proofs.lemmas.Bool.Decides.{eqb_tells}
use Rattle.std.proofs.Math.Nat.{suc-mul}
use Rattle.x7_startup.specs.Watchdog.{WatchCall, Load, Reload, Watched, cfg_mon_of, timer_value_of, is_on, timer_after, has_load, since_load, bytes_on, watched_count, firing_count, WatchdogState, WatchesFor, FiresNext, bytes_alike}
use Rattle.x7_startup.proofs.CallLemmas.{choice}

pub timer_watched : (t : ℕ) (calls : List WatchCall) (e : Bool) → timer_after t (calls ++ Watched e ∷ []) ≡ timer_after t calls
timer_watched t [] e = refl
timer_watched t (Load n ∷ calls) e = timer_watched n calls e
timer_watched t (Reload ∷ calls) e = timer_watched t calls e
timer_watched t (Watched x ∷ calls) e = timer_watched t calls e

pub timer_reload : (t : ℕ) (calls : List WatchCall) → timer_after t (calls ++ Reload ∷ []) ≡ timer_after t calls
timer_reload t [] = refl
timer_reload t (Load n ∷ calls) = timer_reload n calls
timer_reload t (Reload ∷ calls) = timer_reload t calls
timer_reload t (Watched x ∷ calls) = timer_reload t calls

pub timer_load : (t : ℕ) (calls : List WatchCall) (next : ℕ) → timer_after t (calls ++ Load next ∷ []) ≡ next
timer_load t [] next = refl
timer_load t (Load n ∷ calls) next = timer_load n calls next
timer_load t (Reload ∷ calls) next = timer_load t calls next
timer_load t (Watched x ∷ calls) next = timer_load t calls next

load_watched : (calls : List WatchCall) (e : Bool) → has_load (calls ++ Watched e ∷ []) ≡ has_load calls
load_watched [] e = refl
load_watched (Load n ∷ calls) e = refl
load_watched (Reload ∷ calls) e = refl
load_watched (Watched x ∷ calls) e = load_watched calls e

loads : (calls : List WatchCall) (c : WatchCall) → has_load (c ∷ []) ≡ true → has_load (calls ++ c ∷ []) ≡ true
loads [] c h = h
loads (Load m ∷ calls) c h = refl
loads (Reload ∷ calls) c h = refl
loads (Watched x ∷ calls) c h = loads calls c h

since_watched : (calls : List WatchCall) (e : Bool) → since_load (calls ++ Watched e ∷ []) ≡ since_load calls ++ Watched e ∷ []
since_watched [] e = refl
since_watched (c ∷ calls) e =
    rw (load_watched (c ∷ calls) e, since_watched calls e) (choice (has_load (c ∷ calls)) (since_load calls) (c ∷ calls) (Watched e ∷ []))

since_loaded : (calls : List WatchCall) (c : WatchCall) → has_load (c ∷ []) ≡ true → since_load (calls ++ c ∷ []) ≡ []
since_loaded [] c h = rw h refl
since_loaded (d ∷ calls) c h = rw (loads (d ∷ calls) c h) (since_loaded calls c h)

abbrev pub tick : Bool → ℕ
tick b = if b then 1 else 0

on_watched : (off : Bool) (t : ℕ) (calls : List WatchCall) (e : Bool) → bytes_on off t (calls ++ Watched e ∷ []) ≡ bytes_on off t calls + tick (is_on off t e)
on_watched off t [] e = omega arith
on_watched off t (Load n ∷ calls) e = on_watched off t calls e
on_watched off t (Reload ∷ calls) e = on_watched off t calls e
on_watched off t (Watched x ∷ calls) e = rw (on_watched off t calls e) (sym (add_assoc _ (bytes_on off t calls) _))

pub count_watched : (off : Bool) (t : ℕ) (calls : List WatchCall) (e : Bool) →
    watched_count off t (calls ++ Watched e ∷ []) ≡ watched_count off t calls + tick (is_on off (timer_after t calls) e)
count_watched off t calls e =
    ap (λ (u : ℕ). bytes_on off u (since_load (calls ++ Watched e ∷ []))) (timer_watched t calls e)
    ∙ ap (bytes_on off (timer_after t calls)) (since_watched calls e)
    ∙ on_watched off (timer_after t calls) (since_load calls) e

pub count_loaded : (off : Bool) (t : ℕ) (calls : List WatchCall) (c : WatchCall) → has_load (c ∷ []) ≡ true → watched_count off t (calls ++ c ∷ []) ≡ 0
count_loaded off t calls c h = ap (bytes_on off (timer_after t (calls ++ c ∷ []))) (since_loaded calls c h)

-- ---- the count at which it fires

full_if : (a b off eos : Bool) (x : ℕ) → IsTrue (a && (not b && (not eos && not off))) → (if a && not off then x else 0) ≡ x
full_if true b false eos x h = refl
full_if true true true eos x h = absurd (cc)
full_if true false true true x h = absurd (cc)
full_if true false true false x h = absurd (cc)
full_if false b off eos x h = absurd (cc)

value_small : (timer : ℕ) → timer_value_of timer < 2 ^ 30
value_small timer = omega arith

-- where the watchdog is on at a byte, the count at which it fires is four times TIMER's value
pub full_on : (off : Bool) (timer : ℕ) (eos : Bool) → IsTrue (is_on off timer eos) → firing_count off timer ≡ timer_value_of timer * 4
full_on off timer eos h = full_if (cfg_mon_of timer == 1) (timer_value_of timer == 0) off eos (timer_value_of timer * 4) h

four_times : (v : ℕ) → (v * 4 == 0) ≡ (v == 0)
four_times v = elim (eqb_tells v 0) [
  | inl e ↦ elim (eqb_tells (v * 4) 0) [ inl f ↦ cc (e.0, f.0) | inr f ↦ absurd (f.1 (let z : v ≡ 0 = e.1 in omega arith)) ]
  | inr e ↦ elim (eqb_tells (v * 4) 0) [ inl f ↦ absurd (e.1 (let z : v * 4 ≡ 0 = f.1 in omega arith)) | inr f ↦ cc (e.0, f.0) ]
]

on_if : (a b off eos : Bool) (v : ℕ) → (v * 4 == 0) ≡ b → (a && (not b && (not eos && not off))) ≡ (not ((if a && not off then v * 4 else 0) == 0) && not eos)
on_if false b off eos v h = refl
on_if true true true eos v h = refl
on_if true false true true v h = refl
on_if true false true false v h = refl
on_if true true false eos v h = rw h refl
on_if true false false true v h = rw h refl
on_if true false false false v h = rw h refl

-- the watchdog is on at a byte just where the count at which it fires isn't 0 and the phase isn't 7
pub on_by_full : (off : Bool) (timer : ℕ) (eos : Bool) → is_on off timer eos ≡ (not (firing_count off timer == 0) && not eos)
on_by_full off timer eos = on_if (cfg_mon_of timer == 1) (timer_value_of timer == 0) off eos (timer_value_of timer) (four_times (timer_value_of timer))

pub on_kept : (off : Bool) (first : ℕ) (w : WatchdogState) (calls : List WatchCall) (eos on : Bool) → WatchesFor off first w calls →
    on ≡ (not (w.limit == 0) && not eos) → on ≡ is_on off (timer_after first calls) eos
on_kept off first w calls eos on k h =
    h ∙ ap (λ (x : ℕ). not (x == 0) && not eos) k.limit_is ∙ sym (on_by_full off (timer_after first calls) eos)

-- ---- what a call leaves

pub load_watches : (off : Bool) (first : ℕ) (w : WatchdogState) (calls : List WatchCall) (next limit : ℕ) → limit ≡ firing_count w.off next → WatchesFor off first w calls →
    WatchesFor off first (record w { limit = limit; count = 0 }) (calls ++ Load next ∷ [])
load_watches off first w calls next limit e h = record {
  off_is = h.off_is;
  limit_is = e ∙ ap (λ (b : Bool). firing_count b next) h.off_is ∙ ap (firing_count off) (sym (timer_load first calls next));
  count_is = sym (ap (λ x. min x (2 ^ 32 - 1)) (count_loaded off first calls (Load next) refl));
}

pub reload_watches : (off : Bool) (first : ℕ) (w : WatchdogState) (calls : List WatchCall) → WatchesFor off first w calls →
    WatchesFor off first (record w { count = 0 }) (calls ++ Reload ∷ [])
reload_watches off first w calls h = record {
  off_is = h.off_is;
  limit_is = h.limit_is ∙ ap (firing_count off) (sym (timer_reload first calls));
  count_is = sym (ap (λ x. min x (2 ^ 32 - 1)) (count_loaded off first calls Reload refl));
}

-- ---- bytes alike

push_replicate : (calls : List WatchCall) (n : ℕ) (e : Bool) → calls ++ bytes_alike (suc n) e ≡ (calls ++ bytes_alike n e) ++ Watched e ∷ []
push_replicate [] zero e = refl
push_replicate [] (suc n) e = ap (λ (l : List WatchCall). Watched e ∷ l) (push_replicate [] n e)
push_replicate (c ∷ calls) n e = ap (λ (l : List WatchCall). c ∷ l) (push_replicate calls n e)

append_none : (calls : List WatchCall) → calls ++ [] ≡ calls
append_none [] = refl
append_none (c ∷ calls) = ap (λ (l : List WatchCall). c ∷ l) (append_none calls)

pub timer_alike : (t n : ℕ) (calls : List WatchCall) (e : Bool) → timer_after t (calls ++ bytes_alike n e) ≡ timer_after t calls
timer_alike t zero calls e = rw (append_none calls) refl
timer_alike t (suc n) calls e = rw (push_replicate calls n e) (timer_watched t (calls ++ bytes_alike n e) e ∙ timer_alike t n calls e)

pub count_alike : (off : Bool) (t n : ℕ) (calls : List WatchCall) (e : Bool) →
    watched_count off t (calls ++ bytes_alike n e) ≡ watched_count off t calls + n * tick (is_on off (timer_after t calls) e)
count_alike off t zero calls e = rw (append_none calls) (omega arith)
count_alike off t (suc n) calls e =
    let b = tick (is_on off (timer_after t calls) e) in
    let ih : watched_count off t (calls ++ bytes_alike n e) ≡ watched_count off t calls + n * b = count_alike off t n calls e in
    let s : suc n * b ≡ n * b + b = suc-mul n b in
    let one : watched_count off t ((calls ++ bytes_alike n e) ++ Watched e ∷ []) ≡ watched_count off t (calls ++ bytes_alike n e) + tick (is_on off (timer_after t (calls ++ bytes_alike n e)) e) =
    count_watched off t (calls ++ bytes_alike n e) e in
    let same : tick (is_on off (timer_after t (calls ++ bytes_alike n e)) e) ≡ b = ap (λ (u : ℕ). tick (is_on off u e)) (timer_alike t n calls e) in
    ap (watched_count off t) (push_replicate calls n e) ∙ omega arith

pub alike_watches : (off : Bool) (first : ℕ) (w : WatchdogState) (calls : List WatchCall) (e on : Bool) (n count : ℕ) → WatchesFor off first w calls →
    on ≡ (not (w.limit == 0) && not e) → count ≡ min (w.count + n * tick on) (2 ^ 32 - 1) →
    WatchesFor off first (record w { count = count }) (calls ++ bytes_alike n e)
alike_watches off first w calls e on n count k o h =
    let same : tick (is_on off (timer_after first calls) e) ≡ tick on = ap tick (sym (on_kept off first w calls e on k o)) in
    let all : watched_count off first (calls ++ bytes_alike n e) ≡ watched_count off first calls + n * tick on =
    count_alike off first n calls e ∙ ap (λ x. watched_count off first calls + n * x) same in
    let old : w.count ≡ min (watched_count off first calls) (2 ^ 32 - 1) = k.count_is in
    record {
      off_is = k.off_is;
      limit_is = k.limit_is ∙ ap (firing_count off) (sym (timer_alike first n calls e));
      count_is = omega arith;
    }

-- the watchdog fires at byte n + 1 of bytes alike where it is on at them and that byte brings the count to the limit
pub alike_fires : (off : Bool) (first : ℕ) (w : WatchdogState) (calls : List WatchCall) (e on : Bool) (n : ℕ) → WatchesFor off first w calls →
    on ≡ (not (w.limit == 0) && not e) → IsTrue on → w.count + suc n ≡ w.limit → FiresNext off first (calls ++ bytes_alike n e) e
alike_fires off first w calls e on n k o t full =
    let timer = timer_after first calls in
    let now : IsTrue (is_on off timer e) = sym (on_kept off first w calls e on k o) ∙ t in
    let same : timer_after first (calls ++ bytes_alike n e) ≡ timer = timer_alike first n calls e in
    let one : tick (is_on off timer e) ≡ 1 = ap tick now in
    let all : watched_count off first (calls ++ bytes_alike (suc n) e) ≡ watched_count off first calls + suc n * 1 =
    count_alike off first (suc n) calls e ∙ ap (λ x. watched_count off first calls + suc n * x) one in
    let push : watched_count off first ((calls ++ bytes_alike n e) ++ Watched e ∷ []) ≡ watched_count off first (calls ++ bytes_alike (suc n) e) =
    ap (watched_count off first) (sym (push_replicate calls n e)) in
    let old : w.count ≡ min (watched_count off first calls) (2 ^ 32 - 1) = k.count_is in
    let limit : w.limit ≡ timer_value_of timer * 4 = k.limit_is ∙ full_on off timer e now in
    let small : timer_value_of timer < 2 ^ 30 = value_small timer in
    rw same (now, omega arith)

pub alike_quiet : (off : Bool) (first : ℕ) (w : WatchdogState) (calls : List WatchCall) (e on : Bool) (n : ℕ) → WatchesFor off first w calls →
    on ≡ (not (w.limit == 0) && not e) → (IsTrue on → w.count + suc n ≡ w.limit → ⊥) → FiresNext off first (calls ++ bytes_alike n e) e → ⊥
alike_quiet off first w calls e on n k o not' (now', full') =
    let timer = timer_after first calls in
    let same : timer_after first (calls ++ bytes_alike n e) ≡ timer = timer_alike first n calls e in
    let now : IsTrue (is_on off timer e) = rw same at now' in
    let full : watched_count off first ((calls ++ bytes_alike n e) ++ Watched e ∷ []) ≡ timer_value_of timer * 4 = rw same at full' in
    let one : tick (is_on off timer e) ≡ 1 = ap tick now in
    let all : watched_count off first (calls ++ bytes_alike (suc n) e) ≡ watched_count off first calls + suc n * 1 =
    count_alike off first (suc n) calls e ∙ ap (λ x. watched_count off first calls + suc n * x) one in
    let push : watched_count off first ((calls ++ bytes_alike n e) ++ Watched e ∷ []) ≡ watched_count off first (calls ++ bytes_alike (suc n) e) =
    ap (watched_count off first) (sym (push_replicate calls n e)) in
    let old : w.count ≡ min (watched_count off first calls) (2 ^ 32 - 1) = k.count_is in
    let limit : w.limit ≡ timer_value_of timer * 4 = k.limit_is ∙ full_on off timer e now in
    let small : timer_value_of timer < 2 ^ 30 = value_small timer in
    not' (on_kept off first w calls e on k o ∙ now) (omega arith)

-- what `n` bytes alike leave where the watchdog fires at the last of them
pub alike_fired : (off : Bool) (first : ℕ) (w : WatchdogState) (calls : List WatchCall) (e on : Bool) (n count : ℕ) → WatchesFor off first w calls →
    on ≡ (not (w.limit == 0) && not e) → 0 < n → n ≤ count → IsTrue on → w.count + n ≡ w.limit →
    (0 < n) × (n ≤ count) × FiresNext off first (calls ++ bytes_alike (n - 1) e) e × WatchesFor off first (record w { count = w.limit }) (calls ++ bytes_alike n e)
    × ((k : ℕ) → k < n - 1 → FiresNext off first (calls ++ bytes_alike k e) e → ⊥)
alike_fired off first w calls e on n count k o some most t at =
    let one : tick on ≡ 1 = ap tick t in
    let now : IsTrue (is_on off (timer_after first calls) e) = sym (on_kept off first w calls e on k o) ∙ t in
    let full : w.limit ≡ timer_value_of (timer_after first calls) * 4 = k.limit_is ∙ full_on off (timer_after first calls) e now in
    let small : timer_value_of (timer_after first calls) < 2 ^ 30 = value_small (timer_after first calls) in
    let c : w.limit ≡ min (w.count + n * tick on) (2 ^ 32 - 1) = rw one (omega arith) in (
      some,
      most,
      alike_fires off first w calls e on (n - 1) k o t (omega arith),
      alike_watches off first w calls e on n w.limit k o c,
      λ j below. alike_quiet off first w calls e on j k o (λ u f. omega arith),
    )

-- ---- one byte

-- a byte at which the watchdog isn't on
pub idle_watches : (off : Bool) (first : ℕ) (w : WatchdogState) (calls : List WatchCall) (e on : Bool) → WatchesFor off first w calls →
    on ≡ (not (w.limit == 0) && not e) → on ≡ false → WatchesFor off first w (calls ++ Watched e ∷ [])
idle_watches off first w calls e on k o f =
    let none : tick on ≡ 0 = ap tick f in
    let old : w.count ≡ min (watched_count off first calls) (2 ^ 32 - 1) = k.count_is in
    alike_watches off first w calls e on 1 w.count k o (rw none (omega arith))

pub idle_fires : (off : Bool) (first : ℕ) (w : WatchdogState) (calls : List WatchCall) (e on : Bool) → WatchesFor off first w calls →
    on ≡ (not (w.limit == 0) && not e) → on ≡ false → IsTrue false ↔ FiresNext off first calls e
idle_fires off first w calls e on k o f =
    (λ t. absurd (cc), λ g. sym f ∙ on_kept off first w calls e on k o ∙ g.0)

-- a byte at which the watchdog is on
pub byte_watches : (off : Bool) (first : ℕ) (w : WatchdogState) (calls : List WatchCall) (e on : Bool) (count : ℕ) → WatchesFor off first w calls →
    on ≡ (not (w.limit == 0) && not e) → IsTrue on → count ≡ min (w.count + 1) (2 ^ 32 - 1) →
    WatchesFor off first (record w { count = count }) (calls ++ Watched e ∷ [])
byte_watches off first w calls e on count k o t c =
    let one : tick on ≡ 1 = ap tick t in
    alike_watches off first w calls e on 1 count k o (rw one (omega arith))

-- the capped count and the count itself reach a number below the cap together
pub byte_fires : (off : Bool) (first : ℕ) (w : WatchdogState) (calls : List WatchCall) (e on : Bool) (count : ℕ) (result : Bool) → WatchesFor off first w calls →
    on ≡ (not (w.limit == 0) && not e) → IsTrue on → count ≡ min (w.count + 1) (2 ^ 32 - 1) → result ≡ (count == w.limit) →
    IsTrue result ↔ FiresNext off first calls e
byte_fires off first w calls e on count result k o t c r =
    let after = byte_watches off first w calls e on count k o t c in
    let timer = timer_after first calls in
    let now : IsTrue (is_on off timer e) = sym (on_kept off first w calls e on k o) ∙ t in
    let limit : w.limit ≡ timer_value_of timer * 4 = k.limit_is ∙ full_on off timer e now in
    let reached : count ≡ min (watched_count off first (calls ++ Watched e ∷ [])) (2 ^ 32 - 1) = after.count_is in
    let small : timer_value_of timer < 2 ^ 30 = value_small timer in
    rw r (
      (λ t'. let q : count ≡ w.limit = eqb-true count w.limit t' in (now, omega arith)),
      (λ f. let g : watched_count off first (calls ++ Watched e ∷ []) ≡ timer_value_of timer * 4 = f.1 in
          let q : count ≡ w.limit = omega arith in
          rw (eq-eqb count w.limit q) refl),
    )
