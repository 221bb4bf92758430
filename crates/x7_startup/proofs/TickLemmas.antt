-- How ticks pass: in the loop of `pass_ticks`, many at once or one, and in `tick`.
use Rattle.std.proofs.Common.{◌≡◌, ℕ, ◌+◌, ◌-◌, ◌<◌, ◌≤◌, min, arith, ◌^◌, ◌⊎◌, inl, inr}
use Rattle.x7_startup.specs.Phases.{IsPhase, tick_limit}
use Rattle.x7_startup.specs.Ticks.{PassesTicks}
use Rattle.x7_startup.specs.declared.phases.Reached.{Reached}
use Rattle.x7_startup.proofs.PhaseLemmas.{phase_stays, phase_moves, phase_ended}

-- a count of ticks, and the phase after them
abbrev pub reached : ℕ → ℕ → Reached
reached ticks phase = record { ticks = ticks; phase = phase }

-- of `count` ticks all but `left` have passed
pub record HasPassed (w : ℕ → ℕ) (ticks₀ phase₀ count ticks phase left : ℕ) : Type 0 where
  pub within : left ≤ count
  pub last : phase ≤ 7
  pub passes : PassesTicks w (reached ticks₀ phase₀) (count - left) (reached ticks phase)

pub passed_none : (w : ℕ → ℕ) (ticks phase count : ℕ) → phase ≤ 7 → HasPassed w ticks phase count ticks phase count
passed_none w ticks phase count h = record {
  within = omega arith;
  last = h;
  passes = λ t e s. let z : t + (count - count) ≡ t = omega arith in rw z (e, s);
}

pub passed_stays : (w : ℕ → ℕ) (ticks₀ phase₀ count ticks phase left step wait : ℕ) → wait ≡ w phase → wait < 2 ^ 16 → step ≤ left → ticks < wait → ticks + step ≤ wait →
    HasPassed w ticks₀ phase₀ count ticks phase left → HasPassed w ticks₀ phase₀ count (ticks + step) phase (left - step)
passed_stays w ticks₀ phase₀ count ticks phase left step wait e small le early below h = record {
  within = let k : left ≤ count = h.within in omega arith;
  last = h.last;
  passes = λ t first s.
      let k : left ≤ count = h.within in
      let r = h.passes t first s in
      let now : ticks ≡ min (t + (count - left)) tick_limit = r.0 in
      let z : t + (count - (left - step)) ≡ t + (count - left) + step = omega arith in
      let p : IsPhase w (t + (count - left) + step) phase = phase_stays w (t + (count - left)) step phase r.1 (omega arith) in
      rw z (omega arith, p);
}

pub passed_moves : (w : ℕ → ℕ) (ticks₀ phase₀ count ticks phase left wait : ℕ) → wait ≡ w phase → wait < 2 ^ 16 → 0 < left → phase < 7 → wait ≤ ticks →
    HasPassed w ticks₀ phase₀ count ticks phase left → HasPassed w ticks₀ phase₀ count (min (ticks + 1) tick_limit) (phase + 1) (left - 1)
passed_moves w ticks₀ phase₀ count ticks phase left wait e small some early waited h = record {
  within = let k : left ≤ count = h.within in omega arith;
  last = omega arith;
  passes = λ t first s.
      let k : left ≤ count = h.within in
      let r = h.passes t first s in
      let now : ticks ≡ min (t + (count - left)) tick_limit = r.0 in
      let z : t + (count - (left - 1)) ≡ t + (count - left) + 1 = omega arith in
      let p : IsPhase w (t + (count - left) + 1) (phase + 1) = phase_moves w (t + (count - left)) phase r.1 early (omega arith) in
      rw z (omega arith, p);
}

pub passed_all : (w : ℕ → ℕ) (ticks₀ phase₀ count ticks phase left : ℕ) → (left ≡ 0) ⊎ (7 ≤ phase) →
    HasPassed w ticks₀ phase₀ count ticks phase left → PassesTicks w (reached ticks₀ phase₀) count (reached (min (ticks + left) tick_limit) phase)
passed_all w ticks₀ phase₀ count ticks phase left end h t first s =
    let k : left ≤ count = h.within in
    let r = h.passes t first s in
    let now : ticks ≡ min (t + (count - left)) tick_limit = r.0 in
    let z : t + count ≡ t + (count - left) + left = omega arith in
    let p : IsPhase w (t + (count - left) + left) phase =
    elim end [
      | inl none ↦ let y : t + (count - left) + left ≡ t + (count - left) = omega arith in rw y r.1
      | inr late ↦ phase_ended w (t + (count - left)) left phase r.1 late
    ] in
    rw z (omega arith, p)

-- one tick in a phase that waits, and in one that doesn't
pub tick_stays : (w : ℕ → ℕ) (ticks phase wait : ℕ) → wait ≡ w phase → wait < 2 ^ 16 → ticks < wait → PassesTicks w (reached ticks phase) 1 (reached (min (ticks + 1) tick_limit) phase)
tick_stays w ticks phase wait is small below t e s = (omega arith, phase_stays w t 1 phase s (omega arith))

pub tick_moves : (w : ℕ → ℕ) (ticks phase wait : ℕ) → wait ≡ w phase → wait < 2 ^ 16 → phase < 7 → wait ≤ ticks → PassesTicks w (reached ticks phase) 1 (reached (min (ticks + 1) tick_limit) (phase + 1))
tick_moves w ticks phase wait is small early waited t e s = (omega arith, phase_moves w t phase s early (omega arith))
