-- Lemmas on specs/Startup: the phase is the greatest that has begun.
use Rattle.std.proofs.Common.{◌≡◌, ◌/◌, ◌<◌, ◌≤◌, ◌⊎◌, inl, inr, ℕ, zero, suc, Bool, true, false, if◌then◌else◌, refl, ap, arith}
use Rattle.std.proofs.lemmas.Bool.Decides.{nat_tests}
use Rattle.std.specs.Prelude.{nat_le}
use Rattle.x7_part.specs.Part.{PartData}
use Rattle.x7_startup.specs.Phases.{IsPhase, first_tick_of, wait_of}
use Rattle.x7_startup.specs.Startup.{Begun, IsPhaseOf, NotBegun, StartupProgress}
use Rattle.x7_engine.specs.Startup.{greatest_begun, phase_at, phase_by}

-- ---- the phase is the greatest that has begun

-- the phase 0 has begun at once
first_tick_zero : (wait : ℕ → ℕ) → first_tick_of wait 0 ≡ 0
unfolding first_tick_of
first_tick_zero wait = refl

abbrev IsGreatest : (ℕ → ℕ) → ℕ → ℕ → ℕ → Type 0
IsGreatest wait ticks last g = (g ≤ last) × (first_tick_of wait g ≤ ticks) × ((p : ℕ) → p ≤ last → first_tick_of wait p ≤ ticks → p ≤ g)

not_yet : (wait : ℕ → ℕ) (ticks last g p : ℕ) → nat_le (first_tick_of wait (suc last)) ticks ≡ false → IsGreatest wait ticks last g → p ≤ suc last → first_tick_of wait p ≤ ticks → (p ≤ last) ⊎ (p ≡ suc last) → p ≤ g
not_yet wait ticks last g p e i l a (inl m) = i.2 p m a
not_yet wait ticks last g p e i l a (inr m) = let none : ticks < first_tick_of wait (suc last) = grind (arith, nat_tests, e) in absurd (omega (arith, ap (first_tick_of wait) m))

last_or_before : (p last : ℕ) → p ≤ suc last → (p ≤ last) ⊎ (p ≡ suc last)
last_or_before p last l = elim (nat_le p last) as (λ b. nat_le p last ≡ b → (p ≤ last) ⊎ (p ≡ suc last)) [ true ↦ λ e. inl (grind (arith, nat_tests, e)) | false ↦ λ e. let more : last < p = grind (arith, nat_tests, e) in inr (omega arith) ] refl

greatest_step : (wait : ℕ → ℕ) (ticks last g : ℕ) (b : Bool) → nat_le (first_tick_of wait (suc last)) ticks ≡ b → IsGreatest wait ticks last g → IsGreatest wait ticks (suc last) (if b then suc last else g)
greatest_step wait ticks last g true e i = (omega arith, grind (arith, nat_tests, e), λ p l a. l)
greatest_step wait ticks last g false e i = (omega (arith, i.0), i.1, λ p l a. not_yet wait ticks last g p e i l a (last_or_before p last l))

greatest_is : (wait : ℕ → ℕ) (ticks last : ℕ) → IsGreatest wait ticks last (greatest_begun wait ticks last)
greatest_is wait ticks zero = (omega arith, omega (arith, first_tick_zero wait), λ p l a. l)
greatest_is wait ticks (suc last) = greatest_step wait ticks last (greatest_begun wait ticks last) (nat_le (first_tick_of wait (suc last)) ticks) refl (greatest_is wait ticks last)

phase_is_greatest : (wait : ℕ → ℕ) (ticks : ℕ) → IsPhase wait ticks (phase_at wait ticks)
unfolding phase_at
phase_is_greatest wait ticks =
    let g = greatest_is wait ticks 7 in
    record { most = g.0; begun = g.1; greatest = g.2 }

pub phase_is : (part : PartData) (p : StartupProgress) → IsPhaseOf part.lock part.matched p (phase_by part p)
phase_is part NotBegun = refl
phase_is part (Begun cor0 bytes) = phase_is_greatest (wait_of part.lock part.matched cor0) (bytes / 4)
