-- How the phase moves.
use Rattle.std.proofs.Common.{◌≡◌, ℕ, zero, suc, ◌+◌, ◌-◌, ◌<◌, ◌≤◌, arith, inl, inr}
use Rattle.std.proofs.lemmas.Bool.{cases_lt}
use Rattle.x7_startup.specs.Phases.{first_tick_of, IsPhase}

pub first_tick_grows : (w : ℕ → ℕ) (p : ℕ) → first_tick_of w p + 1 ≤ first_tick_of w (suc p)
unfolding first_tick_of
first_tick_grows w p = omega arith

pub first_tick_waits : (w : ℕ → ℕ) (p : ℕ) → w p + 1 ≤ first_tick_of w (suc p)
unfolding first_tick_of
first_tick_waits w p = omega arith

pub first_tick_comes : (w : ℕ → ℕ) (p t : ℕ) → first_tick_of w p ≤ t → w p ≤ t → first_tick_of w (suc p) ≤ t + 1
unfolding first_tick_of
first_tick_comes w p t h k = omega arith

first_tick_rises_by : (w : ℕ → ℕ) (p k : ℕ) → first_tick_of w p ≤ first_tick_of w (p + k)
first_tick_rises_by w p zero = let e : p + 0 ≡ p = omega arith in rw e (omega arith)
first_tick_rises_by w p (suc k) =
    let e : p + suc k ≡ suc (p + k) = omega arith in
    let h : first_tick_of w p ≤ first_tick_of w (p + k) = first_tick_rises_by w p k in
    let g : first_tick_of w (p + k) + 1 ≤ first_tick_of w (suc (p + k)) = first_tick_grows w (p + k) in
    rw e (omega arith)

pub first_tick_rises : (w : ℕ → ℕ) (p q : ℕ) → p ≤ q → first_tick_of w p ≤ first_tick_of w q
first_tick_rises w p q h =
    let e : p + (q - p) ≡ q = omega arith in
    let far : first_tick_of w p ≤ first_tick_of w (p + (q - p)) = first_tick_rises_by w p (q - p) in
    rw e at far

pub phase_first : (w : ℕ → ℕ) → IsPhase w 0 0
unfolding first_tick_of
phase_first w = record {
  most = omega arith;
  begun = omega arith;
  greatest = λ p small h. elim (cases_lt 0 p) [
    | inl some ↦ let up : first_tick_of w 1 ≤ first_tick_of w p = first_tick_rises w 1 p some in
        let one : 0 + 1 ≤ first_tick_of w 1 = first_tick_grows w 0 in absurd (omega arith)
    | inr none ↦ none
  ];
}

-- up to the wait of its phase a startup stays in it
pub phase_stays : (w : ℕ → ℕ) (t k p : ℕ) → IsPhase w t p → t + k ≤ w p → IsPhase w (t + k) p
phase_stays w t k p s h = record {
  most = s.most;
  begun = let b : first_tick_of w p ≤ t = s.begun in omega arith;
  greatest = λ q small come. elim (cases_lt p q) [
    | inl above ↦ let up : first_tick_of w (suc p) ≤ first_tick_of w q = first_tick_rises w (suc p) q above in
        let waits : w p + 1 ≤ first_tick_of w (suc p) = first_tick_waits w p in absurd (omega arith)
    | inr below ↦ below
  ];
}

pub phase_ended : (w : ℕ → ℕ) (t k p : ℕ) → IsPhase w t p → 7 ≤ p → IsPhase w (t + k) p
phase_ended w t k p s h = record {
  most = s.most;
  begun = let b : first_tick_of w p ≤ t = s.begun in omega arith;
  greatest = λ q small come. omega arith;
}

pub phase_moves : (w : ℕ → ℕ) (t p : ℕ) → IsPhase w t p → p < 7 → w p ≤ t → IsPhase w (t + 1) (p + 1)
phase_moves w t p s h k =
    let e : p + 1 ≡ suc p = omega arith in
    let b : first_tick_of w p ≤ t = s.begun in
    rw e record {
      most = omega arith;
      begun = first_tick_comes w p t b k;
      greatest = λ q small come. elim (cases_lt (suc p) q) [
        | inl above ↦ let up : first_tick_of w (suc (suc p)) ≤ first_tick_of w q = first_tick_rises w (suc (suc p)) q above in
            let more : first_tick_of w (suc p) + 1 ≤ first_tick_of w (suc (suc p)) = first_tick_grows w (suc p) in
            let now : suc p ≤ p = s.greatest (suc p) h (omega arith) in absurd (omega arith)
        | inr below ↦ below
      ];
    }

pub phase_rises : (w : ℕ → ℕ) (t u p q : ℕ) → t ≤ u → IsPhase w t p → IsPhase w u q → p ≤ q
phase_rises w t u p q h a b = let c : first_tick_of w p ≤ t = a.begun in b.greatest p a.most (omega arith)

pub one_phase : (w : ℕ → ℕ) (t p q : ℕ) → IsPhase w t p → IsPhase w t q → p ≡ q
one_phase w t p q a b =
    let h : p ≤ q = phase_rises w t t p q (omega arith) a b in
    let k : q ≤ p = phase_rises w t t q p (omega arith) b a in omega arith
