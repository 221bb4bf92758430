use Rattle.std.proofs.Common.{ℕ, ap, arith, inl, inr, refl}
use Rattle.x7_engine.specs.SoonestEnd.{soonest_end}
use Rattle.x7_engine.proofs.device.Device.turn_end.Goals as goal

pub returns : goal.returns
returns c = record {
  within = omega arith;
  ends_or_advances = inl refl;
  forward = c.requires;
  soonest = λ part kept wrapped bytes s. inl (c.has_begun.ensures.not_begun part kept wrapped bytes s c.if-has_begun.false);
}

pub returns-then-has_begun-clause-soonest : goal.returns-then-has_begun-clause-soonest
returns-then-has_begun-clause-soonest c = λ part kept wrapped bytes s.
    let phase = ap (λ (k : ℕ). soonest_end k) (c.phase.ensures part kept wrapped bytes s) in
    inr (omega (arith, c.min.ensures, c.soonest_end.ensures, phase))
