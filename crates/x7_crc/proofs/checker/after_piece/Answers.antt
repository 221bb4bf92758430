use Rattle.std.proofs.Common.{arith}
use Rattle.x7_crc.proofs.CheckerLemmas.{used_up}
use Rattle.x7_crc.proofs.CheckerLemmas.{took, took_all}
use Rattle.x7_crc.proofs.checker.after_piece.Goals as goal

pub returns-in-Need : goal.returns-in-Need
returns-in-Need c = λ bytes s.
    let used = used_up _ _ _ _ c.in-Need.is c.cut-run.ensures.nearer in
    took_all _ _ _ _ _ _ _ bytes c.args.piece.now (c.loop-now.invariant.checks bytes s) c.cut-run.ensures.forward (omega (arith, used)) c.in-Need.is c.cut-run.ensures.adds

pub loop-now-preserved : goal.loop-now-preserved
loop-now-preserved c = record {
  within = c.cut-run.ensures.within;
  checks = λ bytes s. took _ _ _ _ _ _ _ _ _ bytes c.args.piece.now (c.loop-now.invariant.checks bytes s) c.cut-run.ensures.forward c.cut-run.ensures.adds c.after_run-now.ensures;
}
