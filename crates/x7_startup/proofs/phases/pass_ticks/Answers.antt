use Rattle.std.proofs.Common.{arith}
use Rattle.x7_startup.specs.Phases.{wait_of}
use Rattle.x7_startup.proofs.TickLemmas.{passed_stays, passed_moves}
use Rattle.x7_startup.proofs.phases.pass_ticks.Goals as goal

pub loop-left-preserved-then-ticks-wait : goal.loop-left-preserved-then-ticks-wait
loop-left-preserved-then-ticks-wait c =
    passed_stays (wait_of c.args.lock_ticks c.args.match_ticks c.args.cor0) _ _ _ _ _ _ c.min-step.result c.wait_of-wait.result
    c.wait_of-wait.ensures c.wait_of-wait.type_inv (omega arith) c.if-ticks-wait.true (omega arith) c.loop-left.invariant

pub loop-left-preserved : goal.loop-left-preserved
loop-left-preserved c =
    let h = passed_moves (wait_of c.args.lock_ticks c.args.match_ticks c.args.cor0) _ _ _ _ _ _ c.wait_of-wait.result
    c.wait_of-wait.ensures c.wait_of-wait.type_inv c.loop-left-test.true c.if-phase-lt-LAST_PHASE.true c.if-ticks-wait.false c.loop-left.invariant in
    rw (← c.saturating_add-ticks.ensures) at h
