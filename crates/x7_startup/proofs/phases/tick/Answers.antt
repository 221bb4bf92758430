use Rattle.std.proofs.Common.{arith}
use Rattle.x7_startup.specs.Phases.{wait_of}
use Rattle.x7_startup.proofs.TickLemmas.{tick_stays, tick_moves}
use Rattle.x7_startup.proofs.phases.tick.Goals as goal

pub returns-then-start-wait_of-clause-passes : goal.returns-then-start-wait_of-clause-passes
returns-then-start-wait_of-clause-passes c =
    rw c.saturating_add-ticks.ensures
    (tick_stays (wait_of c.args.lock_ticks c.args.match_ticks c.args.cor0) _ _ c.wait_of.result c.wait_of.ensures c.wait_of.type_inv c.if-start-wait_of.true)

pub returns-clause-passes : goal.returns-clause-passes
returns-clause-passes c =
    rw c.saturating_add-ticks.ensures
    (tick_moves (wait_of c.args.lock_ticks c.args.match_ticks c.args.cor0) _ _ c.wait_of.result c.wait_of.ensures c.wait_of.type_inv (omega arith) c.if-start-wait_of.false)
