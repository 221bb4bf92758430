use Rattle.x7_startup.specs.Phases.{wait_of}
use Rattle.x7_startup.proofs.TickLemmas.{HasPassed}
use Rattle.x7_startup.proofs.phases.pass_ticks.Given as goal

abbrev pub invariant-loop-left : goal.invariant-loop-left
invariant-loop-left l = HasPassed (wait_of l.lock_ticks l.match_ticks l.cor0) l.fn.start.ticks l.fn.start.phase l.fn.count l.ticks l.phase l.left

abbrev pub decreases-loop-left : goal.decreases-loop-left
decreases-loop-left l = l.left
