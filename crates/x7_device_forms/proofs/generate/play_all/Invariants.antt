use Rattle.x7_planner.specs.FullStreamPieces.{puts_left}
use Rattle.x7_device_forms.proofs.GenerateLemmas.{PlaysAlong}
use Rattle.x7_device_forms.proofs.generate.play_all.Given as goal

abbrev pub invariant-loop-player : goal.invariant-loop-player
invariant-loop-player l = PlaysAlong l.fn.stream.part l.fn.stream.plan l.stream l.player l.size l.piece.items

abbrev pub decreases-loop-player : goal.decreases-loop-player
decreases-loop-player l = puts_left l.stream
