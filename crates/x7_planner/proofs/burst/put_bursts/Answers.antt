use Rattle.std.proofs.Common.{List, sym, subst}
use Rattle.std.specs.Prelude.{All, Contains}
use Rattle.std.proofs.lemmas.List.{take_rest}
use Rattle.x7_part.specs.AddressOrder.{addresses_in}
use Rattle.x7_planner.specs.Content.{planned_rows}
use Rattle.x7_planner.specs.declared.content.PlannedFrame.{PlannedFrame}
use Rattle.x7_planner.proofs.BurstLemmas.{addresses_drop, bursts_stepped}
use Rattle.x7_planner.proofs.burst.put_bursts.Goals as goal

pub burst_length-count-requires-clause-addresses : goal.burst_length-count-requires-clause-addresses
burst_length-count-requires-clause-addresses c =
    subst (λ (t : List PlannedFrame). All (λ row. Contains (addresses_in c.args.part.now) row.far) (planned_rows t)) (sym (take_rest c.args.frames.now c.loop-at.at)) (addresses_drop c.args.part.now c.loop-at.at c.args.frames.now c.requires.addresses)

pub loop-at-preserved : goal.loop-at-preserved
loop-at-preserved c =
    bursts_stepped c.args.part.now c.args.frames.now _ c.loop-at.out.items c.put_burst.new.out.items c.loop-at.at c.burst_length-count.result c.loop-at.invariant.0 c.burst_length-count.ensures c.loop-at.invariant.1 c.in_ok-put_burst.ensures
