use Rattle.x7_debug.proofs.JournalLemmas.{on_without, stands_first}
use Rattle.x7_debug.proofs.moving.begin_again.Goals as goal

pub returns-clause-at_position : goal.returns-clause-at_position
returns-clause-at_position c =
    let there = stands_first c.args.device.now.part c.args.stream.now c.reset.new.self c.reset.ensures.stands in
    record {
      on = on_without c.args.stream.now c.reset.new.self c.args.journal.now c.forget.new.self c.args.device.now.part 0 there c.requires.records c.forget.ensures;
      part = there.stands.part_is;
      taken = there.taken;
    }
