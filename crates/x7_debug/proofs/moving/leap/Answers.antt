use Rattle.x7_debug.proofs.JournalLemmas.{on_without}
use Rattle.x7_debug.proofs.moving.leap.Goals as goal

pub returns : goal.returns
returns c =
    let there = c.feed_to.ensures.at_position in
    record {
      at_position = record {
        there = record {
          on = on_without c.args.stream.now c.feed_to.new.device c.args.journal.now c.forget.new.self c.args.device.now.part c.args.to there c.requires.may.on.records c.forget.ensures;
          part = there.stands.part_is;
          taken = there.taken;
        };
        fed = c.feed_to.ensures.fed;
      };
    }
