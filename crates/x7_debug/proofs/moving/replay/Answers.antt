use Rattle.std.proofs.Common.{arith}
use Rattle.x7_debug.proofs.JournalLemmas.{comes_twice, within_still}
use Rattle.x7_debug.proofs.moving.replay.Goals as goal

pub go_forward-requires : goal.go_forward-requires
go_forward-requires c =
    let first = c.begin_again.ensures.at_position in
    record {
      may = record {
        on = first.on;
        within = within_still c.args.device.now.part c.begin_again.new.device.part c.args.stream.now c.args.to c.args.to first.part (omega arith) c.requires.within;
      };
      forward = omega (arith, first.taken);
    }

pub returns-clause-at_position : goal.returns-clause-at_position
returns-clause-at_position c =
    comes_twice c.args.stream.now c.args.device.now c.begin_again.new.device c.go_forward.new.device c.begin_again.new.journal c.go_forward.new.journal 0 c.args.to c.begin_again.ensures.at_position c.go_forward.ensures.at_position.forward.there

pub returns-clause-fed : goal.returns-clause-fed
returns-clause-fed c =
    let there = c.go_forward.ensures.at_position.forward in
    let none = c.begin_again.ensures.fed in
    record { never_less = omega (arith, none, there.fed.never_less); most = omega (arith, none, there.fed.most, there.there.taken) }

pub returns-clause-oldest : goal.returns-clause-oldest
returns-clause-oldest c =
    let there = c.go_forward.ensures.at_position in
    omega (arith, there.oldest, there.forward.there.taken, c.begin_again.ensures.at_position.taken)
