use Rattle.std.proofs.Common.{arith}
use Rattle.x7_debug.proofs.JournalLemmas.{comes_on, within_still}
use Rattle.x7_debug.proofs.moving.go_forward.Goals as goal

pub leap-requires : goal.leap-requires
leap-requires c = record { may = record { on = c.requires.may.on; within = omega (arith, c.requires.may.within) }; forward = omega (arith, c.if-to-taken-gt-RECORDED_SIZE.true, c.taken.ensures.stored) }

pub go_by_words-requires : goal.go_by_words-requires
go_by_words-requires c =
    let there = c.leap.ensures.at_position in
    record {
      may = record {
        on = there.there.on;
        within = within_still c.args.device.now.part c.leap.new.device.part c.args.stream.now c.args.to c.args.to there.there.part (omega arith) c.requires.may.within;
      };
      forward = omega (arith, there.there.taken);
    }

pub returns-then-to-taken-gt-RECORDED_SIZE : goal.returns-then-to-taken-gt-RECORDED_SIZE
returns-then-to-taken-gt-RECORDED_SIZE c =
    let near = c.leap.ensures.at_position in
    let there = c.go_by_words.ensures.at_position in
    let far = c.if-to-taken-gt-RECORDED_SIZE.true in
    let from = c.taken.ensures.stored in
    record {
      at_position = record {
        forward = comes_on c.args.stream.now c.args.device.now c.leap.new.device c.go_by_words.new.device c.leap.new.journal c.go_by_words.new.journal _ c.args.to (omega (arith, near.there.taken, far, from)) (omega (arith, near.there.taken, there.forward.there.taken)) near there.forward;
        oldest = omega (arith, there.oldest, there.forward.there.taken, near.there.taken, far, from);
      };
    }
