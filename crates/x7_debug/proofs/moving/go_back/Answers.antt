use Rattle.std.proofs.Common.{ℕ, List, take, ap, ◌∙◌, arith}
use Rattle.std.proofs.lemmas.List.{take_all}
use Rattle.x7_engine.specs.Undo.{UndoState}
use Rattle.x7_debug.specs.Journal.{oldest_by, records_of}
use Rattle.x7_debug.proofs.JournalLemmas.{comes_twice, within_still}
use Rattle.x7_debug.proofs.moving.go_back.Goals as goal

pub returns-then-taken-to-clause-oldest : goal.returns-then-taken-to-clause-oldest
returns-then-taken-to-clause-oldest c =
    let us : List UndoState = records_of c.take_back.new.journal in
    ap (oldest_by c.feed_recorded.new.device.taken) c.feed_recorded.ensures.recorded.records
    ∙ ap (λ (n : ℕ). oldest_by n (take 63 us)) c.feed_recorded.ensures.recorded.saves.values.taken
    ∙ ap (oldest_by c.take_back.new.device.taken) (take_all 63 us (omega (arith, c.take_back.ensures.room_for_one)))
    ∙ c.take_back.ensures.oldest

pub returns-then-taken-to-clause-at_position : goal.returns-then-taken-to-clause-at_position
returns-then-taken-to-clause-at_position c =
    comes_twice c.args.stream.now c.args.device.now c.take_back.new.device c.feed_recorded.new.device c.take_back.new.journal c.feed_recorded.new.journal c.take_back.new.device.taken c.args.to c.take_back.ensures.at_position c.feed_recorded.ensures.at_position.there

pub returns-else-taken-to-clause-at_position : goal.returns-else-taken-to-clause-at_position
returns-else-taken-to-clause-at_position c =
    let here = c.take_back.ensures in
    record { on = here.at_position.on; part = here.at_position.part; taken = omega (arith, here.within, c.if-taken-to.false, c.taken.ensures.stored) }

pub returns-then-taken-to-clause-fed : goal.returns-then-taken-to-clause-fed
returns-then-taken-to-clause-fed c =
    let there = c.feed_recorded.ensures.at_position in
    let none = c.take_back.ensures.fed in
    record { never_less = omega (arith, none, there.fed.never_less); most = omega (arith, none, there.fed.most, there.there.taken, c.take_back.ensures.one_record) }

pub feed_recorded-requires-clause-may_move : goal.feed_recorded-requires-clause-may_move
feed_recorded-requires-clause-may_move c =
    let back = c.take_back.ensures in
    record {
      may = record {
        on = back.at_position.on;
        within = within_still c.args.device.now.part c.take_back.new.device.part c.args.stream.now c.args.to c.args.device.now.taken back.at_position.part (omega (arith, c.requires.before)) c.requires.on.at_position.within;
      };
      forward = back.within;
    }
