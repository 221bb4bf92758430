use Rattle.std.proofs.Common.{◌≡◌, ◌+◌, ◌-◌, ℕ, true, false, take, subst, sym, arith}
use Rattle.x7_part.specs.Part.{PartData}
use Rattle.x7_debug.specs.Journal.{record_room, records_of}
use Rattle.x7_debug.specs.Position.{holds_at}
use Rattle.x7_debug.proofs.JournalLemmas.{comes_on, within_still}
use Rattle.x7_debug.proofs.until.seek_word.Goals as goal

pub seek-requires-clause-near_newest : goal.seek-requires-clause-near_newest
seek-requires-clause-near_newest c =
    let more = c.feed_recorded.ensures.recorded in
    record { undo = more.undo; older = take (record_room - 1) (records_of c.args.journal.now); records = more.records; near = omega (arith, more.saves.values.taken, c.min.ensures, c.taken-from.ensures.stored) }

pub feed_recorded-requires-clause-may_move : goal.feed_recorded-requires-clause-may_move
feed_recorded-requires-clause-may_move c =
    let from = c.taken-from.ensures.stored in
    record { may = record { on = c.requires.on; within = omega (arith, from, c.requires.before, c.requires.last_is) }; forward = omega (arith, from) }

pub seek-requires-clause-may_move : goal.seek-requires-clause-may_move
seek-requires-clause-may_move c =
    let first = c.feed_recorded.ensures.at_position.there in
    record {
      may = record {
        on = first.on;
        within = within_still c.args.device.now.part c.feed_recorded.new.device.part c.args.stream.now c.min.result c.args.last first.part (omega (arith, c.min.ensures)) (omega (arith, c.requires.last_is));
      };
      forward = omega (arith, c.min.ensures, first.taken, c.taken-from.ensures.stored, c.requires.before);
    }

pub returns-clause-at_position : goal.returns-clause-at_position
returns-clause-at_position c =
    let first = c.feed_recorded.ensures.at_position in
    comes_on c.args.stream.now c.args.device.now c.feed_recorded.new.device c.seek.new.device c.feed_recorded.new.journal c.feed_recorded.new.journal (c.taken-from.result + 1) c.seek.new.device.taken
    (omega (arith, first.there.taken, c.taken-from.ensures.stored)) (omega (arith, c.seek.ensures.forward)) first c.seek.ensures.at_position

pub returns-clause-found : goal.returns-clause-found
returns-clause-found c = λ q.
    subst (λ (p : PartData). holds_at p c.args.stream.now c.args.stop c.seek.new.device.taken ≡ true) c.feed_recorded.ensures.at_position.there.part (c.seek.ensures.found q)

pub returns-clause-none_before : goal.returns-clause-none_before
returns-clause-none_before c = λ k after before.
    subst (λ (p : PartData). holds_at p c.args.stream.now c.args.stop k ≡ false) c.feed_recorded.ensures.at_position.there.part
    (c.seek.ensures.none_before k (omega (arith, after, c.feed_recorded.ensures.at_position.there.taken, c.taken-from.ensures.stored)) before)

pub returns-clause-none_at_end : goal.returns-clause-none_at_end
returns-clause-none_at_end c = λ q.
    subst (λ (p : PartData). holds_at p c.args.stream.now c.args.stop c.seek.new.device.taken ≡ false) c.feed_recorded.ensures.at_position.there.part
    (subst (λ (n : ℕ). holds_at c.feed_recorded.new.device.part c.args.stream.now c.args.stop n ≡ false) (sym (c.seek.ensures.at_bound q)) (c.seek.ensures.none_at_end q))
