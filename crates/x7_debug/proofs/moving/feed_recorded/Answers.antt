use Rattle.std.proofs.Common.{◌<◌, ◌≤◌, ◌-◌, false, length, take, drop, ℕ, ap, arith}
use Rattle.x7_words.specs.Word.{AreBytes}
use Rattle.x7_words.proofs.ListLemmas.{all_from_places}
use Rattle.x7_engine.specs.Kept.{on_the_bench}
use Rattle.x7_debug.specs.Session.{StandsAtPosition}
use Rattle.x7_debug.proofs.JournalLemmas.{on_more}
use Rattle.x7_debug.proofs.PositionLemmas.{last_within, moved, stands_there}
use Rattle.x7_debug.proofs.moving.feed_recorded.Goals as goal

pub slice_bounds-feed-end : goal.slice_bounds-feed-end
slice_bounds-feed-end c =
    let fits : AreBytes c.args.stream.now = all_from_places (λ b. b < 256) c.args.stream.now (λ k h. omega (arith, c.type_inv.stream k)) in
    omega (arith, last_within c.args.device.now.part c.args.stream.now fits, c.requires.may_move.may.within)

pub returns-clause-at_position : goal.returns-clause-at_position
returns-clause-at_position c =
    let stream = c.args.stream.now in
    let part = c.args.device.now.part in
    let from = c.args.device.now.taken in
    let fits : AreBytes stream = all_from_places (λ b. b < 256) stream (λ k h. omega (arith, c.type_inv.stream k)) in
    let few : c.args.to ≤ length stream = omega (arith, last_within part stream fits, c.requires.may_move.may.within) in
    let takes = c.feed.ensures.takes part on_the_bench false (take from stream) c.requires.may_move.may.on.at_position.stands in
    let there : StandsAtPosition part stream c.feed.new.device c.args.to =
    stands_there part stream c.feed.new.device c.args.to c.requires.may_move.may.within
    (moved part stream (take (c.args.to - c.taken-from.result) (drop c.taken-from.result stream)) c.feed.new.device from c.args.to fits c.requires.may_move.forward few
    (ap (λ (k : ℕ). take (c.args.to - k) (drop k stream)) c.taken-from.ensures.stored)
    takes.0 takes.1) in
    record {
      there = record {
        on = on_more part stream c.args.device.now c.feed.new.device c.args.journal.now c.feed.new.self c.args.to c.feed.ensures.recorded.undo c.requires.may_move.may.on there
            c.requires.may_move.forward c.requires.one_record c.feed.ensures.records c.feed.ensures.recorded.saves c.feed.ensures.recorded.records;
        part = there.stands.part_is;
        taken = there.taken;
      };
      fed = c.feed.ensures.fed;
    }
