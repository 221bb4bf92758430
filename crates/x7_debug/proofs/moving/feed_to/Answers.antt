use Rattle.std.proofs.Common.{◌<◌, ◌≤◌, ◌-◌, false, length, take, drop, ℕ, ap, arith}
use Rattle.x7_words.specs.Word.{AreBytes}
use Rattle.x7_words.proofs.ListLemmas.{all_from_places}
use Rattle.x7_engine.specs.Kept.{on_the_bench}
use Rattle.x7_debug.proofs.PositionLemmas.{last_within, moved, stands_there}
use Rattle.x7_debug.proofs.moving.feed_to.Goals as goal

pub slice_bounds-feed_piece-end : goal.slice_bounds-feed_piece-end
slice_bounds-feed_piece-end c =
    let fits : AreBytes c.args.stream.now = all_from_places (λ b. b < 256) c.args.stream.now (λ k h. omega (arith, c.type_inv.stream k)) in
    omega (arith, last_within c.args.device.now.part c.args.stream.now fits, c.requires.within)

pub returns-clause-at_position : goal.returns-clause-at_position
returns-clause-at_position c =
    let stream = c.args.stream.now in
    let part = c.args.device.now.part in
    let from = c.args.device.now.taken in
    let fits : AreBytes stream = all_from_places (λ b. b < 256) stream (λ k h. omega (arith, c.type_inv.stream k)) in
    let few : c.args.to ≤ length stream = omega (arith, last_within part stream fits, c.requires.within) in
    let takes = c.feed_piece.ensures.takes part on_the_bench false (take from stream) c.requires.at_position.stands in
    stands_there part stream c.feed_piece.new.device c.args.to c.requires.within
    (moved part stream (take (c.args.to - c.taken-from.result) (drop c.taken-from.result stream)) c.feed_piece.new.device from c.args.to fits c.requires.forward few
    (ap (λ (k : ℕ). take (c.args.to - k) (drop k stream)) c.taken-from.ensures.stored)
    takes.0 takes.1)
