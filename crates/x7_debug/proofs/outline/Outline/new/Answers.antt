use Rattle.std.proofs.Common.{◌-◌, ◌<◌, [], ap, false, length, length-drop, length-take-le, take, drop, refl, arith}
use Rattle.x7_words.specs.Word.{AreBytes}
use Rattle.x7_words.proofs.ListLemmas.{all_from_places}
use Rattle.x7_engine.specs.Kept.{on_the_bench}
use Rattle.x7_engine.specs.Startup.{phase_by}
use Rattle.x7_debug.specs.Session.{StandsAtPosition}
use Rattle.x7_debug.proofs.PositionLemmas.{last_within, moved, stands_first_bytes}
use Rattle.x7_debug.proofs.outline.Outline.new.Goals as goal

pub feed_piece-requires : goal.feed_piece-requires
feed_piece-requires c =
    let fed = c.feed_until_begun-begins.ensures in
    let stands = fed.takes.stands c.args.part.now on_the_bench false [] c.in_ok-device.ensures.stands in
    let from = c.feed_until_begun-begins.result in
    let stream = c.args.stream.now in
    omega (arith, stands.taken_is, length-take-le from stream fed.takes.within, length-drop from stream, fed.takes.within)

pub returns-clause-last : goal.returns-clause-last
returns-clause-last c =
    let fed = c.feed_until_begun-begins.ensures in
    let part = c.args.part.now in
    let stream = c.args.stream.now in
    let from = c.feed_until_begun-begins.result in
    let fits : AreBytes stream = all_from_places (λ b. b < 256) stream (λ k h. omega (arith, c.type_inv.stream k)) in
    let stands = fed.takes.stands part on_the_bench false [] c.in_ok-device.ensures.stands in
    let takes = c.feed_piece.ensures.takes part on_the_bench false (take from stream) stands in
    let there = moved part stream (take (length stream - from) (drop from stream)) c.feed_piece.new.device from (length stream) fits fed.takes.within (omega arith) refl
    takes.0 takes.1 in
    omega (arith, c.taken.ensures.stored, there.taken, last_within part stream fits)

pub returns-clause-begins : goal.returns-clause-begins
returns-clause-begins c =
    let fed = c.feed_until_begun-begins.ensures in
    let new = c.in_ok-device.ensures.stands in
    let fits : AreBytes c.args.stream.now = all_from_places (λ b. b < 256) c.args.stream.now (λ k h. omega (arith, c.type_inv.stream k)) in
    let there : StandsAtPosition c.args.part.now c.args.stream.now c.feed_until_begun-begins.new.self c.feed_until_begun-begins.result =
    stands_first_bytes c.args.part.now c.args.stream.now c.feed_until_begun-begins.new.self c.feed_until_begun-begins.result fits fed.takes.within (fed.takes.stands c.args.part.now on_the_bench false [] new) (fed.no_word_due c.args.part.now on_the_bench false [] new) in
    record { within = there.within; zero = λ k l. ap (phase_by c.args.part.now) (fed.first c.args.part.now on_the_bench false [] new k l) }
