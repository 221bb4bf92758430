use Rattle.std.proofs.Common.{◌<◌, arith}
use Rattle.x7_words.specs.Word.{AreBytes}
use Rattle.x7_words.proofs.ListLemmas.{all_append, all_from_places}
use Rattle.x7_debug.proofs.FeedLemmas.{drops, fed_none_due, fed_stands}
use Rattle.x7_debug.proofs.moving.feed_piece.Goals as goal

pub returns-clause-takes : goal.returns-clause-takes
returns-clause-takes c = λ part kept wrapped bytes s.
    let piece = c.args.piece.now in
    let fits : AreBytes piece = all_from_places (λ b. b < 256) piece (λ k h. omega (arith, c.type_inv.piece k)) in
    let reads = c.feed.ensures.gives.words part kept wrapped bytes s in
    let drop = drops c.dropping-read.result c.feed.new.read reads.0 c.dropping-read.ensures reads.1 in (
      fed_stands part kept wrapped bytes piece c.feed.new.self c.feed.new.read c.feed.result (all_append (λ b. b < 256) bytes piece s.fits fits) drop (c.feed.ensures.takes.stands part kept wrapped bytes s) (c.feed.ensures.answer part kept wrapped bytes s),
      fed_none_due part kept wrapped bytes piece c.feed.new.self c.feed.new.read c.feed.result drop (c.feed.ensures.answer part kept wrapped bytes s),
    )

pub returns-clause-fed : goal.returns-clause-fed
returns-clause-fed c = record {
  never_less = omega (arith, c.feed.ensures.takes.fed);
  most = omega (arith, c.feed.ensures.takes.fed, c.feed.ensures.takes.taken);
}
