use Rattle.std.proofs.Common.{[]}
use Rattle.x7_words.proofs.SinkLemmas.{flat_map_at, prefix_more}
use Rattle.x7_words.proofs.sink.write_pieces.Goals as goal

pub returns-in_err-write_all-clause-prefix : goal.returns-in_err-write_all-clause-prefix
returns-in_err-write_all-clause-prefix g c =
    rw (flat_map_at (λ p. p.now) c.args.pieces.now c.loop-piece.piece-index (record { ref_ptr = (0, 0); now = [] }) c.loop-piece-test.true)
    (prefix_more _ _ _ _ _ _ c.loop-piece.invariant.written c.in_err-write_all.ensures.prefix)
