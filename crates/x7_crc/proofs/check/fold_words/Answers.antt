use Rattle.std.proofs.Common.{[], ◌∷◌, arith}
use Rattle.x7_crc.proofs.CheckLemmas.{check_after_fits, chunk_taken, chunks_end}
use Rattle.x7_crc.proofs.check.fold_words.Goals as goal
use Rattle.x7_packets.specs.CheckedWrites.{write_to}

pub loop-word-preserved : goal.loop-word-preserved
loop-word-preserved c = (
  chunk_taken c.loop-word.check c.args.register c.loop-word.word-index c.word_of.result c.fold_by_tables-check.result _ c.as_chunks.result.0.now
      c.loop-word.invariant.1 c.loop-word-test.true c.word_of.ensures.value c.fold_by_tables-check.ensures c.loop-word.invariant.0,
  rw c.fold_by_tables-check.ensures (check_after_fits c.loop-word.check (write_to c.args.register c.word_of.result ∷ [])),
)

pub returns : goal.returns
returns c =
    chunks_end c.loop-word.check c.args.register c.loop-word.word-index _ c.as_chunks.result.0.now c.loop-word.invariant.1 (omega (arith, c.loop-word-test.false)) c.loop-word.invariant.0
