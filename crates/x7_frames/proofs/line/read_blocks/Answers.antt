use Rattle.std.proofs.Common.{◌≡◌, ◌*◌, ◌∙◌, ℕ, [], length, take, ap, Some, arith}
use Rattle.x7_text.specs.EitherCase.{bytes_of_pairs}
use Rattle.x7_frames.proofs.DigitLemmas.{block_read, no_block_read}
use Rattle.x7_frames.proofs.line.read_blocks.Goals as goal

pub loop-k-preserved : goal.loop-k-preserved
loop-k-preserved c = (
  c.write_block.ensures.length ∙ c.loop-k.invariant.0,
  block_read c.args.digits.now c.loop-k.bytes c.write_block.new.bytes c.in-Some.read c.as_chunks.result.0.now c.loop-k.k [] c.as_chunks.ensures.front c.loop-k-test.true c.as_chunks.ensures.front_len
      c.in-Some.ensures c.are_bytes.ensures c.loop-k.invariant.1 c.write_block.ensures.items,
)

pub returns-clause-value : goal.returns-clause-value
returns-clause-value c =
    let k : c.loop-k.k ≡ length c.as_chunks.result.0.now = omega (arith, c.loop-k-test.false, c.loop-k.auto.k-end) in
    ap (λ (n : ℕ). bytes_of_pairs (take n c.args.digits.now)) (let e : 2 * (32 * length c.as_chunks.result.0.now) ≡ 64 * c.loop-k.k = omega (arith, k) in e)
    ∙ c.loop-k.invariant.1 ∙ ap (λ (n : ℕ). Some (take (32 * n) c.loop-k.bytes)) k

pub returns-in_default-clause-no_block_follows : goal.returns-in_default-clause-no_block_follows
returns-in_default-clause-no_block_follows c = λ _.
    no_block_read c.args.digits.now c.as_chunks.result.0.now c.loop-k.k (2 * (32 * c.loop-k.k)) c.as_chunks.ensures.front c.loop-k-test.true c.as_chunks.ensures.front_len (omega arith) c.in_default.ensures

pub returns-clause-no_block_follows : goal.returns-clause-no_block_follows
returns-clause-no_block_follows c = λ some. absurd (omega (arith, some, c.as_chunks.ensures.front_len, c.requires))
