use Rattle.std.proofs.Common.{arith, ◌∙◌, sym}
use Rattle.x7_text.proofs.DigitLemmas.{chunk_whole, no_word, same_no, same_yes, yes_word}
use Rattle.x7_text.proofs.reading.word_of_hex.Goals as goal

pub returns-then-eq : goal.returns-then-eq
returns-then-eq c =
    yes_word c.args.digits.now c.hex_of_four.result c.bytes_of_eight-bytes.result c.word_of.result
    (same_yes _ _ c.eq.result c.eq.ensures c.if-eq.true ∙ chunk_whole c.args.digits.now c.as_chunks.result.0.now _ c.as_chunks.ensures.front (omega arith)) c.hex_of_four.ensures c.word_of.ensures.back (omega arith)

pub returns : goal.returns
returns c =
    let whole = chunk_whole c.args.digits.now c.as_chunks.result.0.now _ c.as_chunks.ensures.front in
    no_word c.args.digits.now _ c.hex_of_four.result c.bytes_of_eight-bytes.result c.eq.result whole c.bytes_of_eight-bytes.ensures.value c.hex_of_four.ensures c.if-eq.false
    (λ q. same_no _ _ c.eq.result c.eq.ensures (q ∙ sym (whole (omega arith))))
