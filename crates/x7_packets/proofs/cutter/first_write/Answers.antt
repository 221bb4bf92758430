use Rattle.std.proofs.Common.{arith, rules}
use Rattle.x7_packets.proofs.AtOnceLemmas.{begins_write}
use Rattle.x7_packets.proofs.cutter.first_write.Goals as goal

pub returns : goal.returns
returns c =
    let first = c.in-Some.ensures.cases in
    let second = c.in-Some-split_first_chunk.ensures.cases in
    begins_write c.args.bytes.now c.in-Some.head.now c.in-Some-split_first_chunk.word.now c.in-Some.rest.now _ c.word_of-head.result c.word_of.result first.0 first.1 second.0 (omega (arith, first.2, second.2)) c.word_of-head.ensures.back c.word_of.ensures.back
    (omega (arith, c.if-head-type1_write_header.false, c.type1_write_header.ensures)) (search rules) c.word_of.type_inv
