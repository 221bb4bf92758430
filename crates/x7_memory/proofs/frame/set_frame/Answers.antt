use Rattle.std.proofs.Common.{arith}
use Rattle.x7_memory.proofs.FrameWordLemmas.{words_set}
use Rattle.x7_memory.proofs.frame.set_frame.Goals as goal

pub returns-clause-words : goal.returns-clause-words
returns-clause-words c =
    let whole = c.requires.whole in
    let count = c.in-Ok.ensures.len in
    let lent = c.deref_mut.ensures.len in
    let kept = c.read_u32_into.auto.dst in
    words_set c.resize.new.self.len c.args.bytes.now c.read_u32_into.new.dst _ (omega arith) (omega arith) c.read_u32_into.ensures
