use Rattle.std.proofs.Common.{◌∙◌, ap, arith, length}
use Rattle.std.proofs.lemmas.Grind.{get_or_default_zero}
use Rattle.x7_memory.proofs.MemoryLemmas.{is_rank}
use Rattle.x7_memory.proofs.memory.Memory.frame_of.Goals as goal

pub words_from-requires : goal.words_from-requires
words_from-requires c =
    let r = is_rank c.self.inside c.args.rank c.self.invariant (rw c.self.view_is c.requires) in
    let end = r.end in let whole = c.self.invariant.whole in let long = ap length c.deref.ensures.value in
    let number = c.index.ensures ∙ get_or_default_zero c.self.inside.numbers.items c.args.rank c.index.result.now r.inside in
    record { inside = rw number (omega arith) }
