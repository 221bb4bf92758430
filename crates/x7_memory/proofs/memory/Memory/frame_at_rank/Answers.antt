use Rattle.std.proofs.Common.{◌∙◌, ap, refl, sym, length, arith}
use Rattle.std.specs.Prelude.{[], Some, slice_index}
use Rattle.x7_part.specs.AddressOrder.{addresses_in}
use Rattle.x7_memory.proofs.FrameLemmas.{among_found}
use Rattle.x7_memory.proofs.MemoryLemmas.{seen_count}
use Rattle.x7_memory.proofs.memory.Memory.frame_at_rank.Goals as goal

pub returns-then-rank-len-clause-found : goal.returns-then-rank-len-clause-found
returns-then-rank-len-clause-found c part are =
    among_found 0 c.args.rank (slice_index (addresses_in part) c.args.rank) [] (addresses_in part) c.args.self.now are.order are.count (let n = seen_count c.self.inside c.args.self.now c.self.view_is in omega (arith, c.if-rank-len.true, are.count, c.len.ensures, n)) refl
    ∙ ap Some (sym (c.frame_of.ensures []))

pub returns-then-rank-len-clause-width : goal.returns-then-rank-len-clause-width
returns-then-rank-len-clause-width c part are = ap length (c.frame_of.ensures []) ∙ are.width c.args.rank [] (let n = seen_count c.self.inside c.args.self.now c.self.view_is in omega (arith, c.if-rank-len.true, c.len.ensures, n))
