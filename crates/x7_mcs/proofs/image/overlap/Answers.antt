use Rattle.std.proofs.Common.{sym, arith}
use Rattle.x7_mcs.proofs.PlaceLemmas.{least_is_first, past_is_free}
use Rattle.x7_mcs.proofs.image.overlap.Goals as goal

pub returns-then-place-len-clause-least : goal.returns-then-place-len-clause-least
returns-then-place-len-clause-least c = λ xs h. sym (past_is_free xs c.args.image.now.bytes.items c.args.image.now.marks.items h c.args.place c.args.count (omega arith))

pub returns-clause-least : goal.returns-clause-least
returns-clause-least c = λ xs h. least_is_first xs c.args.image.now.bytes.items c.args.image.now.marks.items _ h c.deref.ensures.value c.args.place c.args.count c.first_marked.result c.first_marked.ensures
