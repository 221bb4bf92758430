use Rattle.std.proofs.Common.{◌∙◌}
use Rattle.x7_part.proofs.PartLemmas.{columns_are}
use Rattle.x7_part.proofs.part.Part.table.Goals as goal

pub returns : goal.returns
returns c = columns_are c.deref.result.now _ c.args.self.now (c.deref.ensures.value ∙ c.self.invariant.0) c.self.invariant.1 c.self.view_is
