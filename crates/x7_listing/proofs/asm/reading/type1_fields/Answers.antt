use Rattle.std.specs.Fmt.{decimal}
use Rattle.x7_listing.proofs.NameLemmas.{no_space, where_known}
use Rattle.x7_listing.proofs.asm.reading.type1_fields.Goals as goal

pub returns-in_default : goal.returns-in_default
returns-in_default c = λ a is e. no_space c.args.text.now c.in_default.ensures a.0 (decimal a.1) is.0 e

pub returns : goal.returns
returns c = where_known _ _ _ c.type1_fields_at.result c.in-Some.ensures c.type1_fields_at.ensures
