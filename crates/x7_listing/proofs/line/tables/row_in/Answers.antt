use Rattle.std.proofs.Common.{arith}
use Rattle.x7_listing.proofs.line.TablesLemmas.{row_at}
use Rattle.x7_listing.proofs.line.tables.row_in.Goals as goal

pub returns : goal.returns
returns c = λ text a. row_at text 0 c.args.rows.now c.args.number c.args.number _ a (omega (arith, c.requires)) (omega arith)
