use Rattle.std.proofs.lemmas.Option.{IfSome_then}
use Rattle.x7_part.proofs.RowLemmas.{rank_counts}
use Rattle.x7_part.proofs.part.Part.rank.Goals as goal

pub returns-clause-found : goal.returns-clause-found
returns-clause-found c = rw (← c.table.ensures.addresses) c.rank_of.ensures.found

pub returns-clause-smaller : goal.returns-clause-smaller
returns-clause-smaller c =
    let of = c.table.ensures in
    IfSome_then c.rank_of.result (rw of.addresses at c.rank_of.ensures.found) (λ r at. (rank_counts c.args.self.now.field_widths c.args.self.now.rows r c.args.far of.is_part.field_widths of.is_part.rows at.0 at.1).1)

pub returns-clause-absent : goal.returns-clause-absent
returns-clause-absent c = rw (← c.table.ensures.addresses) c.rank_of.ensures.absent
