use Rattle.std.proofs.lemmas.Option.{IfSome_then}
use Rattle.x7_part.proofs.RowLemmas.{rank_counts}
use Rattle.x7_part.proofs.part.Part.address.Goals as goal

pub returns-clause-found : goal.returns-clause-found
returns-clause-found c = rw (← c.table.ensures.addresses) c.address_of.ensures.found

pub returns-clause-smaller : goal.returns-clause-smaller
returns-clause-smaller c =
    let of = c.table.ensures in
    IfSome_then c.address_of.result (rw of.addresses at c.address_of.ensures.found) (λ far at. (rank_counts c.args.self.now.field_widths c.args.self.now.rows c.args.rank far of.is_part.field_widths of.is_part.rows at.0 at.1).1)

pub returns-clause-past_end : goal.returns-clause-past_end
returns-clause-past_end c = rw (← c.table.ensures.addresses) c.address_of.ensures.past_end
