use Rattle.x7_part.proofs.FieldLemmas.{found_says, fields_of_part, address_of_part}
use Rattle.x7_part.proofs.part.Part.is_address.Goals as goal

pub returns-clause-listed : goal.returns-clause-listed
returns-clause-listed c =
    rw (← c.table.ensures.addresses) (found_says c.column_index.result c.is_some.result _ c.column_index.ensures.address c.column_index.ensures.absent c.is_some.ensures)

pub returns-clause-fields : goal.returns-clause-fields
returns-clause-fields c =
    let of = c.table.ensures in
    let s = found_says c.column_index.result c.is_some.result _ c.column_index.ensures.address c.column_index.ensures.absent c.is_some.ensures in
    (λ t. fields_of_part c.args.self.now c.args.far (rw (← of.addresses) (s.0 t)), λ p. s.1 (rw of.addresses (address_of_part c.args.self.now c.args.far p)))
