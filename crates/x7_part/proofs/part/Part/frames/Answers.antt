use Rattle.x7_part.proofs.RowLemmas.{part_rises}
use Rattle.x7_part.proofs.PartLemmas.{some_address}
use Rattle.x7_part.proofs.part.Part.frames.Goals as goal

pub returns-clause-value : goal.returns-clause-value
returns-clause-value c = rw (← c.table.ensures.addresses) c.frame_count.ensures

pub returns-clause-positive : goal.returns-clause-positive
returns-clause-positive c =
    let of = c.table.ensures in
    rw (c.frame_count.ensures, of.addresses) (some_address c.args.self.now.field_widths 0 c.args.self.now.rows of.is_part.rows of.is_part.some)

pub returns-clause-most : goal.returns-clause-most
returns-clause-most c = let of = c.table.ensures in rw (c.frame_count.ensures, of.addresses) of.is_part.frames

pub returns-clause-order : goal.returns-clause-order
returns-clause-order c = let of = c.table.ensures in part_rises _ _ of.is_part.field_widths of.is_part.rows

pub returns-clause-words : goal.returns-clause-words
returns-clause-words c = let of = c.table.ensures in rw (c.frame_count.ensures, of.addresses) of.is_part.slots
