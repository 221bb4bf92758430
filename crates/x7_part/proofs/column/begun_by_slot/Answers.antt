use Rattle.std.proofs.Common.{leb, leb-true, leb-false, get_or, ◌≡◌, false, arith, rules}
use Rattle.std.proofs.lemmas.List.Sorted.{IsPartitionPoint-from_clause, IsPartitionedBy-leb}
use Rattle.x7_part.proofs.ColumnLemmas.{slot_rises}
use Rattle.x7_part.proofs.column.begun_by_slot.Goals as goal

pub returns-clause-before : goal.returns-clause-before
returns-clause-before c =
    let parted = IsPartitionedBy-leb (λ p. p.place) _ c.args.slot_number (slot_rises c.args.columns.now c.requires.table) in
    let point = IsPartitionPoint-from_clause (λ p. leb p.place c.args.slot_number) _ _ c.partition_point.ensures.partitioned parted (λ a r q k. search rules) in
    λ k d h. leb-true _ _ (point.0 k d (omega arith) h)

pub returns-clause-after : goal.returns-clause-after
returns-clause-after c =
    let parted = IsPartitionedBy-leb (λ p. p.place) _ c.args.slot_number (slot_rises c.args.columns.now c.requires.table) in
    let point = IsPartitionPoint-from_clause (λ p. leb p.place c.args.slot_number) _ _ c.partition_point.ensures.partitioned parted (λ a r q k. search rules) in
    λ k d h m. let f : leb (get_or c.args.columns.now k d).place c.args.slot_number ≡ false = point.1 k d h m in leb-false _ _ f
