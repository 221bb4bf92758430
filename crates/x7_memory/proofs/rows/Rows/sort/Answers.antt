use Rattle.std.proofs.Common.{rules, subst}
use Rattle.std.specs.Prelude.{IsPermutation}
use Rattle.std.proofs.lemmas.List.Sorted.{IsNonDecreasingBy-from_sort_by_key, IsPermutation-map}
use Rattle.x7_memory.specs.Rows.{row_in, rows_in}
use Rattle.x7_memory.proofs.RowLemmas.{kept_sorted, sorted_rows}
use Rattle.x7_memory.proofs.rows.Rows.sort.Goals as goal

pub invariant_of-self : goal.invariant_of-self
invariant_of-self c = kept_sorted c.self.inside.width c.self.inside.words.items c.self.inside.rows.items c.sort_unstable_by_key.new.self.items c.self.invariant c.sort_unstable_by_key.ensures.permutation

pub returns-clause-sorted : goal.returns-clause-sorted
returns-clause-sorted c =
    sorted_rows c.self.inside.width c.self.inside.words.items c.sort_unstable_by_key.new.self.items
    (IsNonDecreasingBy-from_sort_by_key (λ row. row.far) _ c.sort_unstable_by_key.ensures.sorted (λ a r q k. search rules))

pub returns-clause-same_rows : goal.returns-clause-same_rows
returns-clause-same_rows c =
    subst (λ plan. IsPermutation plan.rows (rows_in c.self.inside.width c.self.inside.words.items c.sort_unstable_by_key.new.self.items)) c.self.view_is
    (IsPermutation-map (row_in c.self.inside.width c.self.inside.words.items) c.self.inside.rows.items c.sort_unstable_by_key.new.self.items c.sort_unstable_by_key.ensures.permutation)
