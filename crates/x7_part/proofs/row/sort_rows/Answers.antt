use Rattle.std.proofs.Common.{rules, sym}
use Rattle.std.proofs.lemmas.List.Sorted.{IsNonDecreasingBy-from_sort_by_key}
use Rattle.x7_part.specs.Address.{row_address}
use Rattle.x7_part.proofs.OrderLemmas.{ordered}
use Rattle.x7_part.proofs.SortLemmas.{sorted_is}
use Rattle.x7_part.proofs.row.sort_rows.Goals as goal

pub returns : goal.returns
returns c =
    let widths = c.args.widths in
    let rows = c.args.rows.now.items in
    let sorted = c.sort_unstable_by_key.new.self.items in
    let same = c.sort_unstable_by_key.ensures.permutation in
    let rising = IsNonDecreasingBy-from_sort_by_key (row_address widths) sorted c.sort_unstable_by_key.ensures.sorted (λ a r q k. search rules) in
    sym (sorted_is widths rows sorted 0 same (ordered widths rows sorted c.requires.widths c.requires.rows c.requires.apart same rising))
