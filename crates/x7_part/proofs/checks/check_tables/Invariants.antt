use Rattle.std.proofs.Common.{◌≡◌, Some, drop}
use Rattle.toml.specs.View.{items_view}
use Rattle.x7_part.specs.Keys.{row_keys}
use Rattle.x7_part.specs.Values.{tables}
use Rattle.x7_part.specs.PartChecks.{rows_fault, check_fault}
use Rattle.x7_part.proofs.checks.check_tables.Given as goal

abbrev pub invariant-loop-item : goal.invariant-loop-item
invariant-loop-item l =
    rows_fault (λ n. check_fault l.check (Some n) row_keys) l.number (tables (items_view (drop l.item-index l.items)))
    ≡ rows_fault (λ n. check_fault l.check (Some n) row_keys) 1 (tables (items_view l.items))
