use Rattle.std.proofs.Common.{◌≡◌, drop}
use Rattle.x7_part.specs.PartChecks.{types_fault}
use Rattle.toml.specs.View.{table_view}
use Rattle.x7_part.proofs.checks.check_types.Given as goal

abbrev pub invariant-loop-rule : goal.invariant-loop-rule
invariant-loop-rule l = types_fault l.row (drop l.rule-index l.keys) (table_view l.table) ≡ types_fault l.row l.keys (table_view l.table)
