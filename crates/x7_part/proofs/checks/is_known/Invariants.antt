use Rattle.std.proofs.Common.{◌≡◌, drop}
use Rattle.x7_part.specs.Keys.{is_known}
use Rattle.x7_part.proofs.checks.is_known.Given as goal

abbrev pub invariant-loop-rule : goal.invariant-loop-rule
invariant-loop-rule l = is_known (drop l.rule-index l.keys) l.name ≡ is_known l.keys l.name
