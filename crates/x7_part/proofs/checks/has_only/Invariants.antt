use Rattle.std.proofs.Common.{◌≡◌}
use Rattle.toml.specs.View.{members_view}
use Rattle.x7_part.specs.Keys.{has_only}
use Rattle.x7_part.proofs.checks.has_only.Given as goal

abbrev pub invariant-members : goal.invariant-members
invariant-members l =
    (goal.iterator-members).can_next l.name-iterator × (goal.iterator-members).is_finite l.name-iterator
    × (has_only l.keys (members_view l.name-iterator) ≡ has_only l.keys (members_view l.table.entries))
