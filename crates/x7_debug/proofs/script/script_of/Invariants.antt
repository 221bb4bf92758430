use Rattle.std.proofs.Common.{◌+◌, ◌≤◌, length}
use Rattle.x7_debug.proofs.ScriptLemmas.{HasReadLines}
use Rattle.x7_debug.proofs.script.script_of.Given as goal

abbrev pub invariant-loop-orders : goal.invariant-loop-orders
invariant-loop-orders l = record {
  read : HasReadLines l.text l.rest l.orders.items l.line_number;
  short : l.line_number + length l.rest ≤ length l.text;
}

abbrev pub decreases-loop-orders : goal.decreases-loop-orders
decreases-loop-orders l = length l.rest
