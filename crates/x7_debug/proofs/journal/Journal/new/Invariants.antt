use Rattle.std.proofs.Common.{◌≡◌, length}
use Rattle.std.specs.List.{AllByRecursion}
use Rattle.x7_engine.specs.Undo.{IsUndoOf}
use Rattle.x7_debug.proofs.journal.Journal.new.Given as goal

abbrev pub invariant-loop : goal.invariant-loop
invariant-loop l = record {
  count : length l.records.items ≡ l.counter;
  room : l.records.capacity ≡ 64;
  fit : AllByRecursion (IsUndoOf l.part) l.records.items;
}
