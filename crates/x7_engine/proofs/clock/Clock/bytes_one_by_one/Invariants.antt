use Rattle.std.proofs.Common.{◌≡◌, ◌≤◌, ◌+◌, ℕ, None}
use Rattle.x7_packets.specs.History.{History}
use Rattle.x7_engine.specs.Clock.{newest_place, IsClock, clock_in}
use Rattle.x7_engine.specs.Watching.{first_firing}
use Rattle.x7_engine.specs.declared.kept.Kept.{Kept}
use Rattle.x7_engine.proofs.clock.Clock.bytes_one_by_one.Given as goal

abbrev pub invariant-loop-i : goal.invariant-loop-i
invariant-loop-i l = record {
  within : l.i ≤ l.count;
  clock : (kept : Kept) (h : History) (n : ℕ) → newest_place h ≤ n → IsClock l.part kept (clock_in l.initial.self) h n
      → IsClock l.part kept (clock_in l.self) h (n + l.i) × (first_firing l.part kept h n l.i ≡ None);
}
