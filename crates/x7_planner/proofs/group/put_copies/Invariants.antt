use Rattle.std.proofs.Common.{◌≡◌, ◌≤◌, ◌++◌, take}
use Rattle.std.specs.List.{flat_map}
use Rattle.x7_memory.specs.Plan.{planned_addresses}
use Rattle.x7_planner.specs.Content.{planned_rows}
use Rattle.x7_planner.specs.PartialStream.{copy_words, with_content}
use Rattle.x7_planner.specs.Writer.{bytes_of_words}
use Rattle.x7_planner.proofs.group.put_copies.Given as goal

abbrev pub invariant-loop-k : goal.invariant-loop-k
invariant-loop-k l =
    (l.start ≤ l.k)
    × (l.out.items ≡ l.fn.out.items ++ bytes_of_words (flat_map copy_words (planned_addresses (with_content l._words (take l.k (planned_rows l.by_content.frames.now))))))
