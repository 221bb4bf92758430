use Rattle.std.proofs.Common.{◌≡◌, ◌≤◌, ◌+◌, ◌-◌, ◌*◌, ◌++◌, length, take, drop, vec_capacity}
use Rattle.x7_part.specs.Slot.{slots_in}
use Rattle.x7_planner.specs.FullStream.{words_of_slots}
use Rattle.x7_planner.specs.FullStreamPieces.{most_frame_size}
use Rattle.x7_planner.specs.Writer.{bytes_of_words}
use Rattle.x7_planner.proofs.full_stream.put_slots.Given as goal

abbrev pub invariant-loop-n : goal.invariant-loop-n
invariant-loop-n l = record {
  order : l.from ≤ l.n;
  items : l.out.items ≡ l.fn.out.items ++ bytes_of_words (words_of_slots l.part l.plan (drop l.from (take l.n (slots_in l.part))));
  within : length l.out.items ≤ length l.fn.out.items + most_frame_size * (l.n - l.from);
  room : vec_capacity l.fn.out ≤ vec_capacity l.out;
}
