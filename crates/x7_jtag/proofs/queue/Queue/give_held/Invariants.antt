use Rattle.std.proofs.Common.{◌≡◌, ◌≤◌, ◌+◌, length}
use Rattle.std.specs.List.{fold}
use Rattle.x7_part.specs.Part.{PartData}
use Rattle.x7_jtag.specs.Port.{words_read_out}
use Rattle.x7_jtag.specs.Queue.{Queue, in_turn, most_bytes_held}
use Rattle.x7_jtag.specs.Tap.{QueueStandsFor}
use Rattle.x7_jtag.proofs.queue.Queue.give_held.Given as goal

abbrev pub invariant-loop-rest : goal.invariant-loop-rest
invariant-loop-rest l = record {
  turns : (part : PartData) (m : Queue) → QueueStandsFor part l.initial.self l.initial.device m → (p : Queue) × QueueStandsFor part l.self l.device p × (fold (in_turn (words_read_out part)) m l.initial.rest ≡ fold (in_turn (words_read_out part)) p l.rest);
  room : length l.self.held + length l.rest ≤ most_bytes_held;
  taken : l.device.taken + length l.rest ≤ l.initial.device.taken + most_bytes_held;
}

abbrev pub decreases-loop-rest : goal.decreases-loop-rest
decreases-loop-rest l = length l.rest
