use Rattle.std.proofs.Common.{◌≡◌, length}
use Rattle.std.specs.List.{fold}
use Rattle.x7_part.specs.Part.{PartData}
use Rattle.x7_jtag.specs.Port.{words_read_out}
use Rattle.x7_jtag.specs.Queue.{Queue, offered}
use Rattle.x7_jtag.specs.Tap.{CanAllBeOffered, QueueStandsFor}
use Rattle.x7_jtag.proofs.queue.Queue.offer_all.Given as goal

abbrev pub invariant-loop-rest : goal.invariant-loop-rest
invariant-loop-rest l = record {
  offers : (part : PartData) (m : Queue) → QueueStandsFor part l.initial.self l.initial.device m → (p : Queue) × QueueStandsFor part l.self l.device p × (fold (offered (words_read_out part)) m l.initial.rest ≡ fold (offered (words_read_out part)) p l.rest);
  fits : CanAllBeOffered l.self l.device (length l.rest);
}

abbrev pub decreases-loop-rest : goal.decreases-loop-rest
decreases-loop-rest l = length l.rest
