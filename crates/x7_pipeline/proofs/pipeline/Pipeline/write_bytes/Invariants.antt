use Rattle.std.proofs.Common.{◌≡◌, ◌≤◌, ◌-◌, ◌%◌, ◌/◌, drop, length}
use Rattle.x7_words.specs.Word.{words_of_bytes}
use Rattle.x7_memory.specs.PartFrames.{frame_at}
use Rattle.x7_pipeline.specs.Pipeline.{AreOfPart}
use Rattle.x7_pipeline.proofs.WordLemmas.{ReachesRun}
use Rattle.x7_pipeline.proofs.pipeline.Pipeline.write_bytes.Given as goal

-- this many bytes were written
abbrev pub invariant-pieces : goal.invariant-pieces
invariant-pieces l = record {
  part : AreOfPart l.part l.self l.memory;
  within : l.at ≤ length l.fn.bytes;
  whole : l.at % 4 ≡ 0;
  goes : ReachesRun l.part l.fn.self l.self (frame_at l.part l.fn.memory) (frame_at l.part l.memory) (words_of_bytes l.fn.bytes) (words_of_bytes (drop l.at l.fn.bytes)) (l.at / 4);
}

abbrev pub decreases-pieces : goal.decreases-pieces
decreases-pieces l = length l.fn.bytes - l.at
