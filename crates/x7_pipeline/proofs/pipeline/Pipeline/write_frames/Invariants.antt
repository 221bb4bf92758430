use Rattle.std.proofs.Common.{◌≡◌, ◌≤◌, ◌-◌, ◌%◌, [], take, length}
use Rattle.x7_words.specs.Word.{words_of_bytes}
use Rattle.x7_memory.specs.PartFrames.{frame_at}
use Rattle.x7_pipeline.specs.Pipeline.{AreOfPart}
use Rattle.x7_pipeline.proofs.FrameLemmas.{WritesFrames}
use Rattle.x7_pipeline.proofs.pipeline.Pipeline.write_frames.Given as goal

-- whole frames were written, this many bytes
abbrev pub invariant-frames : goal.invariant-frames
invariant-frames l = record {
  part : AreOfPart l.part l.self l.memory;
  some : 4 ≤ l.at;
  within : l.at ≤ length l.fn.bytes;
  whole : l.at % 4 ≡ 0;
  begins : l.self.rest ≡ [];
  base : l.self.base ≡ l.fn.self.base;
  width : l.self.width ≡ l.fn.self.width;
  went : WritesFrames l.part l.fn.self l.self (frame_at l.part l.fn.memory) (frame_at l.part l.memory) (words_of_bytes (take l.at l.fn.bytes));
}

abbrev pub decreases-frames : goal.decreases-frames
decreases-frames l = length l.fn.bytes - l.at
