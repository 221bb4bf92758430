-- The report of a device (this project's choice).
use Rattle.std.specs.Prelude.{ℕ, Bool, List, ◌++◌, codes, decimal}
use Rattle.x7_part.specs.AddressOrder.{addresses_in}
use Rattle.x7_part.specs.Part.{PartData}
use Rattle.x7_memory.specs.FrameMap.{FrameMap}
use Rattle.x7_engine.specs.declared.snapshot.Snapshot.{Snapshot}
use Rattle.x7_engine.specs.Past.{Past, state_owing_at}
use Rattle.x7_engine.specs.Standing.{DeviceState, frames_due}
use Rattle.x7_report.specs.Frames.{frames_text, lines_of_ranks}
use Rattle.x7_report.specs.Reads.{reads_text}
use Rattle.x7_report.specs.State.{state_text}

-- the state that a device of this past shows; while words of frame data are due, FAR is that of the words given so far
abbrev pub state_reported : DeviceState → Past → Snapshot
state_reported device past = state_owing_at past (frames_due device.registers.values.due)

-- what a report has before the lines of its frames, of which it shows `count`
abbrev pub report_head : PartData → Snapshot → List ℕ → ℕ → List ℕ
report_head part snapshot reads count = state_text part.name snapshot ++ reads_text reads ++ codes "frames " ++ decimal count ++ codes "\n"

-- the whole report of a device of the part, by its state, the words that it read out and its memory
unfoldable pub report_text : PartData → Snapshot → List ℕ → FrameMap → List ℕ
report_text part snapshot reads memory = state_text part.name snapshot ++ reads_text reads ++ frames_text memory (addresses_in part)

-- `head`, and after it the lines of the device's frames of these ranks
abbrev pub text_begun : DeviceState → List ℕ → List ℕ → List ℕ
text_begun device head ranks = head ++ lines_of_ranks device.part device.registers.frames.memory ranks

-- a text that is ready to be written (a report, and any lines before it), and whether what it reports stopped, as the
-- caller of `PlayText::new` says
pub record PlayTextState : Type 0 where
  pub stopped : Bool
  pub text : List ℕ
