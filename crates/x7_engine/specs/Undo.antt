-- What is saved of a device, so that the next bytes, up to `undo_reach`, can be taken back (this project's choice).
use Rattle.std.specs.Prelude.{◌≡◌, ℕ, ◌≤◌, Bool, List, length}
use Rattle.x7_packets.specs.Cutter.{CutterState}
use Rattle.x7_part.specs.Part.{PartData}
use Rattle.x7_memory.specs.PartFrames.{zero_frames}
use Rattle.x7_pipeline.specs.Saved.{IsSavedOf, SavedState}
use Rattle.x7_flow.specs.Saved.{FramesBack, SavesFrames}
use Rattle.x7_flow.specs.Standing.{FramesFit, frames_state}
use Rattle.x7_engine.specs.Past.{HasPast, Past, later}
use Rattle.x7_engine.specs.Standing.{DeviceState, NoWordDue, ValuesState}

-- how many bytes can be taken back at most
abbrev pub undo_reach : ℕ
undo_reach = 4

-- what is saved of a device: each stored value but its part, its memory and how many bytes it was ever fed, and at most
-- one frame of the memory
pub record UndoState : Type 0 where
  pub cutter : CutterState
  pub values : ValuesState
  pub frames : SavedState
  pub wrapped : Bool
  pub taken : ℕ

-- what is saved is saved of a device of the part
abbrev pub IsUndoOf : PartData → UndoState → Type 0
IsUndoOf part u = IsSavedOf part u.frames

-- the device whose values are saved, with a memory of zeros, and ever fed no byte
abbrev pub device_saved : PartData → UndoState → DeviceState
device_saved part u = record {
  part = part;
  cutter = u.cutter;
  registers = record { values = u.values; frames = frames_state u.frames.pipeline (zero_frames part) };
  wrapped = u.wrapped;
  taken = u.taken;
  fed = 0;
}

-- each saved value but what is saved of the frames is that of a device
pub record SavesValues (u : UndoState) (d : DeviceState) : Type 0 where
  pub cutter : u.cutter ≡ d.cutter
  pub values : u.values ≡ d.registers.values
  pub wrapped : u.wrapped ≡ d.wrapped
  pub taken : u.taken ≡ d.taken

-- a device is saved: its values, its pipeline, and the frame that its next word or copy would change, if any
pub record SavesDevice (u : UndoState) (d : DeviceState) : Type 0 where
  pub values : SavesValues u d
  pub frames : SavesFrames d.part u.frames d.registers.frames
  pub frames_fit : FramesFit d.part d.registers.frames

-- What is saved leads from a device back to an old one: the values and the pipeline are those of the old device, and
-- the memory of the new one, with the saved frame, if any, put into it, is that of the old one.
pub record UndoLeadsBack (u : UndoState) (new old : DeviceState) : Type 0 where
  pub part : new.part ≡ old.part
  pub values : SavesValues u old
  pub frames : FramesBack old.part u.frames new.registers.frames old.registers.frames

-- what is saved is an old device with no word due, and since then the device took `undo_reach` bytes at most
pub record TookFewSince (u : UndoState) (d : DeviceState) : Type 0 where
  pub past : Past
  pub more : List ℕ
  pub old : DeviceState
  pub saves : SavesDevice u old
  pub no_word_due : NoWordDue old
  pub few : length more ≤ undo_reach
  pub had : HasPast old past
  pub has : HasPast d (later past more)

-- two devices are equal but for the count of all bytes that they were fed
abbrev pub AreEqualButForFed : DeviceState → DeviceState → Type 0
AreEqualButForFed d e = d ≡ record e { fed = d.fed }
