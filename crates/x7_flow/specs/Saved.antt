-- Frames that are saved, and what leads back to them (this project's choice).
use Rattle.std.specs.Prelude.{◌≡◌, ◌∷◌}
use Rattle.x7_packets.specs.History.{Entry, History}
use Rattle.x7_part.specs.Part.{PartData}
use Rattle.x7_memory.specs.FrameMap.{HaveSameFrames}
use Rattle.x7_memory.specs.PartFrames.{AreFramesOf, frame_at}
use Rattle.x7_pipeline.specs.Runs.{put_over}
use Rattle.x7_pipeline.specs.Saved.{SavedState, next_put, pair_at}
use Rattle.x7_flow.specs.FrameMemory.{memory_of}
use Rattle.x7_flow.specs.Standing.{FramesFit, FramesStandFor, FramesState, frames_map}

-- a saved state has the pipeline of these frames, and the frame that stands where its next word or copy would put one,
-- if it would put one
pub record SavesFrames (part : PartData) (s : SavedState) (f : FramesState) : Type 0 where
  pub pipeline : s.pipeline ≡ f.pipeline
  pub pair : s.pair ≡ pair_at (frame_at part f.memory) (next_put part f.pipeline)

-- the old frames are saved, and the old and the new frames are the part's
pub record FramesAreSaved (part : PartData) (s : SavedState) (old new : FramesState) : Type 0 where
  pub saves : SavesFrames part s old
  pub old_fit : FramesFit part old
  pub new_fit : FramesFit part new

-- the old frames stand for a history, with no word due, and the new memory is that of the history with one access more
pub record HaveOneAccessMore (part : PartData) (old new : FramesState) (h : History) (e : Entry) : Type 0 where
  pub stands : FramesStandFor part old h 0
  pub memory : HaveSameFrames (frames_map part new) (memory_of part (e ∷ h))

-- the saved pipeline is that of the old frames, and the new memory with the saved pair put over it is the old one,
-- which is the part's
pub record FramesBack (part : PartData) (s : SavedState) (new old : FramesState) : Type 0 where
  pub pipeline : s.pipeline ≡ old.pipeline
  pub memory : HaveSameFrames (put_over s.pair (frame_at part new.memory)) (frame_at part old.memory)
  pub frames_fit : AreFramesOf part old.memory
