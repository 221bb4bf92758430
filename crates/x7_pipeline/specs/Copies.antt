-- Multi-frame writes: the frame that copies take, and what a copy puts (UG470, multi-frame write register; which frame
-- is taken, and that FAR doesn't move, is this project's choice).
use Rattle.std.specs.Prelude.{ℕ, Bool, true, false, ◌&&◌, if◌then◌else◌, List, [], ◌∷◌, Option, Some, None}
use Rattle.x7_part.specs.Part.{PartData, frame_words}
use Rattle.x7_memory.specs.Plan.{PlanRow}
use Rattle.x7_regs.specs.declared.command.Command.{Command}
use Rattle.x7_regs.specs.declared.command.Command.TheVariants.{Wcfg, Mfw}
use Rattle.x7_pipeline.specs.Runs.{frames_of}

-- the command is WCFG
abbrev pub is_wcfg : Command → Bool
is_wcfg Wcfg = true
is_wcfg _ = false

-- the command is MFW
abbrev pub is_mfw : Command → Bool
is_mfw Mfw = true
is_mfw _ = false

-- the first of frames, which is the newest, and none where there are no frames
abbrev pub newest_of : List (List ℕ) → Option (List ℕ)
newest_of [] = None
newest_of (frame ∷ older) = Some frame

-- the source that the command `new` right after `old` makes of a frame: for MFW after WCFG that frame, else none
abbrev pub source_with : Command → Command → Option (List ℕ) → Option (List ℕ)
source_with old new frame = if is_wcfg old && is_mfw new then frame else None

-- the source that the command `new` leaves after `old`: for MFW after WCFG the newest whole frame of the run that it
-- ended, where there is one, and else none
unfoldable pub source_after : PartData → Command → Command → List ℕ → Option (List ℕ)
source_after part old new run = source_with old new (newest_of (frames_of (frame_words part) run))

-- what a copy puts: the source at the base, and nothing without a source
abbrev pub copied_pairs : ℕ → Option (List ℕ) → List PlanRow
copied_pairs base None = []
copied_pairs base (Some frame) = record { far = base; words = frame } ∷ []
