-- The memory that FrameMemory defines, in other words: by the stretches of a history (law
-- `stretches_override_in_order`). A stretch is the accesses from the beginning of a history, or after a write to CMD or
-- FAR, up to the next such write: within it the command and the base stay (this project's choice of words).
use Rattle.std.specs.Prelude.{◌||◌, Bool, if◌then◌else◌, List, [], ◌∷◌, ◌++◌}
use Rattle.x7_packets.specs.History.{Access, History, writes}
use Rattle.x7_part.specs.Part.{PartData}
use Rattle.x7_memory.specs.FrameMap.{FrameMap}
use Rattle.x7_memory.specs.PartFrames.{zeros}
use Rattle.x7_memory.specs.Plan.{PlanRow}
use Rattle.x7_regs.specs.declared.register.Reg.TheVariants as reg
use Rattle.x7_regs.specs.Register.{number_of}
use Rattle.x7_pipeline.specs.Runs.{written_frames, put_over}
use Rattle.x7_flow.specs.FrameAccess.{asks_frame_copy}
use Rattle.x7_flow.specs.HistoryFlow.{base_of, flow_of, run_of}
use Rattle.x7_flow.specs.FrameMemory.{copy_pairs}

-- the access is a write to CMD or FAR, after which a stretch begins
abbrev pub access_begins_stretch : Access → Bool
access_begins_stretch access = writes (number_of reg.Cmd) access || writes (number_of reg.Far) access

-- the histories at whose end a stretch ended, the newest first
unfoldable pub ends_of : History → List History
ends_of [] = []
ends_of (e ∷ h) = if access_begins_stretch e.access then h ∷ ends_of h else ends_of h

-- the pairs of the copies of the last stretch
unfoldable pub copies_of : PartData → History → List PlanRow
copies_of part [] = []
copies_of part (e ∷ h) =
    if access_begins_stretch e.access then [] else
    if asks_frame_copy part.idcode h e.access then copy_pairs part (flow_of part h) ++ copies_of part h else copies_of part h

-- the pairs of the last stretch: its written frames and its copies
abbrev pub stretch_pairs : PartData → History → List PlanRow
stretch_pairs part h = written_frames part (base_of part h) (run_of part h) ++ copies_of part h

-- the map of zeros overridden by the pairs of the stretches that these histories end with, the newest first
unfoldable pub memory_by_stretches : PartData → List History → FrameMap
memory_by_stretches part [] = zeros part
memory_by_stretches part (h ∷ older) = put_over (stretch_pairs part h) (memory_by_stretches part older)
