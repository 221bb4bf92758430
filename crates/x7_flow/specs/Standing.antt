-- What it is for a pipeline and a memory to stand for a history, and the words of frame data that are read out (this
-- project's choice).
use Rattle.std.specs.Prelude.{◌≡◌, ℕ, zero, suc, ◌+◌, ◌-◌, ◌<◌, ◌≤◌, false, true, List, [], ◌∷◌, Option, None, Some}
use Rattle.x7_packets.specs.History.{Access, Entry, History, Read, Write, entry}
use Rattle.x7_regs.specs.declared.register.Reg.{Reg}
use Rattle.x7_regs.specs.Register.{number_of}
use Rattle.x7_pipeline.specs.declared.fault.RunFault.{RunFault}
use Rattle.x7_part.specs.Part.{PartData}
use Rattle.x7_memory.specs.FrameMap.{FrameMap, HaveSameFrames}
use Rattle.x7_memory.specs.PartFrames.{frame_at}
use Rattle.x7_pipeline.specs.FarAsRead.{is_frame_address}
use Rattle.x7_pipeline.specs.Flow.{HoldsFlow}
use Rattle.x7_pipeline.specs.Pipeline.{AreOfPart, PipelineData}
use Rattle.x7_pipeline.specs.Readback.{readback_at}
use Rattle.x7_pipeline.specs.Runs.{GetsPairs}
use Rattle.x7_flow.specs.Asking.{Asked, Reads}
use Rattle.x7_flow.specs.declared.settings.FrameSettings.{FrameSettings}
use Rattle.x7_flow.specs.HistoryFlow.{Flow, HasAddress, asked_after, base_of, far_in, flow_by, flow_of, frame_fault, count_given}
use Rattle.x7_flow.specs.FrameAccess.{reads_frame_data}
use Rattle.x7_flow.specs.FrameMemory.{memory_of, pairs_put}
use Rattle.x7_flow.specs.FlowInWords.{count_asked}
use Rattle.x7_flow.specs.Settings.{AreSettingsAfter}

-- the pipeline stands for a flow, which has given words only where its base is an address
pub record HasFlow (part : PartData) (p : PipelineData) (f : Flow) : Type 0 where
  pub stands : HoldsFlow part p f
  pub nowhere : is_frame_address part f.base ≡ false → f.given ≡ 0

-- a flow without the last `due` of its words given, which are still due
abbrev pub without_due : ℕ → Flow → Flow
without_due due f = record f { given = f.given - due }

-- FAR as read after a history, of whose last read `due` words are still due: that of the words given so far
abbrev pub far_owing : PartData → History → ℕ → ℕ
far_owing part h due = far_in part (without_due due (flow_of part h))

-- the pipeline stands for the flow of a history, of whose last read `due` words are still due, no more than the flow
-- counts as given; and the memory is the history's
pub record AreFramesAfter (part : PartData) (p : PipelineData) (frames : List (List ℕ)) (h : History) (due : ℕ) : Type 0 where
  pub flow : HasFlow part p (without_due due (flow_of part h))
  pub memory : HaveSameFrames (frame_at part frames) (memory_of part h)
  pub due_given : due ≤ count_given part h

-- a pipeline, and the frames of a memory in number order of their addresses
pub record FramesState : Type 0 where
  pub pipeline : PipelineData
  pub memory : List (List ℕ)

-- a pipeline and the frames of a memory, in one value
abbrev pub frames_state : PipelineData → List (List ℕ) → FramesState
frames_state pipeline memory = record { pipeline = pipeline; memory = memory }

-- frames, old before and new after they did what an access asks
pub record HaveDone (part : PartData) (a : Asked) (old new : FramesState) : Type 0 where
  pub flow : (f : Flow) → HasFlow part old.pipeline f → HasFlow part new.pipeline (flow_by part a f)
  pub memory : (f : Flow) → HasFlow part old.pipeline f → GetsPairs (pairs_put part a f) (frame_at part old.memory) (frame_at part new.memory)

-- `count` words of a readback, the first of which is its word `place`, from 0
abbrev pub readback_words : PartData → ℕ → FrameMap → ℕ → ℕ → List ℕ
readback_words part base memory place zero = []
readback_words part base memory place (suc count) = readback_at part base memory place ∷ readback_words part base memory (place + 1) count

-- the `count` words that a read of frame data after a history gives, where the history's run or readback begins at an
-- address
abbrev pub frames_read : PartData → History → ℕ → List ℕ
frames_read part h count = readback_words part (base_of part h) (memory_of part h) (count_given part h) count

-- the last `due` of the words that a history's readback counts as given
abbrev pub words_due : PartData → History → ℕ → List ℕ
words_due part h due = readback_words part (base_of part h) (memory_of part h) (count_given part h - due) due

-- ---- the frames of a device

-- the frames are a part's
abbrev pub FramesFit : PartData → FramesState → Type 0
FramesFit part f = AreOfPart part f.pipeline f.memory

-- the frames stand for a history, of whose last read `due` words of frame data are still due
abbrev pub FramesStandFor : PartData → FramesState → History → ℕ → Type 0
FramesStandFor part f h due = AreFramesAfter part f.pipeline f.memory h due

-- the frames stand for some history, of whose last read `due` words of frame data are still due
pub record HaveDue (part : PartData) (f : FramesState) (due : ℕ) : Type 0 where
  pub history : History
  pub stands : FramesStandFor part f history due

-- at least `count` words of frame data are still due
abbrev pub HaveWordsDue : PartData → FramesState → ℕ → Type 0
HaveWordsDue part f count = (more : ℕ) × HaveDue part f (more + count)

-- frames of a part, of whose last read at least `count` words of frame data are still due
pub record MayReadWords (part : PartData) (f : FramesState) (count : ℕ) : Type 0 where
  pub fits : FramesFit part f
  pub due : HaveWordsDue part f count

-- the frames of a device as a map of addresses
abbrev pub frames_map : PartData → FramesState → FrameMap
frames_map part f = frame_at part f.memory

-- a fact holds of each history that the frames stand for with no word due, and that leaves these settings
abbrev pub ForEachHistoryOfFrames : PartData → FrameSettings → FramesState → (History → Type 0) → Type 0
ForEachHistoryOfFrames part settings f Fact = (h : History) → AreSettingsAfter part.idcode settings h → FramesStandFor part f h 0 → Fact h

-- frames before and after they did what an access after a history asks
abbrev pub FramesHaveDone : PartData → FramesState → FramesState → History → Entry → Type 0
FramesHaveDone part old new h e = HaveDone part (asked_after part.idcode h e.access) old new

-- an access after a history reads `count` words of frame data, and the history's run or readback begins at an address;
-- the frames stand for that history, with no word due
pub record ReadsFrames (part : PartData) (f : FramesState) (h : History) (access : Access) (count : ℕ) : Type 0 where
  pub reads : asked_after part.idcode h access ≡ Reads count
  pub address : HasAddress part h
  pub stands : FramesStandFor part f h 0

-- the access by which a word is written to a register
abbrev pub write_access : Reg → ℕ → Access
write_access register word = Write (number_of register) word

-- `Fact` holds of what a word written to a register asks, after each history that leaves these settings
abbrev pub ForEachAsked : PartData → FrameSettings → Reg → ℕ → (Asked → Type 0) → Type 0
ForEachAsked part settings register word Fact =
    (h : History) → AreSettingsAfter part.idcode settings h → Fact (asked_after part.idcode h (write_access register word))

-- the entry of a word written to a register at a place
abbrev pub write_entry : Reg → ℕ → ℕ → Entry
write_entry register word place = entry (write_access register word) place

-- the entry of a read of `count` words of a register, by its number, at a place
abbrev pub read_entry : ℕ → ℕ → ℕ → Entry
read_entry register count place = entry (Read register count) place

-- the flow of a history with a read after it
abbrev pub flow_read : PartData → History → ℕ → ℕ → ℕ → Flow
flow_read part h register count place = flow_of part (read_entry register count place ∷ h)

-- a read after a history is one of frame data
abbrev pub ReadsData : History → ℕ → ℕ → Type 0
ReadsData h register count = reads_frame_data h (Read register count) ≡ true

-- a read of frame data of which fewer words are due than it asks for
pub record ReadsMoreThanDue (h : History) (register count due : ℕ) : Type 0 where
  pub reads : ReadsData h register count
  pub fewer : due < count

-- after an access the frames stand for the longer history, or for the old one where the access is refused
abbrev pub AfterAccess : PartData → FramesState → History → Entry → Option RunFault → Type 0
AfterAccess part f h e None = FramesStandFor part f (e ∷ h) 0
AfterAccess part f h e (Some fault) = FramesStandFor part f h 0

-- after a read of frame data that isn't refused all its words (`frames_read`) are due; or the read is refused, with
-- this fault
abbrev pub AfterRead : PartData → FramesState → History → Entry → Option RunFault → Type 0
AfterRead part f h e None =
    (frame_fault part h e.access ≡ None)
    × FramesStandFor part f (e ∷ h) (count_asked e.access)
    × (words_due part (e ∷ h) (count_asked e.access) ≡ frames_read part h (count_asked e.access))
AfterRead part f h e (Some fault) = frame_fault part h e.access ≡ Some fault

-- an answer to a read is right for each read of frame data, after each history that the frames stand for with no word
-- due
abbrev pub AnswersReads : PartData → FramesState → Option RunFault → Type 0
AnswersReads part f answer =
    (h : History) (register count place : ℕ) → ReadsData h register count → FramesStandFor part f h 0 →
    AfterRead part f h (read_entry register count place) answer
