-- Writes of whole frames, and copies, after a FAR load (UG470, frame data input and multi-frame write registers).
use Rattle.std.specs.Prelude.{◌≡◌, ℕ, ◌<◌, true, List, [], ◌∷◌, ◌++◌, length, Some}
use Rattle.std.specs.List.{AllByRecursion, flat_map}
use Rattle.x7_packets.specs.History.{History, command_held}
use Rattle.x7_regs.specs.declared.command.Command.TheVariants as command
use Rattle.x7_regs.specs.Command.{code_of, command_code_of}
use Rattle.x7_part.specs.Part.{PartData, frame_words}
use Rattle.x7_memory.specs.Plan.{PlanRow}
use Rattle.x7_pipeline.specs.Copies.{copied_pairs}
use Rattle.x7_pipeline.specs.FarAsRead.{is_frame_address, loaded_base}
use Rattle.x7_pipeline.specs.RunsInWords.{placed_from}
use Rattle.x7_pipeline.specs.Runs.{onto}
use Rattle.x7_flow.specs.Settings.{settings_of, takes_copies, takes_frames}
use Rattle.x7_flow.specs.HistoryFlow.{run_of, source_of}
use Rattle.x7_flow.specs.Later.{after_load, has_mfw}
use Rattle.x7_flow.specs.WordsTaken.{with_copies, with_frame_data}

-- a write of whole frames: the word of FAR and the number of bytes up to its end, the number of bytes before the words
-- of FDRI (`place`), and their frames: the last one, which stays in the frame buffer, and those before it
pub record FrameWrite : Type 0 where
  pub far : ℕ
  pub far_place : ℕ
  pub place : ℕ
  pub frames : List (List ℕ)
  pub last : List ℕ

-- the frames of a write in order, the last one too
abbrev pub all_frames : FrameWrite → List (List ℕ)
all_frames x = x.frames ++ x.last ∷ []

-- the words of frames
abbrev pub words_of_frames : List (List ℕ) → List ℕ
words_of_frames frames = flat_map (λ frame. frame) frames

-- each frame has the part's width
abbrev pub HaveFrameWidth : PartData → List (List ℕ) → Type 0
HaveFrameWidth part frames = AllByRecursion (λ frame. length frame ≡ frame_words part) frames

-- a history with the write after it
abbrev pub with_frames : FrameWrite → History → History
with_frames x h = with_frame_data x.place (words_of_frames (all_frames x)) (after_load x.far x.far_place h)

-- where the frames of a write land: at the slots from its address on, all but the last, those at pads left out
abbrev pub pairs_placed : PartData → FrameWrite → List PlanRow
pairs_placed part x = placed_from part (loaded_base part x.far) x.frames

-- a device takes the write after a history: the frames are whole, and they go to the memory
pub record TakesWrite (part : PartData) (h : History) (x : FrameWrite) : Type 0 where
  pub some : 0 < frame_words part
  pub takes : takes_frames (settings_of part.idcode h) ≡ true
  pub whole : HaveFrameWidth part (all_frames x)

-- the run of a history is of these whole frames
pub record RunHolds (part : PartData) (h : History) (frames : List (List ℕ)) : Type 0 where
  pub some : 0 < frame_words part
  pub run : run_of part h ≡ onto (words_of_frames frames) []
  pub whole : HaveFrameWidth part frames

-- MFW is written right after a run of whole frames under WCFG, the last of which is `last`
pub record MfwAfter (part : PartData) (h : History) (word : ℕ) (frames : List (List ℕ)) (last : List ℕ) : Type 0 where
  pub run : RunHolds part h (frames ++ last ∷ [])
  pub wcfg : command_held h ≡ code_of command.Wcfg
  pub mfw : command_code_of word ≡ code_of command.Mfw

-- words of MFWR after a FAR load: the word of FAR and the number of bytes up to its end, the number of bytes before the
-- words of MFWR (`place`), the first of these and the others, and the frame that they put
pub record FrameCopies : Type 0 where
  pub far : ℕ
  pub far_place : ℕ
  pub place : ℕ
  pub first : ℕ
  pub words : List ℕ
  pub frame : List ℕ

-- a history with the FAR load and the words of MFWR after it
abbrev pub with_frame_copies : FrameCopies → History → History
with_frame_copies x h = with_copies x.place (x.first ∷ x.words) (after_load x.far x.far_place h)

-- the pair that the words of MFWR put
abbrev pub pair_copied : PartData → FrameCopies → List PlanRow
pair_copied part x = copied_pairs (loaded_base part x.far) (Some x.frame)

-- the copies that the words of MFWR ask for after a history land: the device takes copies, CMD holds MFW, the frame is
-- the source, and the word of FAR an address
pub record CopiesLand (part : PartData) (h : History) (x : FrameCopies) : Type 0 where
  pub takes : takes_copies (settings_of part.idcode h) ≡ true
  pub mfw : has_mfw h ≡ true
  pub source : source_of part h ≡ Some x.frame
  pub address : is_frame_address part (loaded_base part x.far) ≡ true
