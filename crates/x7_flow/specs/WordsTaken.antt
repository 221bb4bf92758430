-- Words written to FDRI or MFWR taken at once, up to the first that is refused (this project's choice).
use Rattle.std.specs.Prelude.{◌≡◌, ℕ, ◌+◌, ◌-◌, ◌*◌, ◌/◌, ◌≤◌, ◌⊎◌, Bool, true, List, [], ◌∷◌, ◌++◌, length, Option, None, Some}
use Rattle.x7_words.specs.Word.{AreWholeWords, words_of_bytes}
use Rattle.x7_packets.specs.History.{Write, History, entered_all, entry}
use Rattle.x7_packets.specs.Packet.{payload_steps}
use Rattle.x7_part.specs.Part.{PartData, frame_words}
use Rattle.x7_regs.specs.declared.register.Reg.{Reg}
use Rattle.x7_regs.specs.declared.register.Reg.TheVariants as reg
use Rattle.x7_regs.specs.Register.{number_of}
use Rattle.x7_part.specs.Slot.{slots_from}
use Rattle.x7_pipeline.specs.declared.fault.RunFault.{RunFault}
use Rattle.x7_pipeline.specs.Pipeline.{PipelineData}
use Rattle.x7_flow.specs.declared.settings.FrameSettings.{FrameSettings}
use Rattle.x7_flow.specs.HistoryFlow.{base_of, frame_fault, run_of}
use Rattle.x7_flow.specs.Settings.{Settings, settings_of}
use Rattle.x7_flow.specs.Standing.{AreFramesAfter, ForEachHistoryOfFrames, FramesFit, FramesStandFor, FramesState}

-- the registers whose words go to the frames many at once
abbrev pub TakesWords : Reg → Type 0
TakesWords r = (r ≡ reg.Fdri) ⊎ (r ≡ reg.Mfwr)

-- words written to a register, the first of which begins at byte `place`, from 0
pub record WordsTo : Type 0 where
  pub register : Reg
  pub place : ℕ
  pub words : List ℕ

-- the words of bytes, four bytes each, written to a register, the first of which begins at byte n, from 0
abbrev pub words_to : Reg → ℕ → List ℕ → WordsTo
words_to r n bytes = record { register = r; place = n; words = words_of_bytes bytes }

-- the history with words written to a register, the first of which begins at byte n, from 0
abbrev pub with_words_to : Reg → ℕ → List ℕ → History → History
with_words_to r n ws h = entered_all n (payload_steps (number_of r) ws) h

-- the history with words written to FDRI, the first of which begins at byte n, from 0
abbrev pub with_frame_data : ℕ → List ℕ → History → History
with_frame_data n ws h = with_words_to reg.Fdri n ws h

-- the history with words written to MFWR, the first of which begins at byte n, from 0
abbrev pub with_copies : ℕ → List ℕ → History → History
with_copies n ws h = with_words_to reg.Mfwr n ws h

-- none of the words written to a register is refused
unfoldable pub NoneRefused : PartData → Reg → ℕ → List ℕ → History → Type 0
NoneRefused part r n [] h = Unit {0}
NoneRefused part r n (w ∷ ws) h = (frame_fault part h (Write (number_of r) w) ≡ None) × NoneRefused part r (n + 4) ws (entry (Write (number_of r) w) (n + 4) ∷ h)

-- after a history, with the words `rest` still to come: no word is left, or the next one is refused
abbrev pub EndsBy : PartData → Reg → History → List ℕ → Option RunFault → Type 0
EndsBy part r h rest None = rest ≡ []
EndsBy part r h rest (Some fault) = (w : ℕ) × (more : List ℕ) × (rest ≡ w ∷ more) × (frame_fault part h (Write (number_of r) w) ≡ Some fault)

-- how many words were looked at, where `taken` words were taken: those, and a refused one
abbrev pub count_seen : ℕ → Option RunFault → ℕ
count_seen taken None = taken
count_seen taken (Some fault) = taken + 1

-- how many of the words looked at were taken: not the last one, where it is refused
abbrev pub count_taken : ℕ → Option RunFault → ℕ
count_taken count None = count
count_taken count (Some fault) = count - 1

-- the words up to the first refused one were taken, and `f` stands for the history with them; `seen` is how many were
-- looked at, a refused one too, and its fault, if there is one
pub record WordsTaken (part : PartData) (f : FramesState) (h : History) (x : WordsTo) (seen : ℕ × Option RunFault) : Type 0 where
  pub taken : List ℕ
  pub rest : List ℕ
  pub words_are : x.words ≡ taken ++ rest
  pub none_refused : NoneRefused part x.register x.place taken h
  pub end : EndsBy part x.register (with_words_to x.register x.place taken h) rest seen.1
  pub counted : seen.0 ≡ count_seen (length taken) seen.1
  pub stands : FramesStandFor part f (with_words_to x.register x.place taken h) 0

-- frames of a part, to which whole words of these bytes are written
pub record MayTakeBytes (part : PartData) (f : FramesState) (bytes : List ℕ) : Type 0 where
  pub fits : FramesFit part f
  pub whole : AreWholeWords bytes

-- the frames of a part before and after a call with these settings
pub record FramesChange : Type 0 where
  pub part : PartData
  pub settings : FrameSettings
  pub old : FramesState
  pub new : FramesState

-- the change from frames to others, by a call with these settings
abbrev pub frames_change : PartData → FrameSettings → FramesState → FramesState → FramesChange
frames_change part settings old new = record { part = part; settings = settings; old = old; new = new }

-- the words of bytes, written to a register, were taken up to the first that is refused; `seen` is how many were looked
-- at, a refused one too, and its fault, if there is one
pub record TookBytes (x : FramesChange) (r : Reg) (bytes : List ℕ) (seen : ℕ × Option RunFault) : Type 0 where
  pub taken : (n : ℕ) → ForEachHistoryOfFrames x.part x.settings x.old (λ h. WordsTaken x.part x.new h (words_to r n bytes) seen)
  pub within : seen.0 ≤ length bytes / 4
  pub fits : FramesFit x.part x.new

-- a fact holds of each history whose settings take the words, and that the pipeline and the memory's frames stand for
-- with no word due
abbrev pub ForEachHistoryThatTakes : PartData → (Settings → Bool) → PipelineData → List (List ℕ) → (History → Type 0) → Type 0
ForEachHistoryThatTakes part takes p frames Fact = (h : History) → takes (settings_of part.idcode h) ≡ true → AreFramesAfter part p frames h 0 → Fact h

-- the words of the history's run, and these after them, are no more than the slots from its base on hold
abbrev pub HasRoomFor : PartData → History → List ℕ → Type 0
HasRoomFor part h ws = length (run_of part h) + length ws ≤ frame_words part * length (slots_from part (base_of part h))
