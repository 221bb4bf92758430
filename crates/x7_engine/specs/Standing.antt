-- What a device stands for: all bytes that it took since its reset. Each stored value is that of the bytes (this
-- project's choice).
use Rattle.std.specs.Prelude.{◌≡◌, ℕ, ◌<◌, ◌≤◌, ◌==◌, ◌+◌, ◌++◌, ◌-◌, ◌^◌, min, Bool, true, false, if◌then◌else◌, take, List, [], ◌∷◌, length, slice_index, Option, None, Some, IsSome, replicate}
use Rattle.x7_words.specs.Input.{taken_bytes_limit}
use Rattle.x7_words.specs.Word.{AreBytes}
use Rattle.x7_packets.specs.Cutter.{CutterState, CutterStandsFor}
use Rattle.x7_packets.specs.declared.cutter.Cut.{Cut}
use Rattle.x7_packets.specs.declared.cutter.Cut.TheVariants.{Body, Head, Need, Skip, Sync, Word}
use Rattle.x7_packets.specs.declared.header.Step.{Step}
use Rattle.x7_packets.specs.declared.header.Step.TheVariants.{Payload}
use Rattle.x7_packets.specs.History.{History, Placed}
use Rattle.x7_packets.specs.Reading.{Place, EndedSession}
use Rattle.x7_crc.specs.RunningCheck.{running_check}
use Rattle.x7_part.specs.Part.{PartData}
use Rattle.x7_regs.specs.declared.boot_status.Attempt.{Attempt}
use Rattle.x7_regs.specs.declared.boot_status.Kind.{Kind}
use Rattle.x7_regs.specs.declared.boot_status.Kind.TheVariants.{Bench}
use Rattle.x7_regs.specs.declared.register.Reg.TheVariants.{Ctl0, Ctl1}
use Rattle.x7_regs.specs.Register.{number_of, reg_number_count}
use Rattle.x7_startup.specs.Phases.{last_phase}
use Rattle.x7_engine.specs.declared.controls.Controls.{Controls}
use Rattle.x7_memory.specs.FrameMap.{HaveSameFrames}
use Rattle.x7_flow.specs.FrameMemory.{memory_of}
use Rattle.x7_flow.specs.Standing.{FramesStandFor, FramesState, far_owing, words_due}
use Rattle.x7_engine.specs.declared.due.Due.{Due}
use Rattle.x7_engine.specs.declared.due.Due.TheVariants as due
use Rattle.x7_engine.specs.declared.fault.Fault.TheVariants as fault
use Rattle.x7_engine.specs.declared.fed.Fed.{Fed}
use Rattle.x7_engine.specs.declared.fed.Fed.TheVariants as fed
use Rattle.x7_engine.specs.declared.kept.Kept.{Kept}
use Rattle.x7_engine.specs.declared.progress.Progress.{Progress}
use Rattle.x7_engine.specs.declared.registers.Registers.{Registers}
use Rattle.x7_engine.specs.declared.stop.StopCause.{StopCause}
use Rattle.x7_engine.specs.declared.stop.StopCause.TheVariants as stop
use Rattle.x7_engine.specs.declared.values.Values.{Values}
use Rattle.x7_engine.specs.Clock.{ClockState, IsClock, clock_in}
use Rattle.x7_flow.specs.Controls.{has_idcode, masked_register}
use Rattle.x7_flow.specs.FrameAccess.{reads_frame_data}
use Rattle.x7_engine.specs.Registers.{has_ghigh, is_pending, word_held, wrote_iprog}
use Rattle.x7_engine.specs.State.{reads_of, history_taken, last_counted, first_stop_of_bytes}
use Rattle.x7_engine.specs.Stop.{fault_of_stop, first_stop_of_history, stop_at_place}
use Rattle.x7_engine.specs.Value.{failure_of}

-- the stored registers under MASK: CTL0 and CTL1
pub record ControlsState : Type 0 where
  pub ctl0 : ℕ
  pub ctl1 : ℕ

-- the stored check and flags: whether the part's IDCODE was written, whether a shutdown is pending, GHIGH_B, and
-- whether IPROG was written
pub record ProgressState : Type 0 where
  pub check : ℕ
  pub has_idcode : Bool
  pub pending : Bool
  pub ghigh : Bool
  pub iprog : Bool

-- the stored values of a device's registers but its frames: the last words written by register number, those under
-- MASK, the check and the flags, what the boot history says of the attempt, startup and the watchdog, the stop, and the
-- words that are due
pub record ValuesState : Type 0 where
  pub words : List ℕ
  pub controls : ControlsState
  pub progress : ProgressState
  pub kind : Kind
  pub before : Option Attempt
  pub clock : ClockState
  pub stop : Option StopCause
  pub due : Due

-- the stored values of a device's registers, and its frames
pub record RegistersState : Type 0 where
  pub values : ValuesState
  pub frames : FramesState

-- ---- words due

-- how many words are due
abbrev pub due_count : Due → ℕ
due_count due.Nothing = 0
due_count (due.Same word count) = count
due_count (due.Frames count) = count

-- how many words of frame data are due
abbrev pub frames_due : Due → ℕ
frames_due due.Nothing = 0
frames_due (due.Same word count) = 0
frames_due (due.Frames count) = count

-- of `count` words that are due, how many are frame data: all of them where the last access reads frame data, else none
abbrev pub frames_among : History → ℕ → ℕ
frames_among [] count = 0
frames_among (e ∷ h) count = if reads_frame_data h e.access then count else 0

-- the words that are due after this history
abbrev pub words_still_due : PartData → History → Due → List ℕ
words_still_due part h due.Nothing = []
words_still_due part h (due.Same word count) = replicate count word
words_still_due part h (due.Frames count) = words_due part h count

-- ---- the frames

-- the stop is that of a refused word, copy or read of frame data
abbrev pub is_refusal : Option StopCause → Bool
is_refusal (Some (stop.Fault (fault.Address far))) = true
is_refusal (Some (stop.Fault fault.Overrun)) = true
is_refusal (Some (stop.Fault fault.Multi)) = true
is_refusal _ = false

-- a history without its newest access
abbrev pub without_newest : History → History
without_newest [] = []
without_newest (e ∷ h) = h

-- the history that the frames stand for: a refused access changes nothing of them
abbrev pub frames_history : Option StopCause → History → History
frames_history why h = if is_refusal why then without_newest h else h

-- The frames are those of a history, of whose last read `due` words are due. Where the last access was refused, the
-- frames stand for the history before it; memory and FAR are the same with and without it.
pub record FramesAre (part : PartData) (f : FramesState) (why : Option StopCause) (h : History) (due : ℕ) : Type 0 where
  pub stands : FramesStandFor part f (frames_history why h) due
  pub memory_same : HaveSameFrames (memory_of part (frames_history why h)) (memory_of part h)
  pub far_same : far_owing part (frames_history why h) due ≡ far_owing part h due

-- ---- registers

-- the stored registers under MASK as their fields hold them
abbrev pub controls_in : Controls → ControlsState
controls_in d = record { ctl0 = d.ctl0; ctl1 = d.ctl1 }

-- the stored check and flags as their fields hold them
abbrev pub progress_in : Progress → ProgressState
progress_in d = record { check = d.check; has_idcode = d.has_idcode; pending = d.pending; ghigh = d.ghigh; iprog = d.iprog }

-- the stored values of registers but their frames, as their fields hold them
abbrev pub values_in : Values → ValuesState
values_in d = record {
  words = d.words.last;
  controls = controls_in d.controls;
  progress = progress_in d.progress;
  kind = d.kind;
  before = d.before;
  clock = clock_in d.clock;
  stop = d.stop;
  due = d.due;
}

-- the stored values of registers, and their frames, as their fields hold them
abbrev pub registers_in : Registers → RegistersState
registers_in d = record { values = values_in d.values; frames = d.frames }

-- the stored words, by register number from 0, are the last ones written; where none was, those that the reset kept,
-- and 0 for a register that keeps none
pub record AreLastWords (kept : Kept) (last : List ℕ) (h : History) : Type 0 where
  pub each : (register : ℕ) → register < reg_number_count → slice_index last register ≡ word_held kept register h

-- the stored registers under MASK are those of the history
pub record AreControls (d : ControlsState) (h : History) : Type 0 where
  pub ctl0 : d.ctl0 ≡ masked_register (number_of Ctl0) h
  pub ctl1 : d.ctl1 ≡ masked_register (number_of Ctl1) h

-- the stored check and flags are those of the history
pub record IsProgress (idcode : ℕ) (d : ProgressState) (h : History) : Type 0 where
  pub check : d.check ≡ running_check h
  pub has_idcode : d.has_idcode ≡ has_idcode idcode h
  pub pending : d.pending ≡ is_pending h
  pub ghigh : d.ghigh ≡ has_ghigh h
  pub iprog : d.iprog ≡ wrote_iprog h

-- an access may come next at this place
abbrev pub IsNextAccess : ℕ → History → Type 0
IsNextAccess place h = (0 < place) × Placed (place - 1) h

-- The registers are those of a history with n bytes taken: there is no stop in them, or it came at the last one. A word
-- that ends at a firing of the watchdog is not of the history.
pub record RegistersStandFor (part : PartData) (kept : Kept) (d : RegistersState) (h : History) (n : ℕ) : Type 0 where
  pub places : Placed n h
  pub words : AreLastWords kept d.values.words h
  pub controls : AreControls d.values.controls h
  pub progress : IsProgress part.idcode d.values.progress h
  pub kind : d.values.kind ≡ kept.kind
  pub before : d.values.before ≡ kept.before
  pub clock : IsClock part kept d.values.clock h n
  pub stop : first_stop_of_history part kept h n ≡ stop_at_place n d.values.stop
  pub frames : FramesAre part d.frames d.values.stop h (frames_due d.values.due)
  pub due_kind : frames_due d.values.due ≡ frames_among h (due_count d.values.due)

-- how many of n bytes taken count for accesses, with this stop, if any
abbrev pub counted_in : Option StopCause → ℕ → ℕ
counted_in None n = n
counted_in (Some why) n = last_counted why n

-- the stop, if any, is no firing of the watchdog: an access that ends at the last byte taken counts
abbrev pub CountsAll : Option StopCause → Type 0
CountsAll stop = (n : ℕ) → counted_in stop n ≡ n

-- a step of a word in a header's place
abbrev pub IsHeaderStep : Step → Type 0
IsHeaderStep (Payload register w) = ⊥
IsHeaderStep _ = Unit {0}

-- a run without a word
abbrev pub HasNoWord : Cut → Type 0
HasNoWord Need = Unit {0}
HasNoWord (Skip bytes) = Unit {0}
HasNoWord Sync = Unit {0}
HasNoWord _ = ⊥

-- a run's lent payload has no more bytes than the `count` that were taken last
abbrev pub FitsWithin : Cut → ℕ → Type 0
FitsWithin (Body register bytes) count = length bytes.now ≤ count
FitsWithin _ count = Unit {0}

-- a run's words, the first of which begins after `from` bytes, end where its `count` new bytes after the first n do
abbrev pub EndsWords : Cut → ℕ → ℕ → ℕ → Type 0
EndsWords (Head w step) from n count = (n < from + 4) × (from + 4 ≡ n + count)
EndsWords (Word register w) from n count = (n < from + 4) × (from + 4 ≡ n + count)
EndsWords (Body register bytes) from n count = (from ≡ n) × (length bytes.now ≡ count)
EndsWords _ from n count = Unit {0}

-- a device: its part, its stored values, whether the flash has ended in this attempt, how many bytes it took since its
-- reset, and how many it was ever fed
pub record DeviceState : Type 0 where
  pub part : PartData
  pub cutter : CutterState
  pub registers : RegistersState
  pub wrapped : Bool
  pub taken : ℕ
  pub fed : ℕ

-- the number of bytes that a device was ever fed: those that feeds took, which a reset and an undo leave; counted up to
-- the last number of 64 bits
abbrev pub fed_of : DeviceState → ℕ
fed_of d = min d.fed (2 ^ 64 - 1)

-- the number of bytes that a device was ever fed, after `count` bytes more, counted up to the last number of 64 bits
abbrev pub fed_more : DeviceState → ℕ → ℕ
fed_more d count = min (d.fed + count) (2 ^ 64 - 1)

-- a device can be given `count` bytes more: with these it took `taken_bytes_limit` at most since its reset
abbrev pub CanBeGiven : DeviceState → ℕ → Type 0
CanBeGiven d count = d.taken + count ≤ taken_bytes_limit

-- something stopped the device
abbrev pub HasStopped : DeviceState → Type 0
HasStopped d = IsSome d.registers.values.stop

-- startup has begun, since the last shutdown taken
abbrev pub HasBegun : DeviceState → Type 0
HasBegun d = IsSome d.registers.values.clock.startup.begun_with

-- no word that was read out is still to be given
abbrev pub NoWordDue : DeviceState → Type 0
NoWordDue d = due_count d.registers.values.due ≡ 0

-- a device in whose attempt the flash has ended
abbrev pub with_wrap : DeviceState → DeviceState
with_wrap d = record d { wrapped = true }

-- the flash may end here: the attempt is one of a boot, in which startup hasn't ended and which no fault that a
-- fallback follows and no IPROG has ended, and no word is due
pub record MayWrapWith (d : ValuesState) : Type 0 where
  pub boots : d.kind ≡ Bench → ⊥
  pub not_started : (d.clock.startup.phase == last_phase) ≡ false
  pub not_failed : failure_of (fault_of_stop d.stop) false ≡ None
  pub not_left : d.stop ≡ Some stop.Iprog → ⊥
  pub no_word_due : due_count d.due ≡ 0

-- the flash of this device may end here
abbrev pub MayWrap : DeviceState → Type 0
MayWrap d = MayWrapWith d.registers.values

-- the cutter is one that took these bytes
pub record IsCutterOf (c : CutterState) (bytes : List ℕ) : Type 0 where
  pub sessions : List EndedSession
  pub place : Place
  pub stands : CutterStandsFor c bytes sessions place

-- the words read out: those that were given already, and then those that are still due
pub record AreGivenOrDue (part : PartData) (d : ValuesState) (h : History) (reads : List ℕ) : Type 0 where
  pub given : List ℕ
  pub all : reads ≡ given ++ words_still_due part h d.due

-- A device took all of `bytes` since a reset that kept `kept`: it has no stop, or its stop came at the last byte. Where
-- it stopped, no word is due, and its cutter may be past that byte.
pub record DeviceStandsFor (part : PartData) (kept : Kept) (wrapped : Bool) (d : DeviceState) (bytes : List ℕ) : Type 0 where
  pub fits : AreBytes bytes
  pub part_is : d.part ≡ part
  pub wrapped_is : d.wrapped ≡ wrapped
  pub taken_is : d.taken ≡ length bytes
  pub stop_is : first_stop_of_bytes part kept bytes ≡ stop_at_place (length bytes) d.registers.values.stop
  pub registers_are : RegistersStandFor part kept d.registers (history_taken part kept bytes) (length bytes)
  pub cutter_is : d.registers.values.stop ≡ None → IsCutterOf d.cutter bytes
  pub due_are : AreGivenOrDue part d.registers.values (history_taken part kept bytes) (reads_of part kept bytes)
  pub none_due_at_stop : (why : StopCause) → d.registers.values.stop ≡ Some why → due_count d.registers.values.due ≡ 0

-- the words read out so far, without those that are still due
abbrev pub reads_given : PartData → Kept → DeviceState → List ℕ → List ℕ
reads_given part kept d bytes = take (length (reads_of part kept bytes) - due_count d.registers.values.due) (reads_of part kept bytes)

-- how many bytes of a piece of this length are taken, by what a feed answers
abbrev pub taken_in : ℕ → Fed → ℕ
taken_in length fed.All = length
taken_in length (fed.Stopped n) = n
taken_in length (fed.Iprog n) = n
taken_in length (fed.ReadFull n) = n

-- what a feed answers for a stop that came when `at` bytes of a piece were taken
abbrev pub answer_at_stop : StopCause → ℕ → Fed
answer_at_stop (stop.Fault f) at = fed.Stopped at
answer_at_stop stop.Iprog at = fed.Iprog at
