-- What planned streams do on a device at rest (this project's choice).
use Rattle.std.specs.Prelude.{◌≡◌, ℕ, Bool, true, List, ◌++◌, take, unwrap_or}
use Rattle.std.specs.List.{flat_map}
use Rattle.x7_words.specs.Word.{AreBytes}
use Rattle.x7_regs.specs.declared.register.Reg.{Reg}
use Rattle.x7_regs.specs.declared.register.Reg.TheVariants.{Ctl0, Mask, Cor0, Axss, Cor1, Wbstar, Timer, Ctl1, Bspi}
use Rattle.x7_part.specs.Part.{PartData}
use Rattle.x7_part.specs.Ranges.{IsPart}
use Rattle.x7_part.specs.declared.slot.Slot.{Slot}
use Rattle.x7_part.specs.declared.slot.Slot.TheVariants.{Frame, Pad, End}
use Rattle.x7_memory.specs.FrameMap.{HaveSameFrames, FrameMap, override}
use Rattle.x7_memory.specs.Plan.{IsPlanFor, PlanData, planned, total}
use Rattle.x7_part.specs.Slot.{slots_from}
use Rattle.x7_startup.specs.Phases.{last_phase}
use Rattle.x7_startup.specs.declared.lines.Lines.{Lines}
use Rattle.x7_engine.specs.declared.kept.Kept.{Kept}
use Rattle.x7_engine.specs.Rest.{AtRest}
use Rattle.x7_engine.specs.State.{memory_of_bytes, reads_of, state_of, value_of}
use Rattle.x7_planner.specs.FullStream.{full_stream, zero_frame}
use Rattle.x7_planner.specs.PartialStream.{partial_stream}
use Rattle.x7_planner.specs.ReadStream.{read_stream}

-- a device after bytes, on which a stream is played: its part, what its reset kept, and the bytes that it took since
-- then
pub record DeviceAfter : Type 0 where
  pub part : PartData
  pub kept : Kept
  pub bytes : List ℕ

-- a device of the part, by what its reset kept and the bytes that it took
abbrev pub device_after : PartData → Kept → List ℕ → DeviceAfter
device_after part kept bytes = record { part = part; kept = kept; bytes = bytes }

-- the device is at rest after its bytes, which are numbers below 256, and the numbers of its part are in range
pub record DeviceRests (d : DeviceAfter) : Type 0 where
  pub fits : AreBytes d.bytes
  pub at_rest : AtRest d.part d.kept d.bytes
  pub is_part : IsPart d.part

-- a plan whose stream is played, and the device on which it is
pub record PlannedPlay : Type 0 where
  pub device : DeviceAfter
  pub plan : PlanData

-- the device is at rest, and the plan is one for its part
pub record CanPlay (p : PlannedPlay) : Type 0 where
  pub rests : DeviceRests p.device
  pub plan_is : IsPlanFor p.device.part p.plan

-- the device's bytes, and the full stream of the plan after them
abbrev pub bytes_with_full : PlannedPlay → List ℕ
bytes_with_full p = p.device.bytes ++ full_stream p.device.part p.plan

-- the device's bytes, and the partial stream of the plan after them
abbrev pub bytes_with_partial : PlannedPlay → List ℕ
bytes_with_partial p = p.device.bytes ++ partial_stream p.device.part p.plan.rows

-- the device's bytes, the full stream of the plan, and after it the partial stream of a later plan
abbrev pub bytes_with_both : PlannedPlay → PlanData → List ℕ
bytes_with_both p later = bytes_with_full p ++ partial_stream p.device.part later.rows

-- the memory that the device's bytes left, with the plan over it
abbrev pub memory_with_plan : PlannedPlay → FrameMap
memory_with_plan p = override (memory_of_bytes p.device.part p.device.kept p.device.bytes) (planned p.plan.rows)

-- the words of a memory at a slot: its frame at an address, zeros at a pad, past the last slot and where it has no
-- frame
abbrev pub slot_words : PartData → FrameMap → Slot → List ℕ
slot_words part memory (Frame far) = unwrap_or (memory far) (zero_frame part)
slot_words part memory Pad = zero_frame part
slot_words part memory End = zero_frame part

-- what a readback of n slots from an address on gives: a frame of zeros, and the frames along the slots
abbrev pub words_along : PartData → FrameMap → ℕ → ℕ → List ℕ
words_along part memory far n = zero_frame part ++ flat_map (slot_words part memory) (take n (slots_from part far))

-- DONE, GTS_CFG_B and GWE are 1: the device is configured, drives its outputs, and may write its memories
abbrev pub all_high : Lines
all_high = record { done = true; gts = true; gwe = true }

-- the registers that keep a word and that no planned stream writes are as they were: COR1, CTL1, AXSS, WBSTAR, TIMER
-- and BSPI
pub record KeepsUnwritten (old new : Reg → ℕ) : Type 0 where
  pub cor1 : new Cor1 ≡ old Cor1
  pub ctl1 : new Ctl1 ≡ old Ctl1
  pub axss : new Axss ≡ old Axss
  pub wbstar : new Wbstar ≡ old Wbstar
  pub timer : new Timer ≡ old Timer
  pub bspi : new Bspi ≡ old Bspi

-- the registers that keep a word and that no planned stream writes, and the words that a full stream writes (CTL0, MASK
-- and COR0), are as they were; of CRC, FAR, CMD, IDCODE, STAT and BOOTSTS nothing is said
pub record KeepsControlWords (old new : Reg → ℕ) : Type 0 where
  pub ctl0 : new Ctl0 ≡ old Ctl0
  pub mask : new Mask ≡ old Mask
  pub cor0 : new Cor0 ≡ old Cor0
  pub unwritten : KeepsUnwritten old new

-- After a full stream the memory is the plan over zeros, startup has ended, its lines are 1, and the registers that no
-- planned stream writes are as they were. The stream reads nothing out, there is no stop, and the device is at rest
-- again.
pub record PlaysFull (d : DeviceAfter) (stream : List ℕ) (plan : PlanData) : Type 0 where
  pub memory : HaveSameFrames (memory_of_bytes d.part d.kept (d.bytes ++ stream)) (total d.part plan)
  pub phase : (wrapped : Bool) → (state_of d.part d.kept wrapped (d.bytes ++ stream)).phase ≡ last_phase
  pub lines : (wrapped : Bool) → (state_of d.part d.kept wrapped (d.bytes ++ stream)).lines ≡ all_high
  pub registers : (wrapped : Bool) → KeepsUnwritten (value_of d.part d.kept wrapped d.bytes) (value_of d.part d.kept wrapped (d.bytes ++ stream))
  pub reads : reads_of d.part d.kept (d.bytes ++ stream) ≡ reads_of d.part d.kept d.bytes
  pub rests : AtRest d.part d.kept (d.bytes ++ stream)

-- After a partial stream the memory is that before it, overridden by the plan, and phase, lines and control words stay.
-- It reads nothing out, there is no stop, and the device is at rest again.
pub record PlaysPartial (d : DeviceAfter) (stream : List ℕ) (plan : PlanData) : Type 0 where
  pub memory : HaveSameFrames (memory_of_bytes d.part d.kept (d.bytes ++ stream)) (override (memory_of_bytes d.part d.kept d.bytes) (planned plan.rows))
  pub phase : (wrapped : Bool) → (state_of d.part d.kept wrapped (d.bytes ++ stream)).phase ≡ (state_of d.part d.kept wrapped d.bytes).phase
  pub lines : (wrapped : Bool) → (state_of d.part d.kept wrapped (d.bytes ++ stream)).lines ≡ (state_of d.part d.kept wrapped d.bytes).lines
  pub registers : (wrapped : Bool) → KeepsControlWords (value_of d.part d.kept wrapped d.bytes) (value_of d.part d.kept wrapped (d.bytes ++ stream))
  pub reads : reads_of d.part d.kept (d.bytes ++ stream) ≡ reads_of d.part d.kept d.bytes
  pub rests : AtRest d.part d.kept (d.bytes ++ stream)

-- A read stream reads out a frame of zeros and the words of n slots from an address on; memory, phase, lines and
-- control words stay. There is no stop, and the device is at rest again.
pub record PlaysRead (d : DeviceAfter) (stream : List ℕ) (far n : ℕ) : Type 0 where
  pub reads : reads_of d.part d.kept (d.bytes ++ stream) ≡ reads_of d.part d.kept d.bytes ++ words_along d.part (memory_of_bytes d.part d.kept d.bytes) far n
  pub memory : HaveSameFrames (memory_of_bytes d.part d.kept (d.bytes ++ stream)) (memory_of_bytes d.part d.kept d.bytes)
  pub phase : (wrapped : Bool) → (state_of d.part d.kept wrapped (d.bytes ++ stream)).phase ≡ (state_of d.part d.kept wrapped d.bytes).phase
  pub lines : (wrapped : Bool) → (state_of d.part d.kept wrapped (d.bytes ++ stream)).lines ≡ (state_of d.part d.kept wrapped d.bytes).lines
  pub registers : (wrapped : Bool) → KeepsControlWords (value_of d.part d.kept wrapped d.bytes) (value_of d.part d.kept wrapped (d.bytes ++ stream))
  pub rests : AtRest d.part d.kept (d.bytes ++ stream)

-- ---- streams one after another

-- After the bytes `written` and the read stream of n slots from an address on, the device has read out what its own
-- bytes did, and then a frame of zeros and the words of this memory at the slots. Its memory is this one, the phase is
-- that after `written`, and it is at rest.
pub record ReadsBack (d : DeviceAfter) (written : List ℕ) (memory : FrameMap) (far n : ℕ) : Type 0 where
  pub reads : reads_of d.part d.kept (written ++ read_stream d.part far n) ≡ reads_of d.part d.kept d.bytes ++ words_along d.part memory far n
  pub same : HaveSameFrames (memory_of_bytes d.part d.kept (written ++ read_stream d.part far n)) memory
  pub phase : (wrapped : Bool) → (state_of d.part d.kept wrapped (written ++ read_stream d.part far n)).phase ≡ (state_of d.part d.kept wrapped written).phase
  pub rests : AtRest d.part d.kept (written ++ read_stream d.part far n)

-- After the full stream of a plan and the partial stream of a later one the memory is the later plan over the earlier
-- one over zeros, and startup has ended.
pub record PlaysBoth (p : PlannedPlay) (later : PlanData) : Type 0 where
  pub memory : HaveSameFrames (memory_of_bytes p.device.part p.device.kept (bytes_with_both p later)) (override (total p.device.part p.plan) (planned later.rows))
  pub phase : (wrapped : Bool) → (state_of p.device.part p.device.kept wrapped (bytes_with_both p later)).phase ≡ last_phase
