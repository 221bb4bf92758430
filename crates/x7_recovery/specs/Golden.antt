-- A golden stream of any kind, as one attempt shows it: a device starts with it where the first sector leads nowhere
-- (UG470, MultiBoot and fallback; the layout is this project's choice).
use Rattle.std.specs.Prelude.{◌≡◌, ◌≢◌, ℕ, ◌+◌, ◌<◌, ◌≤◌, List, ◌++◌, drop, length, slice_range}
use Rattle.x7_words.specs.Flash.{erased_sector}
use Rattle.x7_words.specs.Word.{AreBytes}
use Rattle.x7_packets.specs.FlashSlot.{sector_size}
use Rattle.x7_part.specs.Part.{PartData}
use Rattle.x7_memory.specs.FrameMap.{HaveSameFrames}
use Rattle.x7_memory.specs.Plan.{total}
use Rattle.x7_planner.specs.FullStream.{full_stream}
use Rattle.x7_regs.specs.declared.register.Reg.TheVariants.{Bootsts}
use Rattle.x7_engine.specs.State.{memory_of_bytes}
use Rattle.x7_boot.specs.Attempt.{IsFlashAttempt, BootAttempt}
use Rattle.x7_boot.specs.Boot.{BootedState, IsBoot, at_power, end_state, end_value}
use Rattle.x7_boot.specs.declared.attempt.Ending.TheVariants as ending
use Rattle.x7_boot.specs.declared.boots.BootEnd.TheVariants as boot_end
use Rattle.x7_boot.specs.BootCourse.{BootCourse, course_of}
use Rattle.x7_recovery.specs.Recovery.{Updating, power_status, started_at_power}
use Rattle.x7_update.specs.After.{IsAfterUpdate}
use Rattle.x7_update.specs.Layout.{IsUpdatable, four_at, open_switch, update_place}

-- the first sector leads nowhere: no sync word begins in it, as in an updatable flash without an open slot, or where it
-- is erased
abbrev pub LeadsNowhere : List ℕ → Type 0
LeadsNowhere flash = (place : ℕ) → place < sector_size → four_at flash place ≢ open_switch

-- a closed flash: bytes, of one sector at least, and the first sector leads nowhere
pub record IsClosedFlash (flash : List ℕ) : Type 0 where
  pub least : sector_size ≤ length flash
  pub fits : AreBytes flash
  pub leads_nowhere : LeadsNowhere flash

-- the flash with its first sector erased
abbrev pub with_first_sector_erased : List ℕ → List ℕ
with_first_sector_erased flash = erased_sector ++ drop sector_size flash

-- the attempt over the flash is that at power, at address 0, and starts
pub record StartsAtPower (part : PartData) (flash : List ℕ) (t : BootAttempt) : Type 0 where
  pub is : IsFlashAttempt part flash t
  pub kept : t.kept ≡ at_power
  pub address : t.address ≡ 0
  pub started : t.ending ≡ ending.Started

-- Two closed flashes have the same bytes after the first sector, up to where an attempt at power that starts over the
-- first of them ended.
pub record HaveSameGolden (part : PartData) (one other : List ℕ) (t : BootAttempt) : Type 0 where
  pub one_is : IsClosedFlash one
  pub other_is : IsClosedFlash other
  pub starts : StartsAtPower part one t
  pub same : slice_range other sector_size (length t.bytes) ≡ slice_range one sector_size (length t.bytes)

-- The golden stream starts: with the first sector erased the attempt at power starts, and ends at the update's place or
-- before it.
pub record GoldenStarts (part : PartData) (flash : List ℕ) (t : BootAttempt) : Type 0 where
  pub starts : StartsAtPower part (with_first_sector_erased flash) t
  pub ends : length t.bytes ≤ update_place flash

-- The boot starts at its one attempt, at power, with the memory and the registers that another attempt ended with.
pub record StartsAlike (part : PartData) (t : BootAttempt) (c : BootCourse) : Type 0 where
  pub attempts_are : c.attempts ≡ started_at_power
  pub started : c.end ≡ boot_end.Started
  pub memory : memory_of_bytes part c.last.kept c.last.bytes ≡ memory_of_bytes part t.kept t.bytes
  pub registers : end_state part c.last ≡ end_state part t

-- The golden stream starts as `GoldenStarts` says, with no more bytes than the first sector and the full stream of the
-- plan have: with the memory of the plan over zeros, and BOOTSTS shows no other attempt.
pub record StartsAsPlanned (u : Updating) (t : BootAttempt) : Type 0 where
  pub golden : GoldenStarts u.part u.flash t
  pub within : length t.bytes ≤ sector_size + length (full_stream u.part u.golden)
  pub memory : HaveSameFrames (memory_of_bytes u.part t.kept t.bytes) (total u.part u.golden)
  pub bootsts : end_value u.part t Bootsts ≡ power_status

-- a flash that is being updated with a stream, the part that boots from this flash, and an attempt with the flash's
-- golden stream
pub record UpdatingByAttempt : Type 0 where
  pub part : PartData
  pub flash : List ℕ
  pub stream : List ℕ
  pub golden : BootAttempt

-- an update is prepared: the flash can be updated, and has a golden stream of any kind that starts by this attempt
pub record IsPreparedByAttempt (u : UpdatingByAttempt) : Type 0 where
  pub updatable : IsUpdatable u.flash
  pub golden : GoldenStarts u.part u.flash u.golden

-- a boot of what was left: that of the flash before the update, or one that starts as the golden stream does, or that
-- of the updated flash
pub data BootsAlike (u : UpdatingByAttempt) (found : List ℕ) (b : BootedState) : Type 0 where
  as_before : IsBoot u.part u.flash b → BootsAlike u found b
  golden : (boot : IsBoot u.part found b) → StartsAlike u.part u.golden (course_of b boot.last) → BootsAlike u found b
  as_after : IsAfterUpdate u.stream u.flash found → IsBoot u.part found b → BootsAlike u found b
