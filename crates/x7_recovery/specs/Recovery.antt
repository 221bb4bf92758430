-- What a device does with a flash that a power loss left in an update, where the golden stream is the full stream of a
-- plan (UG470, MultiBoot and fallback; the layout is this project's choice).
use Rattle.std.specs.Prelude.{◌≡◌, ℕ, ◌+◌, ◌≤◌, false, List, [], ◌∷◌, ◌++◌, None, drop, length}
use Rattle.x7_packets.specs.FlashSlot.{sector_size}
use Rattle.x7_part.specs.Part.{PartData}
use Rattle.x7_part.specs.Ranges.{IsPart}
use Rattle.x7_regs.specs.BootStatus.{boot_status_of}
use Rattle.x7_regs.specs.declared.boot_status.Attempt.{Attempt}
use Rattle.x7_regs.specs.declared.boot_status.Kind.TheVariants.{Power}
use Rattle.x7_memory.specs.FrameMap.{HaveSameFrames}
use Rattle.x7_memory.specs.Plan.{IsPlanFor, PlanData, total}
use Rattle.x7_planner.specs.FullStream.{full_stream}
use Rattle.x7_regs.specs.declared.register.Reg.TheVariants.{Bootsts}
use Rattle.x7_engine.specs.State.{memory_of_bytes}
use Rattle.x7_boot.specs.Boot.{BootedState, IsBoot, end_value}
use Rattle.x7_boot.specs.BootCourse.{BootCourse, course_of}
use Rattle.x7_recovery.specs.PlannedImage.{golden_image}
use Rattle.x7_boot.specs.declared.attempt.Ending.TheVariants as ending
use Rattle.x7_boot.specs.declared.boots.BootEnd.TheVariants as boot_end
use Rattle.x7_boot.specs.declared.boots.Tried.{Tried}
use Rattle.x7_update.specs.After.{IsAfterUpdate}
use Rattle.x7_update.specs.Layout.{IsUpdatable, update_place}

-- a flash that is being updated with a stream, the part that boots from this flash, and the plan of the flash's golden
-- stream
pub record Updating : Type 0 where
  pub part : PartData
  pub golden : PlanData
  pub flash : List ℕ
  pub stream : List ℕ

-- the image of a golden plan and an update, which is being updated with a stream
abbrev pub updating_image : PartData → PlanData → List ℕ → List ℕ → Updating
updating_image part golden update stream = record { part = part; golden = golden; flash = golden_image part golden update; stream = stream }

-- the full stream of a plan stands after the first sector of a flash, and ends at the update's place or before it
pub record HasGolden (part : PartData) (golden : PlanData) (flash : List ℕ) : Type 0 where
  pub rest : List ℕ
  pub stands : drop sector_size flash ≡ full_stream part golden ++ rest
  pub ends : sector_size + length (full_stream part golden) ≤ update_place flash

-- an update is prepared: the part's numbers are in range, the plan is one for the part, and the flash can be updated,
-- with the full stream of the plan as its golden stream
pub record IsPrepared (u : Updating) : Type 0 where
  pub is_part : IsPart u.part
  pub plan : IsPlanFor u.part u.golden
  pub updatable : IsUpdatable u.flash
  pub golden : HasGolden u.part u.golden u.flash

-- the attempts of a boot that starts at power: the one attempt, at address 0, starts
abbrev pub started_at_power : List Tried
started_at_power = record { kind = Power; address = 0; ending = ending.Started } ∷ []

-- what BOOTSTS shows of an attempt at power that did not fail
abbrev pub power_attempt : Attempt
power_attempt = record { kind = Power; cause = None; ignored = false }

-- BOOTSTS of an attempt at power that did not fail, before which there was none
abbrev pub power_status : ℕ
power_status = boot_status_of power_attempt None

-- The boot starts with the attempt at power: with the memory of the golden plan over zeros, and BOOTSTS shows no other
-- attempt.
pub record StartsGolden (part : PartData) (golden : PlanData) (c : BootCourse) : Type 0 where
  pub attempts_are : c.attempts ≡ started_at_power
  pub started : c.end ≡ boot_end.Started
  pub memory : HaveSameFrames (memory_of_bytes part c.last.kept c.last.bytes) (total part golden)
  pub bootsts : end_value part c.last Bootsts ≡ power_status

-- a boot of what was left: that of the flash before the update, or one that starts with the golden stream, or that of
-- the updated flash
pub data BootsAs (u : Updating) (found : List ℕ) (b : BootedState) : Type 0 where
  as_before : IsBoot u.part u.flash b → BootsAs u found b
  golden : (boot : IsBoot u.part found b) → StartsGolden u.part u.golden (course_of b boot.last) → BootsAs u found b
  as_after : IsAfterUpdate u.stream u.flash found → IsBoot u.part found b → BootsAs u found b
