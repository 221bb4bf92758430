-- What a boot from a flash with an open slot comes to: the attempt at the update, and the fallback where that fails
-- (UG470, MultiBoot and fallback).
use Rattle.std.specs.Prelude.{◌≡◌, ◌≤◌, ℕ, Bool, true, false, List, [], ◌∷◌, ◌++◌, drop, length, Option, None, Some}
use Rattle.x7_packets.specs.FlashSlot.{sector_size}
use Rattle.x7_part.specs.Part.{PartData}
use Rattle.x7_part.specs.Ranges.{IsPart}
use Rattle.x7_regs.specs.BootStatus.{boot_status_of}
use Rattle.x7_regs.specs.declared.boot_status.Attempt.{Attempt}
use Rattle.x7_regs.specs.declared.boot_status.Cause.{Cause}
use Rattle.x7_regs.specs.declared.boot_status.Kind.TheVariants.{Power, Iprog, Fallback}
use Rattle.x7_memory.specs.FrameMap.{HaveSameFrames}
use Rattle.x7_memory.specs.Plan.{IsPlanFor, PlanData, total}
use Rattle.x7_planner.specs.FullStream.{full_stream}
use Rattle.x7_regs.specs.declared.register.Reg.TheVariants.{Ctl0, Bootsts}
use Rattle.x7_engine.specs.State.{attempt_of_bytes, memory_of_bytes}
use Rattle.x7_engine.specs.declared.kept.Kept.{Kept}
use Rattle.x7_engine.specs.Kept.{without_kept}
use Rattle.x7_boot.specs.Attempt.{IsFlashAttempt, BootAttempt}
use Rattle.x7_regs.specs.Control.{forbids_fallback}
use Rattle.x7_boot.specs.Boot.{end_state, end_value}
use Rattle.x7_boot.specs.BootCourse.{BootCourse, IsCourse}
use Rattle.x7_boot.specs.Image.{flash_limit, image_size, place_after_golden}
use Rattle.x7_boot.specs.declared.attempt.Ending.{Ending}
use Rattle.x7_boot.specs.declared.attempt.Ending.TheVariants as ending
use Rattle.x7_boot.specs.declared.boots.BootEnd.{BootEnd}
use Rattle.x7_boot.specs.declared.boots.BootEnd.TheVariants as boot_end
use Rattle.x7_boot.specs.declared.boots.Tried.{Tried}
use Rattle.x7_recovery.specs.Clean.{StartsClean}
use Rattle.x7_recovery.specs.OpenSlot.{BeginsAsImage, OpenFlash, image_of_flash}
use Rattle.x7_recovery.specs.Recovery.{power_attempt}

-- ---- the attempt at the update

-- what is kept over the reset between the attempt at power, which obeyed an IPROG, and the attempt at the update: the
-- start address in WBSTAR, zeros in TIMER and BSPI, and the attempt at power, which did not fail
abbrev pub kept_at_update : ℕ → Kept
kept_at_update start = record { wbstar = start; timer = 0; bspi = 0; kind = Iprog; before = Some power_attempt }

-- the attempts of a boot in which the attempt at power obeys an IPROG that leads to a place, the attempt there ends by
-- `e`, and `more` come after it
abbrev pub through_update : ℕ → Ending → List Tried → List Tried
through_update place e more = record { kind = Power; address = 0; ending = ending.Iprog } ∷ record { kind = Iprog; address = place; ending = e } ∷ more

-- an attempt by IPROG, after that at power, at the place to which the open slot leads, ended by `e`
pub record UpdateEnds (o : OpenFlash) (t : BootAttempt) (e : Ending) : Type 0 where
  pub is : IsFlashAttempt o.part o.flash t
  pub kept : t.kept ≡ kept_at_update o.start
  pub address : t.address ≡ o.place
  pub ends : t.ending ≡ e

-- the attempt at the update failed by this cause; `forbidden` is whether CTL0 forbids a fallback at its end
pub record UpdateFails (o : OpenFlash) (t : BootAttempt) (cause : Cause) (forbidden : Bool) : Type 0 where
  pub ended : UpdateEnds o t (ending.Failed cause)
  pub forbids : forbids_fallback (end_value o.part t Ctl0) ≡ forbidden

-- the attempt at the update failed by this cause, and CTL0 forbids a fallback at its end
abbrev pub UpdateStops : OpenFlash → BootAttempt → Cause → Type 0
UpdateStops o t cause = UpdateFails o t cause true

-- the attempt at the update failed by this cause, and CTL0 allows a fallback at its end
abbrev pub UpdateFallsBack : OpenFlash → BootAttempt → Cause → Type 0
UpdateFallsBack o t cause = UpdateFails o t cause false

-- the second attempt of a boot is that at the update
pub record TriesUpdate (o : OpenFlash) (attempts : List Tried) : Type 0 where
  pub attempt : BootAttempt
  pub ended : UpdateEnds o attempt attempt.ending
  pub more : List Tried
  pub attempts_are : attempts ≡ through_update o.place attempt.ending more

-- the attempt at the update is the last one, and the boot ends by `by_end`
pub record EndsAtUpdate (o : OpenFlash) (t : BootAttempt) (by_end : BootEnd) (c : BootCourse) : Type 0 where
  pub attempts_are : c.attempts ≡ through_update o.place t.ending []
  pub end_is : c.end ≡ by_end
  pub last_is : c.last ≡ t

-- the part's numbers are in range, the plan is one for the part, and its full stream stands in the flash from the byte
-- `place` on (from 0), whatever follows it
pub record HasFullStream (o : OpenFlash) (place : ℕ) (planned : PlanData) : Type 0 where
  pub is_part : IsPart o.part
  pub plan : IsPlanFor o.part planned
  pub rest : List ℕ
  pub stands : drop place o.flash ≡ full_stream o.part planned ++ rest

-- the update is the full stream of a plan: it stands at the place to which the open slot leads
abbrev pub HasFullUpdate : OpenFlash → PlanData → Type 0
HasFullUpdate o update = HasFullStream o o.place update

-- what BOOTSTS shows of an attempt by IPROG, by the cause of its failure if it failed
abbrev pub iprog_attempt : Option Cause → Attempt
iprog_attempt cause = record { kind = Iprog; cause = cause; ignored = false }

-- BOOTSTS of an attempt by IPROG that did not fail, after one at power
abbrev pub update_bootsts : ℕ
update_bootsts = boot_status_of (iprog_attempt None) (Some power_attempt)

-- The boot starts with the update: with the memory of its plan over zeros, and BOOTSTS shows an attempt by IPROG, after
-- one at power.
pub record StartsUpdate (o : OpenFlash) (update : PlanData) (c : BootCourse) : Type 0 where
  pub attempts_are : c.attempts ≡ through_update o.place ending.Started []
  pub started : c.end ≡ boot_end.Started
  pub memory : HaveSameFrames (memory_of_bytes o.part c.last.kept c.last.bytes) (total o.part update)
  pub bootsts : end_value o.part c.last Bootsts ≡ update_bootsts

-- ---- the fallback

-- the attempts of a boot whose update fails by this cause, and that then falls back and starts
abbrev pub fell_back : ℕ → Cause → List Tried
fell_back place cause = through_update place (ending.Failed cause) (record { kind = Fallback; address = 0; ending = ending.Started } ∷ [])

-- BOOTSTS of a fallback that ignored an IPROG, after an attempt by IPROG that failed by this cause
abbrev pub fallback_status : Cause → ℕ
fallback_status cause = boot_status_of (record { kind = Fallback; cause = None; ignored = true }) (Some (iprog_attempt (Some cause)))

-- the golden stream is the full stream of a plan: it stands after the first sector
abbrev pub HasFullGolden : OpenFlash → PlanData → Type 0
HasFullGolden o golden = HasFullStream o sector_size golden

-- The boot falls back and starts with the memory of the golden plan over zeros, and BOOTSTS shows the fallback and the
-- update's cause.
pub record FallsBack (o : OpenFlash) (cause : Cause) (golden : PlanData) (c : BootCourse) : Type 0 where
  pub attempts_are : c.attempts ≡ fell_back o.place cause
  pub started : c.end ≡ boot_end.Started
  pub memory : HaveSameFrames (memory_of_bytes o.part c.last.kept c.last.bytes) (total o.part golden)
  pub bootsts : end_value o.part c.last Bootsts ≡ fallback_status cause

-- The boot falls back and starts as another attempt did: at the same byte, with the same memory, and BOOTSTS shows the
-- fallback and the update's cause.
pub record FallsBackClean (o : OpenFlash) (cause : Cause) (t : BootAttempt) (c : BootCourse) : Type 0 where
  pub attempts_are : c.attempts ≡ fell_back o.place cause
  pub started : c.end ≡ boot_end.Started
  pub taken : length c.last.bytes ≡ length t.bytes
  pub memory : memory_of_bytes o.part c.last.kept c.last.bytes ≡ memory_of_bytes o.part t.kept t.bytes
  pub bootsts : end_value o.part c.last Bootsts ≡ fallback_status cause

-- the attempt is a fallback over the flash, at address 0, and starts; what else its device kept over the reset is free
pub record StartsAsFallback (o : OpenFlash) (f : BootAttempt) : Type 0 where
  pub is : IsFlashAttempt o.part o.flash f
  pub kind : f.kept.kind ≡ Fallback
  pub address : f.address ≡ 0
  pub started : f.ending ≡ ending.Started

-- The boot falls back and starts as another fallback does: with the same bytes and memory, and the same state but for
-- the end, WBSTAR, TIMER, BSPI and BOOTSTS, which may show what was kept over the reset. BOOTSTS shows that fallback,
-- and the update's cause.
pub record FallsBackAlike (o : OpenFlash) (cause : Cause) (f : BootAttempt) (c : BootCourse) : Type 0 where
  pub attempts_are : c.attempts ≡ fell_back o.place cause
  pub started : c.end ≡ boot_end.Started
  pub taken : c.last.bytes ≡ f.bytes
  pub memory : memory_of_bytes o.part c.last.kept c.last.bytes ≡ memory_of_bytes o.part f.kept f.bytes
  pub registers : without_kept (end_state o.part c.last) ≡ without_kept (end_state o.part f)
  pub bootsts : end_value o.part c.last Bootsts ≡ boot_status_of (attempt_of_bytes o.part f.kept f.wrapped f.bytes) (Some (iprog_attempt (Some cause)))

-- ---- the boot

-- What a boot from a flash with an open slot comes to, by what the attempt at the update does and by what the golden
-- stream is.
pub record BootsOpen (o : OpenFlash) (c : BootCourse) : Type 0 where
  -- the second attempt is that at the update
  pub tries : TriesUpdate o c.attempts
  -- where the attempt at the update starts, the boot has started with the update
  pub starts : (t : BootAttempt) → UpdateEnds o t ending.Started → EndsAtUpdate o t boot_end.Started c
  -- an update that is the full stream of a plan starts, with the memory of the plan
  pub full : (update : PlanData) → HasFullUpdate o update → StartsUpdate o update c
  -- where the update fails and CTL0 forbids a fallback, the boot stops
  pub stops : (t : BootAttempt) (cause : Cause) → UpdateStops o t cause → EndsAtUpdate o t boot_end.Stopped c
  -- where the update fails and CTL0 allows a fallback, a golden stream that is the full stream of a plan starts, with
  -- the memory of the plan
  pub falls_back : (t : BootAttempt) (cause : Cause) (golden : PlanData) → HasFullGolden o golden → UpdateFallsBack o t cause → FallsBack o cause golden c
  -- where the update fails and CTL0 allows a fallback, a golden stream of any kind that starts at power after an erased
  -- first sector and begins clean starts as it did there
  pub falls_clean : (t : BootAttempt) (cause : Cause) (golden : BootAttempt) → StartsClean o.part o.flash golden → UpdateFallsBack o t cause → FallsBackClean o cause golden c
  -- where the update fails and CTL0 allows a fallback, the boot starts as any fallback over the flash does that starts
  pub falls_alike : (t : BootAttempt) (cause : Cause) (f : BootAttempt) → StartsAsFallback o f → UpdateFallsBack o t cause → FallsBackAlike o cause f c

-- every boot from the flash comes to what a boot from a flash with an open slot comes to
abbrev pub EachBootsOpen : OpenFlash → Type 0
EachBootsOpen o = (c : BootCourse) → IsCourse o.part o.flash c → BootsOpen o c

-- every boot from the flash falls back and starts as this attempt did, as `FallsBackClean` says
abbrev pub EachFallsBackClean : OpenFlash → Cause → BootAttempt → Type 0
EachFallsBackClean o cause t = (c : BootCourse) → IsCourse o.part o.flash c → FallsBackClean o cause t c

-- the part's numbers are in range, and the image of a golden and an update stream is no larger than a flash may be
pub record HasImageOf (part : PartData) (golden update : List ℕ) : Type 0 where
  pub is_part : IsPart part
  pub fits : image_size (length golden) (length update) ≤ flash_limit

-- A flash begins as the image of a golden and an update stream for the part does: both streams stand at their places,
-- and every boot from the flash comes to what `BootsOpen` says, of the first slot as one that leads to the update.
pub record HasStreams (part : PartData) (golden update flash : List ℕ) : Type 0 where
  pub begins : BeginsAsImage part flash (place_after_golden (length golden))
  pub has_golden : (rest : List ℕ) × (drop sector_size flash ≡ golden ++ rest)
  pub has_update : (rest : List ℕ) × (drop (place_after_golden (length golden)) flash ≡ update ++ rest)
  pub boots : EachBootsOpen (image_of_flash part flash (place_after_golden (length golden)))
