-- A boot attempt: a device takes the bytes of a flash from an address on, up to what ends the attempt (UG470, MultiBoot
-- and fallback; the end at the least byte, and at the flash's end, are this project's choice).
use Rattle.std.specs.Prelude.{◌≡◌, ℕ, suc, ◌+◌, ◌-◌, ◌<◌, ◌≤◌, ◌==◌, ◌⊎◌, Bool, true, false, if◌then◌else◌, List, ◌++◌, length, take, drop, slice_range, Option, None, Some, IsSome}
use Rattle.x7_words.specs.Input.{taken_bytes_limit}
use Rattle.x7_part.specs.Part.{PartData}
use Rattle.x7_regs.specs.declared.boot_status.Cause.{Cause}
use Rattle.x7_regs.specs.declared.boot_status.Cause.TheVariants.{Wrap}
use Rattle.x7_engine.specs.Past.{HasPast, Past, later}
use Rattle.x7_engine.specs.Standing.{DeviceState, DeviceStandsFor, NoWordDue}
use Rattle.x7_engine.specs.State.{why_stopped, state_of, first_stop_of_bytes, taken_of}
use Rattle.x7_engine.specs.Stop.{fault_of_stop}
use Rattle.x7_engine.specs.Value.{failure_of}
use Rattle.x7_engine.specs.declared.fed.Fed.{Fed}
use Rattle.x7_engine.specs.declared.fed.Fed.TheVariants as fed
use Rattle.x7_engine.specs.declared.kept.Kept.{Kept}
use Rattle.x7_engine.specs.declared.stop.StopCause.{StopCause}
use Rattle.x7_engine.specs.declared.stop.StopCause.TheVariants as stop
use Rattle.x7_boot.specs.Reads.{FlashAnswers, IfAgrees}
use Rattle.x7_boot.specs.declared.attempt.Ending.{Ending}
use Rattle.x7_boot.specs.declared.attempt.Ending.TheVariants.{Started, Iprog, Failed}
use Rattle.x7_boot.specs.declared.attempt.AttemptStep.{AttemptStep}
use Rattle.x7_boot.specs.declared.attempt.AttemptStep.TheVariants.{GoesOn, Ends, Stops}

-- a failure by this cause, if there is a cause
abbrev pub failed_by : Option Cause → Option Ending
failed_by None = None
failed_by (Some cause) = Some (Failed cause)

-- what a stop ends an attempt by, if there is one: an obeyed IPROG, or a fault Id, Crc or Watchdog; another fault
-- doesn't end it
abbrev pub ending_by : Option StopCause → Option Ending
ending_by (Some stop.Iprog) = Some Iprog
ending_by why = failed_by (failure_of (fault_of_stop why) false)

-- what ends an attempt at these bytes, if anything does; phase 7 comes first
abbrev pub ending_at : PartData → Kept → List ℕ → Option Ending
ending_at part kept bytes =
    if (state_of part kept false bytes).phase == 7 then Some Started else ending_by (why_stopped (first_stop_of_bytes part kept bytes))

-- an attempt: what its device kept over the reset, its address in the flash, in bytes, the bytes that the device took,
-- whether the flash ended before anything ended the attempt, and how the attempt ended
pub record BootAttempt : Type 0 where
  pub kept : Kept
  pub address : ℕ
  pub bytes : List ℕ
  pub wrapped : Bool
  pub ending : Ending

-- the place of the flash after the last byte that an attempt took
abbrev pub attempt_end : BootAttempt → ℕ
attempt_end t = t.address + length t.bytes

-- nothing ends an attempt at fewer than `n` bytes of `from`, which is the flash from the attempt's address on
abbrev pub NoneBefore : PartData → Kept → List ℕ → ℕ → Type 0
NoneBefore part kept from n = (k : ℕ) → k < n → ending_at part kept (take k from) ≡ None

-- the attempt ended at the least number of bytes at which something ends it
pub record EndsFirst (part : PartData) (from : List ℕ) (t : BootAttempt) : Type 0 where
  pub rest : List ℕ
  pub taken : from ≡ t.bytes ++ rest
  pub ends : ending_at part t.kept t.bytes ≡ Some t.ending
  pub first : NoneBefore part t.kept from (length t.bytes)
  pub in_flash : t.wrapped ≡ false

-- nothing ended the attempt up to the flash's end, so it failed by the wrap; the device took all bytes, or those up to
-- a stop that ends no attempt
pub record RunsOut (part : PartData) (from : List ℕ) (t : BootAttempt) : Type 0 where
  pub none : NoneBefore part t.kept from (suc (length from))
  pub taken : t.bytes ≡ take (taken_of part t.kept from) from
  pub failed : t.ending ≡ Failed Wrap
  pub past_end : t.wrapped ≡ true

-- an attempt over a flash of these bytes; at the flash's end or past it there are no bytes to take
abbrev pub IsFlashAttempt : PartData → List ℕ → BootAttempt → Type 0
IsFlashAttempt part flash t = EndsFirst part (drop t.address flash) t ⊎ RunsOut part (drop t.address flash) t

-- a device is as the attempt left it
abbrev pub IsDeviceOf : PartData → DeviceState → BootAttempt → Type 0
IsDeviceOf part d t = DeviceStandsFor part t.kept t.wrapped d t.bytes

-- what a feed with this answer does to an attempt in which startup hasn't ended, where the device then has this cause
-- of a failure, if any
abbrev pub step_by : Fed → Option Cause → AttemptStep
step_by (fed.Iprog n) cause = Ends Iprog
step_by (fed.Stopped n) (Some cause) = Ends (Failed cause)
step_by (fed.Stopped n) None = Stops
step_by fed.All cause = GoesOn
step_by (fed.ReadFull n) cause = GoesOn

-- what the bytes taken do to an attempt that fewer of them hadn't ended: it goes on; or it ends; or its device stops at
-- a fault that ends no attempt, which then lasts to the flash's end
abbrev pub StepsTo : PartData → Kept → List ℕ → AttemptStep → Type 0
StepsTo part kept bytes GoesOn = (first_stop_of_bytes part kept bytes ≡ None) × (ending_at part kept bytes ≡ None)
StepsTo part kept bytes (Ends e) = ending_at part kept bytes ≡ Some e
StepsTo part kept bytes Stops = IsSome (first_stop_of_bytes part kept bytes) × (ending_at part kept bytes ≡ None)

-- the past of a device in an attempt whose flash hasn't come to its end
abbrev pub past_in_flash : PartData → Kept → List ℕ → Past
past_in_flash part kept bytes = record { part = part; kept = kept; wrapped = false; bytes = bytes }

-- a device that had the past `p` took the first `count` bytes of a piece, up to what ended its attempt or stopped the
-- device, all of the piece where the attempt goes on; then no word that it read out is due
pub record TookPiece (p : Past) (d : DeviceState) (piece : List ℕ) (step : AttemptStep) : Type 0 where
  pub count : ℕ
  pub within : count ≤ length piece
  pub all : step ≡ GoesOn → count ≡ length piece
  pub stands : HasPast d (later p (take count piece))
  pub due : NoWordDue d
  pub steps : StepsTo p.part p.kept (p.bytes ++ take count piece) step
  pub none : (k : ℕ) → k < count → ending_at p.part p.kept (p.bytes ++ take k piece) ≡ None

-- a device takes bytes of a page, whatever it had taken before without a stop and in an attempt that nothing had ended
abbrev pub TakesPage : DeviceState → List ℕ → AttemptStep → DeviceState → Type 0
TakesPage old page step new =
    (part : PartData) (kept : Kept) (bytes : List ℕ) → DeviceStandsFor part kept false old bytes → first_stop_of_bytes part kept bytes ≡ None → ending_at part kept bytes ≡ None
    → TookPiece (past_in_flash part kept bytes) new page step

-- a device can take `more` bytes of a page: it has no stop, is in an attempt that nothing has ended, and all its bytes
-- with these are at most `taken_bytes_limit`
pub record CanTakePage (d : DeviceState) (more : ℕ) : Type 0 where
  pub part : PartData
  pub kept : Kept
  pub bytes : List ℕ
  pub stands : DeviceStandsFor part kept false d bytes
  pub going : first_stop_of_bytes part kept bytes ≡ None
  pub not_ended : ending_at part kept bytes ≡ None
  pub fits : length bytes + more ≤ taken_bytes_limit

-- how an attempt begins: its device's part, what the device kept over the reset, and the address in the flash
pub record AttemptStart : Type 0 where
  pub part : PartData
  pub kept : Kept
  pub address : ℕ

-- an attempt of a device of the part, by what the device kept and the address
abbrev pub attempt_at : PartData → Kept → ℕ → AttemptStart
attempt_at part kept address = record { part = part; kept = kept; address = address }

-- an attempt that began as `a` says, over a flash of these bytes, ended by `ending` and left the device `d`
pub record AttemptEnds (a : AttemptStart) (flash : List ℕ) (d : DeviceState) (ending : Ending) : Type 0 where
  pub attempt : BootAttempt
  pub is : IsFlashAttempt a.part flash attempt
  pub kept_is : attempt.kept ≡ a.kept
  pub address_is : attempt.address ≡ a.address
  pub ending_is : attempt.ending ≡ ending
  pub device : IsDeviceOf a.part d attempt

-- an attempt that nothing has ended took the bytes of a flash from its address up to a place, and left the device `d`,
-- without a stop and with no word due
pub record IsUnderWay (a : AttemptStart) (flash : FlashAnswers) (d : DeviceState) (place : ℕ) : Type 0 where
  pub bytes : List ℕ
  pub stands : DeviceStandsFor a.part a.kept false d bytes
  pub going : first_stop_of_bytes a.part a.kept bytes ≡ None
  pub not_ended : ending_at a.part a.kept bytes ≡ None
  pub due : NoWordDue d
  pub count : a.address + length bytes ≡ place
  pub read : IfAgrees flash (λ all. bytes ≡ slice_range all a.address place)
  pub none : (k : ℕ) → k < length bytes → ending_at a.part a.kept (take k bytes) ≡ None

-- an attempt that began as `a` says, over a flash of these bytes, takes the byte at a place: none before it stopped the
-- device or ended the attempt
pub record TakesByte (a : AttemptStart) (flash : List ℕ) (place : ℕ) : Type 0 where
  pub from : a.address ≤ place
  pub within : place < length flash
  pub going : first_stop_of_bytes a.part a.kept (slice_range flash a.address place) ≡ None
  pub none : NoneBefore a.part a.kept (drop a.address flash) (suc (place - a.address))
