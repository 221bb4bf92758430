-- The attempts of a boot, each of which the table gives from the end of the one before (UG470, MultiBoot and fallback;
-- the limit of 16 attempts that end by IPROG is this project's choice).
--
--     the attempt ended by     then
--     phase 7                  the boot has started
--     IPROG                    an attempt at the start address in WBSTAR; from attempt 16 on, a loop
--     a failure                a fallback at address 0; where the failed attempt is a fallback, or CTL0 forbids
--                              fallbacks, the boot stops
use Rattle.std.specs.Prelude.{◌≡◌, ℕ, zero, suc, ◌+◌, ◌*◌, ◌/◌, ◌==◌, ◌||◌, nat_le, if◌then◌else◌, List, [], ◌∷◌, ◌++◌, length, map, reverse, None}
use Rattle.x7_words.specs.Word.{AreBytes, field_of}
use Rattle.x7_words.specs.declared.flash_call.FlashCall.{FlashCall}
use Rattle.x7_part.specs.Part.{PartData}
use Rattle.x7_part.specs.Limits.{large_start_unit}
use Rattle.x7_regs.specs.Control.{forbids_fallback}
use Rattle.x7_regs.specs.declared.boot_status.Kind.TheVariants.{Power, Iprog, Fallback}
use Rattle.x7_regs.specs.declared.register.Reg.{Reg}
use Rattle.x7_regs.specs.declared.register.Reg.TheVariants.{Ctl0, Wbstar}
use Rattle.x7_engine.specs.Kept.{is_fallback}
use Rattle.x7_engine.specs.Standing.{DeviceState, NoWordDue}
use Rattle.x7_engine.specs.State.{kept_after, state_of, value_of}
use Rattle.x7_engine.specs.declared.kept.Kept.{Kept}
use Rattle.x7_engine.specs.declared.snapshot.Snapshot.{Snapshot}
use Rattle.x7_boot.specs.Attempt.{AttemptStart, IsDeviceOf, IsFlashAttempt, BootAttempt, TakesByte, attempt_at}
use Rattle.x7_boot.specs.Pages.{ReadsPages, page_size}
use Rattle.x7_boot.specs.Reads.{FlashAnswers, IfAgrees}
use Rattle.x7_boot.specs.declared.attempt.Ending.{Ending}
use Rattle.x7_boot.specs.declared.attempt.Ending.TheVariants as ending
use Rattle.x7_boot.specs.declared.boots.BootEnd.{BootEnd}
use Rattle.x7_boot.specs.declared.boots.BootEnd.TheVariants as boot_end
use Rattle.x7_boot.specs.declared.boots.Tried.{Tried}
use Rattle.x7_boot.specs.declared.next.Next.{Next}
use Rattle.x7_boot.specs.declared.next.Next.TheVariants.{Again, Ends}

-- how many bits of WBSTAR, from bit 0 up, are a start address that counts steps of `large_start_unit` bytes
abbrev pub large_start_address_bits : ℕ
large_start_address_bits = 24

-- how many bits of WBSTAR, from bit 0 up, are a start address that counts bytes
abbrev pub start_address_bits : ℕ
start_address_bits = 29

-- The place in the flash, in bytes, that WBSTAR names, for a part of which one step of the start address stands for
-- `unit` bytes. It is bits 28:0 of the word, in bytes; where `unit` is `large_start_unit`, bits 23:0 of it in steps of
-- that many bytes.
abbrev pub start_address : ℕ → ℕ → ℕ
start_address unit wbstar = if unit == large_start_unit then large_start_unit * field_of 0 large_start_address_bits wbstar else field_of 0 start_address_bits wbstar

-- the state of a device at the end of an attempt
abbrev pub end_state : PartData → BootAttempt → Snapshot
end_state part t = state_of part t.kept t.wrapped t.bytes

-- the value of a register of a device at the end of an attempt
abbrev pub end_value : PartData → BootAttempt → Reg → ℕ
end_value part t = value_of part t.kept t.wrapped t.bytes

-- the most attempts of a boot that may end by IPROG; the fallback may be one attempt more
abbrev pub most_iprogs : ℕ
most_iprogs = 16

-- the table: what comes after attempt `number`, from 1, by its ending
abbrev pub next_by : PartData → ℕ → BootAttempt → Ending → Next
next_by part number t ending.Started = Ends boot_end.Started
next_by part number t ending.Iprog =
    if nat_le most_iprogs number then Ends boot_end.Loop else Again (kept_after part t.kept t.wrapped t.bytes Iprog) (start_address part.start_unit (end_value part t Wbstar))
next_by part number t (ending.Failed cause) =
    if is_fallback t.kept.kind || forbids_fallback (end_value part t Ctl0) then Ends boot_end.Stopped else Again (kept_after part t.kept t.wrapped t.bytes Fallback) 0

-- what the device of the first attempt kept over its reset: nothing but the kind, since power has just come
abbrev pub at_power : Kept
at_power = record { wbstar = 0; timer = 0; bspi = 0; kind = Power; before = None }

-- a flash leads a device through these attempts, the newest first, to what comes next
abbrev pub LeadsTo : PartData → List ℕ → List BootAttempt → Next → Type 0
LeadsTo part flash [] next = next ≡ Again at_power 0
LeadsTo part flash (t ∷ older) next = LeadsTo part flash older (Again t.kept t.address) × IsFlashAttempt part flash t × (next ≡ next_by part (length older + 1) t t.ending)

-- a flash leads a device through these attempts, the newest first, to this end
abbrev pub LeadsToEnd : PartData → List ℕ → List BootAttempt → BootEnd → Type 0
LeadsToEnd part flash attempts end = LeadsTo part flash attempts (Ends end)

-- a flash leads a device through attempts, one at least, to an end
pub record HasBoot (part : PartData) (flash : List ℕ) : Type 0 where
  pub last : BootAttempt
  pub older : List BootAttempt
  pub end : BootEnd
  pub leads : LeadsToEnd part flash (last ∷ older) end

-- what is reported of an attempt: its kind, its address in bytes and its ending
abbrev pub tried : BootAttempt → Tried
tried t = record { kind = t.kept.kind; address = t.address; ending = t.ending }

-- what a boot comes to: its attempts in order, its end, and the device as the last one left it
pub record BootedState : Type 0 where
  pub attempts : List Tried
  pub end : BootEnd
  pub device : DeviceState

-- `b` is what a boot of the part from a flash of these bytes comes to
pub record IsBoot (part : PartData) (flash : List ℕ) (b : BootedState) : Type 0 where
  pub last : BootAttempt
  pub older : List BootAttempt
  pub leads : LeadsToEnd part flash (last ∷ older) b.end
  pub attempts : b.attempts ≡ reverse (map tried (last ∷ older))
  pub device : IsDeviceOf part b.device last

-- What a boot of a part comes to: whichever flash answers so, it is the boot of the part from its bytes; its device is
-- one of the part, and owes no word that it read out.
pub record BootsTo (part : PartData) (flash : FlashAnswers) (b : BootedState) : Type 0 where
  pub booted : IfAgrees flash (λ all. AreBytes all → IsBoot part all b)
  pub keeps_part : b.device.part ≡ part
  pub no_word_due : NoWordDue b.device

-- a flash has led a device through `number` attempts, which are reported as `attempts`, to the one that begins as `a`
-- says
pub record HasLedTo (a : AttemptStart) (flash : List ℕ) (attempts : List Tried) (number : ℕ) : Type 0 where
  pub older : List BootAttempt
  pub leads : LeadsTo a.part flash older (Again a.kept a.address)
  pub tried_are : attempts ≡ reverse (map tried older)
  pub count : length older ≡ number

-- in the boot of a part from a flash of these bytes, the attempt after `number` others takes the byte at a place
pub record BootTakesByte (part : PartData) (number : ℕ) (flash : List ℕ) (place : ℕ) : Type 0 where
  pub kept : Kept
  pub address : ℕ
  pub older : List BootAttempt
  pub leads : LeadsTo part flash older (Again kept address)
  pub count : length older ≡ number
  pub takes : TakesByte (attempt_at part kept address) flash place

-- a byte of the page is taken, whichever flash answers so
pub record IsTakenFrom (Takes : List ℕ → ℕ → Type 0) (flash : FlashAnswers) (page : ℕ) : Type 0 where
  pub place : ℕ
  pub inside : place / page_size ≡ page
  pub taken : IfAgrees flash (λ all. AreBytes all → Takes all place)

-- the calls read from pages of which an attempt takes a byte, each after all that the calls before it read
abbrev pub ReadsInAttempt : AttemptStart → FlashAnswers → List FlashCall → Type 0
ReadsInAttempt a flash calls = (to : ℕ) × ReadsPages (IsTakenFrom (TakesByte a) flash) 0 calls to

-- the calls read from pages of which the first `number` attempts of a boot take a byte, one attempt after the other,
-- and in each one after all that its calls before read
abbrev pub ReadsInAttempts : PartData → FlashAnswers → ℕ → List FlashCall → Type 0
ReadsInAttempts part flash zero calls = calls ≡ []
ReadsInAttempts part flash (suc number) calls =
    (before : List FlashCall) × (now : List FlashCall) × (to : ℕ) × (calls ≡ before ++ now) × ReadsInAttempts part flash number before × ReadsPages (IsTakenFrom (BootTakesByte part number) flash) 0 now to

-- the calls read from pages of which the attempts of a boot take a byte, one attempt after the other
abbrev pub ReadsInBoot : PartData → FlashAnswers → List FlashCall → Type 0
ReadsInBoot part flash calls = (number : ℕ) × ReadsInAttempts part flash number calls
