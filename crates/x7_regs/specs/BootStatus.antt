-- The boot history status register BOOTSTS (UG470, boot history status register), each bit by its number: the low byte
-- speaks of the present boot attempt, the next of the attempt before.
use Rattle.std.specs.Prelude.{ℕ, ◌+◌, ◌*◌, ◌^◌, Bool, Option, None, Some}
use Rattle.x7_regs.specs.declared.boot_status.Attempt.{Attempt}
use Rattle.x7_regs.specs.declared.boot_status.Cause.{Cause}
use Rattle.x7_regs.specs.declared.boot_status.Cause.TheVariants.{Watchdog, Id, Crc, Wrap}
use Rattle.x7_regs.specs.declared.boot_status.Kind.{Kind}
use Rattle.x7_regs.specs.declared.boot_status.Kind.TheVariants.{Bench, Power, Iprog, Fallback}
use Rattle.x7_regs.specs.Status.{flag_of}

-- the bit of VALID in an attempt's byte: 1 for each attempt but one on the bench, where no flash boots the device
abbrev pub valid : ℕ
valid = 0

-- the bit of FALLBACK in an attempt's byte: 1 in a fallback
abbrev pub fallback : ℕ
fallback = 1

-- the bit of IPROG in an attempt's byte: 1 where an IPROG command began the attempt, or was ignored in it
abbrev pub iprog : ℕ
iprog = 2

-- the bit of WTO_ERROR in an attempt's byte: 1 where the watchdog fired
abbrev pub wto_error : ℕ
wto_error = 3

-- the bit of ID_ERROR in an attempt's byte: 1 after a written idcode that was not the part's, and after frame data, a
-- copy or START before one that was
abbrev pub id_error : ℕ
id_error = 4

-- the bit of CRC_ERROR in an attempt's byte: 1 after a check word that differed from the running check
abbrev pub crc_error : ℕ
crc_error = 5

-- the bit of WRAP_ERROR in an attempt's byte: 1 where the flash ended before startup did
abbrev pub wrap_error : ℕ
wrap_error = 6

-- the lowest bit of the byte of the attempt before
abbrev pub attempt_before_bit : ℕ
attempt_before_bit = 8

-- the bits VALID, FALLBACK and IPROG of an attempt of this kind, by whether an IPROG was ignored in it; 0 on the bench
abbrev pub kind_bits_of : Kind → Bool → ℕ
kind_bits_of Bench ignored = 0
kind_bits_of Power ignored = 2 ^ valid + flag_of ignored * 2 ^ iprog
kind_bits_of Iprog ignored = 2 ^ valid + 2 ^ iprog
kind_bits_of Fallback ignored = 2 ^ valid + 2 ^ fallback + flag_of ignored * 2 ^ iprog

-- the bit of what an attempt failed by, and 0 where it did not fail
abbrev pub cause_bits_of : Option Cause → ℕ
cause_bits_of None = 0
cause_bits_of (Some Watchdog) = 2 ^ wto_error
cause_bits_of (Some Id) = 2 ^ id_error
cause_bits_of (Some Crc) = 2 ^ crc_error
cause_bits_of (Some Wrap) = 2 ^ wrap_error

-- the bits of an attempt by its kind, the cause that it failed by and whether an IPROG was ignored in it; a device on
-- the bench has none (this project's choice)
abbrev pub attempt_bits_by : Kind → Option Cause → Bool → ℕ
attempt_bits_by Bench cause ignored = 0
attempt_bits_by Power cause ignored = kind_bits_of Power ignored + cause_bits_of cause
attempt_bits_by Iprog cause ignored = kind_bits_of Iprog ignored + cause_bits_of cause
attempt_bits_by Fallback cause ignored = kind_bits_of Fallback ignored + cause_bits_of cause

-- the bits of an attempt in its byte, from bit 0 up
abbrev pub attempt_bits_of : Attempt → ℕ
attempt_bits_of attempt = attempt_bits_by attempt.kind attempt.cause attempt.ignored

-- the bits of the attempt before in its byte, from bit 0 up, and 0 where there was none
abbrev pub before_bits_of : Option Attempt → ℕ
before_bits_of None = 0
before_bits_of (Some attempt) = attempt_bits_of attempt

-- the word of BOOTSTS by the kind of the present attempt, its bits and those of the attempt before; 0 on the bench
abbrev pub boot_word_by : Kind → ℕ → ℕ → ℕ
boot_word_by Bench latest before = 0
boot_word_by Power latest before = latest + before * 2 ^ attempt_before_bit
boot_word_by Iprog latest before = latest + before * 2 ^ attempt_before_bit
boot_word_by Fallback latest before = latest + before * 2 ^ attempt_before_bit

-- the word of BOOTSTS in the present attempt, after the one before, if there was one; 0 on the bench
unfoldable pub boot_status_of : Attempt → Option Attempt → ℕ
boot_status_of latest before = boot_word_by latest.kind (attempt_bits_of latest) (before_bits_of before)
