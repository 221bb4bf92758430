-- The lines of a boot (this project's choice): `boot NAME`; for each attempt `attempt N KIND ADDRESS
-- ENDING`, N from 1; `end` and how the boot ended.
use Rattle.std.specs.Prelude.{ℕ, ◌+◌, List, [], ◌∷◌, ◌++◌, codes, decimal}
use Rattle.x7_text.specs.Digits.{hex_word}
use Rattle.x7_regs.specs.declared.boot_status.Cause.{Cause}
use Rattle.x7_regs.specs.declared.boot_status.Cause.TheVariants as cause
use Rattle.x7_regs.specs.declared.boot_status.Kind.{Kind}
use Rattle.x7_regs.specs.declared.boot_status.Kind.TheVariants as kind
use Rattle.x7_boot.specs.declared.attempt.Ending.{Ending}
use Rattle.x7_boot.specs.declared.attempt.Ending.TheVariants as ending
use Rattle.x7_boot.specs.declared.boots.BootEnd.{BootEnd}
use Rattle.x7_boot.specs.declared.boots.BootEnd.TheVariants as boot_end
use Rattle.x7_boot.specs.declared.boots.Tried.{Tried}

-- what began an attempt, in a word
abbrev pub kind_text : Kind → List ℕ
kind_text kind.Bench = codes "bench"
kind_text kind.Power = codes "power"
kind_text kind.Iprog = codes "iprog"
kind_text kind.Fallback = codes "fallback"

-- what an attempt failed by, in a word
abbrev pub cause_text : Cause → List ℕ
cause_text cause.Watchdog = codes "watchdog"
cause_text cause.Id = codes "id"
cause_text cause.Crc = codes "crc"
cause_text cause.Wrap = codes "wrap"

-- how an attempt ended, in a word
abbrev pub ending_text : Ending → List ℕ
ending_text ending.Started = codes "started"
ending_text ending.Iprog = codes "iprog"
ending_text (ending.Failed cause) = cause_text cause

-- the line of attempt `number`, from 1
unfoldable pub attempt_text : ℕ → Tried → List ℕ
attempt_text number tried =
    codes "attempt " ++ decimal number
    ++ codes " " ++ kind_text tried.kind
    ++ codes " " ++ hex_word tried.address
    ++ codes " " ++ ending_text tried.ending
    ++ codes "\n"

-- the lines of attempts after `before` others
abbrev pub attempts_text : ℕ → List Tried → List ℕ
attempts_text before [] = []
attempts_text before (tried ∷ more) = attempt_text (before + 1) tried ++ attempts_text (before + 1) more

-- how a boot ended, as the last line of its text
abbrev pub boot_end_text : BootEnd → List ℕ
boot_end_text boot_end.Started = codes "end started\n"
boot_end_text boot_end.Stopped = codes "end stopped\n"
boot_end_text boot_end.Loop = codes "end loop\n"

-- all lines of a boot
unfoldable pub boot_lines : List ℕ → List Tried → BootEnd → List ℕ
boot_lines name attempts end = codes "boot " ++ name ++ codes "\n" ++ attempts_text 0 attempts ++ boot_end_text end
