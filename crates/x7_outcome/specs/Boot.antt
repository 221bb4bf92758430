-- The text of a boot (this project's choice): its lines, and the report of the device, as the last
-- attempt left it, without words read out.
use Rattle.std.specs.Prelude.{ℕ, List, [], ◌++◌}
use Rattle.x7_part.specs.Part.{PartData}
use Rattle.x7_engine.specs.Standing.{NoWordDue}
use Rattle.x7_engine.specs.State.{memory_of_bytes, state_of}
use Rattle.x7_report.specs.Reports.{report_text}
use Rattle.x7_boot.specs.Attempt.{IsDeviceOf, BootAttempt}
use Rattle.x7_boot.specs.Boot.{BootedState}
use Rattle.x7_boot.specs.Text.{boot_lines}
use Rattle.x7_boot.specs.declared.boots.BootEnd.{BootEnd}
use Rattle.x7_boot.specs.declared.boots.Tried.{Tried}

-- `Holds` is true of each part and attempt that left the boot's device as it is, if no word is due
abbrev pub ForLastAttemptOf : BootedState → (PartData → BootAttempt → Type 0) → Type 0
ForLastAttemptOf boot Holds = (part : PartData) (last : BootAttempt) → IsDeviceOf part boot.device last → NoWordDue boot.device → Holds part last

-- the whole text of a boot, by its attempts, how it ended, and its last attempt
unfoldable pub boot_text : PartData → List Tried → BootEnd → BootAttempt → List ℕ
boot_text part attempts end last = boot_lines part.name attempts end ++ report_text part (state_of part last.kept last.wrapped last.bytes) [] (memory_of_bytes part last.kept last.bytes)
