-- The values of the registers as they are read, and the words that reads give (UG470, configuration registers).
use Rattle.std.specs.Prelude.{ℕ, ◌==◌, ◌&&◌, Bool, true, false, not, nat_le, if◌then◌else◌, List, [], ◌∷◌, ◌++◌, Option, None, Some, replicate, is_some}
use Rattle.x7_packets.specs.History.{Access, Write, Read, Bad, History, command_held}
use Rattle.x7_crc.specs.RunningCheck.{running_check}
use Rattle.x7_part.specs.Part.{PartData}
use Rattle.x7_regs.specs.BootStatus.{boot_status_of}
use Rattle.x7_regs.specs.Register.{number_of, reg_with}
use Rattle.x7_regs.specs.Status.{status_of}
use Rattle.x7_regs.specs.declared.boot_status.Attempt.{Attempt}
use Rattle.x7_regs.specs.declared.boot_status.Cause.{Cause}
use Rattle.x7_regs.specs.declared.boot_status.Cause.TheVariants as cause
use Rattle.x7_regs.specs.declared.register.Reg.{Reg}
use Rattle.x7_regs.specs.declared.register.Reg.TheVariants.{Crc, Far, Fdri, Fdro, Cmd, Ctl0, Mask, Stat, Lout, Cor0, Mfwr, Cbc, Idcode, Axss, Cor1, Wbstar, Timer, Bootsts, Ctl1, Bspi}
use Rattle.x7_regs.specs.declared.status.StatParts.{StatParts}
use Rattle.x7_startup.specs.Phases.{last_phase}
use Rattle.x7_startup.specs.Startup.{StartupProgress, cor0_of, ticks_of}
use Rattle.x7_startup.specs.Lines.{done_line, gts_line, gwe_line}
use Rattle.x7_startup.specs.declared.lines.Lines.{Lines}
use Rattle.x7_flow.specs.FrameAccess.{reads_frame_data}
use Rattle.x7_flow.specs.HistoryFlow.{far_read}
use Rattle.x7_flow.specs.Standing.{far_owing, frames_read}
use Rattle.x7_engine.specs.Course.{Course, course_at}
use Rattle.x7_engine.specs.declared.fault.Fault.{Fault}
use Rattle.x7_engine.specs.declared.fault.Fault.TheVariants as fault
use Rattle.x7_engine.specs.declared.kept.Kept.{Kept}
use Rattle.x7_engine.specs.Kept.{is_fallback}
use Rattle.x7_flow.specs.Controls.{ctl0_held, mask_held, masked_register}
use Rattle.x7_engine.specs.Registers.{has_ghigh, word_held, wrote_iprog}
use Rattle.x7_engine.specs.Startup.{phase_by, startup_progress}
use Rattle.x7_engine.specs.Stop.{why_at_access}

-- the fault is Crc
abbrev pub is_crc_fault : Option Fault → Bool
is_crc_fault (Some (fault.Crc want got)) = true
is_crc_fault _ = false

-- the fault is Id
abbrev pub is_id_fault : Option Fault → Bool
is_id_fault (Some (fault.Id want got)) = true
is_id_fault _ = false

-- the lines DONE, GTS_CFG_B and GWE, by how far startup is
abbrev pub lines_by : PartData → StartupProgress → Lines
lines_by part p = record {
  done = done_line (cor0_of p) (phase_by part p);
  gts = gts_line (cor0_of p) (phase_by part p);
  gwe = gwe_line (cor0_of p) (phase_by part p);
}

-- what STAT shows, by the fault, how far startup is, and GHIGH_B
abbrev pub stat_parts : PartData → Option Fault → StartupProgress → Bool → StatParts
stat_parts part fault p ghigh = record {
  crc_error = is_crc_fault fault;
  lock = nat_le part.lock (ticks_of p);
  matched = nat_le part.matched (ticks_of p);
  eos = phase_by part p == last_phase;
  gts = (lines_by part p).gts;
  gwe = (lines_by part p).gwe;
  ghigh = ghigh;
  mode = part.mode;
  init_b = not (is_crc_fault fault);
  done = (lines_by part p).done;
  id_error = is_id_fault fault;
  phase = phase_by part p;
  bus_width = part.bus_width;
}

-- the check as CRC shows it: at the fault Crc the one that was wanted
abbrev pub check_shown : Option Fault → History → ℕ
check_shown (Some (fault.Crc want got)) h = want
check_shown _ h = running_check h

-- what the flash's end makes an attempt fail by: `Wrap` where the flash has ended (`wrapped`), and else nothing
abbrev pub wrap_cause : Bool → Option Cause
wrap_cause wrapped = if wrapped then Some cause.Wrap else None

-- what an attempt failed by: a fault Id, Crc or Watchdog, or else the end of the flash; none where neither came
abbrev pub failure_of : Option Fault → Bool → Option Cause
failure_of (Some (fault.Id want got)) wrapped = Some cause.Id
failure_of (Some (fault.Crc want got)) wrapped = Some cause.Crc
failure_of (Some fault.Watchdog) wrapped = Some cause.Watchdog
failure_of _ wrapped = wrap_cause wrapped

-- the present boot attempt; a fallback ignores IPROG, and says so
abbrev pub attempt_of : Kept → Bool → Option Fault → History → Attempt
attempt_of kept wrapped fault h = record { kind = kept.kind; cause = failure_of fault wrapped; ignored = is_fallback kept.kind && wrote_iprog h }

-- the value of a register in the course of a device, and 0 for one that is only written and for frame data
abbrev pub register_value : Course → Bool → Option Fault → Reg → ℕ
register_value c wrapped fault Crc = check_shown fault c.history
register_value c wrapped fault Far = far_read c.part c.history
register_value c wrapped fault Fdri = 0
register_value c wrapped fault Fdro = 0
register_value c wrapped fault Cmd = command_held c.history
register_value c wrapped fault Ctl0 = ctl0_held c.history
register_value c wrapped fault Mask = mask_held c.history
register_value c wrapped fault Stat = status_of (stat_parts c.part fault (startup_progress c.history c.taken) (has_ghigh c.history))
register_value c wrapped fault Lout = 0
register_value c wrapped fault Cor0 = word_held c.kept (number_of Cor0) c.history
register_value c wrapped fault Mfwr = 0
register_value c wrapped fault Cbc = 0
register_value c wrapped fault Idcode = c.part.idcode
register_value c wrapped fault Axss = word_held c.kept (number_of Axss) c.history
register_value c wrapped fault Cor1 = word_held c.kept (number_of Cor1) c.history
register_value c wrapped fault Wbstar = word_held c.kept (number_of Wbstar) c.history
register_value c wrapped fault Timer = word_held c.kept (number_of Timer) c.history
register_value c wrapped fault Bootsts = boot_status_of (attempt_of c.kept wrapped fault c.history) c.kept.before
register_value c wrapped fault Ctl1 = masked_register (number_of Ctl1) c.history
register_value c wrapped fault Bspi = word_held c.kept (number_of Bspi) c.history

-- the value of a register by its number, where there is no fault and the flash hasn't ended, and 0 for a number without
-- a register
abbrev pub value_or_zero : Course → Option Reg → ℕ
value_or_zero c None = 0
value_or_zero c (Some reg) = register_value c false None reg

-- the value of the register of this number, as a read gives it: there is no fault, and the flash hasn't ended
abbrev pub read_value : Course → ℕ → ℕ
read_value c register = value_or_zero c (reg_with register)

-- the value of a register while `due` words of frame data of the last read are still to be given, which FAR alone shows
abbrev pub value_owing : Course → Bool → Option Fault → ℕ → Reg → ℕ
value_owing c wrapped fault due Far = far_owing c.part c.history due
value_owing c wrapped fault due reg = register_value c wrapped fault reg

-- the words of a read that isn't refused: words of frame data, or `count` words, each the register's value where the
-- read's header ends
abbrev pub words_of_read : Course → ℕ → ℕ → List ℕ
words_of_read c register count =
    if reads_frame_data c.history (Read register count) then frames_read c.part c.history count else replicate count (read_value c register)

-- the words that an access after this history, which ends at byte n, from 1, reads out: none where it is no read or is
-- refused
abbrev pub words_read_by : PartData → Kept → History → Access → ℕ → List ℕ
words_read_by part kept h (Write register w) n = []
words_read_by part kept h (Read register count) n = if is_some (why_at_access part kept h (Read register count)) then [] else words_of_read (course_at part kept h n) register count
words_read_by part kept h (Bad w) n = []

-- all words that a history reads out, in order
abbrev pub read_out : PartData → Kept → History → List ℕ
read_out part kept [] = []
read_out part kept (e ∷ h) = read_out part kept h ++ words_read_by part kept h e.access e.place
