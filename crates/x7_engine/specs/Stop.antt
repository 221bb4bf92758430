-- What stops a device (UG470, configuration registers; the order in which the causes are looked at is this project's
-- choice).
use Rattle.std.specs.Prelude.{ℕ, ◌-◌, ◌==◌, ◌&&◌, ◌||◌, Bool, not, if◌then◌else◌, [], ◌∷◌, Option, None, Some}
use Rattle.std.specs.Option.{option_or}
use Rattle.x7_packets.specs.History.{Access, Write, Read, Bad, History, executes}
use Rattle.x7_crc.specs.RunningCheck.{running_check}
use Rattle.x7_part.specs.Part.{PartData}
use Rattle.x7_regs.specs.declared.command.Command.TheVariants as command
use Rattle.x7_regs.specs.declared.register.Reg.TheVariants as reg
use Rattle.x7_regs.specs.Command.{code_of, command_code_of}
use Rattle.x7_regs.specs.Control.{has_dec}
use Rattle.x7_regs.specs.Register.{number_of}
use Rattle.x7_pipeline.specs.declared.fault.RunFault.{RunFault}
use Rattle.x7_pipeline.specs.declared.fault.RunFault.TheVariants as run
use Rattle.x7_flow.specs.HistoryFlow.{frame_fault}
use Rattle.x7_engine.specs.declared.fault.Fault.{Fault}
use Rattle.x7_engine.specs.declared.fault.Fault.TheVariants as fault
use Rattle.x7_engine.specs.declared.kept.Kept.{Kept}
use Rattle.x7_engine.specs.declared.stop.StopCause.{StopCause}
use Rattle.x7_engine.specs.declared.stop.StopCause.TheVariants as stop
use Rattle.x7_engine.specs.Kept.{is_fallback}
use Rattle.x7_flow.specs.Controls.{ctl0_held, has_idcode, mask_held, masked_word, same_idcode}
use Rattle.x7_engine.specs.Watching.{first_firing}

-- a written word asks for decryption, which is left out: any word written to CBC, or a word written to CTL0 that leaves
-- DEC 1 there
abbrev pub asks_decryption : History → ℕ → ℕ → Bool
asks_decryption h register w =
    register == number_of reg.Cbc || (register == number_of reg.Ctl0 && has_dec (masked_word (number_of reg.Ctl0) (mask_held h) (Write register w) (ctl0_held h)))

-- a written word asks that the part's IDCODE was written before it: a word for FDRI or MFWR, or one that executes START
-- (that MFWR and START ask for it is this project's choice)
abbrev pub needs_idcode : History → ℕ → ℕ → Bool
needs_idcode h register w = register == number_of reg.Fdri || (register == number_of reg.Mfwr || executes (code_of command.Start) h (Write register w))

-- why a word written after this history stops a device, where it does
abbrev pub why_by_write : PartData → Kept → History → ℕ → ℕ → Option StopCause
why_by_write part kept h register w =
    if register == number_of reg.Crc && not (w == running_check h) then Some (stop.Fault (fault.Crc (running_check h) w)) else
    if asks_decryption h register w then Some (stop.Fault fault.Encrypted) else
    if register == number_of reg.Idcode && not (same_idcode part.idcode w) then Some (stop.Fault (fault.Id part.idcode w)) else
    if needs_idcode h register w && not (has_idcode part.idcode h) then Some (stop.Fault (fault.Id part.idcode 0)) else
    if register == number_of reg.Cmd && (command_code_of w == code_of command.Iprog && not (is_fallback kept.kind)) then Some stop.Iprog else None

-- why an access after this history stops a device, where it does, the faults of frames left out
abbrev pub why_besides_frames : PartData → Kept → History → Access → Option StopCause
why_besides_frames part kept h (Write register w) = why_by_write part kept h register w
why_besides_frames part kept h (Read register count) = None
why_besides_frames part kept h (Bad w) = Some (stop.Fault (fault.Packet w))

-- the stop by a refused word, copy or read of frame data
abbrev pub stop_of_refused : RunFault → StopCause
stop_of_refused (run.Address far) = stop.Fault (fault.Address far)
stop_of_refused run.Overrun = stop.Fault fault.Overrun
stop_of_refused run.Multi = stop.Fault fault.Multi

-- the stop by what the frames refuse, where they refuse something
abbrev pub why_by_frames : Option RunFault → Option StopCause
why_by_frames None = None
why_by_frames (Some fault) = Some (stop_of_refused fault)

-- why an access after this history stops a device, where it does
abbrev pub why_at_access : PartData → Kept → History → Access → Option StopCause
why_at_access part kept h access = option_or (why_besides_frames part kept h access) (why_by_frames (frame_fault part h access))

-- the fault that stopped a device, where one did
abbrev pub fault_of_stop : Option StopCause → Option Fault
fault_of_stop None = None
fault_of_stop (Some (stop.Fault f)) = Some f
fault_of_stop (Some stop.Iprog) = None

-- the number of bytes taken at a stop, and why it came
pub record Stopped : Type 0 where
  pub place : ℕ
  pub why : StopCause

-- a stop at this place, where one came
abbrev pub stop_at_place : ℕ → Option StopCause → Option Stopped
stop_at_place place None = None
stop_at_place place (Some why) = Some (record { place = place; why = why })

-- the stop at the place where the watchdog fires, where it does
abbrev pub stop_at_firing : Option ℕ → Option Stopped
stop_at_firing None = None
stop_at_firing (Some place) = Some (record { place = place; why = stop.Fault fault.Watchdog })

-- The first stop of a history with n bytes taken, where there is one. At each byte the watchdog comes before the access
-- that ends there.
abbrev pub first_stop_of_history : PartData → Kept → History → ℕ → Option Stopped
first_stop_of_history part kept [] n = stop_at_firing (first_firing part kept [] 0 n)
first_stop_of_history part kept (e ∷ h) n =
    option_or (first_stop_of_history part kept h e.place)
    (option_or (stop_at_place e.place (why_at_access part kept h e.access)) (stop_at_firing (first_firing part kept (e ∷ h) e.place (n - e.place))))
