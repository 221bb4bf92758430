-- The startup sequence of a history: the calls that its accesses and the bytes taken make (UG470, startup).
use Rattle.std.specs.Prelude.{ℕ, zero, suc, ◌-◌, ◌/◌, ◌==◌, nat_le, Bool, if◌then◌else◌, List, [], ◌∷◌, ◌++◌, replicate, Option}
use Rattle.x7_packets.specs.History.{Access, History, command_held, executed_by, is_command}
use Rattle.x7_part.specs.Part.{PartData}
use Rattle.x7_regs.specs.declared.command.Command.TheVariants.{Desync, Start}
use Rattle.x7_regs.specs.Command.{code_of}
use Rattle.x7_startup.specs.Phases.{first_tick_of, last_phase, tick_size, wait_of}
use Rattle.x7_startup.specs.Startup.{Call, StartupProgress, NotBegun, Begun, progress_of}
use Rattle.x7_startup.specs.Startup as call
use Rattle.x7_engine.specs.Registers.{cor0_held, takes_shutdown}

-- what an access asks of startup, by the command that it executes, whether it takes a shutdown, and COR0
abbrev pub startup_call_by : Option ℕ → Bool → ℕ → List Call
startup_call_by command takes_shutdown cor0 =
    if is_command (code_of Start) command then call.Arm ∷ [] else
    if takes_shutdown then call.DropBack ∷ [] else
    if is_command (code_of Desync) command then call.Desync cor0 ∷ [] else []

-- what an access after this history asks of startup
abbrev pub startup_call : History → Access → List Call
startup_call h access = startup_call_by (executed_by (command_held h) access) (takes_shutdown h access) (cor0_held h)

-- the calls of startup of a history with n bytes taken: each byte's before that of the access that ends there
abbrev pub startup_calls : History → ℕ → List Call
startup_calls [] n = replicate n call.Byte
startup_calls (e ∷ h) n = startup_calls h e.place ++ startup_call h e.access ++ replicate (n - e.place) call.Byte

-- how far startup is after a history with n bytes taken
abbrev pub startup_progress : History → ℕ → StartupProgress
startup_progress h n = progress_of (startup_calls h n)

-- the greatest phase, up to the last argument, that has begun after `ticks` ticks, by the ticks for which each phase
-- waits
abbrev pub greatest_begun : (ℕ → ℕ) → ℕ → ℕ → ℕ
greatest_begun wait ticks zero = 0
greatest_begun wait ticks (suc p) = if nat_le (first_tick_of wait (suc p)) ticks then suc p else greatest_begun wait ticks p

-- the phase after `ticks` ticks, by the ticks for which each phase waits
unfoldable pub phase_at : (ℕ → ℕ) → ℕ → ℕ
phase_at wait ticks = greatest_begun wait ticks last_phase

-- the phase, by how far startup is
abbrev pub phase_by : PartData → StartupProgress → ℕ
phase_by part NotBegun = 0
phase_by part (Begun cor0 bytes) = phase_at (wait_of part.lock part.matched cor0) (bytes / tick_size)

-- the phase of startup, 0 to 7, after a history with n bytes taken
abbrev pub phase_of : PartData → History → ℕ → ℕ
phase_of part h n = phase_by part (startup_progress h n)

-- startup has ended after a history with n bytes taken: its phase is the last one
abbrev pub startup_ended : PartData → History → ℕ → Bool
startup_ended part h n = phase_of part h n == last_phase
