-- The configuration watchdog of a history: the calls that its accesses and the bytes taken make (UG470, watchdog).
use Rattle.std.specs.Prelude.{ℕ, zero, suc, ◌+◌, ◌-◌, ◌*◌, ◌==◌, ◌&&◌, Bool, not, if◌then◌else◌, List, [], ◌∷◌, ◌++◌, Option, None, Some}
use Rattle.x7_packets.specs.History.{Access, Write, Read, Bad, History, command_held, executed_by, is_command}
use Rattle.x7_part.specs.Part.{PartData}
use Rattle.x7_regs.specs.declared.command.Command.TheVariants.{Ltimer}
use Rattle.x7_regs.specs.declared.register.Reg.TheVariants.{Timer}
use Rattle.x7_regs.specs.Command.{code_of}
use Rattle.x7_regs.specs.Register.{number_of}
use Rattle.x7_startup.specs.Watchdog.{WatchCall, Load, Reload, Watched, cfg_mon_of, watched_count, is_on, timer_step, timer_value_of}
use Rattle.x7_engine.specs.declared.kept.Kept.{Kept}
use Rattle.x7_engine.specs.Kept.{is_fallback}
use Rattle.x7_engine.specs.Registers.{word_held}
use Rattle.x7_engine.specs.Startup.{startup_ended}

-- what an access asks of the watchdog by its register: a word written to TIMER loads it, and no other access does
abbrev pub load_call : Access → List WatchCall
load_call (Write register w) = if register == number_of Timer then Load w ∷ [] else []
load_call (Read register count) = []
load_call (Bad w) = []

-- what an access asks of the watchdog, by the command that it executes
abbrev pub watch_call_by : Option ℕ → Access → List WatchCall
watch_call_by command access = if is_command (code_of Ltimer) command then Reload ∷ [] else load_call access

-- what an access after this history asks of the watchdog
abbrev pub watch_call : History → Access → List WatchCall
watch_call h access = watch_call_by (executed_by (command_held h) access) access

-- the watchdog's calls of `count` bytes after a history, those right after the first `from` bytes
abbrev pub watched_bytes : PartData → History → ℕ → ℕ → List WatchCall
watched_bytes part h from zero = []
watched_bytes part h from (suc count) = watched_bytes part h from count ++ Watched (startup_ended part h (from + count + 1)) ∷ []

-- the watchdog's calls of a history with n bytes taken: each byte's before that of the access that ends there
abbrev pub watch_calls : PartData → History → ℕ → List WatchCall
watch_calls part [] n = watched_bytes part [] 0 n
watch_calls part (e ∷ h) n = watch_calls part h e.place ++ watch_call h e.access ++ watched_bytes part (e ∷ h) e.place (n - e.place)

-- the word of TIMER turns the watchdog on: CFG_MON is 1, and the value isn't 0
abbrev pub turns_on : ℕ → Bool
turns_on timer = cfg_mon_of timer == 1 && not (timer_value_of timer == 0)

-- the word of TIMER after a history: the last one written; where none was, the one kept over the reset
abbrev pub timer_held : Kept → History → ℕ
timer_held kept h = word_held kept (number_of Timer) h

-- the watchdog fires at byte n, the first being byte 1, after the history `h`: it is on there, and with byte n its
-- count is `timer_step` times TIMER's value
abbrev pub watchdog_fires : PartData → Kept → History → ℕ → Bool
watchdog_fires part kept h n =
    is_on (is_fallback kept.kind) (timer_held kept h) (startup_ended part h n)
    && watched_count (is_fallback kept.kind) kept.timer (watch_calls part h n) == timer_value_of (timer_held kept h) * timer_step

-- the place where the watchdog fired already, or place n where it fires there, and none where it does neither
abbrev pub fired_or : Option ℕ → Bool → ℕ → Option ℕ
fired_or (Some place) fires_now n = Some place
fired_or None fires_now n = if fires_now then Some n else None

-- of the `count` bytes after the first `from`, the first at which the watchdog fires, where it fires at one: its number
-- among all bytes, from 1
abbrev pub first_firing : PartData → Kept → History → ℕ → ℕ → Option ℕ
first_firing part kept h from zero = None
first_firing part kept h from (suc count) = fired_or (first_firing part kept h from count) (watchdog_fires part kept h (from + count + 1)) (from + count + 1)
