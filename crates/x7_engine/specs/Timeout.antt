-- When the watchdog fires, byte by byte (UG470, watchdog; the count of bytes is this project's choice).
use Rattle.std.specs.Prelude.{ℕ, zero, suc, ◌+◌, ◌-◌, ◌*◌, ◌==◌, ◌&&◌, ◌||◌, Bool, if◌then◌else◌, take, List, [], ◌∷◌}
use Rattle.x7_packets.specs.History.{Access, History, executes, history_of, writes}
use Rattle.x7_part.specs.Part.{PartData}
use Rattle.x7_regs.specs.declared.command.Command.TheVariants.{Ltimer}
use Rattle.x7_regs.specs.declared.register.Reg.TheVariants.{Timer}
use Rattle.x7_regs.specs.Command.{code_of}
use Rattle.x7_regs.specs.Register.{number_of}
use Rattle.x7_startup.specs.Watchdog.{is_on, timer_step, timer_value_of}
use Rattle.x7_engine.specs.declared.kept.Kept.{Kept}
use Rattle.x7_engine.specs.Kept.{is_fallback}
use Rattle.x7_engine.specs.Startup.{startup_ended}
use Rattle.x7_engine.specs.Watching.{timer_held}

-- the history before byte i, the first being byte 1: a word that ends at byte i is not of it
abbrev pub before_byte : List ℕ → ℕ → History
before_byte bytes i = history_of (take (i - 1) bytes)

-- the watchdog is on at byte i: TIMER turns it on with a value other than 0, the attempt is no fallback, and with this
-- byte the phase isn't 7
abbrev pub is_on_at : PartData → Kept → List ℕ → ℕ → Bool
is_on_at part kept bytes i = is_on (is_fallback kept.kind) (timer_held kept (before_byte bytes i)) (startup_ended part (before_byte bytes i) i)

-- the access makes the count 0: a write to TIMER, or LTIMER
abbrev pub loads : History → Access → Bool
loads h access = writes (number_of Timer) access || executes (code_of Ltimer) h access

-- the place of the last access that makes the count 0, and 0 where there is none
abbrev pub last_load : History → ℕ
last_load [] = 0
last_load (e ∷ h) = if loads h e.access then e.place else last_load h

-- how many of the `count` bytes after the first `from` have the watchdog on
abbrev pub bytes_on_after : PartData → Kept → List ℕ → ℕ → ℕ → ℕ
bytes_on_after part kept bytes from zero = 0
bytes_on_after part kept bytes from (suc count) = bytes_on_after part kept bytes from count + (if is_on_at part kept bytes (from + count + 1) then 1 else 0)

-- how many of the bytes after the last load, up to byte n, have the watchdog on
abbrev pub bytes_on_since_load : PartData → Kept → List ℕ → ℕ → ℕ
bytes_on_since_load part kept bytes n = bytes_on_after part kept bytes (last_load (before_byte bytes n)) (n - last_load (before_byte bytes n))

-- the watchdog's time is out at byte n, and it fires: it is on there, and with n as many bytes after the last load had
-- it on as `timer_step` times TIMER's value
abbrev pub times_out_at : PartData → Kept → List ℕ → ℕ → Bool
times_out_at part kept bytes n = is_on_at part kept bytes n && bytes_on_since_load part kept bytes n == timer_value_of (timer_held kept (before_byte bytes n)) * timer_step
