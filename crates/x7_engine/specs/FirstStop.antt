-- What stops a device in plain words: there is cause for a stop at one byte, and none at an earlier one (this project's
-- choice).
use Rattle.std.specs.Prelude.{◌≡◌, ℕ, ◌<◌, ◌≤◌, ◌-◌, ◌==◌, if◌then◌else◌, take, length, List, [], ◌∷◌, Option, None, Some}
use Rattle.x7_packets.specs.History.{History, history_of}
use Rattle.x7_part.specs.Part.{PartData}
use Rattle.x7_engine.specs.declared.fault.Fault.TheVariants as fault
use Rattle.x7_engine.specs.declared.kept.Kept.{Kept}
use Rattle.x7_engine.specs.declared.stop.StopCause.{StopCause}
use Rattle.x7_engine.specs.declared.stop.StopCause.TheVariants as stop
use Rattle.x7_engine.specs.Stop.{Stopped, why_at_access}
use Rattle.x7_engine.specs.Watching.{watchdog_fires}

-- why the newest access stops a device, where it ends at byte n
abbrev pub why_at_newest : PartData → Kept → History → ℕ → Option StopCause
why_at_newest part kept [] n = None
why_at_newest part kept (e ∷ h) n = if e.place == n then why_at_access part kept h e.access else None

-- Why byte n stops a device, where it does, the first being byte 1: the watchdog fires there by the accesses before it,
-- or else the access that ends there stops it.
abbrev pub why_at_byte : PartData → Kept → List ℕ → ℕ → Option StopCause
why_at_byte part kept bytes n =
    if watchdog_fires part kept (history_of (take (n - 1) bytes)) n then Some (stop.Fault fault.Watchdog) else why_at_newest part kept (history_of (take n bytes)) n

-- the least byte that stops a device, and why
pub record IsFirstStop (part : PartData) (kept : Kept) (bytes : List ℕ) (s : Stopped) : Type 0 where
  pub at_least_one : 0 < s.place
  pub within : s.place ≤ length bytes
  pub holds : why_at_byte part kept bytes s.place ≡ Some s.why
  pub none_earlier : (n : ℕ) → 0 < n → n < s.place → why_at_byte part kept bytes n ≡ None
