-- A device at rest: a stream of a plan may begin on it, whatever bytes it took before; and a last gap that goes on
-- (this project's choice).
use Rattle.std.specs.Prelude.{◌≡◌, ℕ, ◌&&◌, ◌++◌, false, not, ◌⊎◌, List, length, None}
use Rattle.x7_packets.specs.ByHand.{reading_of}
use Rattle.x7_packets.specs.History.{history_of}
use Rattle.x7_packets.specs.Reading.{Searching, is_synced}
use Rattle.x7_packets.specs.SyncWord.{HasNoSync}
use Rattle.x7_part.specs.Part.{PartData}
use Rattle.x7_startup.specs.Phases.{last_phase}
use Rattle.x7_startup.specs.Startup.{NotBegun}
use Rattle.x7_engine.specs.declared.kept.Kept.{Kept}
use Rattle.x7_engine.specs.Kept.{is_fallback}
use Rattle.x7_flow.specs.Controls.{ctl0_held}
use Rattle.x7_engine.specs.Registers.{is_pending}
use Rattle.x7_engine.specs.Startup.{phase_of, startup_progress}
use Rattle.x7_engine.specs.State.{first_stop_of_bytes}
use Rattle.x7_regs.specs.Control.{forbids_reading}
use Rattle.x7_engine.specs.Watching.{timer_held, turns_on}

-- After these bytes there is no stop, and the sync word is searched. Startup hasn't begun or has ended, SBITS are 00,
-- no shutdown is pending, and TIMER turns no watchdog on or the attempt is a fallback, which has none.
pub record AtRest (part : PartData) (kept : Kept) (bytes : List ℕ) : Type 0 where
  pub no_stop : first_stop_of_bytes part kept bytes ≡ None
  pub searching : is_synced (reading_of bytes).place ≡ false
  pub startup : (startup_progress (history_of bytes) (length bytes) ≡ NotBegun) ⊎ (phase_of part (history_of bytes) (length bytes) ≡ last_phase)
  pub sbits : forbids_reading (ctl0_held (history_of bytes)) ≡ false
  pub no_shutdown : is_pending (history_of bytes) ≡ false
  pub no_watchdog : (turns_on (timer_held kept (history_of bytes)) && not (is_fallback kept.kind)) ≡ false

-- the bytes end in a gap, and the gap goes on through the bytes `more` without a sync word
pub record LastGapGoesOn (bytes more : List ℕ) : Type 0 where
  pub gap : List ℕ
  pub searching : (reading_of bytes).place ≡ Searching gap
  pub none : HasNoSync (gap ++ more)
