-- What the clock of a device stands for: startup and the watchdog after a history with a number of bytes taken (this
-- project's choice).
use Rattle.std.specs.Prelude.{◌≡◌, ℕ, ◌+◌, ◌<◌, ◌≤◌, Bool, true, [], ◌∷◌, Option, None, Some, IfSome}
use Rattle.x7_packets.specs.History.{Entry, History}
use Rattle.x7_part.specs.Part.{PartData}
use Rattle.x7_startup.specs.Startup.{StandsForCalls, StartupState}
use Rattle.x7_startup.specs.Watchdog.{WatchdogState, WatchesFor}
use Rattle.x7_engine.specs.declared.clock.Clock.{Clock}
use Rattle.x7_engine.specs.declared.kept.Kept.{Kept}
use Rattle.x7_engine.specs.Kept.{is_fallback}
use Rattle.x7_engine.specs.Course.{Course, course_at}
use Rattle.x7_engine.specs.Startup.{startup_ended, startup_calls}
use Rattle.x7_engine.specs.Watching.{first_firing, watch_calls}

-- the stored values of a clock
pub record ClockState : Type 0 where
  pub startup : StartupState
  pub watchdog : WatchdogState

-- the stored values as the clock's fields hold them
abbrev pub clock_in : Clock → ClockState
clock_in c = record { startup = c.startup; watchdog = c.watchdog }

-- the clock is that of a history with n bytes taken
pub record IsClock (part : PartData) (kept : Kept) (c : ClockState) (h : History) (n : ℕ) : Type 0 where
  pub startup : StandsForCalls part.lock part.matched c.startup (startup_calls h n)
  pub watchdog : WatchesFor (is_fallback kept.kind) kept.timer c.watchdog (watch_calls part h n)

-- the place of the newest access, and 0 where there is none
abbrev pub newest_place : History → ℕ
newest_place [] = 0
newest_place (e ∷ h) = e.place

-- `Fact` holds of each part, history and number of bytes taken whose startup this is
abbrev pub ForEachHistoryOfStartup : StartupState → (PartData → History → ℕ → Type 0) → Type 0
ForEachHistoryOfStartup s Fact = (part : PartData) (h : History) (n : ℕ) → StandsForCalls part.lock part.matched s (startup_calls h n) → Fact part h n

-- `Fact` holds of each course of a device of the part whose clock this is: what the reset kept, the history, and the
-- number of bytes taken, among which each access of the history ends
abbrev pub ForEachCourseOfClock : PartData → ClockState → (Kept → History → ℕ → Type 0) → Type 0
ForEachCourseOfClock part c Fact = (kept : Kept) (h : History) (n : ℕ) → newest_place h ≤ n → IsClock part kept c h n → Fact kept h n

-- The clock takes `count` bytes more: the watchdog fires at none of them, and all are taken; or it fires first at byte
-- k of them, from 1, and the bytes up to that one are taken.
abbrev pub ClockTakes : Course → ClockState → ℕ → Option ℕ → Type 0
ClockTakes c clock count None =
    IsClock c.part c.kept clock c.history (c.taken + count)
    × (first_firing c.part c.kept c.history c.taken count ≡ None)
ClockTakes c clock count (Some k) =
    (0 < k)
    × (k ≤ count)
    × IsClock c.part c.kept clock c.history (c.taken + k)
    × (first_firing c.part c.kept c.history c.taken count ≡ Some (c.taken + k))

-- A part's clock takes `count` bytes more, whatever course it is the clock of: all of them, or those up to byte k, from
-- 1, at which the watchdog fires.
pub record ClockTakesInAny (part : PartData) (old new : ClockState) (count : ℕ) (result : Option ℕ) : Type 0 where
  pub within : IfSome result (λ k. (0 < k) × (k ≤ count))
  pub takes : ForEachCourseOfClock part old (λ kept h n. ClockTakes (course_at part kept h n) new count result)

-- at each of `count` bytes more startup has ended, or at none, and `clock` is the clock before them
pub record AreEndedAlike (c : Course) (clock : ClockState) (count : ℕ) (ended : Bool) : Type 0 where
  pub newest : newest_place c.history ≤ c.taken
  pub each : (i : ℕ) → i < count → startup_ended c.part c.history (c.taken + i + 1) ≡ ended
  pub stands : IsClock c.part c.kept clock c.history c.taken

-- startup has ended `count` bytes further, the watchdog fires at none of them, and `clock` is the clock there
pub record HasEndedBy (c : Course) (clock : ClockState) (count : ℕ) : Type 0 where
  pub newest : newest_place c.history ≤ c.taken
  pub none_fires : first_firing c.part c.kept c.history c.taken count ≡ None
  pub ended : startup_ended c.part c.history (c.taken + count) ≡ true
  pub stands : IsClock c.part c.kept clock c.history (c.taken + count)

-- a clock takes an access after any history of which `Fact` holds
abbrev pub TakesEntry : ClockState → ClockState → Entry → (History → Type 0) → Type 0
TakesEntry old new e Fact =
    (part : PartData) (kept : Kept) (h : History) → Fact h → IsClock part kept old h e.place → IsClock part kept new (e ∷ h) e.place
