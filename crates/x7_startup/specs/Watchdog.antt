-- The bytes that the configuration watchdog counts, and the byte at which it fires (UG470, watchdog; the count is this
-- project's choice). Two flags have one meaning throughout: `eos` is the guide's EOS, end of startup, which is 1 in
-- phase 7; `off` is true for an attempt that has no watchdog.
use Rattle.std.specs.Prelude.{◌≡◌, ◌==◌, ℕ, ◌+◌, ◌-◌, ◌*◌, ◌^◌, ◌<◌, ◌≤◌, min, Bool, true, false, not, ◌&&◌, List, [], ◌∷◌, ◌++◌, if◌then◌else◌, IsTrue, replicate}
use Rattle.x7_words.specs.Word.{field_of}

-- a call of a watchdog: a word written to TIMER, the command LTIMER, a byte taken in phase 7 (`eos`) or in another
pub data WatchCall : Type 0 where
  Load : (timer : ℕ) → WatchCall
  Reload : WatchCall
  Watched : (eos : Bool) → WatchCall

-- CFG_MON of TIMER, bit 30: 1 where the watchdog counts during configuration (UG470, watchdog timer register)
abbrev pub cfg_mon_of : ℕ → ℕ
cfg_mon_of = field_of 30 1

-- the value of TIMER, bits 29:0 (UG470, watchdog timer register)
abbrev pub timer_value_of : ℕ → ℕ
timer_value_of = field_of 0 30

-- how many counted bytes are one of TIMER's value (this project's choice)
abbrev pub timer_step : ℕ
timer_step = 4

-- whether the watchdog is on at a byte, and counts it: CFG_MON is 1, TIMER's value isn't 0, the phase isn't 7 (`eos`)
-- and the attempt has a watchdog (`off` is false)
abbrev pub is_on : Bool → ℕ → Bool → Bool
is_on off timer eos = (cfg_mon_of timer == 1) && (not (timer_value_of timer == 0) && (not eos && not off))

-- TIMER after the calls, which was `timer` before them
abbrev pub timer_after : ℕ → List WatchCall → ℕ
timer_after timer [] = timer
timer_after timer (Load next ∷ calls) = timer_after next calls
timer_after timer (_ ∷ calls) = timer_after timer calls

-- whether the count begins anew among the calls: by a word for TIMER, or by LTIMER
abbrev pub has_load : List WatchCall → Bool
has_load [] = false
has_load (Watched _ ∷ calls) = has_load calls
has_load (_ ∷ calls) = true

-- the calls after the last one at which the count begins anew, or all
abbrev pub since_load : List WatchCall → List WatchCall
since_load [] = []
since_load (call ∷ calls) = if has_load (call ∷ calls) then since_load calls else call ∷ calls

-- at how many of the bytes the watchdog is on, with TIMER as it is now
abbrev pub bytes_on : Bool → ℕ → List WatchCall → ℕ
bytes_on off timer [] = 0
bytes_on off timer (Watched eos ∷ calls) = (if is_on off timer eos then 1 else 0) + bytes_on off timer calls
bytes_on off timer (_ ∷ calls) = bytes_on off timer calls

-- the watchdog's count: at how many bytes since it last began anew the watchdog is on; TIMER was `first` at the making
abbrev pub watched_count : Bool → ℕ → List WatchCall → ℕ
watched_count off first calls = bytes_on off (timer_after first calls) (since_load calls)

-- the watchdog fires at one byte more after the calls: it is on there, and the byte brings the count to `timer_step`
-- times TIMER's value
abbrev pub FiresNext : Bool → ℕ → List WatchCall → Bool → Type 0
FiresNext off first calls eos =
    IsTrue (is_on off (timer_after first calls) eos)
    × (watched_count off first (calls ++ Watched eos ∷ []) ≡ timer_value_of (timer_after first calls) * timer_step)

-- `count` bytes taken, all in phase 7 or none
abbrev pub bytes_alike : ℕ → Bool → List WatchCall
bytes_alike count eos = replicate count (Watched eos)

-- the watchdog fires at the byte after `count` bytes, all in phase 7 or none
abbrev pub FiresAfter : Bool → ℕ → List WatchCall → ℕ → Bool → Type 0
FiresAfter off first calls count eos = FiresNext off first (calls ++ bytes_alike count eos) eos

-- the watchdog fires at none of `count` bytes, all in phase 7 or none
abbrev pub NoneFires : Bool → ℕ → List WatchCall → ℕ → Bool → Type 0
NoneFires off first calls count eos = (k : ℕ) → k < count → ¬ FiresAfter off first calls k eos

-- the count of bytes at which the watchdog fires: `timer_step` times TIMER's value, and 0 where TIMER or the attempt
-- has it off
abbrev pub firing_count : Bool → ℕ → ℕ
firing_count off timer = if (cfg_mon_of timer == 1) && not off then timer_value_of timer * timer_step else 0

-- what a watchdog keeps: whether its attempt has none, the count at which it fires, and its count up to 2^32 - 1
pub record WatchdogState : Type 0 where
  pub off : Bool
  pub limit : ℕ
  pub count : ℕ

-- what is stored stands for the calls of a watchdog that was made with `first` in TIMER
pub record WatchesFor (off : Bool) (first : ℕ) (w : WatchdogState) (calls : List WatchCall) : Type 0 where
  pub off_is : w.off ≡ off
  pub limit_is : w.limit ≡ firing_count off (timer_after first calls)
  pub count_is : w.count ≡ min (watched_count off first calls) (2 ^ 32 - 1)

-- `Fact` holds of each `off`, word of TIMER at first and list of calls that the watchdog stands for
abbrev pub ForEachCalls : WatchdogState → (Bool → ℕ → List WatchCall → Type 0) → Type 0
ForEachCalls w Fact = (off : Bool) (first : ℕ) (calls : List WatchCall) → WatchesFor off first w calls → Fact off first calls

-- an attempt, TIMER at first, the calls since then, and whether the bytes after these are taken in phase 7
module _ (off : Bool) (first : ℕ) (calls : List WatchCall) (eos : Bool) where
  -- the watchdog fires at byte `n` of `count`, from 1, and at none before it, and it took the bytes up to that one
  abbrev pub FiredAt : ℕ → ℕ → WatchdogState → Type 0
  FiredAt count n new =
      (0 < n)
      × (n ≤ count)
      × FiresAfter off first calls (n - 1) eos
      × WatchesFor off first new (calls ++ bytes_alike n eos)
      × NoneFires off first calls (n - 1) eos

  -- the watchdog fires at none of `count` bytes, and it took them all
  abbrev pub NoneFired : ℕ → WatchdogState → Type 0
  NoneFired count new = WatchesFor off first new (calls ++ bytes_alike count eos) × NoneFires off first calls count eos
