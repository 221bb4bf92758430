-- What a list of calls of a `Startup` means: where startup begins and how far it is, and what is stored of that (UG470,
-- startup; arming is this project's choice).
use Rattle.std.specs.Prelude.{◌++◌, ◌≡◌, ◌≤◌, ℕ, ◌+◌, ◌/◌, ◌%◌, min, Bool, true, false, List, [], ◌∷◌, Option, Some, None, if◌then◌else◌}
use Rattle.x7_startup.specs.Phases.{wait_of, tick_limit, tick_size, IsPhase}

-- a call of a startup: START, DESYNC with COR0 as it stands there, a byte taken, a shutdown taken
pub data Call : Type 0 where
  Arm : Call
  Desync : (cor0 : ℕ) → Call
  Byte : Call
  DropBack : Call

-- whether a shutdown is taken among the calls
abbrev pub has_shutdown : List Call → Bool
has_shutdown [] = false
has_shutdown (DropBack ∷ calls) = true
has_shutdown (_ ∷ calls) = has_shutdown calls

-- the calls after the last shutdown taken, or all
abbrev pub since_shutdown : List Call → List Call
since_shutdown [] = []
since_shutdown (call ∷ calls) = if has_shutdown (call ∷ calls) then since_shutdown calls else call ∷ calls

-- how many bytes are taken among the calls
abbrev pub bytes_among : List Call → ℕ
bytes_among [] = 0
bytes_among (Byte ∷ calls) = bytes_among calls + 1
bytes_among (_ ∷ calls) = bytes_among calls

-- whether START came after the last DESYNC; where there is no DESYNC, whether START came or `armed` is true; a shutdown
-- changes nothing here
abbrev pub is_armed : Bool → List Call → Bool
is_armed armed [] = armed
is_armed armed (Arm ∷ calls) = is_armed true calls
is_armed armed (Desync _ ∷ calls) = is_armed false calls
is_armed armed (_ ∷ calls) = is_armed armed calls

-- how far startup is: not begun, or begun with a COR0, and `bytes` bytes taken since then
pub data StartupProgress : Type 0 where
  NotBegun : StartupProgress
  Begun : (cor0 bytes : ℕ) → StartupProgress

-- how far startup is after calls of which none is a shutdown: the first armed DESYNC begins it, and the bytes after
-- that count. `armed` says whether START came before the calls.
abbrev pub progress_from : Bool → List Call → StartupProgress
progress_from armed [] = NotBegun
progress_from armed (Arm ∷ calls) = progress_from true calls
progress_from true (Desync cor0 ∷ calls) = Begun cor0 (bytes_among calls)
progress_from false (Desync cor0 ∷ calls) = progress_from false calls
progress_from armed (_ ∷ calls) = progress_from armed calls

-- how far startup is after the calls
abbrev pub progress_of : List Call → StartupProgress
progress_of calls = progress_from false (since_shutdown calls)

-- the COR0 that startup began with, if it has begun
abbrev pub cor0_of : StartupProgress → Option ℕ
cor0_of NotBegun = None
cor0_of (Begun cor0 bytes) = Some cor0

-- the bytes taken since startup began, 0 where it hasn't
abbrev pub bytes_since_begun : StartupProgress → ℕ
bytes_since_begun NotBegun = 0
bytes_since_begun (Begun cor0 bytes) = bytes

-- the ticks since startup began: one for each `tick_size` bytes
abbrev pub ticks_of : StartupProgress → ℕ
ticks_of progress = bytes_since_begun progress / tick_size

-- this is the phase of a startup, by the ticks that its part's clocks need to lock and its impedance to match; 0 where
-- it hasn't begun
abbrev pub IsPhaseOf : ℕ → ℕ → StartupProgress → ℕ → Type 0
IsPhaseOf lock_ticks match_ticks NotBegun phase = phase ≡ 0
IsPhaseOf lock_ticks match_ticks (Begun cor0 bytes) phase = IsPhase (wait_of lock_ticks match_ticks cor0) (bytes / tick_size) phase

-- this is the phase of a startup after these calls, by the ticks that its part's clocks need to lock and its impedance
-- to match
abbrev pub IsPhaseAfter : ℕ → ℕ → List Call → ℕ → Type 0
IsPhaseAfter lock_ticks match_ticks calls phase = IsPhaseOf lock_ticks match_ticks (progress_of calls) phase

-- the phase after the calls and then `more` is never below the phase after the calls alone
abbrev pub NeverLowersPhase : ℕ → ℕ → List Call → List Call → Type 0
NeverLowersPhase lock_ticks match_ticks calls more =
    (before after : ℕ) → IsPhaseAfter lock_ticks match_ticks calls before → IsPhaseAfter lock_ticks match_ticks (calls ++ more) after → before ≤ after

-- what a startup keeps: whether it is armed, the COR0 that it began with, the bytes past the last tick, the ticks up to
-- `tick_limit`, and the phase
pub record StartupState : Type 0 where
  pub armed : Bool
  pub begun_with : Option ℕ
  pub tick_bytes : ℕ
  pub ticks : ℕ
  pub phase : ℕ

-- what is stored is that of a startup so far along, whose part needs these ticks to lock and to match
pub record StoresAt (lock_ticks match_ticks : ℕ) (s : StartupState) (progress : StartupProgress) : Type 0 where
  pub begun_with_is : s.begun_with ≡ cor0_of progress
  pub tick_bytes_are : s.tick_bytes ≡ bytes_since_begun progress % tick_size
  pub ticks_are : s.ticks ≡ min (ticks_of progress) tick_limit
  pub phase_is : IsPhaseOf lock_ticks match_ticks progress s.phase

-- A stored value stands for the calls: it is what the list of all calls so far comes to. Each byte was taken with these
-- ticks to lock and to match.
pub record StandsForCalls (lock_ticks match_ticks : ℕ) (s : StartupState) (calls : List Call) : Type 0 where
  pub armed_is : s.armed ≡ is_armed false (since_shutdown calls)
  pub stores : StoresAt lock_ticks match_ticks s (progress_of calls)

-- whatever calls the old startup stands for, the new one stands for these and then `more`
abbrev pub AddsCalls : ℕ → ℕ → StartupState → StartupState → List Call → Type 0
AddsCalls lock_ticks match_ticks old new more =
    (calls : List Call) → StandsForCalls lock_ticks match_ticks old calls → StandsForCalls lock_ticks match_ticks new (calls ++ more)
