-- What calls that take words do to a device's registers: the words enter the history, and the words due stay (this
-- project's choice).
use Rattle.std.specs.Prelude.{◌≡◌, ℕ, ◌≤◌, ◌%◌, ◌∷◌, List, length, take, None}
use Rattle.x7_packets.specs.History.{Write, entry}
use Rattle.x7_engine.specs.Entering.{Change, EntersHistory, EntersHistoryAt, up_to_stop, words_entered}
use Rattle.x7_engine.specs.WordCalls.{LeavesDue, TakesUpTo}
use Rattle.x7_engine.specs.Standing.{CountsAll}

-- registers took a word written to a register, which counts also where it stops them
pub record TookWrite (x : Change) (register word : ℕ) : Type 0 where
  pub enters : EntersHistoryAt x (λ place h. entry (Write register word) place ∷ h)
  pub counts : CountsAll x.new.values.stop
  pub leaves : LeavesDue x

-- of words written to a register, four bytes each, registers took this many bytes: all, or those up to a stop
pub record TookWords (x : Change) (register : ℕ) (bytes : List ℕ) (taken : ℕ) : Type 0 where
  pub takes : TakesUpTo (length bytes) taken x.new.values.stop
  pub leaves : LeavesDue x
  pub enters : EntersHistory x (up_to_stop x.new (words_entered register bytes) taken) taken

-- of words written to a register, four bytes each, registers took the first ones, which are this many bytes, and none
-- of these stopped them
pub record TookFirstWords (x : Change) (register : ℕ) (bytes : List ℕ) (taken : ℕ) : Type 0 where
  pub within : taken ≤ length bytes
  pub whole : taken % 4 ≡ 0
  pub going : x.new.values.stop ≡ None
  pub leaves : LeavesDue x
  pub enters : EntersHistory x (words_entered register (take taken bytes)) taken
