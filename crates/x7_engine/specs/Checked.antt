-- Where an access stands in a history; and what a history has where the phase of startup is above 0: IDCODE written,
-- then START, then DESYNC (UG470, startup and IDCODE register; that a stop ends the taking of bytes at once is this
-- project's choice).
use Rattle.std.specs.Prelude.{◌≡◌, ℕ, ◌<◌, ◌≤◌, ◌∷◌, ◌++◌, IsTrue}
use Rattle.x7_packets.specs.History.{Access, Entry, History, entry}
use Rattle.x7_regs.specs.declared.command.Command.TheVariants.{Desync, Start}
use Rattle.x7_regs.specs.Command.{code_of}
use Rattle.x7_flow.specs.Controls.{has_idcode}
use Rattle.x7_engine.specs.Sequence.{Executes}

-- the access stands in the history at this place, after these older ones
pub record StandsIn (h : History) (access : Access) (place : ℕ) (older : History) : Type 0 where
  pub newer : History
  pub split : h ≡ newer ++ entry access place ∷ older

-- this idcode, whatever its version, was written to IDCODE; after that START was executed, and after START DESYNC,
-- whose last byte is byte n, from 1, or one before it
pub record HasStartAndDesync (idcode : ℕ) (h : History) (n : ℕ) : Type 0 where
  pub newer : History
  pub desync : Entry
  pub between : History
  pub start : Entry
  pub older : History
  pub split : h ≡ newer ++ desync ∷ (between ++ start ∷ older)
  pub desync_is : Executes (code_of Desync) (between ++ start ∷ older) desync.access
  pub start_is : Executes (code_of Start) older start.access
  pub has_idcode : IsTrue (has_idcode idcode older)
  pub order : start.place < desync.place
  pub within : desync.place ≤ n
