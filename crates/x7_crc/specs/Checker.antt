-- The check of a byte list as a stream, what a value that keeps the check stands for, and which registers steer it
-- (this project's choice: the check goes on across sessions, and after words at which a device would stop).
use Rattle.std.specs.Prelude.{◌==◌, ◌||◌, Bool, ◌≡◌, ◌≤◌, ℕ, List, length, take}
use Rattle.x7_regs.specs.Register.{number_of}
use Rattle.x7_regs.specs.declared.register.Reg.TheVariants.{Cmd, Crc, Far, Lout}
use Rattle.x7_packets.specs.Cutter.{CutterState, CutterStandsFor}
use Rattle.x7_packets.specs.History.{command_held, History, history_of}
use Rattle.x7_packets.specs.Reading.{Place, EndedSession}
use Rattle.x7_crc.specs.RunningCheck.{running_check}

-- the running check of all writes of the bytes
abbrev pub check_of_bytes : List ℕ → ℕ
check_of_bytes bytes = running_check (history_of bytes)

-- what the check of further writes goes on from: `check` is the running check of a history, and `held` the command that
-- CMD holds after it
pub record IsCheckState (check held : ℕ) (h : History) : Type 0 where
  pub check_is : check ≡ running_check h
  pub held_is : held ≡ command_held h

-- the cutter took these bytes, `check` is the running check of all their writes, and `held` the command that CMD holds
-- after them
pub record HaveChecked (cutter : CutterState) (check held : ℕ) (bytes : List ℕ) : Type 0 where
  pub sessions : List EndedSession
  pub place : Place
  pub stands : CutterStandsFor cutter bytes sessions place
  pub state : IsCheckState check held (history_of bytes)

-- what a checker of pieces keeps: a cutter, the check of its bytes, and the command that CMD holds
pub record PieceCheckerState : Type 0 where
  pub cutter : CutterState
  pub check : ℕ
  pub held : ℕ

-- the checker of pieces has taken these bytes, and keeps their check
abbrev pub HasTaken : PieceCheckerState → List ℕ → Type 0
HasTaken c bytes = HaveChecked c.cutter c.check c.held bytes

-- what a checker of bytes that grow keeps
pub record CheckerState : Type 0 where
  pub pieces : PieceCheckerState
  -- how many bytes were taken
  pub taken : ℕ

-- the checker keeps the check of the first of these bytes, which it has taken; the others are still to be taken
pub record KeepsCheckOf (c : CheckerState) (bytes : List ℕ) : Type 0 where
  pub within : c.taken ≤ length bytes
  pub checks : HasTaken c.pieces (take c.taken bytes)

-- a write to this register may do to the running check what a write to another can't: clear it, at once or by a later
-- write to FAR, or be left out of it
abbrev pub steers_check : ℕ → Bool
steers_check register = register == number_of Crc || register == number_of Far || register == number_of Cmd || register == number_of Lout
