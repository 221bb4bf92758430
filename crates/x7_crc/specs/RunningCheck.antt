-- The running check of a history of accesses: that of its writes since the check was last cleared (UG470, cyclic
-- redundancy check), but for those of LOUT (this project's choice); and the command that a written word executes after
-- a history.
use Rattle.std.specs.Prelude.{◌≡◌, ◌≢◌, ℕ, false, List, [], ◌∷◌, ◌++◌, Option}
use Rattle.x7_regs.specs.Register.{number_of}
use Rattle.x7_regs.specs.declared.register.Reg.{Reg}
use Rattle.x7_regs.specs.declared.register.Reg.TheVariants.{Lout}
use Rattle.x7_packets.specs.History.{command_held, executed_by, History, Write}
use Rattle.x7_packets.specs.CheckedWrites.{RegisterWrite, clears, checked_writes}
use Rattle.x7_crc.specs.Check.{check_of}

-- writes that stand with the newest first, in the order in which they came
abbrev pub in_order : List RegisterWrite → List RegisterWrite
in_order [] = []
in_order (write ∷ before) = in_order before ++ write ∷ []

-- a write after this history is one that the check is over: it does not clear the check, and is none of LOUT
pub record IsCheckedWrite (h : History) (register word : ℕ) : Type 0 where
  pub goes_on : clears h (Write register word) ≡ false
  pub other : register ≢ number_of Lout

-- the running check of a history: that of its writes since the last access that cleared it, but for those of LOUT
abbrev pub running_check : History → ℕ
running_check h = check_of (in_order (checked_writes h))

-- the command that a word, written to a register after this history, executes
abbrev pub executed_after : History → Reg → ℕ → Option ℕ
executed_after h register word = executed_by (command_held h) (Write (number_of register) word)
