-- What the running check is over: the writes since it was last cleared (UG470, cyclic redundancy check). A write to
-- LOUT is left out (this project's choice).
use Rattle.std.specs.Prelude.{ℕ, ◌==◌, ◌||◌, Bool, if◌then◌else◌, List, [], ◌∷◌}
use Rattle.x7_regs.specs.Register.{number_of}
use Rattle.x7_regs.specs.Command.{code_of}
use Rattle.x7_regs.specs.declared.register.Reg.TheVariants.{Crc, Lout}
use Rattle.x7_regs.specs.declared.command.Command.TheVariants.{Rcrc}
use Rattle.x7_packets.specs.History.{Access, Write, History, writes, executes}

-- the access clears the running check: it executes RCRC, or writes CRC
abbrev pub clears : History → Access → Bool
clears h access = executes (code_of Rcrc) h access || writes (number_of Crc) access

-- a word written, and its register
pub record RegisterWrite : Type 0 where
  pub register : ℕ
  pub word : ℕ

-- the write of a word to a register
abbrev pub write_to : ℕ → ℕ → RegisterWrite
write_to register word = record { register = register; word = word }

-- writes with that of one access more; LOUT is left out
abbrev pub with_write : Access → List RegisterWrite → List RegisterWrite
with_write (Write r w) writes = if r == number_of Lout then writes else write_to r w ∷ writes
with_write _ writes = writes

-- the writes since the last clearing access, or all where there is none, the newest first; those to LOUT are left out
abbrev pub checked_writes : History → List RegisterWrite
checked_writes [] = []
checked_writes (e ∷ h) = if clears h e.access then [] else with_write e.access (checked_writes h)
