-- The registers that a state shows, each with its value (this project's choice).
use Rattle.std.specs.Prelude.{ℕ, ◌==◌, Bool, if◌then◌else◌, List, [], ◌∷◌, length, map}
use Rattle.x7_regs.specs.Register.{number_of}
use Rattle.x7_regs.specs.declared.register.Reg.{Reg}
use Rattle.x7_regs.specs.declared.register.Reg.TheVariants.{Crc, Far, Cmd, Ctl0, Mask, Stat, Cor0, Idcode, Axss, Cor1, Wbstar, Timer, Bootsts, Ctl1, Bspi}
use Rattle.x7_engine.specs.declared.snapshot.Snapshot.{Snapshot}

-- the registers that a state shows, in the order of their numbers: all but those of frame data (FDRI, FDRO, MFWR), LOUT
-- and CBC
abbrev pub shown_registers : List Reg
shown_registers = Crc ∷ Far ∷ Cmd ∷ Ctl0 ∷ Mask ∷ Stat ∷ Cor0 ∷ Idcode ∷ Axss ∷ Cor1 ∷ Wbstar ∷ Timer ∷ Bootsts ∷ Ctl1 ∷ Bspi ∷ []

-- how many registers a state shows
abbrev pub shown_count : ℕ
shown_count = length shown_registers

-- the registers that a state shows, each with its value
unfoldable pub with_values : (Reg → ℕ) → List (Reg × ℕ)
with_values value = map (λ reg. (reg, value reg)) shown_registers

-- two registers are the same one
abbrev pub is_same_register : Reg → Reg → Bool
is_same_register one other = number_of one == number_of other

-- the word in the row of a register, and 0 where no row is the register's
abbrev pub word_in : Reg → List (Reg × ℕ) → ℕ
word_in register [] = 0
word_in register (row ∷ rows) = if is_same_register register row.0 then row.1 else word_in register rows

-- the rows with this word in that of a register, if it has one
abbrev pub with_word_in : Reg → ℕ → List (Reg × ℕ) → List (Reg × ℕ)
with_word_in register word rows = map (λ row. (row.0, if is_same_register register row.0 then word else row.1)) rows

-- the state with this word in BOOTSTS
abbrev pub with_bootsts : ℕ → Snapshot → Snapshot
with_bootsts word r = record r { registers = with_word_in Bootsts word r.registers }
