-- The registers that decide what a word of frame data does: MASK and the registers under it, and IDCODE (UG470,
-- configuration registers). A history stands with its newest access first.
use Rattle.std.specs.Prelude.{ℕ, ◌-◌, ◌%◌, ◌^◌, ◌==◌, ◌&&◌, ◌||◌, Bool, false, if◌then◌else◌, [], ◌∷◌, bit_and, bit_or}
use Rattle.x7_packets.specs.History.{Access, Write, History, last_word}
use Rattle.x7_regs.specs.declared.register.Reg.TheVariants.{Ctl0, Idcode, Mask}
use Rattle.x7_regs.specs.Register.{number_of}

-- the word of MASK after a history: 0 at first, and it stays until it is written again (this project's choice)
abbrev pub mask_held : History → ℕ
mask_held h = last_word (number_of Mask) 0 h

-- the word of a register under MASK after an access: the written bits where MASK has a 1, and the old ones elsewhere
-- and after any other access
abbrev pub masked_word : ℕ → ℕ → Access → ℕ → ℕ
masked_word register mask (Write r w) old = if r == register then bit_or (bit_and old (2 ^ 32 - 1 - mask)) (bit_and w mask) else old
masked_word register mask _ old = old

-- the word of CTL0 or CTL1, by the register's number, after a history, 0 at first
abbrev pub masked_register : ℕ → History → ℕ
masked_register register [] = 0
masked_register register (e ∷ h) = masked_word register (mask_held h) e.access (masked_register register h)

-- the word of CTL0 after a history
abbrev pub ctl0_held : History → ℕ
ctl0_held h = masked_register (number_of Ctl0) h

-- a written IDCODE is the part's where the low 28 bits agree (that bits 31:28 aren't compared is this project's choice)
abbrev pub same_idcode : ℕ → ℕ → Bool
same_idcode idcode w = w % 2 ^ 28 == idcode % 2 ^ 28

-- the access writes the part's IDCODE
abbrev pub names_part : ℕ → Access → Bool
names_part idcode (Write register w) = register == number_of Idcode && same_idcode idcode w
names_part idcode _ = false

-- the device's IDCODE was written: a written IDCODE was the part's
abbrev pub has_idcode : ℕ → History → Bool
has_idcode idcode [] = false
has_idcode idcode (e ∷ h) = names_part idcode e.access || has_idcode idcode h
