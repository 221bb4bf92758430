-- Register numbers and names (UG470, configuration registers).
use Rattle.std.specs.Prelude.{ℕ, ◌==◌, if◌then◌else◌, List, [], ◌∷◌, Option, None, Some, get_or, codes}
use Rattle.x7_regs.specs.declared.register.Reg.{Reg}
use Rattle.x7_regs.specs.declared.register.Reg.TheVariants.{Crc, Far, Fdri, Fdro, Cmd, Ctl0, Mask, Stat, Lout, Cor0, Mfwr, Cbc, Idcode, Axss, Cor1, Wbstar, Timer, Bootsts, Ctl1, Bspi}

-- the number that a packet header names the register by
abbrev pub number_of : Reg → ℕ
number_of Crc = 0
number_of Far = 1
number_of Fdri = 2
number_of Fdro = 3
number_of Cmd = 4
number_of Ctl0 = 5
number_of Mask = 6
number_of Stat = 7
number_of Lout = 8
number_of Cor0 = 9
number_of Mfwr = 10
number_of Cbc = 11
number_of Idcode = 12
number_of Axss = 13
number_of Cor1 = 14
number_of Wbstar = 16
number_of Timer = 17
number_of Bootsts = 22
number_of Ctl1 = 24
number_of Bspi = 31

-- the register with this number, where one has it
abbrev pub reg_with : ℕ → Option Reg
reg_with n =
    if n == 0 then Some Crc else
    if n == 1 then Some Far else
    if n == 2 then Some Fdri else
    if n == 3 then Some Fdro else
    if n == 4 then Some Cmd else
    if n == 5 then Some Ctl0 else
    if n == 6 then Some Mask else
    if n == 7 then Some Stat else
    if n == 8 then Some Lout else
    if n == 9 then Some Cor0 else
    if n == 10 then Some Mfwr else
    if n == 11 then Some Cbc else
    if n == 12 then Some Idcode else
    if n == 13 then Some Axss else
    if n == 14 then Some Cor1 else
    if n == 16 then Some Wbstar else
    if n == 17 then Some Timer else
    if n == 22 then Some Bootsts else
    if n == 24 then Some Ctl1 else
    if n == 31 then Some Bspi else None

-- how many register numbers there are, with a register or without: a number has five bits
abbrev pub reg_number_count : ℕ
reg_number_count = 32

-- how many bytes the name of a register number has at most
abbrev pub reg_name_limit : ℕ
reg_name_limit = 7

-- the names by number, from 0 to 31; a number without a register is `R` and its two digits (this project's choice)
abbrev pub reg_names : List (List ℕ)
reg_names =
    codes "CRC" ∷ codes "FAR" ∷ codes "FDRI" ∷ codes "FDRO" ∷ codes "CMD" ∷ codes "CTL0" ∷ codes "MASK" ∷ codes "STAT"
    ∷ codes "LOUT" ∷ codes "COR0" ∷ codes "MFWR" ∷ codes "CBC" ∷ codes "IDCODE" ∷ codes "AXSS" ∷ codes "COR1" ∷ codes "R15"
    ∷ codes "WBSTAR" ∷ codes "TIMER" ∷ codes "R18" ∷ codes "R19" ∷ codes "R20" ∷ codes "R21" ∷ codes "BOOTSTS" ∷ codes "R23"
    ∷ codes "CTL1" ∷ codes "R25" ∷ codes "R26" ∷ codes "R27" ∷ codes "R28" ∷ codes "R29" ∷ codes "R30" ∷ codes "BSPI" ∷ []

-- the name of a register number, and nothing from 32 on
abbrev pub reg_name : ℕ → List ℕ
reg_name n = get_or reg_names n []
