-- The state of a device as a report gives it (this project's choice). Words are eight upper-case hexadecimal digits.
use Rattle.std.specs.Prelude.{ℕ, ◌+◌, Bool, if◌then◌else◌, List, ◌∷◌, ◌++◌, codes, decimal}
use Rattle.std.specs.List.{flat_map}
use Rattle.x7_words.specs.Characters.{space_byte}
use Rattle.x7_regs.specs.Register.{number_of, reg_name}
use Rattle.x7_regs.specs.declared.register.Reg.{Reg}
use Rattle.x7_text.specs.Digits.{hex_word}
use Rattle.x7_engine.specs.declared.fault.Fault.{Fault}
use Rattle.x7_engine.specs.declared.fault.Fault.TheVariants as fault
use Rattle.x7_engine.specs.declared.snapshot.End.{End}
use Rattle.x7_engine.specs.declared.snapshot.End.TheVariants as at_end
use Rattle.x7_engine.specs.declared.snapshot.Snapshot.{Snapshot}

-- the kind of a fault, and its words
abbrev pub fault_text : Fault → List ℕ
fault_text (fault.Packet word) = codes "Packet " ++ hex_word word
fault_text (fault.Id want got) = codes "Id " ++ hex_word want ++ space_byte ∷ hex_word got
fault_text (fault.Crc want got) = codes "Crc " ++ hex_word want ++ space_byte ∷ hex_word got
fault_text (fault.Address far) = codes "Address " ++ hex_word far
fault_text fault.Overrun = codes "Overrun"
fault_text fault.Multi = codes "Multi"
fault_text fault.Encrypted = codes "Encrypted"
fault_text fault.Watchdog = codes "Watchdog"

-- the most bytes of a fault's kind and words: those of `Crc ` and two words with a space between
abbrev pub fault_room : ℕ
fault_room = 21

-- the most bytes of the text that says where the bytes taken end: those of `fault `, and of a fault's kind and words
abbrev pub end_room : ℕ
end_room = 6 + fault_room

-- the text that says where the bytes taken end
unfoldable pub end_text : End → List ℕ
end_text at_end.Searching = codes "searching"
end_text at_end.Synced = codes "synced"
end_text (at_end.Iprog wbstar) = codes "iprog " ++ hex_word wbstar
end_text (at_end.Fault fault) = codes "fault " ++ fault_text fault

-- the digit of DONE, GTS_CFG_B or GWE: 1 where it is high, and 0 else
abbrev pub line_digit : Bool → List ℕ
line_digit is_high = if is_high then codes "1" else codes "0"

-- the most bytes of the line of startup, with 20 digits for its phase, as a number of 64 bits may have
abbrev pub phase_room : ℕ
phase_room = 46

-- the line of startup: its phase, and DONE, GTS_CFG_B and GWE
unfoldable pub phase_text : Snapshot → List ℕ
phase_text snapshot =
    codes "phase " ++ decimal snapshot.phase
    ++ codes " done " ++ line_digit snapshot.lines.done
    ++ codes " gts " ++ line_digit snapshot.lines.gts
    ++ codes " gwe " ++ line_digit snapshot.lines.gwe
    ++ codes "\n"

-- the line of a register: its name and its word
abbrev pub reg_line : Reg × ℕ → List ℕ
reg_line row = codes "reg " ++ reg_name (number_of row.0) ++ space_byte ∷ hex_word row.1 ++ codes "\n"

-- the most bytes that the line of a register has: those of the line with the longest name, BOOTSTS
abbrev pub reg_line_room : ℕ
reg_line_room = 21

-- the lines of the registers
unfoldable pub reg_text : Snapshot → List ℕ
reg_text snapshot = flat_map reg_line snapshot.registers

-- the lines of a device's state: its part's name, how many bytes it took, where these end, startup and the registers
unfoldable pub state_text : List ℕ → Snapshot → List ℕ
state_text name snapshot =
    codes "part " ++ name ++ codes "\n"
    ++ codes "taken " ++ decimal snapshot.taken ++ codes "\n"
    ++ codes "end " ++ end_text snapshot.end ++ codes "\n"
    ++ phase_text snapshot
    ++ reg_text snapshot
