-- The words of packets, and those that stand between packets (UG470, packet types; configuration sequence).
-- A header has its packet type in bits 31:29 and its opcode in 28:27; type 1 the register in 17:13 and the word count
-- in 10:0, type 2 the word count in 26:0. Reserved bits are 0 here.
use Rattle.std.specs.Prelude.{ℕ, ◌+◌, ◌*◌, ◌^◌, List, [], ◌∷◌}
use Rattle.x7_regs.specs.Command.{code_of}
use Rattle.x7_regs.specs.Register.{number_of}
use Rattle.x7_regs.specs.declared.command.Command.{Command}
use Rattle.x7_regs.specs.declared.register.Reg.{Reg}
use Rattle.x7_regs.specs.declared.register.Reg.TheVariants.{Cmd, Fdri, Fdro}

-- ---- words between packets

-- the sync word, which begins a session
abbrev pub sync_word : ℕ
sync_word = 0xAA995566

-- the dummy word, which has no effect
abbrev pub dummy_word : ℕ
dummy_word = 0xFFFFFFFF

-- the first word of the bus width pattern
abbrev pub bus_width_sync : ℕ
bus_width_sync = 0x000000BB

-- the word of the bus width pattern by which a device finds the width
abbrev pub bus_width_detect : ℕ
bus_width_detect = 0x11220044

-- ---- headers

-- how many word counts a type 1 header can say: each is below this
abbrev pub type1_count_bound : ℕ
type1_count_bound = 2 ^ 11

-- how many word counts a type 2 header can say: each is below this
abbrev pub type2_count_bound : ℕ
type2_count_bound = 2 ^ 27

-- the packet type and the opcode of a no-op as one number, bits 31:27
abbrev pub no_op_kind : ℕ
no_op_kind = 4

-- the packet type and the opcode of a type 1 read as one number, bits 31:27
abbrev pub type1_read_kind : ℕ
type1_read_kind = 5

-- the packet type and the opcode of a type 1 write as one number, bits 31:27
abbrev pub type1_write_kind : ℕ
type1_write_kind = 6

-- the packet type and the opcode of a type 2 read as one number, bits 31:27
abbrev pub type2_read_kind : ℕ
type2_read_kind = 9

-- the packet type and the opcode of a type 2 write as one number, bits 31:27
abbrev pub type2_write_kind : ℕ
type2_write_kind = 10

-- a no-op, which is its header alone
abbrev pub no_op : ℕ
no_op = 0x20000000

-- the header of a type 1 read of `count` words, by the register's number
abbrev pub type1_read_header : ℕ → ℕ → ℕ
type1_read_header register count = 0x28000000 + 2 ^ 13 * register + count

-- the header of a type 1 write of `count` words, by the register's number
abbrev pub type1_write_header : ℕ → ℕ → ℕ
type1_write_header register count = 0x30000000 + 2 ^ 13 * register + count

-- the header of a type 2 read of `count` words
abbrev pub type2_read_header : ℕ → ℕ
type2_read_header count = 0x48000000 + count

-- the header of a type 2 write of `count` words
abbrev pub type2_write_header : ℕ → ℕ
type2_write_header count = 0x50000000 + count

-- ---- packets

-- one word written to a register: a header and the word
abbrev pub write_one : Reg → ℕ → List ℕ
write_one register word = type1_write_header (number_of register) 1 ∷ word ∷ []

-- a command: its code written to CMD
abbrev pub command : Command → List ℕ
command c = write_one Cmd (code_of c)

-- the headers of a write of `count` words to FDRI: an empty type 1 packet, and a type 2 packet
abbrev pub frame_data_headers : ℕ → List ℕ
frame_data_headers count = type1_write_header (number_of Fdri) 0 ∷ type2_write_header count ∷ []

-- the headers of a read of `count` words from FDRO: an empty type 1 packet, and a type 2 packet
abbrev pub frame_read_headers : ℕ → List ℕ
frame_read_headers count = type1_read_header (number_of Fdro) 0 ∷ type2_read_header count ∷ []
