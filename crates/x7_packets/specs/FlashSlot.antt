-- A slot of a flash's first sector: a switch word, which opens the slot where it is the sync word, and packets that
-- lead a device to the update's stream (UG470, MultiBoot and fallback; the switch word is this project's choice).
use Rattle.std.specs.Prelude.{ℕ, List, ◌++◌}
use Rattle.std.specs.List.{flat_map}
pub use Rattle.x7_words.specs.Flash.{sector_size}
use Rattle.x7_words.specs.Word.{bytes_of_word}
use Rattle.x7_regs.specs.Register.{number_of}
use Rattle.x7_regs.specs.declared.command.Command.TheVariants.{Desync, Iprog}
use Rattle.x7_regs.specs.declared.register.Reg.TheVariants.{Wbstar}
use Rattle.x7_packets.specs.PacketWords.{command, no_op, type1_write_header}

-- how many bytes a slot of a flash has
abbrev pub flash_slot_size : ℕ
flash_slot_size = 32

-- how many slots of a flash fill its first sector
abbrev pub flash_slot_count : ℕ
flash_slot_count = 2048

-- the bytes of a slot, by the four of its switch word and the four of its start address: the switch word, a no-op, a
-- write of the address to WBSTAR, IPROG, and DESYNC for a device in fallback, which ignores IPROG
abbrev pub flash_slot : List ℕ → List ℕ → List ℕ
flash_slot switch start =
    switch ++ (bytes_of_word no_op ++ (bytes_of_word (type1_write_header (number_of Wbstar) 1)
    ++ (start ++ flat_map bytes_of_word (command Iprog ++ command Desync))))
