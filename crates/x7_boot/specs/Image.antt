-- A flash image with a golden and an update stream (UG470, MultiBoot and fallback; the layout is this project's
-- choice).
--
--     place     what stands there
--     0         2,048 slots of 32 bytes, the first open, the others free: each writes the start address of the update's
--               place to WBSTAR, and then asks for IPROG
--     65,536    the golden stream
--     U         the update stream, U being the first multiple of 65,536 at or after the golden stream's end, and at
--               least 131,072
--
-- All else, up to the first multiple of 65,536 at or after the update's end, is FF.
use Rattle.std.specs.Prelude.{ℕ, ◌+◌, ◌-◌, ◌*◌, ◌/◌, max, List, ◌++◌, length, replicate}
use Rattle.std.specs.List.{repeat}
use Rattle.x7_words.specs.Word.{bytes_of_word}
use Rattle.x7_packets.specs.FlashSlot.{flash_slot, sector_size, flash_slot_count}
use Rattle.x7_packets.specs.PacketWords.{dummy_word, sync_word}
use Rattle.x7_words.specs.Flash.{erased_byte}
pub use Rattle.x7_words.specs.Flash.{flash_limit}

-- the first place at or after `place` at which a sector begins
abbrev pub sector_from : ℕ → ℕ
sector_from place = (place + (sector_size - 1)) / sector_size * sector_size

-- where the update stands in an image, in bytes, after a golden stream of `golden` bytes
abbrev pub place_after_golden : ℕ → ℕ
place_after_golden golden = max (2 * sector_size) (sector_from (sector_size + golden))

-- a slot with this switch word and this start address
unfoldable pub slot : ℕ → ℕ → List ℕ
slot switch start = flash_slot (bytes_of_word switch) (bytes_of_word start)

-- an open slot with this start address: its switch word is the sync word
abbrev pub open_slot : ℕ → List ℕ
open_slot start = slot sync_word start

-- a free slot with this start address: its switch word is a dummy word
abbrev pub free_slot : ℕ → List ℕ
free_slot start = slot dummy_word start

-- the slots of the first sector after its first: they are free, and have this start address
unfoldable pub free_slots : ℕ → List ℕ
free_slots start = repeat (flash_slot_count - 1) (free_slot start)

-- bytes, and FF after them up to `place` bytes in all
abbrev pub filled_to : ℕ → List ℕ → List ℕ
filled_to place bytes = bytes ++ replicate (place - length bytes) erased_byte

-- the first sector, which leads to the update at this start address
abbrev pub first_sector : ℕ → List ℕ
first_sector start = open_slot start ++ free_slots start

-- the size of the image in bytes, by the sizes of both streams in bytes
abbrev pub image_size : ℕ → ℕ → ℕ
image_size golden update = sector_from (place_after_golden golden + update)

-- the image for a part of which one step of the start address stands for `unit` bytes
unfoldable pub image_of : ℕ → List ℕ → List ℕ → List ℕ
image_of unit golden update =
    filled_to (image_size (length golden) (length update))
    (filled_to (place_after_golden (length golden)) (first_sector (place_after_golden (length golden) / unit) ++ golden) ++ update)
