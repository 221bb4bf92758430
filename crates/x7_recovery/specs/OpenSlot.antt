-- A flash with an open slot, whichever slot that is and whatever stands after the golden stream (UG470, MultiBoot and
-- fallback; the layout is this project's choice).
use Rattle.std.specs.Prelude.{◌≡◌, ℕ, ◌*◌, ◌/◌, ◌%◌, ◌^◌, ◌<◌, ◌≤◌, List, ◌++◌, length, take, drop}
use Rattle.x7_words.specs.Word.{AreBytes}
use Rattle.x7_packets.specs.FlashSlot.{sector_size, flash_slot_size, flash_slot_count}
use Rattle.x7_part.specs.Part.{PartData}
use Rattle.x7_boot.specs.Boot.{start_address}
use Rattle.x7_boot.specs.Image.{first_sector, flash_limit, open_slot}
use Rattle.x7_update.specs.Layout.{IsOpen, IsUpdatable, four_at, open_switch}

-- One slot of the first sector is open, with `start` as its word of WBSTAR: the sector is whole and of bytes, and no
-- sync word begins in it but that of the slot.
pub record HasOpenSlot (flash : List ℕ) (slot start : ℕ) : Type 0 where
  pub within : slot < flash_slot_count
  pub stands : take flash_slot_size (drop (flash_slot_size * slot) flash) ≡ open_slot start
  pub alone : (place : ℕ) → place < sector_size → four_at flash place ≡ open_switch → place ≡ flash_slot_size * slot
  pub long : sector_size ≤ length flash
  pub fits : AreBytes (take sector_size flash)

-- a flash, the part that boots from it, its open slot, the slot's start address, which is a word of WBSTAR, and the
-- place in bytes to which the slot leads
pub record OpenFlash : Type 0 where
  pub part : PartData
  pub flash : List ℕ
  pub slot : ℕ
  pub start : ℕ
  pub place : ℕ

-- the flash has this slot open, whose start address fits a word and leads to this place
pub record IsOpenFlash (o : OpenFlash) : Type 0 where
  pub has : HasOpenSlot o.flash o.slot o.start
  pub small : o.start < 2 ^ 32
  pub leads : start_address o.part.start_unit o.start ≡ o.place

-- ---- an image

-- a flash begins with the first sector of an image for the part, whatever follows: the sector leads to this place, a
-- multiple of `sector_size` and at most `flash_limit`
pub record BeginsAsImage (part : PartData) (flash : List ℕ) (place : ℕ) : Type 0 where
  pub more : List ℕ
  pub begins : flash ≡ first_sector (place / part.start_unit) ++ more
  pub whole : place % sector_size ≡ 0
  pub within : place ≤ flash_limit

-- of a flash that begins as an image does: its first slot as the open one, which leads to this place
abbrev pub image_of_flash : PartData → List ℕ → ℕ → OpenFlash
image_of_flash part flash place = record { part = part; flash = flash; slot = 0; start = place / part.start_unit; place = place }

-- ---- a flash that can be updated

-- a flash for a part whose start address counts bytes, and one of its slots, which leads to this place
abbrev pub slot_of_flash : PartData → List ℕ → ℕ → ℕ → OpenFlash
slot_of_flash part flash slot place = record { part = part; flash = flash; slot = slot; start = place; place = place }

-- A flash can be updated, for a part whose start address counts bytes, its first sector is bytes, and this slot of it
-- is open.
pub record HasUpdatableSlot (part : PartData) (flash : List ℕ) (slot : ℕ) : Type 0 where
  pub unit : part.start_unit ≡ 1
  pub updatable : IsUpdatable flash
  pub fits : AreBytes (take sector_size flash)
  pub within : slot < flash_slot_count
  pub is_open : IsOpen flash slot
