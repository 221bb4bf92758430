-- The calls of an update, as a list: each of them, in its order, with the answer that it has where all goes well (this
-- project's choice).
use Rattle.std.specs.Prelude.{ℕ, zero, suc, ◌+◌, ◌-◌, ◌*◌, ◌/◌, ◌≤◌, List, [], ◌∷◌, ◌++◌, Option, None, Some, if◌then◌else◌, length, replicate, slice_range, bytes_eq}
use Rattle.x7_words.specs.Flash.{erased_byte, sector_size, sector_place}
use Rattle.x7_packets.specs.FlashSlot.{flash_slot_size, flash_slot_count}
use Rattle.x7_update.specs.Layout.{HasSlots, IsUpdatableSize, free_switch, open_switch, spent_switch, switch_of, update_place}
use Rattle.x7_words.specs.declared.flash_call.FlashCall.{FlashCall}
use Rattle.x7_words.specs.declared.flash_call.FlashCall.TheVariants.{Read, Erased, Programmed}
use Rattle.x7_update.specs.declared.slots.UpdateTarget.{UpdateTarget}

-- the last open slot of the first `count`, or none
unfoldable pub open_among : ℕ → List ℕ → Option ℕ
open_among zero flash = None
open_among (suc count) flash = if bytes_eq (switch_of flash count) open_switch then Some count else open_among count flash

-- the first slot from which on all up to `count` are free
unfoldable pub free_from : ℕ → List ℕ → ℕ
free_from zero flash = zero
free_from (suc count) flash = if bytes_eq (switch_of flash count) free_switch then free_from count flash else suc count

-- where an update goes, by the first sector
abbrev pub target_in : List ℕ → UpdateTarget
target_in first_sector = record {
  place = update_place first_sector;
  slots = record { open_slot = open_among flash_slot_count first_sector; next = free_from flash_slot_count first_sector };
}

-- the open slot is spent, where there is one
abbrev pub spending : Option ℕ → List FlashCall
spending None = []
spending (Some slot) = Programmed (flash_slot_size * slot) spent_switch ∷ []

-- this many sectors are erased, from the sector of this number on
abbrev pub erasing : ℕ → ℕ → List FlashCall
erasing sector zero = []
erasing sector (suc count) = Erased sector ∷ erasing (suc sector) count

-- the stream with FF after it, as many bytes as these
abbrev pub padded : List ℕ → ℕ → List ℕ
padded stream count = stream ++ replicate (count - length stream) erased_byte

-- this many sectors are read, from the sector of this number on, and hold what an update with a stream at a place of a
-- flash of a size leaves
abbrev pub reading : ℕ → List ℕ → ℕ → ℕ → ℕ → List FlashCall
reading size stream place sector zero = []
reading size stream place sector (suc count) =
    Read (sector_place sector) (slice_range (padded stream (size - place)) (sector_place sector - place) (sector_place sector - place + sector_size))
    ∷ reading size stream place (suc sector) count

-- how many sectors are from a place on up to a size
abbrev pub sectors_from : ℕ → ℕ → ℕ
sectors_from place size = size / sector_size - place / sector_size

-- the next slot is opened, and its switch word is read
abbrev pub opening : ℕ → List FlashCall
opening slot = Programmed (flash_slot_size * slot) open_switch ∷ Read (flash_slot_size * slot) open_switch ∷ []

-- all from a place on of a flash of a size is erased
abbrev pub erasing_from : ℕ → ℕ → List FlashCall
erasing_from size place = erasing (place / sector_size) (sectors_from place size)

-- all from a place on of a flash of a size is read, and holds what an update with a stream at that place leaves
abbrev pub reading_from : ℕ → List ℕ → ℕ → List FlashCall
reading_from size stream place = reading size stream place (place / sector_size) (sectors_from place size)

-- the stream is written at its place, where all from there on is erased before
abbrev pub writing : ℕ → List ℕ → ℕ → List FlashCall
writing size stream place = erasing_from size place ++ Programmed place stream ∷ []

-- the calls up to the last write of the stream
abbrev pub replacing : ℕ → List ℕ → UpdateTarget → List FlashCall
replacing size stream target = spending target.slots.open_slot ++ writing size stream target.place

-- the reads that verify the stream
abbrev pub verifying : ℕ → List ℕ → UpdateTarget → List FlashCall
verifying size stream target = reading_from size stream target.place

-- the reads that verify the stream, and the next slot is opened
abbrev pub finishing : ℕ → List ℕ → UpdateTarget → List FlashCall
finishing size stream target = verifying size stream target ++ opening target.slots.next

-- the calls before the next slot is opened
abbrev pub calls_to_open : ℕ → List ℕ → List ℕ → UpdateTarget → List FlashCall
calls_to_open size first_sector stream target = Read 0 first_sector ∷ replacing size stream target ++ verifying size stream target

-- the calls of an update with a stream after the read of the first sector, by where it goes
abbrev pub calls_after : ℕ → List ℕ → UpdateTarget → List FlashCall
calls_after size stream target = (replacing size stream target ++ verifying size stream target) ++ opening target.slots.next

-- the calls of an update with a stream, by where it goes
abbrev pub calls_to : ℕ → List ℕ → List ℕ → UpdateTarget → List FlashCall
calls_to size first_sector stream target = Read 0 first_sector ∷ calls_after size stream target

-- the calls of an update with a stream of a flash of a size with this first sector
abbrev pub update_calls : ℕ → List ℕ → List ℕ → List FlashCall
update_calls size first_sector stream = calls_to size first_sector stream (target_in first_sector)

-- a flash of a size whose first sector is this one has slots as the layout has them, and room for a stream where they
-- lead
pub record HasRoom (size : ℕ) (first_sector stream : List ℕ) : Type 0 where
  pub sized : IsUpdatableSize size
  pub has : HasSlots size first_sector
  pub fits : update_place first_sector + length stream ≤ size
