-- Where the slots from a base on stand among all of a part (this project's choice).
use Rattle.std.specs.Prelude.{◌≡◌, ℕ, ◌+◌, ◌^◌, ◌<◌, slice_index_or}
use Rattle.x7_part.specs.Part.{PartData}
use Rattle.x7_part.specs.Slot.{slots_in, slots_from}
use Rattle.x7_part.specs.declared.slot.Slot.TheVariants.{End}

-- `place` slots of the part, fewer than 2^63, stand before those from the base on
pub record StartsAt (part : PartData) (base place : ℕ) : Type 0 where
  pub fits : place < 2 ^ 63
  pub same : (n : ℕ) → slice_index_or (slots_in part) (place + n) End ≡ slice_index_or (slots_from part base) n End
