-- The ranges of a part's numbers (this project's choice).
use Rattle.std.specs.Prelude.{◌≡◌, ◌+◌, ◌*◌, ◌%◌, ◌^◌, ◌<◌, ◌≤◌, length, All}
use Rattle.x7_part.specs.Limits.{first_printed, greatest_bus_width, greatest_mode, last_printed, least_frame_words, most_frame_words, most_name_size, most_rows, most_frames, most_words, IsStartUnit}
use Rattle.x7_part.specs.Part.{PartData, frame_words}
use Rattle.x7_part.specs.Address.{AreRows, AreWidths}
use Rattle.x7_part.specs.AddressOrder.{addresses_in}
use Rattle.x7_part.specs.Slot.{pads_after_row}

-- a name of 1 to 64 printed bytes, an odd idcode of 32 bits, numbers in range, one row at least, rows in number order
-- of which no two are the same, and no more rows, frames and words than a part may have
pub record IsPart (part : PartData) : Type 0 where
  pub named : 1 ≤ length part.name
  pub short : length part.name ≤ most_name_size
  pub printed : All (λ b. (first_printed ≤ b) × (b ≤ last_printed)) part.name
  pub idcode : part.idcode < 2 ^ 32
  pub odd : part.idcode % 2 ≡ 1
  pub mode : part.mode ≤ greatest_mode
  pub bus_width : part.bus_width ≤ greatest_bus_width
  pub lock : part.lock < 2 ^ 16
  pub matched : part.matched < 2 ^ 16
  pub words : (least_frame_words ≤ part.frame_words) × (part.frame_words ≤ most_frame_words)
  pub field_widths : AreWidths part.field_widths
  pub start_unit : IsStartUnit part.start_unit
  pub some : 1 ≤ length part.rows
  pub few : length part.rows ≤ most_rows
  pub rows : AreRows part.field_widths 0 part.rows
  pub frames : length (addresses_in part) ≤ most_frames
  pub slots : frame_words part * (length (addresses_in part) + pads_after_row * length part.rows) ≤ most_words
