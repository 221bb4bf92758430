-- Readback: the endless list of words from a base (UG470, frame data output register and readback; that the two pads of
-- a row are read as frames of zeros, and that zeros follow the last slot, is this project's choice).
use Rattle.std.specs.Prelude.{ℕ, ◌+◌, ◌*◌, ◌/◌, ◌%◌, min, List, ◌∷◌, length, slice_index, slice_index_or, Option, Some, None}
use Rattle.x7_part.specs.Part.{PartData, frame_words}
use Rattle.x7_part.specs.declared.slot.Slot.{Slot}
use Rattle.x7_part.specs.declared.slot.Slot.TheVariants.{Frame, Pad, End}
use Rattle.x7_memory.specs.FrameMap.{FrameMap}
use Rattle.x7_part.specs.Slot.{slots_from}

-- word `i`, from 0, of a frame, and 0 where there is no frame
abbrev pub word_in_frame : Option (List ℕ) → ℕ → ℕ
word_in_frame (Some words) i = slice_index words i
word_in_frame None i = 0

-- word `i`, from 0, of the frame at a slot: 0 at a pad, past the last slot and where the memory has no frame
abbrev pub word_at : Slot → FrameMap → ℕ → ℕ
word_at (Frame far) memory i = word_in_frame (memory far) i
word_at Pad memory i = 0
word_at End memory i = 0

-- the slot of a place, from 0, of the endless list: one pad frame, the slots from the base on, and then `End`
unfoldable pub read_slot : PartData → ℕ → ℕ → Slot
read_slot part base place = slice_index_or (Pad ∷ slots_from part base) (place / frame_words part) End

-- the word at a place, from 0, of the endless list
unfoldable pub readback_at : PartData → ℕ → FrameMap → ℕ → ℕ
readback_at part base memory place = word_at (read_slot part base place) memory (place % frame_words part)

-- the place, among the words that a readback from the base gives, from which on they are zeros alone
unfoldable pub readback_end : PartData → ℕ → ℕ
readback_end part base = frame_words part * (1 + length (slots_from part base))

-- the count of words that a readback gave, as it is stored: at most `readback_end`, from which on all words are 0
abbrev pub given_stored : PartData → ℕ → ℕ → ℕ
given_stored part base given = min given (readback_end part base)
