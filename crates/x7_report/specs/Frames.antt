-- The lines of frames, and which frames a report shows (this project's choice).
use Rattle.std.specs.Prelude.{◌≡◌, ℕ, ◌+◌, ◌*◌, not, Bool, false, if◌then◌else◌, Option, None, Some, List, [], ◌∷◌, ◌++◌, codes, decimal, length, nat_lt, slice_index}
use Rattle.std.specs.List.{flat_map}
use Rattle.x7_words.specs.Characters.{space_byte}
use Rattle.x7_part.specs.AddressOrder.{addresses_in}
use Rattle.x7_part.specs.Limits.{most_frame_words}
use Rattle.x7_part.specs.Part.{PartData}
use Rattle.x7_memory.specs.FrameMap.{FrameMap}
use Rattle.x7_memory.specs.PartFrames.{are_zeros, frame_at}
use Rattle.x7_text.specs.Digits.{hex_word}

-- how many bytes the line of a frame with `count` words takes: eight digits a word, and 16 bytes for `frame `, the
-- address, a blank and a line end
abbrev pub frame_line_size : ℕ → ℕ
frame_line_size count = 16 + 8 * count

-- the most bytes that the line of a frame takes
abbrev pub frame_line_room : ℕ
frame_line_room = frame_line_size most_frame_words

-- the most lines of frames that are written at once
abbrev pub lines_at_once : ℕ
lines_at_once = 128

-- the most bytes that the lines written at once take
abbrev pub room_at_once : ℕ
room_at_once = lines_at_once * frame_line_room

-- the line of the frame at the address `far`: `frame `, the address, and the digits of its words
unfoldable pub frame_text : ℕ → List ℕ → List ℕ
frame_text far words = codes "frame " ++ hex_word far ++ space_byte ∷ flat_map hex_word words ++ codes "\n"

-- there is a frame, and it has a word other than 0
abbrev pub has_nonzero_word : Option (List ℕ) → Bool
has_nonzero_word None = false
has_nonzero_word (Some words) = not (are_zeros words)

-- of these addresses those whose frames are shown: the ones with a word other than 0
abbrev pub addresses_shown : FrameMap → List ℕ → List ℕ
addresses_shown memory [] = []
addresses_shown memory (far ∷ fars) = if has_nonzero_word (memory far) then far ∷ addresses_shown memory fars else addresses_shown memory fars

-- the line of the frame at an address, and nothing where there is no frame
abbrev pub frame_text_if : ℕ → Option (List ℕ) → List ℕ
frame_text_if far None = []
frame_text_if far (Some words) = frame_text far words

-- the lines of the frames at these addresses
abbrev pub frame_lines_text : FrameMap → List ℕ → List ℕ
frame_lines_text memory fars = flat_map (λ far. frame_text_if far (memory far)) fars

-- the line of the frame of a rank, of a part's frames, and nothing past the last rank
abbrev pub line_of_rank : PartData → List (List ℕ) → ℕ → List ℕ
line_of_rank part frames rank =
    let far = slice_index (addresses_in part) rank in
    if nat_lt rank (length (addresses_in part)) then frame_text_if far (frame_at part frames far) else []

-- the lines of the frames of these ranks
abbrev pub lines_of_ranks : PartData → List (List ℕ) → List ℕ → List ℕ
lines_of_ranks part frames ranks = flat_map (line_of_rank part frames) ranks

-- these are the ranks of the frames shown at these addresses: so many, and with these lines
pub record AreRanksShown (part : PartData) (frames : List (List ℕ)) (fars ranks : List ℕ) : Type 0 where
  pub count : length ranks ≡ length (addresses_shown (frame_at part frames) fars)
  pub lines : lines_of_ranks part frames ranks ≡ frame_lines_text (frame_at part frames) (addresses_shown (frame_at part frames) fars)

-- the number of the frames shown at these addresses, and their lines in the addresses' order
unfoldable pub frames_text : FrameMap → List ℕ → List ℕ
frames_text memory fars = codes "frames " ++ decimal (length (addresses_shown memory fars)) ++ codes "\n" ++ frame_lines_text memory (addresses_shown memory fars)
