-- The frames of a memory: one for each address of its part, in number order (UG470, frame data; this order is this
-- project's choice).
use Rattle.std.specs.Prelude.{◌≡◌, ℕ, List, [], ◌∷◌, length, replicate, All, Some, None, if◌then◌else◌, ◌==◌, ◌&&◌, Bool, true}
use Rattle.x7_part.specs.Part.{PartData, frame_words}
use Rattle.x7_part.specs.AddressOrder.{addresses_in, Rises}
use Rattle.x7_words.specs.Word.{AreWords}
use Rattle.x7_memory.specs.FrameMap.{FrameMap}

-- of frames that go with addresses one by one, the first whose address is `far`; `None` where none of the addresses is
-- `far`
unfoldable pub frame_among : List ℕ → List (List ℕ) → FrameMap
frame_among (a ∷ rest) (words ∷ frames) far = if far == a then Some words else frame_among rest frames far
frame_among _ _ far = None

-- the memory of a part as a map from its addresses to frames
abbrev pub frame_at : PartData → List (List ℕ) → FrameMap
frame_at part frames = frame_among (addresses_in part) frames

-- the frames are those of the part: one for each of its addresses, which rise, of the part's width, and with words of
-- 32 bits
pub record AreFramesOf (part : PartData) (frames : List (List ℕ)) : Type 0 where
  pub order : Rises 0 (addresses_in part)
  pub count : length frames ≡ length (addresses_in part)
  pub width : All (λ words. length words ≡ frame_words part) frames
  pub words : All AreWords frames

-- the frames of the part, all zeros
abbrev pub zero_frames : PartData → List (List ℕ)
zero_frames part = replicate (length (addresses_in part)) (replicate (frame_words part) 0)

-- the map of the part's frames, all zeros
abbrev pub zeros : PartData → FrameMap
zeros part = frame_at part (zero_frames part)

-- all words are 0
abbrev pub are_zeros : List ℕ → Bool
are_zeros [] = true
are_zeros (w ∷ words) = w == 0 && are_zeros words
