-- Memories with frames at a part's addresses alone (this project's choice).
use Rattle.std.specs.Prelude.{◌≡◌, ℕ, List, length, Contains, None, Some}
use Rattle.x7_part.specs.AddressOrder.{addresses_in}
use Rattle.x7_part.specs.Part.{PartData, frame_words}
use Rattle.x7_memory.specs.FrameMap.{FrameMap}

-- the memory has no frame at an address that the part lacks, and each frame that it has, has as many words as the
-- part's frames
pub record HasOnlyFramesOf (part : PartData) (memory : FrameMap) : Type 0 where
  pub inside : (far : ℕ) → ¬ Contains (addresses_in part) far → memory far ≡ None
  pub wide : (far : ℕ) (words : List ℕ) → memory far ≡ Some words → length words ≡ frame_words part
