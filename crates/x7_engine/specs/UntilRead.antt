-- Feeding up to the byte with which a word is read out for which a buffer has no room (this project's choice).
use Rattle.std.specs.Prelude.{◌≡◌, ℕ, ◌<◌, ◌++◌, List, take}
use Rattle.x7_engine.specs.Past.{Past, later, reads_at}
use Rattle.x7_engine.specs.ReadBuffer.{HasRoomForWords, ReadBufState}

-- the words read out after fewer than `count` bytes of a piece are those given before, and words for which the buffer
-- has room
abbrev pub RoomBefore : Past → List ℕ → ℕ → List ℕ → ReadBufState → Type 0
RoomBefore p piece count given read = (k : ℕ) → k < count → (words : List ℕ) × (reads_at (later p (take k piece)) ≡ given ++ words) × HasRoomForWords read words
