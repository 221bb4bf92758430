-- Words read out of a device: gathered up to a number, or dropped (this project's choice).
use Rattle.std.specs.Prelude.{◌≡◌, ◌≤◌, ◌+◌, ℕ, List, [], ◌∷◌, ◌++◌, length, Option, None, Some, vec_len, vec_capacity}
use Rattle.x7_engine.specs.declared.read_buffer.Room.{Room}
use Rattle.x7_engine.specs.declared.read_buffer.Room.TheVariants as room

-- the most words that a buffer holds (no number where it drops each word), and the words that it holds
pub record ReadBufState : Type 0 where
  pub most : Option ℕ
  pub words : List ℕ

-- a buffer that has room for no word
abbrev pub no_room : ReadBufState
no_room = record { most = Some 0; words = [] }

-- a buffer that drops each word
abbrev pub dropping : ReadBufState
dropping = record { most = None; words = [] }

-- the words of a buffer after more of them, which one that drops each word doesn't get
abbrev pub gathered : Option ℕ → List ℕ → List ℕ → List ℕ
gathered None words more = words
gathered (Some most) words more = words ++ more

-- a buffer after more words
abbrev pub with_words : ReadBufState → List ℕ → ReadBufState
with_words b more = record { most = b.most; words = gathered b.most b.words more }

-- a buffer has room for `count` words in all: a gathering one for no more than its most, and a dropping one always
abbrev pub HasRoomBy : Option ℕ → ℕ → Type 0
HasRoomBy None count = Unit {0}
HasRoomBy (Some most) count = count ≤ most

-- a buffer has room for these words beside those that it holds
abbrev pub HasRoomForWords : ReadBufState → List ℕ → Type 0
HasRoomForWords b more = HasRoomBy b.most (length b.words + length more)

-- a gathering buffer that holds `count` words has room for no word more; a dropping one always has room
abbrev pub IsFullBy : Option ℕ → ℕ → Type 0
IsFullBy None count = ⊥
IsFullBy (Some most) count = count ≡ most

-- a buffer has room for no word more
abbrev pub IsFull : ReadBufState → Type 0
IsFull b = IsFullBy b.most (length b.words)

-- a gathering buffer holds no more words than its most, and a dropping one none
abbrev pub HoldsWithinMost : Option ℕ → List ℕ → Type 0
HoldsWithinMost None words = words ≡ []
HoldsWithinMost (Some most) words = length words ≤ most

-- the words that a buffer holds: none where it drops each or has room for none, and else the one in place or those of
-- its vector
abbrev pub words_in : Room → List ℕ
words_in room.Nothing = []
words_in room.Full = []
words_in (room.One None) = []
words_in (room.One (Some word)) = word ∷ []
words_in (room.Many words most) = words.items

-- the most words that a buffer holds, and no number where it drops each
abbrev pub most_in : Room → Option ℕ
most_in room.Nothing = None
most_in room.Full = Some 0
most_in (room.One place) = Some 1
most_in (room.Many words most) = Some most

-- a buffer's words are no more than its most, for which there is memory
abbrev pub HasRoomForMost : Room → Type 0
HasRoomForMost room.Nothing = Unit {0}
HasRoomForMost room.Full = Unit {0}
HasRoomForMost (room.One place) = Unit {0}
HasRoomForMost (room.Many words most) = (vec_len words ≤ most) × (most ≤ vec_capacity words)
