-- A memory as its fields hold it (this project's choice).
use Rattle.std.specs.Prelude.{◌≡◌, ℕ, zero, suc, ◌+◌, ◌*◌, ◌≤◌, ◌<◌, List, length, map, take, drop, replicate, slice_index_or, vec_capacity}
use Rattle.std.specs.List.{sum_by}
use Rattle.x7_part.specs.Limits.{most_frame_words, most_frames}
use Rattle.x7_memory.specs.declared.memory.Memory.TheInside.{Inside}

-- the frame with a number, from 0, among frames of `width` words that are stored one after another
abbrev pub stored_frame : ℕ → List ℕ → ℕ → List ℕ
stored_frame width words number = take width (drop (width * number) words)

-- the frames of a memory, one for each rank
abbrev pub frames_seen : Inside → List (List ℕ)
frames_seen m = map (stored_frame m.width m.words.items) m.numbers.items

-- how many frames are stored for a rank alone, by the number of its frame: none where that is 0, that of the zeros
abbrev pub own_frame_count : ℕ → ℕ
own_frame_count zero = 0
own_frame_count (suc number) = 1

-- no two ranks have a stored frame of one number, save 0, that of the zeros
abbrev pub AreDistinct : List ℕ → Type 0
AreDistinct numbers =
    (i j : ℕ) → i < length numbers → j < length numbers → 0 < slice_index_or numbers i 0 → slice_index_or numbers i 0 ≡ slice_index_or numbers j 0 → i ≡ j

-- a memory's fields: there is room for a frame of each rank and for the zeros, which stand first; each rank has a frame
-- that is stored, the zeros or one of its own, and no others are stored
pub record StoresFrames (m : Inside) : Type 0 where
  pub some : 0 < m.width
  pub narrow : m.width ≤ most_frame_words
  pub ranks : length m.numbers.items ≤ most_frames
  pub room : m.width * (length m.numbers.items + 1) ≤ vec_capacity m.words
  pub whole : length m.words.items ≡ m.width * m.stored_count
  pub zeros : stored_frame m.width m.words.items 0 ≡ replicate m.width 0
  pub used : m.stored_count ≡ 1 + sum_by own_frame_count m.numbers.items
  pub below : (i : ℕ) → i < length m.numbers.items → slice_index_or m.numbers.items i 0 < m.stored_count
  pub apart : AreDistinct m.numbers.items
