-- What the bytes and marks of a text that is being read stand for (this project's choice).
use Rattle.std.specs.Prelude.{◌≡◌, ℕ, ◌+◌, ◌*◌, ◌/◌, ◌%◌, ◌==◌, ◌-◌, ◌&&◌, ◌<◌, ◌≤◌, nat_le, nat_lt, max, Bool, true, false, if◌then◌else◌, List, length, get_or}
use Rattle.std.specs.Int.{bit_at}
use Rattle.x7_words.specs.Flash.{erased_byte}
use Rattle.x7_mcs.specs.DataRecords.{byte_at, covered, extent, DataRecord}

-- how many places a mark is for
abbrev pub places_per_mark : ℕ
places_per_mark = 16

-- whether a place is marked; a mark has its first place in bit 0
abbrev pub is_marked : List ℕ → ℕ → Bool
is_marked marks p = bit_at (get_or marks (p / places_per_mark) 0) (p % places_per_mark) == 1

-- no place from `from` up to the one before `to` is marked
abbrev pub AreFree : List ℕ → ℕ → ℕ → Type 0
AreFree marks from to = (k : ℕ) → from ≤ k → k < to → is_marked marks k ≡ false

-- the places from `from` up to the one before `to` are marked, and each other place is marked where it was before
abbrev pub AreMarked : List ℕ → ℕ → ℕ → List ℕ → Type 0
AreMarked old from to new = (p : ℕ) → is_marked new p ≡ (if nat_le from p && nat_lt p to then true else is_marked old p)

-- `q` is the least marked place of those from `from` up to the one before `to`
pub record IsFirstMarked (marks : List ℕ) (from to q : ℕ) : Type 0 where
  pub since : from ≤ q
  pub within : q < to
  pub marked : is_marked marks q ≡ true
  pub before : AreFree marks from q

-- the new marks have one for each place before `end`: the old ones, and after them empty ones
abbrev pub HasMarksUpTo : ℕ → List ℕ → List ℕ → Type 0
HasMarksUpTo end old new = (end ≤ places_per_mark * length new) × ((k : ℕ) → get_or new k 0 ≡ get_or old k 0)

-- the new bytes are the old ones, and after them FF up to n bytes where these are fewer
abbrev pub IsGrownTo : ℕ → List ℕ → List ℕ → Type 0
IsGrownTo n old new = (length new ≡ max (length old) n) × ((p : ℕ) → get_or new p erased_byte ≡ get_or old p erased_byte)

-- the byte at p after a content is written from a place on over the old bytes; FF where neither has one
abbrev pub written_byte : ℕ → List ℕ → List ℕ → ℕ → ℕ
written_byte place content old p = if nat_le place p && nat_lt p (place + length content) then get_or content (p - place) erased_byte else get_or old p erased_byte

-- bytes are written from a place on, after FF where the old ones end before it
pub record IsWrittenFrom (place : ℕ) (content old new : List ℕ) : Type 0 where
  pub long : length new ≡ max (length old) (place + length content)
  pub at : (p : ℕ) → get_or new p erased_byte ≡ written_byte place content old p

-- what bytes and marks stand for: place by place, the records' bytes and whether a record covers it
pub record HoldsRecords (records : List DataRecord) (bytes marks : List ℕ) : Type 0 where
  pub long : length bytes ≡ extent records
  pub at : (p : ℕ) → get_or bytes p erased_byte ≡ byte_at records p
  pub marked : (p : ℕ) → is_marked marks p ≡ covered records p
