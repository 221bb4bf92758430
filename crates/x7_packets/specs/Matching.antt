-- What a matcher stands for: the bytes that it took (this project's choice: a search at every byte place).
use Rattle.std.specs.Prelude.{◌≡◌, ℕ, ◌<◌, List, [], ◌∷◌, ◌++◌, Option, None, Some, take}
use Rattle.memchr.specs.Find.{OccursAt}
use Rattle.x7_packets.specs.SyncWord.{HasNoSync, IsBeforeSync, sync_bytes}

-- the last three bytes that a matcher took, the oldest first
pub record LastThree : Type 0 where
  pub first : ℕ
  pub second : ℕ
  pub third : ℕ

-- the last three bytes are 0: none of them may begin a sync word
abbrev pub IsClear : LastThree → Type 0
IsClear m = (m.first ≡ 0) × (m.second ≡ 0) × (m.third ≡ 0)

-- the matcher took these bytes since it was made or last found the sync word: it has the last three, 0 for each that
-- isn't there
pub record MatcherStandsFor (m : LastThree) (bytes : List ℕ) : Type 0 where
  pub before : List ℕ
  pub last : 0 ∷ 0 ∷ 0 ∷ bytes ≡ before ++ m.first ∷ m.second ∷ m.third ∷ []

-- the outcome of a search through bytes after a gap: no sync word stands in the gap and these bytes, and the matcher
-- took them all, or the first one ends after the first n of the bytes
abbrev pub IsSearchOutcome : List ℕ → List ℕ → Option ℕ → LastThree → Type 0
IsSearchOutcome gap bytes None m = HasNoSync (gap ++ bytes) × MatcherStandsFor m (gap ++ bytes)
IsSearchOutcome gap bytes (Some n) m = (prefix : List ℕ) × (gap ++ take n bytes ≡ prefix ++ sync_bytes) × IsBeforeSync prefix

-- how many bytes the sync words at 32 places, one after the other, reach over: 32 and three more
abbrev pub places_reach : ℕ
places_reach = 35

-- the sync word begins at byte `at` of the bytes, from 0, and at none before it
pub record IsFirstSync (bytes : List ℕ) (at : ℕ) : Type 0 where
  pub here : OccursAt bytes sync_bytes at
  pub first : (k : ℕ) → k < at → OccursAt bytes sync_bytes k → ⊥
