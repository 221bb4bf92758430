-- The sync word in a list of bytes (UG470, sync word). It is found at any byte place (this project's choice).
use Rattle.std.specs.Prelude.{◌≡◌, ℕ, List, [], ◌∷◌, ◌++◌}

-- the four bytes of the sync word, AA995566
abbrev pub sync_bytes : List ℕ
sync_bytes = 0xAA ∷ 0x99 ∷ 0x55 ∷ 0x66 ∷ []

-- the list ends with the sync word
abbrev pub EndsWithSync : List ℕ → Type 0
EndsWithSync bytes = (prefix : List ℕ) × (bytes ≡ prefix ++ sync_bytes)

-- the sync word stands nowhere in the bytes
pub record HasNoSync (bytes : List ℕ) : Type 0 where
  pub none : (prefix suffix : List ℕ) → bytes ≡ prefix ++ sync_bytes ++ suffix → ⊥

-- in these bytes and the sync word after them, the sync word stands only at the end
pub record IsBeforeSync (gap : List ℕ) : Type 0 where
  pub first : (prefix suffix : List ℕ) → gap ++ sync_bytes ≡ prefix ++ sync_bytes ++ suffix → suffix ≡ []
