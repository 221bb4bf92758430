-- Readers that append what a text stands for, exactly where it stands for something (this project's choice).
use Rattle.std.specs.Prelude.{◌≡◌, ℕ, ◌+◌, ◌≤◌, Bool, true, false, List, ◌++◌, vec_len, vec_capacity, Vec}
use Rattle.std.specs.declared.alloc.Global.{Global}

-- what is read: values that fit, the text of each, and the bytes that it stands for
module _ {A : Type 0} (fits : A → Type 0) (text bytes : A → List ℕ) where
  -- `true`: the text is that of some x that fits, whose bytes were appended; `false`: it is that of none, and nothing
  -- was appended
  abbrev pub AppendsIfRead : Bool → List ℕ → List ℕ → List ℕ → Type 0
  AppendsIfRead true t old new = (x : A) × fits x × (t ≡ text x) × (new ≡ old ++ bytes x)
  AppendsIfRead false t old new = ((x : A) → fits x → t ≡ text x → ⊥) × (new ≡ old)

-- a text grew by at most `most` bytes, and lost no room
pub record StaysWithin (old new : Vec ℕ Global) (most : ℕ) : Type 0 where
  pub within : vec_len new ≤ vec_len old + most
  pub room : vec_capacity old ≤ vec_capacity new
