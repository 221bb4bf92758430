-- Text that is appended where room was made before (this project's choice).
use Rattle.std.specs.Prelude.{◌≡◌, ℕ, ◌+◌, ◌≤◌, List, ◌++◌, vec_len, vec_capacity}
use Rattle.std.specs.Prelude.{Vec}
use Rattle.std.specs.declared.alloc.Global.{Global}

-- a text has spare room for this many bytes more
abbrev pub HasSpareRoom : Vec ℕ Global → ℕ → Type 0
HasSpareRoom text more = vec_len text + more ≤ vec_capacity text

-- the bytes stand after what was there; the text grew by at most `most` bytes, and lost no room
pub record Appends (old new : Vec ℕ Global) (bytes : List ℕ) (most : ℕ) : Type 0 where
  pub items : new.items ≡ old.items ++ bytes
  pub within : vec_len new ≤ vec_len old + most
  pub room : vec_capacity old ≤ vec_capacity new
