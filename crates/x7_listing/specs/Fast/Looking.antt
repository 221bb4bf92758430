-- Whole lines at the beginning of a text that are read at once, and where a `data` line has its digits (this project's
-- choice).
use Rattle.std.specs.Prelude.{◌≡◌, ◌==◌, Bool, not, ℕ, zero, suc, ◌+◌, ◌≤◌, List, [], ◌∷◌, Option, MatchOption, Vec, drop, length, take, vec_len}
use Rattle.std.specs.declared.alloc.Global.{Global}
use Rattle.x7_text.specs.Appends.{HasSpareRoom}
use Rattle.x7_text.specs.Reads.{StaysWithin}
use Rattle.x7_text.specs.Row.{bytes_row_size}
use Rattle.x7_listing.specs.Assembling.{AppendsFirstLines, AppendsLines}
use Rattle.x7_listing.specs.Assembly.{asm_limit}
use Rattle.x7_listing.specs.declared.asm.fast.quick.WholeLines.{WholeLines}

-- two bytes differ
abbrev pub bytes_differ : ℕ → ℕ → Bool
bytes_differ a b = not (a == b)

-- what stands where a `data` line has the digits of its words: eight bytes for each of them, the first word's just
-- after place p, each further one's nine bytes on
abbrev pub words_in_row : List ℕ → ℕ → ℕ → List (List ℕ)
words_in_row text p zero = []
words_in_row text p (suc n) = take 8 (drop (p + 1) text) ∷ words_in_row text (p + 9) n

-- what was found at the beginning of a text: whole lines, whose bytes, 32 at most, were appended; or none, and then
-- nothing was appended. Either way no room was lost
pub record AppendsFoundLines (text : List ℕ) (old new : Vec ℕ Global) (found : Option WholeLines) : Type 0 where
  pub takes : MatchOption found (new.items ≡ old.items) (λ taken. AppendsFirstLines text old.items new.items taken.size taken.count)
  pub room : StaysWithin old new bytes_row_size

-- the first lines of a text were read at once and their bytes appended: these pass the limit only where those before
-- do, and where there was room for a line's bytes there is room for the next line's
pub record ReadsAtOnce (text : List ℕ) (old new : Vec ℕ Global) (taken : WholeLines) : Type 0 where
  pub takes : AppendsLines text (drop taken.size text) old.items new.items taken.count
  pub within : taken.size ≤ length text
  pub counted : taken.count ≤ taken.size
  pub limit : vec_len old ≤ asm_limit → vec_len new ≤ asm_limit
  pub room : HasSpareRoom old bytes_row_size → HasSpareRoom new bytes_row_size
