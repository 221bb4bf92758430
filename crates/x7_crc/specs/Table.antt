-- Tables for several bits of the running check at once (this project's choice).
use Rattle.std.specs.Prelude.{ℕ, ◌==◌, ◌+◌, Bool, true, ◌&&◌, List, [], ◌∷◌, length}
use Rattle.x7_crc.specs.Check.{check_after, writes_to}
use Rattle.x7_crc.specs.ShiftRegister.{advanced}

-- the entries, the first of which is for the number `k`, are these numbers as checks after `n` bits of 0
abbrev pub has_advances : ℕ → ℕ → List ℕ → Bool
has_advances n k [] = true
has_advances n k (x ∷ xs) = (x == advanced n k) && has_advances n (k + 1) xs

-- each table has 256 entries, those of the bytes from 0 up: the checks after `n` bits of 0 in the first table, and
-- after eight more in each further one
abbrev pub all_have_advances : ℕ → List (List ℕ) → Bool
all_have_advances n [] = true
all_have_advances n (t ∷ ts) = (length t == 256) && (has_advances n 0 t && all_have_advances (n + 8) ts)

-- the check, from 0 on, of four writes of 0 to a register
abbrev pub check_of_zeros : ℕ → ℕ
check_of_zeros register = check_after 0 (writes_to register (0 ∷ 0 ∷ 0 ∷ 0 ∷ []))
