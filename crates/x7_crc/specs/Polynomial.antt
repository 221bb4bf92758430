-- Polynomials over the field of two elements, as numbers: bit i of the number is the coefficient of x^i. So the sum of
-- two is `bit_xor`, and a polynomial times x^n is its number times 2^n (this project's choice).
use Rattle.std.specs.Prelude.{◌≡◌, ℕ, zero, suc, ◌+◌, ◌*◌, ◌/◌, ◌%◌, ◌^◌, ◌<◌, Bool, List, [], ◌∷◌, length, bit_xor, nat_lt, if◌then◌else◌}

-- the coefficient that a bit stands for
abbrev pub coefficient : Bool → ℕ
coefficient b = if b then 1 else 0

-- the polynomial of a list of coefficients, the highest first
abbrev pub from_highest : List Bool → ℕ
from_highest [] = 0
from_highest (b ∷ bs) = coefficient b * 2 ^ length bs + from_highest bs

-- the product of two polynomials, the first given by its coefficients from the lowest
abbrev pub product : List Bool → ℕ → ℕ
product [] p = 0
product (b ∷ bs) p = bit_xor (coefficient b * p) (2 * product bs p)

-- `rest` is the remainder of the polynomial `whole` by a divisor of this degree: its own degree is below that
pub record IsRemainder (whole divisor degree rest : ℕ) : Type 0 where
  pub quotient : List Bool
  pub exact : whole ≡ bit_xor (product quotient divisor) rest
  pub below : rest < 2 ^ degree

-- the remainder of a polynomial of degree below `degree` + `n`, by long division: from the highest place down, the
-- divisor is taken away where the coefficient is 1
unfoldable pub remainder : ℕ → ℕ → ℕ → ℕ → ℕ
remainder divisor degree zero whole = whole
remainder divisor degree (suc n) whole =
    remainder divisor degree n (if nat_lt whole (2 ^ (degree + n)) then whole else bit_xor (divisor * 2 ^ n) whole)

-- the `n` lowest bits of a number in the other order: bit i becomes bit n - 1 - i
unfoldable pub mirrored : ℕ → ℕ → ℕ
mirrored zero v = 0
mirrored (suc n) v = v % 2 * 2 ^ n + mirrored n (v / 2)
