-- The shift register that computes the running check, a bit at a time (UG470, cyclic redundancy check; the polynomial
-- is this project's choice).
use Rattle.std.specs.Prelude.{ℕ, zero, suc, ◌*◌, ◌/◌, ◌%◌, bit_xor}

-- the polynomial of the check without x^32, its 32 coefficients in the other order: that of x^31 is the lowest bit
abbrev pub mirrored_generator : ℕ
mirrored_generator = 0x82F63B78

-- the shift register after `n` bits of 0
unfoldable pub advanced : ℕ → ℕ → ℕ
advanced zero v = v
advanced (suc n) v = advanced n (bit_xor (v / 2) (v % 2 * mirrored_generator))
