-- The shift register divides: after some bits it holds the remainder.
use Rattle.std.proofs.Common.{◌≡◌, ◌==◌, ℕ, zero, suc, ◌+◌, ◌*◌, ◌/◌, ◌%◌, ◌^◌, ◌<◌, Bool, List, [], ◌∷◌, ◌++◌, length, bit_xor, refl, sym, ap, ◌∙◌, arith, lit<, inl, inr, ◌⊎◌}
use Rattle.std.proofs.Math.Nat.{pow-suc, add-zero, zero-add, mul-one, zero-mul, mul_comm, mul_assoc}
use Rattle.std.specs.Int.Bits.{xor_assoc, xor_self, xor_zero_l, xor_zero_r}
use Rattle.std.proofs.lemmas.Nat.{pow-add, pow_pos, mul-add-lt, xor_comm, xor_shr, xor_mod, xor_block, xor_lt}
use Rattle.x7_crc.specs.Polynomial.{coefficient, from_highest, product, IsRemainder, mirrored, remainder}
use Rattle.x7_crc.specs.Check.{generator, low_bits, dividend}
use Rattle.x7_crc.specs.ShiftRegister.{advanced, mirrored_generator}
use Rattle.x7_crc.proofs.PolynomialLemmas.{digit_cases, digit_lt, from_highest_lt, mirrored_twice, mirrored_double, mirrored_lt, mirrored_xor, one_remainder, remainder_is, xor_above, xor_double, xor_shl, xor_swap}

-- the shift register after one more bit
abbrev pub shifted_one : ℕ → Bool → ℕ
shifted_one v b = bit_xor (v / 2) (bit_xor (v % 2) (coefficient b) * mirrored_generator)

-- the shift register after a list of bits, the first taken first
abbrev pub shifted_all : ℕ → List Bool → ℕ
shifted_all v [] = v
shifted_all v (b ∷ bs) = shifted_all (shifted_one v b) bs

-- whether a coefficient is 1
abbrev pub is_one : ℕ → Bool
is_one d = d == 1

pub digit_is_one : (d : ℕ) → d < 2 → coefficient (is_one d) ≡ d
digit_is_one d h =
    let cases : (d ≡ 0) ⊎ (d ≡ 1) = digit_cases d h in
    elim cases [ inl e ↦ rw e refl | inr e ↦ rw e refl ]

pub generator_parts : (d m : ℕ) → d < 2 → m < 2 ^ 32 →
    bit_xor (d * generator) (bit_xor m (mirrored 32 (d * 0x82F63B78))) ≡ d * 2 ^ 32 + m
unfolding mirrored
generator_parts d m h hm =
    elim (digit_cases d h) [
      | inl e ↦ rw e (xor_zero_l (bit_xor m 0) ∙ xor_zero_r m ∙ sym (zero-add m))
      | inr e ↦ rw e (ap (λ x. bit_xor generator x) (xor_comm m 0x1EDC6F41)
          ∙ sym (xor_assoc generator 0x1EDC6F41 m) ∙ xor_above 32 1 m hm)
    ]

-- twice the check's polynomial, and the new bit, is a multiple of the generator and the next check
pub step_divides : (v : ℕ) (b : Bool) → v < 2 ^ 32 →
    bit_xor (2 * mirrored 32 v) (coefficient b * 2 ^ 32)
    ≡ bit_xor (coefficient (is_one (bit_xor (v % 2) (coefficient b))) * generator) (mirrored 32 (shifted_one v b))
step_divides v b h =
    let d = bit_xor (v % 2) (coefficient b) in
    let small : d < 2 = xor_lt 1 (v % 2) (coefficient b) (omega arith) (digit_lt b) in
    let m = mirrored 32 (v / 2) in
    let hm : m < 2 ^ 32 = mirrored_lt 32 (v / 2) in
    let first : bit_xor (v % 2 * 2 ^ 32 + m) (coefficient b * 2 ^ 32 + 0) ≡ d * 2 ^ 32 + bit_xor m 0 =
    xor_block 32 (v % 2) (coefficient b) m 0 hm (lit< tt) in
    let left : bit_xor (2 * mirrored 32 v) (coefficient b * 2 ^ 32) ≡ d * 2 ^ 32 + m =
    ap (λ x. bit_xor x (coefficient b * 2 ^ 32)) (mirrored_double 32 v h)
    ∙ ap (λ x. bit_xor (v % 2 * 2 ^ 32 + m) x) (sym (add-zero (coefficient b * 2 ^ 32)))
    ∙ first ∙ ap (λ x. d * 2 ^ 32 + x) (xor_zero_r m) in
    let next : mirrored 32 (shifted_one v b) ≡ bit_xor m (mirrored 32 (d * 0x82F63B78)) =
    mirrored_xor 32 (v / 2) (d * 0x82F63B78) in
    left ∙ sym (generator_parts d m small hm)
    ∙ ap (λ x. bit_xor (d * generator) x) (sym next)
    ∙ ap (λ x. bit_xor (x * generator) (mirrored 32 (shifted_one v b))) (sym (digit_is_one d small))

-- ---- a list of bits

-- a polynomial, its part that came so far first
abbrev joined : ℕ → List Bool → ℕ
joined l bits = bit_xor (l * 2 ^ length bits) (from_highest bits * 2 ^ 32)

times_twice : (l p : ℕ) → l * (p * 2) ≡ 2 * l * p
times_twice l p = omega arith

times_swap : (a p q : ℕ) → a * p * q ≡ a * q * p
times_swap a p q = mul_assoc a p q ∙ ap (λ x. a * x) (mul_comm p q) ∙ sym (mul_assoc a q p)

pub joined_more : (l : ℕ) (b : Bool) (bs : List Bool) → joined l (b ∷ bs) ≡ joined (bit_xor (2 * l) (coefficient b * 2 ^ 32)) bs
joined_more l b bs =
    let n = length bs in
    let f = from_highest bs in
    let two : 2 ^ suc n ≡ 2 ^ n * 2 = pow-suc 2 n in
    let high : l * 2 ^ suc n ≡ 2 * l * 2 ^ n = ap (λ x. l * x) two ∙ times_twice l (2 ^ n) in
    let low : (coefficient b * 2 ^ n + f) * 2 ^ 32 ≡ bit_xor (coefficient b * 2 ^ 32 * 2 ^ n) (f * 2 ^ 32) =
    ap (λ x. x * 2 ^ 32) (sym (xor_above n (coefficient b) f (from_highest_lt bs)))
    ∙ sym (xor_shl 32 (coefficient b * 2 ^ n) f)
    ∙ ap (λ x. bit_xor x (f * 2 ^ 32)) (times_swap (coefficient b) (2 ^ n) (2 ^ 32)) in
    ap (λ x. bit_xor x ((coefficient b * 2 ^ n + f) * 2 ^ 32)) high
    ∙ ap (λ x. bit_xor (2 * l * 2 ^ n) x) low
    ∙ sym (xor_assoc (2 * l * 2 ^ n) (coefficient b * 2 ^ 32 * 2 ^ n) (f * 2 ^ 32))
    ∙ ap (λ x. bit_xor x (f * 2 ^ 32)) (xor_shl n (2 * l) (coefficient b * 2 ^ 32))

pub shifted_lt : (v : ℕ) (b : Bool) → v < 2 ^ 32 → shifted_one v b < 2 ^ 32
shifted_lt v b h =
    let d = bit_xor (v % 2) (coefficient b) in
    let small : d < 2 = xor_lt 1 (v % 2) (coefficient b) (omega arith) (digit_lt b) in
    xor_lt 32 (v / 2) (d * 0x82F63B78) (omega arith) (omega arith)

one_more : (l p m b c n : ℕ) → l ≡ bit_xor p m → bit_xor (2 * m) b ≡ bit_xor c n →
    bit_xor (2 * l) b ≡ bit_xor (bit_xor c (2 * p)) n
one_more l p m b c n e s =
    ap (λ x. bit_xor (2 * x) b) e
    ∙ ap (λ x. bit_xor x b) (sym (xor_double p m))
    ∙ xor_assoc (2 * p) (2 * m) b
    ∙ ap (λ x. bit_xor (2 * p) x) s
    ∙ sym (xor_assoc (2 * p) c n)
    ∙ ap (λ x. bit_xor x n) (xor_comm (2 * p) c)

pub divides : (bits : List Bool) (v l : ℕ) (q : List Bool) → v < 2 ^ 32 → l ≡ bit_xor (product q generator) (mirrored 32 v) →
    IsRemainder (joined l bits) generator 32 (mirrored 32 (shifted_all v bits))
divides [] v l q h e = record { quotient = q; exact = ap (λ x. bit_xor x 0) (mul-one l) ∙ xor_zero_r l ∙ e; below = mirrored_lt 32 v }
divides (b ∷ bs) v l q h e =
    let c = is_one (bit_xor (v % 2) (coefficient b)) in
    rw (joined_more l b bs) (divides bs (shifted_one v b) (bit_xor (2 * l) (coefficient b * 2 ^ 32)) (c ∷ q) (shifted_lt v b h)
    (one_more l (product q generator) (mirrored 32 v) (coefficient b * 2 ^ 32) (coefficient c * generator) (mirrored 32 (shifted_one v b)) e (step_divides v b h)))

pub shifted_all_lt : (v : ℕ) (bits : List Bool) → v < 2 ^ 32 → shifted_all v bits < 2 ^ 32
shifted_all_lt v [] h = h
shifted_all_lt v (b ∷ bits) h = shifted_all_lt (shifted_one v b) bits (shifted_lt v b h)

pub shifted_all_append : (v : ℕ) (a b : List Bool) → shifted_all v (a ++ b) ≡ shifted_all (shifted_all v a) b
shifted_all_append v [] b = refl
shifted_all_append v (x ∷ a) b = shifted_all_append (shifted_one v x) a b

pub shifted_all_divides : (v : ℕ) (bits : List Bool) → v < 2 ^ 32 → IsRemainder (dividend v bits) generator 32 (mirrored 32 (shifted_all v bits))
unfolding dividend
shifted_all_divides v bits h = divides bits v (mirrored 32 v) [] h (sym (xor_zero_l (mirrored 32 v)))

dividend_lt : (v : ℕ) (bits : List Bool) → dividend v bits < 2 ^ (32 + length bits)
unfolding dividend
dividend_lt v bits =
    let n = length bits in
    let e : 2 ^ (32 + n) ≡ 2 ^ 32 * 2 ^ n = pow-add 2 32 n in
    let a : mirrored 32 v * 2 ^ n + 0 < 2 ^ n * 2 ^ 32 = mul-add-lt (mirrored 32 v) (2 ^ n) 0 (2 ^ 32) (mirrored_lt 32 v) (pow_pos n) in
    let b : from_highest bits * 2 ^ 32 + 0 < 2 ^ 32 * 2 ^ n = mul-add-lt (from_highest bits) (2 ^ 32) 0 (2 ^ n) (from_highest_lt bits) (pow_pos 32) in
    xor_lt (32 + n) (mirrored 32 v * 2 ^ n) (from_highest bits * 2 ^ 32) (rw e (omega (arith, a))) (rw e (omega (arith, b)))

-- the remainder by long division is what the register holds
pub divided_shifted : (v : ℕ) (bits : List Bool) → v < 2 ^ 32 →
    mirrored 32 (remainder generator 32 (length bits) (dividend v bits)) ≡ shifted_all v bits
divided_shifted v bits h =
    let long : IsRemainder (dividend v bits) generator 32 (remainder generator 32 (length bits) (dividend v bits)) =
    remainder_is (length bits) generator (dividend v bits) (omega arith) (omega arith) (dividend_lt v bits) in
    let same : remainder generator 32 (length bits) (dividend v bits) ≡ mirrored 32 (shifted_all v bits) =
    one_remainder (dividend v bits) generator _ _ (omega arith) (omega arith) long (shifted_all_divides v bits h) in
    ap (mirrored 32) same ∙ mirrored_twice 32 (shifted_all v bits) (shifted_all_lt v bits h)

-- ---- the register is linear

scaled_sum : (d e p : ℕ) → d < 2 → e < 2 → bit_xor d e * p ≡ bit_xor (d * p) (e * p)
scaled_sum d e p hd he =
    elim (digit_cases d hd) [
      | inl x ↦ rw (x, xor_zero_l e, zero-mul p) (sym (xor_zero_l (e * p)))
      | inr x ↦ elim (digit_cases e he) [ inl y ↦ rw (x, y, zero-mul p) (sym (xor_zero_r (1 * p))) | inr y ↦ rw (x, y) (zero-mul p ∙ sym (xor_self (1 * p))) ]
    ]

abbrev pub one_step : ℕ → ℕ
one_step v = bit_xor (v / 2) (v % 2 * 0x82F63B78)

one_step_xor : (a b : ℕ) → one_step (bit_xor a b) ≡ bit_xor (one_step a) (one_step b)
one_step_xor a b =
    let half : bit_xor a b / 2 ≡ bit_xor (a / 2) (b / 2) = xor_shr a b 1 in
    let low : bit_xor a b % 2 ≡ bit_xor (a % 2) (b % 2) = xor_mod a b 1 in
    rw (half, low, scaled_sum (a % 2) (b % 2) 0x82F63B78 (omega arith) (omega arith))
    (xor_swap (a / 2) (b / 2) (a % 2 * 0x82F63B78) (b % 2 * 0x82F63B78))

pub advanced_xor : (n a b : ℕ) → advanced n (bit_xor a b) ≡ bit_xor (advanced n a) (advanced n b)
unfolding advanced
advanced_xor zero a b = refl
advanced_xor (suc n) a b = ap (advanced n) (one_step_xor a b) ∙ advanced_xor n (one_step a) (one_step b)

-- the bits of a number, at once
pub shifted_all_low : (n v w : ℕ) → w < 2 ^ n → shifted_all v (low_bits n w) ≡ advanced n (bit_xor v w)
unfolding advanced low_bits
shifted_all_low zero v w h = let z : w ≡ 0 = omega arith in rw z (sym (xor_zero_r v))
shifted_all_low (suc n) v w h =
    let two : 2 ^ suc n ≡ 2 ^ n * 2 = pow-suc 2 n in
    let b = is_one (w % 2) in
    let d = bit_xor (v % 2) (coefficient b) * 0x82F63B78 in
    let half : bit_xor v w / 2 ≡ bit_xor (v / 2) (w / 2) = xor_shr v w 1 in
    let low : bit_xor v w % 2 ≡ bit_xor (v % 2) (coefficient b) = xor_mod v w 1 ∙ ap (λ x. bit_xor (v % 2) x) (sym (digit_is_one (w % 2) (omega arith))) in
    let e : one_step (bit_xor v w) ≡ bit_xor (shifted_one v b) (w / 2) =
    rw (half, low) (xor_assoc (v / 2) (w / 2) d ∙ ap (λ x. bit_xor (v / 2) x) (xor_comm (w / 2) d) ∙ sym (xor_assoc (v / 2) d (w / 2))) in
    shifted_all_low n (shifted_one v b) (w / 2) (omega arith) ∙ ap (advanced n) (sym e)
