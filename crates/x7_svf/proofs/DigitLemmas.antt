-- Bit i of hexadecimal digits is bit i of their value.
use Rattle.std.proofs.Common.{◌≡◌, inl, inr, ℕ, suc, ◌+◌, ◌-◌, ◌*◌, ◌/◌, ◌%◌, ◌^◌, ◌<◌, ◌≤◌, ◌==◌, nat_lt, Bool, true, false, if◌then◌else◌, List, [], ◌∷◌, length, slice_index, ap, ap₂, sym, ◌∙◌, arith}
use Rattle.std.proofs.Math.Nat.{div-div-eq-div-mul, mul-add-div_right}
use Rattle.std.proofs.Math.Pow.{pow_mono}
use Rattle.std.proofs.lemmas.Bool.{cases_lt}
use Rattle.std.proofs.lemmas.Nat.{div-mul-add, pow-add, pow_pos}
use Rattle.x7_words.specs.Characters.{digit_number, is_hex_digit}
use Rattle.x7_svf.specs.Bits.{bit_of}
use Rattle.x7_svf.specs.Fields.{are_hex, hex_value}
use Rattle.x7_svf.proofs.ValueLemmas.{value_below}
use Rattle.x7_words.proofs.CaseLemmas.{both_true}

turned : (d p q : ℕ) → d * (2 * p * q) ≡ d * p * 2 * q
turned d p q = grind arith

-- a bit of a later digit
low_bit : (d v n i : ℕ) → i < n → (d * 2 ^ n + v) / 2 ^ i % 2 ≡ v / 2 ^ i % 2
low_bit d v n i l =
    let k : ℕ = n - i - 1 in
    let sum : n ≡ 1 + k + i = omega (arith, l) in
    let power : 2 ^ n ≡ 2 ^ 1 * 2 ^ k * 2 ^ i = ap (λ (m : ℕ). 2 ^ m) sum ∙ pow-add 2 (1 + k) i ∙ ap (λ (p : ℕ). p * 2 ^ i) (pow-add 2 1 k) in
    let x : ℕ = d * 2 ^ k in
    let parts : d * 2 ^ n + v ≡ x * 2 * 2 ^ i + v = ap (λ (m : ℕ). d * m + v) power ∙ ap (λ (m : ℕ). m + v) (turned d (2 ^ k) (2 ^ i)) in
    let whole : (x * 2 * 2 ^ i + v) / 2 ^ i ≡ x * 2 + v / 2 ^ i = mul-add-div_right (pow_pos i) (x * 2) v in
    let even : (x * 2 + v / 2 ^ i) % 2 ≡ v / 2 ^ i % 2 = omega arith in
    ap (λ (m : ℕ). m / 2 ^ i % 2) parts ∙ ap (λ (m : ℕ). m % 2) whole ∙ even

-- a bit of the first digit
first_bit : (d v n r : ℕ) → v < 2 ^ n → (d * 2 ^ n + v) / 2 ^ (n + r) ≡ d / 2 ^ r
first_bit d v n r l =
    ap (λ (p : ℕ). (d * 2 ^ n + v) / p) (pow-add 2 n r) ∙ sym (div-div-eq-div-mul (d * 2 ^ n + v) (2 ^ n) (2 ^ r)) ∙ ap (λ (m : ℕ). m / 2 ^ r) (div-mul-add d (2 ^ n) v l)

-- a bit past the first digit
past_bit : (v i : ℕ) → v < 2 ^ i → (v / 2 ^ i % 2 == 1) ≡ false
past_bit v i l =
    let all : 0 * 2 ^ i + v ≡ v = omega arith in
    let none : v / 2 ^ i ≡ 0 = ap (λ (m : ℕ). m / 2 ^ i) (sym all) ∙ div-mul-add 0 (2 ^ i) v l in
    ap (λ (m : ℕ). m % 2 == 1) none

-- the digit that has a bit
later_digit : (c : ℕ) (cs : List ℕ) (i : ℕ) → i / 4 < length cs → bit_of (c ∷ cs) i ≡ bit_of cs i
later_digit c cs i l =
    let there : nat_lt (i / 4) (suc (length cs)) ≡ true = grind (arith, l) in
    let within : nat_lt (i / 4) (length cs) ≡ true = grind (arith, l) in
    let place : suc (length cs) - 1 - i / 4 ≡ suc (length cs - 1 - i / 4) = omega (arith, l) in
    ap₂ (λ (b : Bool) (n : ℕ). if b then digit_number (slice_index (c ∷ cs) n) / 2 ^ (i % 4) % 2 == 1 else false) there place
    ∙ sym (ap (λ (b : Bool). if b then digit_number (slice_index cs (length cs - 1 - i / 4)) / 2 ^ (i % 4) % 2 == 1 else false) within)

first_digit : (c : ℕ) (cs : List ℕ) (i : ℕ) → i / 4 ≡ length cs → bit_of (c ∷ cs) i ≡ (digit_number c / 2 ^ (i % 4) % 2 == 1)
first_digit c cs i e =
    let there : nat_lt (i / 4) (suc (length cs)) ≡ true = grind (arith, e) in
    let place : suc (length cs) - 1 - i / 4 ≡ 0 = omega (arith, e) in
    ap₂ (λ (b : Bool) (n : ℕ). if b then digit_number (slice_index (c ∷ cs) n) / 2 ^ (i % 4) % 2 == 1 else false) there place

no_digit : (ds : List ℕ) (i : ℕ) → length ds ≤ i / 4 → bit_of ds i ≡ false
no_digit ds i l =
    let past : nat_lt (i / 4) (length ds) ≡ false = grind (arith, l) in
    ap (λ (b : Bool). if b then digit_number (slice_index ds (length ds - 1 - i / 4)) / 2 ^ (i % 4) % 2 == 1 else false) past

pub value_bit : (ds : List ℕ) (i : ℕ) → are_hex ds ≡ true → bit_of ds i ≡ (hex_value ds / 2 ^ i % 2 == 1)
value_bit [] i h = no_digit [] i (omega arith) ∙ sym (past_bit 0 i (pow_pos i))
value_bit (c ∷ cs) i h =
    let parts : (is_hex_digit c ≡ true) × (are_hex cs ≡ true) = both_true (is_hex_digit c) (are_hex cs) h in
    let n : ℕ = 4 * length cs in
    elim (cases_lt (i / 4) (length cs)) [
      | inl l ↦
          later_digit c cs i l ∙ value_bit cs i parts.1
          ∙ sym (ap (λ (v : ℕ). v == 1) (low_bit (digit_number c) (hex_value cs) n i (omega (arith, l))))
      | inr m ↦ elim (cases_lt (length cs) (i / 4)) [
        | inl past ↦
            let more : 4 * length (c ∷ cs) ≤ i = omega (arith, past) in
            let below : hex_value (c ∷ cs) < 2 ^ (4 * length (c ∷ cs)) = value_below (c ∷ cs) h in
            let power : 2 ^ (4 * length (c ∷ cs)) ≤ 2 ^ i = pow_mono more in
            no_digit (c ∷ cs) i (omega (arith, past)) ∙ sym (past_bit (hex_value (c ∷ cs)) i (omega (arith, below, power)))
        | inr few ↦
            let here : i / 4 ≡ length cs = omega (arith, m, few) in
            let sum : i ≡ n + i % 4 = omega (arith, here) in
            let at : (digit_number c * 2 ^ n + hex_value cs) / 2 ^ i ≡ digit_number c / 2 ^ (i % 4) =
            ap (λ (k : ℕ). (digit_number c * 2 ^ n + hex_value cs) / 2 ^ k) sum ∙ first_bit (digit_number c) (hex_value cs) n (i % 4) (value_below cs parts.1) in
            first_digit c cs i here ∙ sym (ap (λ (k : ℕ). k % 2 == 1) at)
      ]
    ]
