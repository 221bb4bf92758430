-- The value of hexadecimal digits, and the least count of bits that it fits.
use Rattle.std.proofs.Common.{◌≡◌, inl, inr, ℕ, zero, suc, ◌+◌, ◌-◌, ◌*◌, ◌^◌, ◌<◌, ◌≤◌, nat_le, nat_lt, true, false, List, [], ◌∷◌, length, take, drop, get_or, ap, sym, subst, ◌∙◌, arith}
use Rattle.std.proofs.Math.Pow.{pow_mono}
use Rattle.std.proofs.Math.Nat.{mul-le-mul_right}
use Rattle.std.proofs.Math.Seq.{take_all}
use Rattle.std.proofs.lemmas.Bool.{cases_lt}
use Rattle.std.proofs.lemmas.List.{length-take-le}
use Rattle.std.proofs.lemmas.Nat.{pow-add}
use Rattle.x7_words.specs.Characters.{digit_number, is_hex_digit}
use Rattle.x7_svf.specs.Fields.{are_hex, hex_value}
use Rattle.x7_svf.specs.Scanner.{IsWidth}
use Rattle.x7_words.proofs.CaseLemmas.{both_true}

pub digit_below : (c : ℕ) → is_hex_digit c ≡ true → digit_number c < 16
digit_below c h = grind (arith, h)

more_bits : (k w : ℕ) → 2 ^ (w + 4 * k) ≡ 2 ^ w * 2 ^ (4 * k)
more_bits k w = pow-add 2 w (4 * k)

below_by : (d k r : ℕ) → d < 16 → r < 2 ^ (4 * k) → d * 2 ^ (4 * k) + r < 2 ^ (4 + 4 * k)
below_by d k r l m =
    let p : ℕ = 2 ^ (4 * k) in
    let t : (d + 1) * p ≤ 16 * p = mul-le-mul_right p (omega (arith, l)) in
    let q : 2 ^ (4 + 4 * k) ≡ 16 * p = more_bits k 4 in
    grind (arith, t, q, m)

pub value_below : (ds : List ℕ) → are_hex ds ≡ true → hex_value ds < 2 ^ (4 * length ds)
value_below [] h = omega arith
value_below (c ∷ cs) h =
    let parts : (is_hex_digit c ≡ true) × (are_hex cs ≡ true) = both_true (is_hex_digit c) (are_hex cs) h in
    let e : 4 + 4 * length cs ≡ 4 * length (c ∷ cs) = omega arith in
    let s : digit_number c * 2 ^ (4 * length cs) + hex_value cs < 2 ^ (4 + 4 * length cs) = below_by (digit_number c) (length cs) (hex_value cs) (digit_below c parts.0) (value_below cs parts.1) in
    subst (λ n. digit_number c * 2 ^ (4 * length cs) + hex_value cs < 2 ^ n) e s

top_below : (d v k r n : ℕ) → d < 2 ^ suc v → r < 2 ^ (4 * k) → 4 * k + suc v ≤ n → d * 2 ^ (4 * k) + r < 2 ^ n
top_below d v k r n l m w =
    let p : ℕ = 2 ^ (4 * k) in
    let t : (d + 1) * p ≤ 2 ^ suc v * p = mul-le-mul_right p (omega (arith, l)) in
    let q : 2 ^ (suc v + 4 * k) ≡ 2 ^ suc v * p = more_bits k (suc v) in
    let u : 2 ^ (suc v + 4 * k) ≤ 2 ^ n = pow_mono (omega (arith, w)) in
    grind (arith, t, q, m, u)

top_above : (d v k r n : ℕ) → 2 ^ v ≤ d → d * 2 ^ (4 * k) + r < 2 ^ n → n < 4 * k + suc v → ⊥
top_above d v k r n l m w =
    let p : ℕ = 2 ^ (4 * k) in
    let t : 2 ^ v * p ≤ d * p = mul-le-mul_right p l in
    let q : 2 ^ (v + 4 * k) ≡ 2 ^ v * p = more_bits k v in
    let u : 2 ^ n ≤ 2 ^ (v + 4 * k) = pow_mono (omega (arith, w)) in
    grind (arith, t, q, m, u)

-- ---- widths

is_width : (d v : ℕ) → 2 ^ v ≤ d → d < 2 ^ suc v → IsWidth d (suc v)
is_width d v l m = record {
  above = m;
  least = λ n k. elim (cases_lt n (suc v)) [
    | inl w ↦ (let p : 2 ^ n ≤ 2 ^ v = pow_mono (omega (arith, w)) in absurd (omega (arith, p, l, k)))
    | inr w ↦ w
  ];
}

pub width_between : (r d v : ℕ) → r ≡ d → 2 ^ v ≤ r → r < 2 ^ suc v → IsWidth d (suc v)
width_between r d v e l m = subst (λ x. IsWidth x (suc v)) e (is_width r v l m)

-- the width of digits whose first isn't 0
first_width : (c : ℕ) (cs : List ℕ) (w : ℕ) → are_hex cs ≡ true → IsWidth (digit_number c) w → 0 < w → IsWidth (hex_value (c ∷ cs)) (4 * length cs + w)
first_width c cs zero h d l = absurd (omega (arith, l))
first_width c cs (suc v) h d l =
    let low : 2 ^ v ≤ digit_number c = elim (cases_lt (digit_number c) (2 ^ v)) [
      | inl w ↦ (let k : suc v ≤ v = d.least v w in absurd (omega (arith, k)))
      | inr w ↦ w
    ] in
    record {
      above = top_below (digit_number c) v (length cs) (hex_value cs) (4 * length cs + suc v) d.above (value_below cs h) (omega arith);
      least = λ n m. elim (cases_lt n (4 * length cs + suc v)) [
        | inl w ↦ absurd (top_above (digit_number c) v (length cs) (hex_value cs) n low m w)
        | inr w ↦ w
      ];
    }

pub width_at : (xs : List ℕ) (value w all : ℕ) → 1 ≤ length xs → are_hex xs ≡ true → IsWidth (digit_number (get_or xs 0 0)) w → 0 < w → value ≡ hex_value xs → all ≡ 4 * length (take (length xs - 1) (drop 1 xs)) + w → IsWidth value all
width_at [] value w all n h d l e f = absurd (omega (arith, n))
width_at (c ∷ cs) value w all n h d l e f =
    let parts : (is_hex_digit c ≡ true) × (are_hex cs ≡ true) = both_true (is_hex_digit c) (are_hex cs) h in
    let long : length (take (length (c ∷ cs) - 1) cs) ≡ length (c ∷ cs) - 1 = length-take-le (length (c ∷ cs) - 1) cs (omega arith) in
    let bits : 4 * length cs + w ≡ all = omega (arith, f, long) in
    subst (λ v. IsWidth v all) (sym e) (subst (λ b. IsWidth (hex_value (c ∷ cs)) b) bits (first_width c cs w parts.1 d l))

-- where the first digit is 0, the value is that of the others
pub rest_on : (xs : List ℕ) (value w : ℕ) → 1 ≤ length xs → are_hex xs ≡ true → IsWidth (digit_number (get_or xs 0 0)) w → w ≤ 0 → value ≡ hex_value xs
    → (value ≡ hex_value (take (length xs - 1) (drop 1 xs))) × (are_hex (take (length xs - 1) (drop 1 xs)) ≡ true)
rest_on [] value w n h d l e = absurd (omega (arith, n))
rest_on (c ∷ cs) value w n h d l e =
    let parts : (is_hex_digit c ≡ true) × (are_hex cs ≡ true) = both_true (is_hex_digit c) (are_hex cs) h in
    let all : take (length (c ∷ cs) - 1) cs ≡ cs = take_all (length (c ∷ cs) - 1) cs (omega arith) in
    let none : w ≡ 0 = omega (arith, l) in
    let below : digit_number c < 2 ^ 0 = subst (λ (k : ℕ). digit_number c < 2 ^ k) none d.above in
    let zero : digit_number c ≡ 0 = omega (arith, below) in
    let first : value ≡ 0 * 2 ^ (4 * length cs) + hex_value cs = e ∙ ap (λ (x : ℕ). x * 2 ^ (4 * length cs) + hex_value cs) zero in
    let tail : value ≡ hex_value cs = omega (arith, first) in
    (tail ∙ ap hex_value (sym all), ap are_hex all ∙ parts.1)

pub width_test : (v w n : ℕ) → IsWidth v w → nat_le w n ≡ nat_lt v (2 ^ n)
width_test v w n d = elim (cases_lt n w) [
  | inl l ↦ (let high : 2 ^ n ≤ v = elim (cases_lt v (2 ^ n)) [
    | inl k ↦ (let m : w ≤ n = d.least n k in absurd (omega (arith, l, m)))
    | inr k ↦ k
  ] in is_not_le w n l ∙ sym (is_not_lt v (2 ^ n) high))
  | inr l ↦ (let p : 2 ^ w ≤ 2 ^ n = pow_mono l in is_le w n l ∙ sym (is_lt v (2 ^ n) (let a : v < 2 ^ w = d.above in omega (arith, p, a))))
]
  where
    is_le : (a b : ℕ) → a ≤ b → nat_le a b ≡ true
    is_le a b h = grind (arith, h)

    is_not_le : (a b : ℕ) → b < a → nat_le a b ≡ false
    is_not_le a b h = grind (arith, h)

    is_lt : (a b : ℕ) → a < b → nat_lt a b ≡ true
    is_lt a b h = grind (arith, h)

    is_not_lt : (a b : ℕ) → b ≤ a → nat_lt a b ≡ false
    is_not_lt a b h = grind (arith, h)
