-- A number of decimal digits that are read one by one.
use Rattle.std.proofs.Common.{◌≡◌, ℕ, ◌+◌, ◌-◌, ◌*◌, ◌<◌, ◌≤◌, ◌&&◌, nat_le, nat_lt, Bool, true, false, if◌then◌else◌, List, [], ◌∷◌, length, Option, Some, None, refl, ap, ◌∙◌, arith}
use Rattle.std.proofs.lemmas.Bool.{le-leb}
use Rattle.std.specs.Char.{digit_value}
use Rattle.std.specs.List.{list_all}
use Rattle.std.specs.Str.Parse.{digits_value, digits_value_after}
use Rattle.x7_words.specs.Characters.{is_decimal_digit}
use Rattle.x7_svf.specs.Words.{number_within}

-- the number that is read where these digits come after some that were read as n, digit by digit; none where a byte is
-- no digit, or the number passes a limit
abbrev pub number_from : ℕ → ℕ → List ℕ → Option ℕ
number_from limit n [] = Some n
number_from limit n (c ∷ cs) = if is_decimal_digit c && nat_le (n * 10 + (c - 48)) limit then number_from limit (n * 10 + (c - 48)) cs else None

digit_is : (c : ℕ) → is_decimal_digit c ≡ true → digit_value c ≡ c - 48
digit_is c h = grind (arith, h)

grows : (n : ℕ) (cs : List ℕ) → n ≤ digits_value_after 10 n cs
grows n [] = omega arith
grows n (c ∷ cs) = let h = grows (n * 10 + digit_value c) cs in omega (arith, h)

within_limit : (n limit : ℕ) → nat_le n limit ≡ true → n ≤ limit
within_limit n limit h = grind (arith, h)

past_limit : (n limit : ℕ) → nat_le n limit ≡ false → limit < n
past_limit n limit h = grind (arith, h)

is_past : (n limit : ℕ) → limit < n → nat_le n limit ≡ false
is_past n limit h = grind (arith, h)

none_past : (a b : Bool) (v : ℕ) → b ≡ false → (if a && b then Some v else None) ≡ None
none_past true b v e = ap (λ (t : Bool). if t then Some v else None) e
none_past false b v e = refl

-- the number that is read where these digits come after some that were read as n, by its value
abbrev pub number_by : ℕ → ℕ → List ℕ → Option ℕ
number_by limit n cs = if list_all is_decimal_digit cs && nat_le (digits_value_after 10 n cs) limit then Some (digits_value_after 10 n cs) else None

number_read : (limit n : ℕ) (cs : List ℕ) → n ≤ limit → number_by limit n cs ≡ number_from limit n cs
number_read limit n [] h = ap (λ (b : Bool). if b then Some n else None) (le-leb n limit h)
number_read limit n (c ∷ cs) h = by (λ l. number_read limit (n * 10 + (c - 48)) cs l) (is_decimal_digit c) refl (nat_le (n * 10 + (c - 48)) limit) refl
  where
    by : (n * 10 + (c - 48) ≤ limit → number_by limit (n * 10 + (c - 48)) cs ≡ number_from limit (n * 10 + (c - 48)) cs) → (d : Bool) → is_decimal_digit c ≡ d → (b : Bool) → nat_le (n * 10 + (c - 48)) limit ≡ b
        → (if (d && list_all is_decimal_digit cs) && nat_le (digits_value_after 10 (n * 10 + digit_value c) cs) limit then Some (digits_value_after 10 (n * 10 + digit_value c) cs) else None)
        ≡ (if d && b then number_from limit (n * 10 + (c - 48)) cs else None)
    by read false e b f = refl
    by read true e true f = ap (λ (v : ℕ). number_by limit (n * 10 + v) cs) (digit_is c e) ∙ read (within_limit (n * 10 + (c - 48)) limit f)
    by read true e false f =
        ap (λ (v : ℕ). number_by limit (n * 10 + v) cs) (digit_is c e)
        ∙ none_past (list_all is_decimal_digit cs) (nat_le (digits_value_after 10 (n * 10 + (c - 48)) cs) limit) (digits_value_after 10 (n * 10 + (c - 48)) cs)
        (is_past (digits_value_after 10 (n * 10 + (c - 48)) cs) limit (omega (arith, past_limit (n * 10 + (c - 48)) limit f, grows (n * 10 + (c - 48)) cs)))

-- the number of a word, read from its first digit on
pub number_is : (limit : ℕ) (w : List ℕ) → 0 < length w → number_within limit w ≡ number_from limit 0 w
number_is limit [] h = absurd (omega (arith, h))
number_is limit (c ∷ cs) h =
    let some : nat_lt 0 (length (c ∷ cs)) ≡ true = grind (arith, h) in
    ap (λ (b : Bool). if b && list_all is_decimal_digit (c ∷ cs) && nat_le (digits_value 10 (c ∷ cs)) limit then Some (digits_value 10 (c ∷ cs)) else None) some
    ∙ number_read limit 0 (c ∷ cs) (omega arith)
