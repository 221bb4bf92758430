-- Words of the command line that are numbers.
use Rattle.std.proofs.Common.{◌≡◌, ℕ, ◌^◌, ◌<◌, List, Bool, true, false, Some, None, refl, sym, subst, ap, ◌∙◌, arith}
use Rattle.std.specs.Prelude.{decimal, nat_lt, ◌&&◌, if◌then◌else◌}
use Rattle.std.specs.Str.{bytes_eq}
use Rattle.std.specs.Str.Parse.{digits_value}
use Rattle.std.proofs.lemmas.Bool.Decides.{nat_tests}
use Rattle.std.proofs.lemmas.Fmt.{decimal_is_IsNumeral}
use Rattle.std.proofs.lemmas.Slice.Eq.{bytes_eq-Decides}
use Rattle.x7_text.specs.Digits.{hex_word}
use Rattle.x7_text.specs.DigitValue.{word_value}
use Rattle.x7_text.proofs.ValueLemmas.{word_back}
use Rattle.x7_forms.specs.Form.{number_in, word_in}
use Rattle.x7_words.proofs.ListLemmas.{same_by_test}

-- what the tests of equal texts and of numbers below 2^32 answer
same : (a b : List ℕ) → a ≡ b → bytes_eq a b ≡ true
same a b e = grind (arith, bytes_eq-Decides a b, e)

small : (n : ℕ) → n < 2 ^ 32 → nat_lt n (2 ^ 32) ≡ true
small n h = grind (arith, nat_tests, h)

is_small : (n : ℕ) → nat_lt n (2 ^ 32) ≡ true → n < 2 ^ 32
is_small n h = grind (arith, nat_tests, h)

chosen : (a b : Bool) (n m : ℕ) → a ≡ true → b ≡ true → n ≡ m → Some m ≡ (if a && b then Some n else None)
chosen a b n m e f g = rw (e, f) (ap Some (sym g))

none_by : (a b : Bool) (n : ℕ) → (a ≡ true → b ≡ true → ⊥) → None ≡ (if a && b then Some n else None)
none_by true true n h = absurd (h refl refl)
none_by true false n h = refl
none_by false b n h = refl

pub word_some : (digits : List ℕ) (w : ℕ) → w < 2 ^ 32 → digits ≡ hex_word w → Some w ≡ word_in digits
word_some digits w h e =
    let v : word_value digits ≡ w = ap word_value e ∙ word_back w h in
    chosen (bytes_eq (hex_word (word_value digits)) digits) (nat_lt (word_value digits) (2 ^ 32)) (word_value digits) w (same (hex_word (word_value digits)) digits (ap hex_word v ∙ sym e))
    (small (word_value digits) (subst (λ (n : ℕ). n < 2 ^ 32) (sym v) h)) v

pub word_none : (digits : List ℕ) → ((w : ℕ) → w < 2 ^ 32 → digits ≡ hex_word w → ⊥) → None ≡ word_in digits
word_none digits none =
    none_by (bytes_eq (hex_word (word_value digits)) digits) (nat_lt (word_value digits) (2 ^ 32)) (word_value digits)
    (λ a b. none (word_value digits) (is_small (word_value digits) b) (sym (same_by_test (hex_word (word_value digits)) digits a)))

pub number_some : (digits : List ℕ) (n : ℕ) → n < 2 ^ 32 → digits ≡ decimal n → Some n ≡ number_in digits
number_some digits n h e =
    let v : digits_value 10 digits ≡ n = ap (digits_value 10) e ∙ (decimal_is_IsNumeral n (omega arith)).1 in
    chosen (bytes_eq (decimal (digits_value 10 digits)) digits) (nat_lt (digits_value 10 digits) (2 ^ 32)) (digits_value 10 digits) n (same (decimal (digits_value 10 digits)) digits (ap decimal v ∙ sym e))
    (small (digits_value 10 digits) (subst (λ (k : ℕ). k < 2 ^ 32) (sym v) h)) v
