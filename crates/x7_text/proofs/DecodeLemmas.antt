-- Pairs of digits of either case, as the kit's `hex` decodes them.
use Rattle.std.proofs.Common.{◌≡◌, ℕ, ◌+◌, ◌*◌, Bool, true, false, List, [], ◌∷◌, length, Option, Some, None, Result, Ok, Err, MatchBool, MatchResult, refl, sym, ap, ap₂, ◌∙◌, arith}
use Rattle.std.proofs.lemmas.Grind.{common_steps}
use Rattle.std.proofs.lemmas.Bool.Decides.{nat_tests}
use Rattle.hex.specs.Hex.{decode_pairs, decode_sized, digit_or_error, hex_digit_value, pair_value, value_at, ◌>>=◌}
use Rattle.hex.specs.declared.error.FromHexError.{FromHexError}
use Rattle.std.specs.Result.{is_ok}
use Rattle.x7_words.specs.Characters.{number_of_digit}
use Rattle.x7_text.specs.EitherCase.{byte_of, byte_before, bytes_of_pairs}

-- what was decoded, without the error
found : {A : Type 0} → Result A FromHexError → Option A
found (Ok x) = Some x
found (Err e) = None

digit_same : (c : ℕ) → number_of_digit c ≡ hex_digit_value c
digit_same c = grind (arith, nat_tests, common_steps)

digit_found : (c i : ℕ) → found (value_at c i) ≡ number_of_digit c
unfolding found
digit_found c i = by (hex_digit_value c) ∙ sym (digit_same c)
  where
    by : (o : Option ℕ) → found (digit_or_error c i o) ≡ o
    by (Some v) = refl
    by None = refl

pair_found : (high low i : ℕ) → found (pair_value high low i) ≡ byte_of (number_of_digit high) (number_of_digit low)
unfolding found
pair_found high low i = by (value_at high i) (value_at low (i + 1)) ∙ ap₂ byte_of (digit_found high i) (digit_found low (i + 1))
  where
    by : (h l : Result ℕ FromHexError) → found (h >>= (λ (x : ℕ). l >>= (λ (y : ℕ). Ok (x * 16 + y)))) ≡ byte_of (found h) (found l)
    by (Err e) l = refl
    by (Ok x) (Err e) = refl
    by (Ok x) (Ok y) = ap Some (let e : x * 16 + y ≡ 16 * x + y = omega arith in e)

pairs_found : (i : ℕ) (ds : List ℕ) → found (decode_pairs i ds) ≡ bytes_of_pairs ds
unfolding found decode_pairs
pairs_found i [] = refl
pairs_found i (a ∷ []) = refl
pairs_found i (a ∷ b ∷ cs) = by (pair_value a b i) (decode_pairs (i + 2) cs) ∙ ap₂ byte_before (pair_found a b i) (pairs_found (i + 2) cs)
  where
    by : (p : Result ℕ FromHexError) (more : Result (List ℕ) FromHexError) → found (p >>= (λ (x : ℕ). more >>= (λ (xs : List ℕ). Ok (x ∷ xs)))) ≡ byte_before (found p) (found more)
    by (Err e) more = refl
    by (Ok x) (Err e) = refl
    by (Ok x) (Ok xs) = refl

sized : (ds : List ℕ) (n : ℕ) → length ds ≡ 2 * n → decode_sized ds n ≡ decode_pairs 0 ds
sized ds n e = grind (arith, common_steps)

-- the answer of decoding into room for half as many bytes
pub decoded : (ds new : List ℕ) (n : ℕ) (b : Bool) (r : Result (Unit {0}) FromHexError) → length ds ≡ 2 * n
    → MatchResult (decode_sized ds n) (λ bytes. (r ≡ Ok tt) × (new ≡ bytes)) (λ e. r ≡ Err e) → b ≡ is_ok r
    → MatchBool b (bytes_of_pairs ds ≡ Some new) (bytes_of_pairs ds ≡ None)
unfolding found
decoded ds new n b r long value is = by (decode_sized ds n) refl value
  where
    at : decode_sized ds n ≡ decode_pairs 0 ds
    at = sized ds n long

    yes : b ≡ true → bytes_of_pairs ds ≡ Some new → MatchBool b (bytes_of_pairs ds ≡ Some new) (bytes_of_pairs ds ≡ None)
    yes e p = rw e p

    no : b ≡ false → bytes_of_pairs ds ≡ None → MatchBool b (bytes_of_pairs ds ≡ Some new) (bytes_of_pairs ds ≡ None)
    no e p = rw e p

    by : (d : Result (List ℕ) FromHexError) → decode_sized ds n ≡ d → MatchResult d (λ bytes. (r ≡ Ok tt) × (new ≡ bytes)) (λ e. r ≡ Err e) → MatchBool b (bytes_of_pairs ds ≡ Some new) (bytes_of_pairs ds ≡ None)
    by (Ok bytes) e v = yes (is ∙ ap is_ok v.0) (sym (pairs_found 0 ds) ∙ ap found (sym at ∙ e) ∙ ap Some (sym v.1))
    by (Err f) e v = no (is ∙ ap is_ok v) (sym (pairs_found 0 ds) ∙ ap found (sym at ∙ e))
