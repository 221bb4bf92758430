-- How many of the first bytes of two blocks are the same, by the mask of those that differ.
use Rattle.std.proofs.Common.{◌≡◌, ◌==◌, ℕ, zero, suc, ◌+◌, ◌*◌, ◌%◌, ◌^◌, ◌≤◌, ◌-◌, Bool, true, false, not, cond, w8, List, [], ◌∷◌, ◌++◌, drop, get_or, length, take, map, refl, ap, sym, ◌∙◌, arith, inl, inr}
use Rattle.std.specs.List.{flat_map, prefix_len}
use Rattle.std.proofs.lemmas.Bool.{cases_eq, eq-eqb, eqb-true}
use Rattle.std.proofs.lemmas.Grind.{flat_map-append}
use Rattle.std.proofs.lemmas.List.{map-id, take-append-drop, take_at}
use Rattle.std.proofs.lemmas.List.Sums.{prefix_len-le-length}
use Rattle.std.proofs.lemmas.Simd.{leading_from_mask_l, length-zip2, mask_l-mod, tops_compared, trailing_mask_l}
use lib.Lanes.{mask_l, top, zip2}
use lib.Count.{count_trailing_zeros, trailing_le}
use mir.Val.{bits, hbits}
use Rattle.x7_words.specs.Word.{AreBytes}
use Rattle.x7_text.specs.Digits.{hex_byte}
use Rattle.x7_text.specs.DigitValue.{bytes_value}
use Rattle.x7_text.proofs.ValueLemmas.{bytes_value_on}
use Rattle.x7_text.proofs.WholeLineLemmas.{length_hex_bytes}

-- two bytes differ
abbrev pub differs : ℕ → ℕ → Bool
differs a b = not (a == b)

same_step : (b : Bool) (n r x y : ℕ) (xs ys : List ℕ) → (b ≡ true → x ≡ y) → suc n ≤ cond (not (not b)) (1 + r) 0 → (n ≤ r → take n xs ≡ take n ys) → x ∷ take n xs ≡ y ∷ take n ys
same_step true n r x y xs ys e h more = let s = e refl in ap (λ (k : ℕ). k ∷ take n xs) s ∙ ap (λ t. y ∷ t) (more (omega (arith, h)))
same_step false n r x y xs ys e h more = absurd (omega (arith, h))

pub same_so_far : (n : ℕ) (xs ys : List ℕ) → n ≤ prefix_len (λ b. not b) (zip2 differs xs ys) → take n xs ≡ take n ys
same_so_far zero xs ys h = refl
same_so_far (suc n) [] ys h = absurd (omega (arith, h))
same_so_far (suc n) (x ∷ xs) [] h = absurd (omega (arith, h))
same_so_far (suc n) (x ∷ xs) (y ∷ ys) h = same_step (x == y) n (prefix_len (λ b. not b) (zip2 differs xs ys)) x y xs ys (eqb-true x y) h (same_so_far n xs ys)

pub few_zeros : (m : ℕ) → count_trailing_zeros 64 m ≤ 64
few_zeros m = trailing_le 64 m

before_set : (m : ℕ) (ds : List Bool) → length ds ≡ 64 → m ≡ mask_l ds → count_trailing_zeros 64 m ≤ prefix_len (λ b. not b) ds
before_set m ds long e =
    let same : mask_l (map (λ (b : Bool). b) ds) ≡ mask_l ds = ap mask_l (map-id ds) in
    elim (cases_eq (mask_l (map (λ (b : Bool). b) ds)) 0) [
      | inl none ↦ omega (arith, leading_from_mask_l (λ (b : Bool). b) ds none, long, few_zeros m)
      | inr some ↦ omega (arith, ap (count_trailing_zeros 64) (e ∙ sym same), trailing_mask_l (λ (b : Bool). b) 64 ds (omega (arith, long)) (omega (arith, some)))
    ]

pub same_by_mask : (m n : ℕ) (a b : List ℕ) → length a ≡ 64 → length b ≡ 64 → m ≡ mask_l (zip2 differs a b) → n ≡ count_trailing_zeros 64 m → take n a ≡ take n b
same_by_mask m n a b p q e f =
    let size : length (zip2 differs a b) ≡ 64 = length-zip2 differs a b (p ∙ sym q) ∙ p in
    same_so_far n a b (omega (arith, f, before_set m (zip2 differs a b) size e))

pub mask_differs : (xs ys : List ℕ) → length xs ≡ 64 → length ys ≡ 64 → mask_l (map (top (hbits w8)) (zip2 (λ a b. cond (differs a b) (2 ^ bits w8 - 1) 0) xs ys)) % 2 ^ 64 ≡ mask_l (zip2 differs xs ys)
mask_differs xs ys e f = ap (λ ms. mask_l ms % 2 ^ 64) (tops_compared w8 differs xs ys) ∙ mask_l-mod (zip2 differs xs ys) 64 (omega (arith, length-zip2 differs xs ys (e ∙ sym f), e))

-- ---- no byte that is the same is missed

same_on : (b : Bool) (n r : ℕ) → b ≡ true → n ≤ r → suc n ≤ cond (not (not b)) (1 + r) 0
same_on true n r e h = omega (arith, h)
same_on false n r e h = absurd cc

no_difference : (n : ℕ) (xs ys : List ℕ) → n ≤ length xs → n ≤ length ys → take n xs ≡ take n ys → n ≤ prefix_len (λ b. not b) (zip2 differs xs ys)
no_difference zero xs ys h k e = omega arith
no_difference (suc n) [] ys h k e = absurd (omega (arith, h))
no_difference (suc n) (x ∷ xs) [] h k e = absurd (omega (arith, k))
no_difference (suc n) (x ∷ xs) (y ∷ ys) h k e =
    same_on (x == y) n (prefix_len (λ b. not b) (zip2 differs xs ys)) (eq-eqb x y (ap (λ t. get_or t 0 0) e)) (no_difference n xs ys (omega (arith, h)) (omega (arith, k)) (ap (drop 1) e))

from_set : (m : ℕ) (ds : List Bool) → length ds ≡ 64 → m ≡ mask_l ds → prefix_len (λ b. not b) ds ≤ count_trailing_zeros 64 m
unfolding count_trailing_zeros
from_set m ds long e =
    let same : mask_l (map (λ (b : Bool). b) ds) ≡ mask_l ds = ap mask_l (map-id ds) in
    elim (cases_eq (mask_l (map (λ (b : Bool). b) ds)) 0) [
      | inl none ↦ let all : count_trailing_zeros 64 m ≡ 64 = ap (count_trailing_zeros 64) (e ∙ sym same ∙ none) in omega (arith, all, long, prefix_len-le-length (λ (b : Bool). not b) ds)
      | inr some ↦ omega (arith, ap (count_trailing_zeros 64) (e ∙ sym same), trailing_mask_l (λ (b : Bool). b) 64 ds (omega (arith, long)) (omega (arith, some)))
    ]

pub same_most : (m n k : ℕ) (a b : List ℕ) → length a ≡ 64 → length b ≡ 64 → m ≡ mask_l (zip2 differs a b) → n ≡ count_trailing_zeros 64 m → k ≤ 64 → take k a ≡ take k b → k ≤ n
same_most m n k a b p q e f h s =
    let size : length (zip2 differs a b) ≡ 64 = length-zip2 differs a b (p ∙ sym q) ∙ p in
    omega (arith, f, from_set m (zip2 differs a b) size e, no_difference k a b (omega (arith, h, p)) (omega (arith, h, q)) s)

-- ---- digits that a block begins with

pub prefix_back : (block bytes bs : List ℕ) → AreBytes bs → bytes ≡ bytes_value block → take (2 * length bs) block ≡ flat_map hex_byte bs → take (2 * length bs) (flat_map hex_byte bytes) ≡ take (2 * length bs) block
prefix_back block bytes bs h e f =
    let rest : List ℕ = drop (2 * length bs) block in
    let whole : block ≡ flat_map hex_byte bs ++ drop (2 * length bs) block = sym (take-append-drop (2 * length bs) block) ∙ ap (λ t. t ++ drop (2 * length bs) block) f in
    let value : bytes ≡ bs ++ bytes_value rest = e ∙ ap bytes_value whole ∙ bytes_value_on bs rest h in
    ap (λ t. take (2 * length bs) (flat_map hex_byte t)) value ∙ ap (take (2 * length bs)) (flat_map-append hex_byte bs (bytes_value rest))
    ∙ take_at (flat_map hex_byte bs) (flat_map hex_byte (bytes_value rest)) (2 * length bs) (length_hex_bytes bs) ∙ sym f
