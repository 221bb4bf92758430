-- Equal words in a row, a block of them at a time.
use Rattle.std.proofs.Common.{Bool, true, false, not, cond, w8, map, ◌%◌, ◌^◌, ◌==◌, ◌≡◌, ℕ, zero, suc, ◌+◌, ◌-◌, ◌*◌, ◌/◌, ◌<◌, ◌≤◌, List, [], ◌∷◌, ◌++◌, length, take, drop, take-add, take_all, length-drop, replicate, get_or, refl, ap, sym, ◌∙◌, append_assoc, arith}
use Rattle.std.proofs.lemmas.Bool.{eqb-true}
use Rattle.std.proofs.lemmas.Simd.{length-zip2, mask_l-mod, tops_compared}
use lib.Lanes.{mask_l, top, zip2}
use mir.Val.{bits, hbits}
use Rattle.std.specs.List.{flat_map}
use Rattle.std.specs.Simd.{first_chunks}
use Rattle.x7_words.specs.Word.{bytes_of_word}
use Rattle.x7_packets.specs.Nops.{equal_bytes}
use Rattle.x7_words.proofs.ListLemmas.{chunk_at}

equal_add : (w m n : ℕ) → equal_bytes w (m + n) ≡ equal_bytes w m ++ equal_bytes w n
equal_add w zero n = ap (equal_bytes w) (let e : 0 + n ≡ n = omega arith in e)
equal_add w (suc m) n =
    ap (equal_bytes w) (let e : suc m + n ≡ suc (m + n) = omega arith in e) ∙ ap (λ t. bytes_of_word w ++ t) (equal_add w m n) ∙ sym (append_assoc (bytes_of_word w) (equal_bytes w m) (equal_bytes w n))

-- ---- two blocks compared in registers

abbrev differs : ℕ → ℕ → Bool
differs a b = not (a == b)

mask_differs : (xs ys : List ℕ) → length xs ≡ 32 → length ys ≡ 32 → mask_l (map (top (hbits w8)) (zip2 (λ a b. cond (differs a b) (2 ^ bits w8 - 1) 0) xs ys)) % 2 ^ 64 ≡ mask_l (zip2 differs xs ys)
mask_differs xs ys e f = ap (λ ms. mask_l ms % 2 ^ 64) (tops_compared w8 differs xs ys) ∙ mask_l-mod (zip2 differs xs ys) 64 (omega (arith, length-zip2 differs xs ys (e ∙ sym f), e))

same_head : (b : Bool) (m x y : ℕ) (xs ys : List ℕ) → (b ≡ true → x ≡ y) → cond (not b) 1 0 + 2 * m ≡ 0 → (m ≡ 0 → xs ≡ ys) → x ∷ xs ≡ y ∷ ys
same_head true m x y xs ys e h more = ap (λ (k : ℕ). k ∷ xs) (e refl) ∙ ap (λ t. y ∷ t) (more (omega (arith, h)))
same_head false m x y xs ys e h more = absurd (omega (arith, h))

same_by_none : (xs ys : List ℕ) → length xs ≡ length ys → mask_l (zip2 differs xs ys) ≡ 0 → xs ≡ ys
same_by_none [] [] e h = refl
same_by_none [] (y ∷ ys) e h = absurd (omega (arith, e))
same_by_none (x ∷ xs) [] e h = absurd (omega (arith, e))
same_by_none (x ∷ xs) (y ∷ ys) e h = same_head (x == y) (mask_l (zip2 differs xs ys)) x y xs ys (eqb-true x y) h (same_by_none xs ys (omega (arith, e)))

pub same_block : (a b : List ℕ) → length a ≡ 32 → length b ≡ 32 → mask_l (map (top (hbits w8)) (zip2 (λ a b. cond (differs a b) (2 ^ bits w8 - 1) 0) a b)) % 2 ^ 64 ≡ 0 → a ≡ b
same_block a b p q e = same_by_none a b (p ∙ sym q) (sym (mask_differs a b p q) ∙ e)

-- the bytes of a word, n times, are those of n equal words
pub eight_equal : (n w : ℕ) (bytes : List ℕ) → bytes ≡ bytes_of_word w → flat_map (λ x. x) (replicate n bytes) ≡ equal_bytes w n
eight_equal zero w bytes e = refl
eight_equal (suc n) w bytes e = ap (λ t. bytes ++ t) (eight_equal n w bytes e) ∙ ap (λ t. t ++ equal_bytes w n) e

pub block_more : (bytes : List ℕ) (blocks : List (List ℕ)) (i w : ℕ) → blocks ≡ first_chunks 32 (length bytes / 32) bytes → i < length blocks → get_or blocks i [] ≡ equal_bytes w 8
    → take (32 * i) bytes ≡ equal_bytes w (8 * i) → take (32 * (i + 1)) bytes ≡ equal_bytes w (8 * (i + 1))
block_more bytes blocks i w e h b s = whole ∙ ap (λ t. equal_bytes w (8 * i) ++ t) here ∙ sym (equal_add w (8 * i) 8) ∙ ap (equal_bytes w) (let k : 8 * i + 8 ≡ 8 * (i + 1) = omega arith in k)
  where
    chunks : (n m : ℕ) (xs : List ℕ) → length (first_chunks n m xs) ≡ m
    chunks n zero xs = refl
    chunks n (suc m) xs = ap (λ (k : ℕ). suc k) (chunks n m (drop n xs))

    within : i < length bytes / 32
    within = omega (arith, h, ap length e, chunks 32 (length bytes / 32) bytes)

    here : take 32 (drop (32 * i) bytes) ≡ equal_bytes w 8
    here = sym (ap (λ (t : List (List ℕ)). get_or t i []) e ∙ chunk_at 32 (length bytes / 32) i bytes [] within) ∙ b

    whole : take (32 * (i + 1)) bytes ≡ equal_bytes w (8 * i) ++ take 32 (drop (32 * i) bytes)
    whole = ap (λ (k : ℕ). take k bytes) (let k : 32 * (i + 1) ≡ 32 * i + 32 = omega arith in k) ∙ take-add (32 * i) 32 bytes ∙ ap (λ t. t ++ take 32 (drop (32 * i) bytes)) s

-- whole blocks, and words after them
pub equal_after : (bytes : List ℕ) (b k w : ℕ) → 32 * b ≤ length bytes → take (32 * b) bytes ≡ equal_bytes w (8 * b) → take (4 * k) (take (length bytes - 32 * b) (drop (32 * b) bytes)) ≡ equal_bytes w k
    → take (4 * (8 * b + k)) bytes ≡ equal_bytes w (8 * b + k)
equal_after bytes b k w h e f =
    let rest : take (length bytes - 32 * b) (drop (32 * b) bytes) ≡ drop (32 * b) bytes = take_all (length bytes - 32 * b) (drop (32 * b) bytes) (omega (arith, length-drop (32 * b) bytes, h)) in
    ap (λ (j : ℕ). take j bytes) (let j : 4 * (8 * b + k) ≡ 32 * b + 4 * k = omega arith in j) ∙ take-add (32 * b) (4 * k) bytes
    ∙ ap (λ t. t ++ take (4 * k) (drop (32 * b) bytes)) e ∙ ap (λ t. equal_bytes w (8 * b) ++ t) (ap (take (4 * k)) (sym rest) ∙ f) ∙ sym (equal_add w (8 * b) k)
