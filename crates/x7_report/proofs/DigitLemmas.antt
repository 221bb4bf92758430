-- Digits of words by eight.
use Rattle.std.proofs.Common.{◌≡◌, ℕ, zero, suc, ◌+◌, ◌*◌, ◌/◌, ◌%◌, ◌^◌, ◌<◌, ◌≤◌, ◌-◌, List, [], ◌∷◌, ◌++◌, length, get_or, take, drop, refl, sym, ap, ap₂, ◌∙◌, arith, append_assoc}
use Rattle.std.specs.List.{flat_map}
use Rattle.std.specs.Simd.{first_chunks}
use lib.Lanes.{Each1, digits_l, number_l, pick_l}
use mir.Syntax.{w32}
use mir.Val.{Fits}
use Rattle.std.proofs.lemmas.Grind.{flat_map-append}
use Rattle.std.proofs.lemmas.List.{drop-drop, length-drop, take-append-drop}
use Rattle.std.proofs.lemmas.Simd.{Each1-weaker, get_or_narrower}
use Rattle.x7_words.specs.Word.{AreWords, bytes_of_word}
use Rattle.x7_text.specs.Digits.{hex_byte, hex_word}
use Rattle.x7_text.proofs.ValueLemmas.{word_digits}

-- the places of the bytes of eight words, the highest of each first
abbrev pub turned : List ℕ
turned = 3 ∷ 2 ∷ 1 ∷ 0 ∷ 7 ∷ 6 ∷ 5 ∷ 4 ∷ 11 ∷ 10 ∷ 9 ∷ 8 ∷ 15 ∷ 14 ∷ 13 ∷ 12 ∷ 19 ∷ 18 ∷ 17 ∷ 16 ∷ 23 ∷ 22 ∷ 21 ∷ 20 ∷ 27 ∷ 26 ∷ 25 ∷ 24 ∷ 31 ∷ 30 ∷ 29 ∷ 28 ∷ []

-- the four bytes of word j, the highest first
abbrev four : List ℕ → ℕ → List ℕ
four bs j = get_or bs (4 * j + 3) 0 ∷ get_or bs (4 * j + 2) 0 ∷ get_or bs (4 * j + 1) 0 ∷ get_or bs (4 * j + 0) 0 ∷ []

by_fours : (bs : List ℕ) → pick_l 0 bs turned ≡ four bs 0 ++ (four bs 1 ++ (four bs 2 ++ (four bs 3 ++ (four bs 4 ++ (four bs 5 ++ (four bs 6 ++ (four bs 7 ++ [])))))))
by_fours bs = refl

joined : (bs ws : List ℕ) → length ws ≡ 8 → ((j : ℕ) → j < 8 → four bs j ≡ bytes_of_word (get_or ws j 0)) → pick_l 0 bs turned ≡ flat_map bytes_of_word ws
joined bs [] n each = absurd (omega arith)
joined bs (s ∷ []) n each = absurd (omega arith)
joined bs (s ∷ t ∷ []) n each = absurd (omega arith)
joined bs (s ∷ t ∷ u ∷ []) n each = absurd (omega arith)
joined bs (s ∷ t ∷ u ∷ v ∷ []) n each = absurd (omega arith)
joined bs (s ∷ t ∷ u ∷ v ∷ w ∷ []) n each = absurd (omega arith)
joined bs (s ∷ t ∷ u ∷ v ∷ w ∷ x ∷ []) n each = absurd (omega arith)
joined bs (s ∷ t ∷ u ∷ v ∷ w ∷ x ∷ y ∷ []) n each = absurd (omega arith)
joined bs (s ∷ t ∷ u ∷ v ∷ w ∷ x ∷ y ∷ z ∷ []) n each =
    by_fours bs ∙ ap₂ (λ (a b : List ℕ). a ++ b) (each 0 (omega arith)) (ap₂ (λ (a b : List ℕ). a ++ b) (each 1 (omega arith))
    (ap₂ (λ (a b : List ℕ). a ++ b) (each 2 (omega arith)) (ap₂ (λ (a b : List ℕ). a ++ b) (each 3 (omega arith)) (ap₂ (λ (a b : List ℕ). a ++ b) (each 4 (omega arith))
    (ap₂ (λ (a b : List ℕ). a ++ b) (each 5 (omega arith)) (ap₂ (λ (a b : List ℕ). a ++ b) (each 6 (omega arith)) (ap₂ (λ (a b : List ℕ). a ++ b) (each 7 (omega arith)) refl)))))))
joined bs (s ∷ t ∷ u ∷ v ∷ w ∷ x ∷ y ∷ z ∷ more ∷ ws) n each = absurd (omega arith)

byte_at : (ws : List ℕ) (j i : ℕ) → Each1 (λ w. w < 2 ^ 32) ws → i < 4 → 4 * j + i < 32 → get_or (digits_l 256 32 (number_l (2 ^ 32) ws)) (4 * j + i) 0 ≡ get_or ws j 0 / 256 ^ i % 256
byte_at ws j i fit h k = get_or_narrower (2 ^ 32) 4 256 32 ws j i refl fit h k

four_at : (ws : List ℕ) (j : ℕ) → Each1 (λ w. w < 2 ^ 32) ws → j < 8 → four (digits_l 256 32 (number_l (2 ^ 32) ws)) j ≡ bytes_of_word (get_or ws j 0)
four_at ws j fit h =
    let a = byte_at ws j 3 fit (omega arith) (omega arith) in
    let b = byte_at ws j 2 fit (omega arith) (omega arith) in
    let c = byte_at ws j 1 fit (omega arith) (omega arith) in
    let d = byte_at ws j 0 fit (omega arith) (omega arith) ∙ omega arith in
    ap₂ (λ (x : ℕ) (t : List ℕ). x ∷ t) a (ap₂ (λ (x : ℕ) (t : List ℕ). x ∷ t) b (ap₂ (λ (x : ℕ) (t : List ℕ). x ∷ t) c (ap (λ (x : ℕ). x ∷ []) d)))

-- the bytes of eight words, as the lanes of a vector that are turned
pub eight_bytes : (ws : List ℕ) → length ws ≡ 8 → Each1 (Fits w32) ws → pick_l 0 (digits_l 256 32 (number_l (2 ^ 32) ws)) turned ≡ flat_map bytes_of_word ws
eight_bytes ws n fit = joined (digits_l 256 32 (number_l (2 ^ 32) ws)) ws n (λ j h. four_at ws j (Each1-weaker (Fits w32) (λ w. w < 2 ^ 32) (λ w f. f.fits) ws fit) h)

-- digits of words by their bytes
pub digits_by_bytes : (ws : List ℕ) → AreWords ws → flat_map hex_byte (flat_map bytes_of_word ws) ≡ flat_map hex_word ws
digits_by_bytes [] are = refl
digits_by_bytes (w ∷ ws) are =
    flat_map-append hex_byte (bytes_of_word w) (flat_map bytes_of_word ws)
    ∙ ap (λ t. flat_map hex_byte (bytes_of_word w) ++ t) (digits_by_bytes ws are.1)
    ∙ ap (λ t. t ++ flat_map hex_word ws) (sym (word_digits w are.0))

-- the digits of words that stand in blocks, block by block
pub digits_by_blocks : (n : ℕ) (ws : List ℕ) → n * 8 ≤ length ws → flat_map hex_word ws ≡ flat_map (λ (block : List ℕ). flat_map hex_word block) (first_chunks 8 n ws) ++ flat_map hex_word (drop (n * 8) ws)
digits_by_blocks zero ws h = refl
digits_by_blocks (suc n) ws h =
    let left : length (drop 8 ws) ≡ length ws - 8 = length-drop 8 ws in
    let f : List ℕ → List ℕ = λ block. flat_map hex_word block in
    ap (flat_map hex_word) (sym (take-append-drop 8 ws)) ∙ flat_map-append hex_word (take 8 ws) (drop 8 ws)
    ∙ ap (λ t. f (take 8 ws) ++ t) (digits_by_blocks n (drop 8 ws) (omega arith))
    ∙ sym (append_assoc (f (take 8 ws)) (flat_map f (first_chunks 8 n (drop 8 ws))) (f (drop (n * 8) (drop 8 ws))))
    ∙ ap (λ t. (f (take 8 ws) ++ flat_map f (first_chunks 8 n (drop 8 ws))) ++ f t) (drop-drop (n * 8) 8 ws ∙ ap (λ k. drop k ws) (let k : 8 + n * 8 ≡ suc n * 8 = omega arith in k))
