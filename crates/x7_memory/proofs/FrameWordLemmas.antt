-- The words of a frame that is read from its bytes.
use Rattle.std.proofs.Common.{◌≡◌, ℕ, ◌*◌, ◌∙◌, List, [], ◌∷◌, ◌++◌, length, drop, take, suc, refl, ap, ap₂, arith}
use Rattle.std.proofs.Math.Seq.{take-append_seam}
use Rattle.byteorder.specs.Endian.{IsRead, big_number}
use Rattle.x7_words.specs.Word.{word_of_bytes, words_of_bytes}

-- numbers that were read from bytes, four bytes each and the highest first, are the words of the bytes
pub words_read : (src dst : List ℕ) → length src ≡ 4 * length dst → IsRead big_number 4 src dst → dst ≡ words_of_bytes src
words_read [] [] e h = refl
words_read [] (w ∷ ws) e h = absurd (omega (arith, e))
words_read (a ∷ src) [] e h = absurd (omega (arith, e))
words_read (a ∷ []) (w ∷ ws) e h = absurd (omega (arith, e))
words_read (a ∷ b ∷ []) (w ∷ ws) e h = absurd (omega (arith, e))
words_read (a ∷ b ∷ c ∷ []) (w ∷ ws) e h = absurd (omega (arith, e))
words_read (a ∷ b ∷ c ∷ d ∷ src) (w ∷ ws) e h =
    let first : w ≡ word_of_bytes (a ∷ b ∷ c ∷ d ∷ []) = omega (arith, h 0 (omega arith)) in
    let later : IsRead big_number 4 src ws = λ k l.
    (let four : 4 * suc k ≡ suc (suc (suc (suc (4 * k)))) = omega arith in
    h (suc k) (omega (arith, l)) ∙ ap (λ (n : ℕ). big_number 4 (drop n (a ∷ b ∷ c ∷ d ∷ src))) four) in
    ap₂ (λ (x : ℕ) (t : List ℕ). x ∷ t) first (words_read src ws (omega (arith, e)) later)

pub words_set : (n : ℕ) (bytes dst later : List ℕ) → n ≡ length dst → length bytes ≡ 4 * length dst → IsRead big_number 4 bytes dst → take n (dst ++ later) ≡ words_of_bytes bytes
words_set n bytes dst later long size read = ap (λ k. take k (dst ++ later)) long ∙ take-append_seam dst later ∙ words_read bytes dst size read
