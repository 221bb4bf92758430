-- The first word of a text.
use Rattle.std.proofs.Common.{◌≡◌, ℕ, zero, suc, ◌<◌, ◌≤◌, Bool, true, false, if◌then◌else◌, List, [], ◌∷◌, length, slice_index, take, drop, refl, ap, ◌∙◌, arith}
use Rattle.x7_svf.specs.Token.{is_word_byte, line_after, TokenOnLine, tokens, with_word_byte, extend, Word}

-- a word's byte is no line end
pub word_line : (c line : ℕ) → is_word_byte c ≡ true → line_after c line ≡ line
word_line c line h = grind (arith, h)

abbrev pub word_on_line : ℕ → List ℕ → TokenOnLine
word_on_line line bytes = record { line = line; token = Word bytes }

prefix : (line c : ℕ) (cs : List ℕ) → is_word_byte c ≡ true → tokens line (c ∷ cs) ≡ with_word_byte line c cs (tokens line cs)
prefix line c cs h = rw (h, word_line c line h) refl

pub word_at : (line : ℕ) (xs : List ℕ) (n : ℕ) → 0 < n → n ≤ length xs
    → ((k : ℕ) → k < n → is_word_byte (slice_index xs k) ≡ true) → (n < length xs → is_word_byte (slice_index xs n) ≡ false)
    → tokens line xs ≡ word_on_line line (take n xs) ∷ tokens line (drop n xs)
word_at line [] n p w h s = absurd (omega (arith, p, w))
word_at line (x ∷ xs) zero p w h s = absurd (omega (arith, p))
word_at line (x ∷ []) (suc zero) p w h s = prefix line x [] (h 0 (omega arith))
word_at line (x ∷ y ∷ ys) (suc zero) p w h s =
    let stop : is_word_byte y ≡ false = s (omega arith) in
    prefix line x (y ∷ ys) (h 0 (omega arith)) ∙ ap (λ (b : Bool). if b then extend line x (tokens line (y ∷ ys)) else word_on_line line (x ∷ []) ∷ tokens line (y ∷ ys)) stop
word_at line (x ∷ []) (suc (suc m)) p w h s = absurd (omega (arith, w))
word_at line (x ∷ y ∷ ys) (suc (suc m)) p w h s =
    let more : is_word_byte y ≡ true = h 1 (omega arith) in
    let rest : tokens line (y ∷ ys) ≡ word_on_line line (take (suc m) (y ∷ ys)) ∷ tokens line (drop (suc m) (y ∷ ys)) =
    word_at line (y ∷ ys) (suc m) (omega arith) (omega (arith, w)) (λ k l. h (suc k) (omega (arith, l))) (λ l. s (omega (arith, l))) in
    prefix line x (y ∷ ys) (h 0 (omega arith))
    ∙ ap (λ (b : Bool). if b then extend line x (tokens line (y ∷ ys)) else word_on_line line (x ∷ []) ∷ tokens line (y ∷ ys)) more
    ∙ ap (extend line x) rest
