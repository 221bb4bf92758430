-- Lemmas on specs/Word: the words of bytes, and their bytes again.
use Rattle.std.proofs.Common.{◌+◌, ◌≡◌, ℕ, ◌-◌, ◌*◌, ◌/◌, ◌%◌, ◌^◌, ◌<◌, List, [], ◌∷◌, ◌++◌, length, refl, ap, ap₂, sym, ◌∙◌, arith, zero, suc, ◌≤◌, map, take, drop, get_or}
use Rattle.std.proofs.lemmas.List.{length-map, map-append, take_all, take_more}
use Rattle.std.specs.List.{flat_map}
use Rattle.std.specs.Simd.{first_chunks}
use Rattle.x7_words.specs.Word.{AreBytes, AreWords, bytes_of_word, word_of_bytes, words_of_bytes}

-- a word is that of its bytes
pub word_whole : (w : ℕ) → w < 2 ^ 32 → word_of_bytes (bytes_of_word w) ≡ w
word_whole w h = omega arith

pub bytes_fit : (ws : List ℕ) → AreBytes (flat_map bytes_of_word ws)
bytes_fit [] = tt
bytes_fit (w ∷ ws) = (omega arith, (omega arith, (omega arith, (omega arith, bytes_fit ws))))

-- words are those of their bytes, whatever stands after these
pub words_back : (ws zs : List ℕ) → AreWords ws → words_of_bytes (flat_map bytes_of_word ws ++ zs) ≡ ws ++ words_of_bytes zs
words_back [] zs h = refl
words_back (w ∷ ws) zs h = ap₂ (λ (x : ℕ) (t : List ℕ). x ∷ t) (word_whole w h.0) (words_back ws zs h.1)

pub length_bytes : (ws : List ℕ) → length (flat_map bytes_of_word ws) ≡ 4 * length ws
length_bytes [] = refl
length_bytes (w ∷ ws) = omega (arith, length_bytes ws)

-- four bytes have a word of 32 bits
word_fits : (a b c d : ℕ) → a < 256 → b < 256 → c < 256 → d < 256 → word_of_bytes (a ∷ b ∷ c ∷ d ∷ []) < 2 ^ 32
word_fits a b c d e f g h = omega arith

pub words_fit : (bs : List ℕ) → AreBytes bs → AreWords (words_of_bytes bs)
words_fit [] f = tt
words_fit (a ∷ []) f = tt
words_fit (a ∷ b ∷ []) f = tt
words_fit (a ∷ b ∷ c ∷ []) f = tt
words_fit (a ∷ b ∷ c ∷ d ∷ bs) f = (word_fits a b c d f.0 f.1.0 f.1.1.0 f.1.1.1.0, words_fit bs f.1.1.1.1)

-- the word of four bytes has these bytes
bytes_word : (a b c d : ℕ) → a < 256 → b < 256 → c < 256 → d < 256 → bytes_of_word (word_of_bytes (a ∷ b ∷ c ∷ d ∷ [])) ≡ a ∷ b ∷ c ∷ d ∷ []
bytes_word a b c d e f g h =
    let w : ℕ = word_of_bytes (a ∷ b ∷ c ∷ d ∷ []) in
    let p : w / 2 ^ 24 % 256 ≡ a = omega arith in
    let q : w / 2 ^ 16 % 256 ≡ b = omega arith in
    let r : w / 2 ^ 8 % 256 ≡ c = omega arith in
    let s : w % 256 ≡ d = omega arith in
    ap (λ x. x ∷ w / 2 ^ 16 % 256 ∷ w / 2 ^ 8 % 256 ∷ w % 256 ∷ []) p ∙ ap (λ x. a ∷ x ∷ w / 2 ^ 8 % 256 ∷ w % 256 ∷ []) q ∙ ap (λ x. a ∷ b ∷ x ∷ w % 256 ∷ []) r ∙ ap (λ x. a ∷ b ∷ c ∷ x ∷ []) s

-- whole words have their bytes
pub bytes_words : (bs : List ℕ) (k : ℕ) → AreBytes bs → length bs ≡ 4 * k → flat_map bytes_of_word (words_of_bytes bs) ≡ bs
bytes_words [] k f e = refl
bytes_words (a ∷ []) k f e = absurd (omega (arith, e))
bytes_words (a ∷ b ∷ []) k f e = absurd (omega (arith, e))
bytes_words (a ∷ b ∷ c ∷ []) k f e = absurd (omega (arith, e))
bytes_words (a ∷ b ∷ c ∷ d ∷ bs) k f e = ap (λ t. t ++ flat_map bytes_of_word (words_of_bytes bs)) (bytes_word a b c d f.0 f.1.0 f.1.1.0 f.1.1.1.0) ∙ ap (λ t. a ∷ b ∷ c ∷ d ∷ t) (bytes_words bs (k - 1) f.1.1.1.1 (omega (arith, e)))

-- there is a word for each four bytes
pub words_count : (bs : List ℕ) → length (words_of_bytes bs) ≡ length bs / 4
words_count [] = refl
words_count (a ∷ []) = refl
words_count (a ∷ b ∷ []) = refl
words_count (a ∷ b ∷ c ∷ []) = refl
words_count (a ∷ b ∷ c ∷ d ∷ bs) = let ih = words_count bs in omega arith

pub length_words : (bs : List ℕ) (k : ℕ) → length bs ≡ 4 * k → length (words_of_bytes bs) ≡ k
length_words bs k e = words_count bs ∙ omega (arith, e)

-- the words of four bytes are their one word
pub words_four : (bs : List ℕ) (w : ℕ) → length bs ≡ 4 → bytes_of_word w ≡ bs → w < 2 ^ 32 → words_of_bytes bs ≡ w ∷ []
words_four bs w e f g =
    let h : word_of_bytes (bytes_of_word w) ≡ w = omega arith in
    ap words_of_bytes (sym f) ∙ ap (λ x. x ∷ []) h

-- the words of bytes are those of their chunks of four
pub words_by_chunks : (n : ℕ) (bs : List ℕ) → length bs / 4 ≡ n → words_of_bytes bs ≡ map word_of_bytes (first_chunks 4 n bs)
words_by_chunks zero [] h = refl
words_by_chunks zero (a ∷ []) h = refl
words_by_chunks zero (a ∷ b ∷ []) h = refl
words_by_chunks zero (a ∷ b ∷ c ∷ []) h = refl
words_by_chunks zero (a ∷ b ∷ c ∷ d ∷ bs) h = absurd (omega arith)
words_by_chunks (suc n) [] h = absurd (omega arith)
words_by_chunks (suc n) (a ∷ []) h = absurd (omega arith)
words_by_chunks (suc n) (a ∷ b ∷ []) h = absurd (omega arith)
words_by_chunks (suc n) (a ∷ b ∷ c ∷ []) h = absurd (omega arith)
words_by_chunks (suc n) (a ∷ b ∷ c ∷ d ∷ bs) h = ap (λ x. word_of_bytes (a ∷ b ∷ c ∷ d ∷ []) ∷ x) (words_by_chunks n bs (omega arith))

-- there are as many chunks as words
pub chunk_count : (bytes : List ℕ) (chunks : List (List ℕ)) → chunks ≡ first_chunks 4 (length bytes / 4) bytes → length chunks ≡ length (words_of_bytes bytes)
chunk_count bytes chunks e = sym (ap length (words_by_chunks (length bytes / 4) bytes refl ∙ ap (map word_of_bytes) (sym e)) ∙ length-map chunks word_of_bytes)

-- the words of the first bytes, and of those after them
pub words_apart : (k : ℕ) (bs : List ℕ) → k * 4 ≤ length bs → words_of_bytes bs ≡ words_of_bytes (take (k * 4) bs) ++ words_of_bytes (drop (k * 4) bs)
words_apart zero bs h = refl
words_apart (suc k) [] h = absurd (omega arith)
words_apart (suc k) (a ∷ []) h = absurd (omega arith)
words_apart (suc k) (a ∷ b ∷ []) h = absurd (omega arith)
words_apart (suc k) (a ∷ b ∷ c ∷ []) h = absurd (omega arith)
words_apart (suc k) (a ∷ b ∷ c ∷ d ∷ bs) h =
    let e : suc k * 4 ≡ suc (suc (suc (suc (k * 4)))) = omega arith in
    rw e (ap (λ x. word_of_bytes (a ∷ b ∷ c ∷ d ∷ []) ∷ x) (words_apart k bs (omega arith)))

-- the first words are those of the first bytes
pub words_taken : (k : ℕ) (bytes : List ℕ) → 4 * k ≤ length bytes → words_of_bytes (take (4 * k) bytes) ≡ take k (words_of_bytes bytes)
words_taken zero bytes l = refl
words_taken (suc k) [] l = absurd (omega (arith, l))
words_taken (suc k) (a ∷ []) l = absurd (omega (arith, l))
words_taken (suc k) (a ∷ b ∷ []) l = absurd (omega (arith, l))
words_taken (suc k) (a ∷ b ∷ c ∷ []) l = absurd (omega (arith, l))
words_taken (suc k) (a ∷ b ∷ c ∷ d ∷ bs) l =
    let four : 4 * suc k ≡ suc (suc (suc (suc (4 * k)))) = omega arith in
    ap (λ (m : ℕ). words_of_bytes (take m (a ∷ b ∷ c ∷ d ∷ bs))) four ∙ ap (λ t. word_of_bytes (a ∷ b ∷ c ∷ d ∷ []) ∷ t) (words_taken k bs (omega (arith, l)))

pub words_of_bytes_append : (k : ℕ) (xs ys : List ℕ) → length xs ≡ 4 * k → words_of_bytes (xs ++ ys) ≡ words_of_bytes xs ++ words_of_bytes ys
words_of_bytes_append zero [] ys e = refl
words_of_bytes_append zero (a ∷ xs) ys e = absurd (omega (arith, e))
words_of_bytes_append (suc k) [] ys e = absurd (omega (arith, e))
words_of_bytes_append (suc k) (a ∷ []) ys e = absurd (omega (arith, e))
words_of_bytes_append (suc k) (a ∷ b ∷ []) ys e = absurd (omega (arith, e))
words_of_bytes_append (suc k) (a ∷ b ∷ c ∷ []) ys e = absurd (omega (arith, e))
words_of_bytes_append (suc k) (a ∷ b ∷ c ∷ d ∷ xs) ys e = ap (λ t. word_of_bytes (a ∷ b ∷ c ∷ d ∷ []) ∷ t) (words_of_bytes_append k xs ys (omega (arith, e)))

pub map_take_more : (groups : List (List ℕ)) (i : ℕ) (d : List ℕ) (w : ℕ) → i < length groups → w ≡ word_of_bytes (get_or groups i d)
    → map word_of_bytes (take (i + 1) groups) ≡ map word_of_bytes (take i groups) ++ w ∷ []
map_take_more groups i d w h e = ap (map word_of_bytes) (take_more groups i d h) ∙ map-append word_of_bytes (take i groups) (get_or groups i d ∷ []) ∙ ap (λ x. map word_of_bytes (take i groups) ++ x ∷ []) (sym e)

pub words_of_bytes_all : (bs : List ℕ) (groups : List (List ℕ)) (k i : ℕ) → groups ≡ first_chunks 4 k bs → length bs ≡ 4 * k → length groups ≤ i → map word_of_bytes (take i groups) ≡ words_of_bytes bs
words_of_bytes_all bs groups k i e f h = ap (map word_of_bytes) (take_all i groups h ∙ e) ∙ sym (words_by_chunks k bs (omega (arith, f)))

pub word_bytes : (w : ℕ) → AreBytes (bytes_of_word w)
word_bytes w = (omega arith, (omega arith, (omega arith, (omega arith, tt))))
