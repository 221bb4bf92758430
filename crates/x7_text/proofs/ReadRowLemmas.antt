-- Rows of digits: what is read of a prefix, whatever stands after it.
use Rattle.std.proofs.Common.{◌≡◌, ℕ, zero, suc, ◌*◌, ◌/◌, ◌^◌, ◌<◌, ◌≤◌, Bool, true, false, IsTrue, List, [], ◌∷◌, ◌++◌, length, take, drop, refl, ap, ap₂, sym, ◌∙◌, arith, append_assoc, get_or, ◌-◌, take_all, length-drop}
use Rattle.std.proofs.Math.Seq.{take-append_seam}
use Rattle.std.proofs.lemmas.Grind.{flat_map-append}
use Rattle.std.proofs.lemmas.List.{length-take-le, take-append-drop}
use Rattle.std.specs.List.{flat_map}
use Rattle.std.specs.Simd.{first_chunks}
use Rattle.x7_words.specs.Word.{AreBytes, AreWords, bytes_of_word, words_of_bytes}
use Rattle.x7_words.proofs.ListLemmas.{all_from_places, all_take}
use Rattle.x7_words.proofs.WordLemmas.{bytes_fit, bytes_words, length_words, words_back, words_fit, words_taken}
use Rattle.x7_text.specs.Digits.{hex_byte, hex_word}
use Rattle.x7_text.specs.Row.{spaced}
use Rattle.x7_text.proofs.FewLemmas.{hex_prefix}
use Rattle.x7_text.proofs.WholeLineLemmas.{length_hex_bytes}
use Rattle.x7_text.specs.Row.{IsByteRow, IsWordRow}
use Rattle.x7_text.specs.Reads.{AppendsIfRead}
use Rattle.x7_text.specs.DigitValue.{bytes_value}
use Rattle.x7_text.proofs.ValueLemmas.{word_digits, bytes_value_on}
use Rattle.x7_text.proofs.DigitLemmas.{refuted}
use Rattle.x7_text.proofs.FewLemmas.{hex_prefix}

pub length_spaced : (ws : List ℕ) → length (flat_map spaced ws) ≡ 9 * length ws
length_spaced [] = refl
length_spaced (w ∷ ws) = omega (arith, length_spaced ws)

pub take_spaced : (n : ℕ) (ws z : List ℕ) → n ≤ length ws → take (9 * n) (flat_map spaced ws ++ z) ≡ flat_map spaced (take n ws)
take_spaced zero ws z h = refl
take_spaced (suc n) [] z h = absurd (omega arith)
take_spaced (suc n) (w ∷ ws) z h = let e : 9 * suc n ≡ suc (suc (suc (suc (suc (suc (suc (suc (suc (9 * n))))))))) = omega arith in
    ap (λ (j : ℕ). take j (flat_map spaced (w ∷ ws) ++ z)) e ∙ ap (λ t. spaced w ++ t) (take_spaced n ws z (omega arith))

pub hex_words : (ws : List ℕ) → AreWords ws → flat_map hex_word ws ≡ flat_map hex_byte (flat_map bytes_of_word ws)
hex_words [] h = refl
hex_words (w ∷ ws) h = ap₂ (λ (x t : List ℕ). x ++ t) (word_digits w h.0) (hex_words ws h.1)

digits_of_spaced : (ws : List ℕ) → flat_map (λ (word : List ℕ). drop 1 word) (first_chunks 9 (length ws) (flat_map spaced ws)) ≡ flat_map hex_word ws
digits_of_spaced [] = refl
digits_of_spaced (w ∷ ws) = ap (λ t. hex_word w ++ t) (digits_of_spaced ws)

-- a list is a prefix that it begins with and the rest
prefix_of : (ds p : List ℕ) → take (length ds) p ≡ ds → p ≡ ds ++ drop (length ds) p
prefix_of ds p e = sym (take-append-drop (length ds) p) ∙ ap (λ t. t ++ drop (length ds) p) e

-- texts of no row, by their length
pub no_byte_length : (ds : List ℕ) → (0 < length ds / 2 → length ds ≤ 64 → length ds ≡ 2 * (length ds / 2) → ⊥) → (bs : List ℕ) → IsByteRow bs → ds ≡ flat_map hex_byte bs → ⊥
no_byte_length ds h bs r e = let n : length ds ≡ 2 * length bs = ap length e ∙ length_hex_bytes bs in h (omega (arith, n, r.1)) (omega (arith, n, r.2)) (omega (arith, n))

pub no_word_length : (ds : List ℕ) → (0 < length ds / 9 → length ds ≤ 72 → length ds ≡ 9 * (length ds / 9) → ⊥) → (ws : List ℕ) → IsWordRow ws → ds ≡ flat_map spaced ws → ⊥
no_word_length ds h ws r e = let n : length ds ≡ 9 * length ws = ap length e ∙ length_spaced ws in h (omega (arith, n, r.1)) (omega (arith, n, r.2)) (omega (arith, n))

-- a text whose digits are others when written out again is that of no row
pub no_byte_row : (ds p r known : List ℕ) (b : Bool) → take (length ds) p ≡ ds → r ≡ bytes_value p → known ≡ flat_map hex_byte r → b ≡ false → (take (length ds) known ≡ ds → IsTrue b)
    → (bs : List ℕ) → IsByteRow bs → ds ≡ flat_map hex_byte bs → ⊥
no_byte_row ds p r known b prefix value text off is bs row e =
    let T : List ℕ = drop (length ds) p in
    let whole : p ≡ flat_map hex_byte bs ++ drop (length ds) p = prefix_of ds p prefix ∙ ap (λ t. t ++ drop (length ds) p) e in
    let read : r ≡ bs ++ bytes_value (drop (length ds) p) = value ∙ ap bytes_value whole ∙ bytes_value_on bs (drop (length ds) p) row.0 in
    let again : known ≡ ds ++ flat_map hex_byte (bytes_value (drop (length ds) p)) = text ∙ ap (flat_map hex_byte) read ∙ flat_map-append hex_byte bs (bytes_value (drop (length ds) p)) ∙ ap (λ t. t ++ flat_map hex_byte (bytes_value (drop (length ds) p))) (sym e) in
    refuted b off (is (ap (take (length ds)) again ∙ take-append_seam ds (flat_map hex_byte (bytes_value (drop (length ds) p)))))

pub yes_byte_row : (ds r known old new : List ℕ) (n : ℕ) → length r ≡ 32 → ((i : ℕ) → get_or r i 0 < 256) → known ≡ flat_map hex_byte r → take (length ds) known ≡ ds → 0 < n → length ds ≡ 2 * n → n ≤ 32 → new ≡ old ++ take n r
    → AppendsIfRead IsByteRow (flat_map hex_byte) (λ (bs : List ℕ). bs) true ds old new
yes_byte_row ds r known old new n long fit text same some two few appended =
    let count : length (take n r) ≡ n = length-take-le n r (omega arith) in
    let is : ds ≡ flat_map hex_byte (take n r) = sym same ∙ ap (take (length ds)) text ∙ ap (λ (j : ℕ). take j (flat_map hex_byte r)) two ∙ hex_prefix n r (omega arith) in
    let all : AreBytes r = all_from_places (λ b. b < 256) r (λ k l. fit k) in
    (take n r, (all_take (λ b. b < 256) n r all, omega (arith, count), omega (arith, count)), is, appended)

pub no_word_row : (ds p r known : List ℕ) (m : ℕ) (b : Bool) → m ≡ length ds
    → take (8 * (length ds / 9)) p ≡ flat_map (λ (word : List ℕ). drop 1 word) (first_chunks 9 (length ds / 9) ds) → length p ≡ 64 → r ≡ bytes_value p
    → known ≡ flat_map spaced (words_of_bytes r) ++ 10 ∷ [] → b ≡ false → (take m known ≡ ds → IsTrue b)
    → (ws : List ℕ) → IsWordRow ws → ds ≡ flat_map spaced ws → ⊥
no_word_row ds p r known m b same prefix long value text off is ws row e =
    let nine : length ds ≡ 9 * length ws = ap length e ∙ length_spaced ws in
    let count : length ds / 9 ≡ length ws = omega (arith, nine) in
    let j : ℕ = 8 * (length ds / 9) in
    let T : List ℕ = drop (8 * (length ds / 9)) p in
    let ds_of : flat_map (λ (word : List ℕ). drop 1 word) (first_chunks 9 (length ds / 9) ds) ≡ flat_map hex_byte (flat_map bytes_of_word ws) =
    ap₂ (λ (k : ℕ) (t : List ℕ). flat_map (λ (word : List ℕ). drop 1 word) (first_chunks 9 k t)) count e ∙ digits_of_spaced ws ∙ hex_words ws row.0 in
    let whole : p ≡ flat_map hex_byte (flat_map bytes_of_word ws) ++ T = sym (take-append-drop (8 * (length ds / 9)) p) ∙ ap (λ t. t ++ T) (prefix ∙ ds_of) in
    let read : words_of_bytes r ≡ ws ++ words_of_bytes (bytes_value T) = ap words_of_bytes (value ∙ ap bytes_value whole ∙ bytes_value_on (flat_map bytes_of_word ws) T (bytes_fit ws)) ∙ words_back ws (bytes_value T) row.0 in
    let again : known ≡ ds ++ (flat_map spaced (words_of_bytes (bytes_value T)) ++ 10 ∷ []) =
    text ∙ ap (λ t. flat_map spaced t ++ 10 ∷ []) read ∙ ap (λ t. t ++ 10 ∷ []) (flat_map-append spaced ws (words_of_bytes (bytes_value T)) ∙ ap (λ t. t ++ flat_map spaced (words_of_bytes (bytes_value T))) (sym e)) ∙ append_assoc ds (flat_map spaced (words_of_bytes (bytes_value T))) (10 ∷ []) in
    refuted b off (is (ap (λ (j : ℕ). take j known) same ∙ ap (take (length ds)) again ∙ take-append_seam ds (flat_map spaced (words_of_bytes (bytes_value T)) ++ 10 ∷ [])))

pub yes_word_row : (ds r known old new : List ℕ) (m n : ℕ) → m ≡ length ds → length r ≡ 32 → ((i : ℕ) → get_or r i 0 < 256) → known ≡ flat_map spaced (words_of_bytes r) ++ 10 ∷ [] → take m known ≡ ds → 0 < n → length ds ≡ 9 * n → n ≤ 8 → new ≡ old ++ take (4 * n) r
    → AppendsIfRead IsWordRow (flat_map spaced) (flat_map bytes_of_word) true ds old new
yes_word_row ds r known old new m n eq long fit text same some nine few appended =
    let bs : List ℕ = take (4 * n) r in
    let count : length (take (4 * n) r) ≡ 4 * n = length-take-le (4 * n) r (omega arith) in
    let all : AreBytes (take (4 * n) r) = all_take (λ b. b < 256) (4 * n) r (all_from_places (λ b. b < 256) r (λ k l. fit k)) in
    let words : length (words_of_bytes (take (4 * n) r)) ≡ n = length_words (take (4 * n) r) n count in
    let eight : length (words_of_bytes r) ≡ 8 = length_words r 8 long in
    let is : ds ≡ flat_map spaced (words_of_bytes (take (4 * n) r)) =
    sym same ∙ ap (λ (j : ℕ). take j known) eq ∙ ap (take (length ds)) text ∙ ap (λ (j : ℕ). take j (flat_map spaced (words_of_bytes r) ++ 10 ∷ [])) nine
    ∙ take_spaced n (words_of_bytes r) (10 ∷ []) (omega arith) ∙ ap (flat_map spaced) (sym (words_taken n r (omega arith))) in
    (words_of_bytes (take (4 * n) r), (words_fit (take (4 * n) r) all, omega (arith, words), omega (arith, words)), is, appended ∙ ap (λ t. old ++ t) (sym (bytes_words (take (4 * n) r) n all count)))

-- a row of one word
led_by : (t : List ℕ) → length t ≡ 9 → get_or t 0 0 ≡ 32 → t ≡ 32 ∷ drop 1 t
led_by [] l e = absurd (omega (arith, l))
led_by (c ∷ cs) l e = ap (λ (x : ℕ). x ∷ cs) e

rest_whole : (t : List ℕ) → length t ≡ 9 → take (length t - 1) (drop 1 t) ≡ drop 1 t
rest_whole t l = take_all (length t - 1) (drop 1 t) (omega (arith, length-drop 1 t))

pub yes_one_word : (t old new put : List ℕ) (w : ℕ) → length t ≡ 9 → get_or t 0 0 ≡ 32 → w < 2 ^ 32 → take (length t - 1) (drop 1 t) ≡ hex_word w → put ≡ bytes_of_word w → new ≡ old ++ put
    → AppendsIfRead IsWordRow (flat_map spaced) (flat_map bytes_of_word) true t old new
yes_one_word t old new put w l s h d b e =
    (w ∷ [], ((h, tt), omega arith, omega arith), led_by t l s ∙ ap (λ r. 32 ∷ r) (sym (rest_whole t l) ∙ d), e ∙ ap (λ p. old ++ p) b)

one_of_nine : (t ws : List ℕ) → length t ≡ 9 → IsWordRow ws → t ≡ flat_map spaced ws → (w : ℕ) × (w < 2 ^ 32) × (t ≡ 32 ∷ hex_word w)
one_of_nine t [] l r e = absurd (omega (arith, r.1))
one_of_nine t (w ∷ []) l r e = (w, r.0.0, e)
one_of_nine t (w ∷ v ∷ ws) l r e = absurd (omega (arith, ap length e, length_spaced (w ∷ v ∷ ws), l))

pub no_space_first : (t : List ℕ) → length t ≡ 9 → (get_or t 0 0 ≡ 32 → ⊥) → (ws : List ℕ) → IsWordRow ws → t ≡ flat_map spaced ws → ⊥
no_space_first t l h ws r e = let p = one_of_nine t ws l r e in h (ap (λ (s : List ℕ). get_or s 0 0) p.2)

pub no_one_word : (t : List ℕ) → length t ≡ 9 → ((w : ℕ) → w < 2 ^ 32 → take (length t - 1) (drop 1 t) ≡ hex_word w → ⊥) → (ws : List ℕ) → IsWordRow ws → t ≡ flat_map spaced ws → ⊥
no_one_word t l h ws r e = let p = one_of_nine t ws l r e in h p.0 p.1 (rest_whole t l ∙ ap (drop 1) p.2)
