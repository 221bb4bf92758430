-- A `data` line by what stands in it, and the lines of bytes of any length.
use Rattle.std.proofs.Common.{◌≡◌, ℕ, zero, suc, ◌+◌, ◌*◌, ◌-◌, ◌<◌, ◌≤◌, Bool, true, false, IsTrue, eqb, List, [], ◌∷◌, ◌++◌, codes, get_or, length, take, take-add, drop, map, refl, ap, sym, ◌∙◌, append_assoc, append-nil, arith, inl, inr, length-append, length-drop}
use Rattle.std.proofs.Math.Seq.{take-append-add}
use Rattle.std.proofs.lemmas.Bool.{cases_lt}
use Rattle.std.proofs.lemmas.Bool.Decides.{Decides-eqb}
use Rattle.std.proofs.lemmas.Slice.Eq.{slice_eq-Decides}
use Rattle.std.specs.Cmp.Lexicographic.{pointwise}
use Rattle.std.proofs.lemmas.List.{append_cancel_left, drop_at, length-take-le, take-take, take_at, take_more}
use Rattle.std.proofs.lemmas.List.Folds.{flat_map-map}
use Rattle.std.specs.List.{flat_map, range_with_len}
use Rattle.std.specs.Simd.{first_chunks}
use Rattle.std.proofs.lemmas.Simd.{length-chunk, pick_l_whole}
use lib.Lanes.{Each1, chunk, pick_l}
use Rattle.x7_words.specs.Word.{AreBytes, bytes_of_word, words_of_bytes}
use Rattle.x7_words.proofs.WordLemmas.{bytes_words, length_words, words_fit}
use Rattle.x7_words.proofs.ListLemmas.{all_take}
use Rattle.x7_text.specs.Digits.{hex_byte, hex_word}
use Rattle.x7_text.specs.Row.{spaced}
use Rattle.x7_text.proofs.FewLemmas.{hex_prefix}
use Rattle.x7_text.proofs.WordLemmas.{hex_words}
use Rattle.x7_listing.specs.Assembling.{AppendsFirstLines}
use Rattle.x7_listing.specs.Fast.Looking.{words_in_row}
use Rattle.x7_listing.specs.Line.{Bytes, Data}
use Rattle.x7_listing.proofs.asm.fast.QuickLemmas.{takes_line}

-- words after spaces, one after another
listed_at : (n p : ℕ) (text : List ℕ) → p + 9 * n ≤ length text → ((k : ℕ) → k < n → get_or text (p + 9 * k) 0 ≡ 32) → take (p + 9 * n) text ≡ take p text ++ flat_map (λ (w : List ℕ). 32 ∷ w) (words_in_row text p n)
listed_at zero p text h s = ap (λ (k : ℕ). take k text) (let e : p + 9 * 0 ≡ p = omega arith in e) ∙ sym (append-nil (take p text))
listed_at (suc n) p text h s =
    let word : List ℕ = take 8 (drop (p + 1) text) in
    let rest : List ℕ = flat_map (λ (w : List ℕ). 32 ∷ w) (words_in_row text (p + 9) n) in
    let space : get_or text p 0 ≡ 32 = ap (λ (k : ℕ). get_or text k 0) (let e : p ≡ p + 9 * 0 = omega arith in e) ∙ s 0 (omega arith) in
    let nine : take (p + 9) text ≡ take p text ++ 32 ∷ take 8 (drop (p + 1) text) =
    ap (λ (k : ℕ). take k text) (let e : p + 9 ≡ p + 1 + 8 = omega arith in e) ∙ take-add (p + 1) 8 text
    ∙ ap (λ t. t ++ take 8 (drop (p + 1) text)) (take_more text p 0 (omega arith) ∙ ap (λ (c : ℕ). take p text ++ c ∷ []) space) ∙ append_assoc (take p text) (32 ∷ []) (take 8 (drop (p + 1) text)) in
    ap (λ (k : ℕ). take k text) (let e : p + 9 * suc n ≡ p + 9 + 9 * n = omega arith in e)
    ∙ listed_at n (p + 9) text (omega arith) (λ k l. ap (λ (j : ℕ). get_or text j 0) (let e : p + 9 + 9 * k ≡ p + 9 * (k + 1) = omega arith in e) ∙ s (k + 1) (omega arith))
    ∙ ap (λ t. t ++ rest) nine ∙ append_assoc (take p text) (32 ∷ word) rest

-- words one after another, cut apart again
cut_again : (n p : ℕ) (text : List ℕ) → p + 9 * n ≤ length text → first_chunks 8 n (flat_map (λ (w : List ℕ). w) (words_in_row text p n)) ≡ words_in_row text p n
cut_again zero p text h = refl
cut_again (suc n) p text h =
    let word : List ℕ = take 8 (drop (p + 1) text) in
    let rest : List ℕ = flat_map (λ (w : List ℕ). w) (words_in_row text (p + 9) n) in
    let long : length (take 8 (drop (p + 1) text)) ≡ 8 = length-take-le 8 (drop (p + 1) text) (omega (arith, length-drop (p + 1) text)) in
    ap (λ (t : List ℕ). t ∷ first_chunks 8 n (drop 8 (word ++ rest))) (take_at word rest 8 long)
    ∙ ap (λ (t : List ℕ). word ∷ first_chunks 8 n t) (drop_at word rest 8 long) ∙ ap (λ (t : List (List ℕ)). word ∷ t) (cut_again n (p + 9) text (omega arith))

-- eight words, two by two and four by four
in_a_row : (a b c d e f g h ab cd ef gh low high : List ℕ) → ab ≡ a ++ b → cd ≡ c ++ d → ef ≡ e ++ f → gh ≡ g ++ h → low ≡ ab ++ cd → high ≡ ef ++ gh → low ++ high ≡ a ++ (b ++ (c ++ (d ++ (e ++ (f ++ (g ++ (h ++ [])))))))
in_a_row a b c d e f g h ab cd ef gh low high p q r s t u = rw (t, u, p, q, r, s) (simp (append_assoc, append-nil))

pub row_of : (text low high ab cd ef gh : List ℕ) → 77 ≤ length text → ab ≡ chunk 5 8 text ++ chunk 14 8 text → cd ≡ chunk 23 8 text ++ chunk 32 8 text → ef ≡ chunk 41 8 text ++ chunk 50 8 text → gh ≡ chunk 59 8 text ++ chunk 68 8 text → low ≡ ab ++ cd → high ≡ ef ++ gh
    → pick_l 0 (low ++ high) (range_with_len 0 64) ≡ flat_map (λ (w : List ℕ). w) (words_in_row text 4 8)
row_of text low high ab cd ef gh long p q r s t u =
    pick_l_whole 0 (low ++ high) 64 (omega (
      arith,
      length-append low high,
      ap length t,
      ap length u,
      length-append ab cd,
      length-append ef gh,
      two 5 14 ab (omega (arith, long)) (omega (arith, long)) p,
      two 23 32 cd (omega (arith, long)) (omega (arith, long)) q,
      two 41 50 ef (omega (arith, long)) (omega (arith, long)) r,
      two 59 68 gh (omega (arith, long)) (omega (arith, long)) s,
    ))
    ∙ in_a_row (chunk 5 8 text) (chunk 14 8 text) (chunk 23 8 text) (chunk 32 8 text) (chunk 41 8 text) (chunk 50 8 text) (chunk 59 8 text) (chunk 68 8 text) ab cd ef gh low high p q r s t u
  where
    two : (i j : ℕ) (x : List ℕ) → i + 8 ≤ length text → j + 8 ≤ length text → x ≡ chunk i 8 text ++ chunk j 8 text → length x ≡ 16
    two i j x h k e = omega (arith, ap length e, length-append (chunk i 8 text) (chunk j 8 text), length-chunk i 8 text h, length-chunk j 8 text k)

pub space_more : (text : List ℕ) (k : ℕ) → ((j : ℕ) → j < k → get_or text (4 + 9 * j) 0 ≡ 32) → get_or text (4 + 9 * k) 0 ≡ 32 → (j : ℕ) → j < k + 1 → get_or text (4 + 9 * j) 0 ≡ 32
space_more text k all e j h = elim (cases_lt j k) [
  | inl l ↦ all j l
  | inr g ↦ (let same : j ≡ k = omega (arith, h, g) in ap (λ (i : ℕ). get_or text (4 + 9 * i) 0) same ∙ e)
]

-- the first bytes, compared one by one
is_same : (b : Bool) (xs ys : List ℕ) → b ≡ pointwise eqb xs ys → IsTrue b → xs ≡ ys
is_same true xs ys e h = (slice_eq-Decides Decides-eqb xs ys (pointwise eqb xs ys) refl).0 (sym e)
is_same false xs ys e h = absurd cc

four : (text : List ℕ) → 77 ≤ length text → get_or text 0 0 ∷ get_or text 1 0 ∷ get_or text 2 0 ∷ get_or text 3 0 ∷ [] ≡ take 4 text
four [] h = absurd (omega (arith, h))
four (a ∷ []) h = absurd (omega (arith, h))
four (a ∷ b ∷ []) h = absurd (omega (arith, h))
four (a ∷ b ∷ c ∷ []) h = absurd (omega (arith, h))
four (a ∷ b ∷ c ∷ d ∷ text) h = refl

pub prefix_four : (text word : List ℕ) → 77 ≤ length text → (b : Bool) → b ≡ pointwise eqb (get_or text 0 0 ∷ get_or text 1 0 ∷ get_or text 2 0 ∷ get_or text 3 0 ∷ []) word → IsTrue b → take 4 text ≡ word
prefix_four text word long b e h = sym (four text long) ∙ is_same b _ word e h

six : (text : List ℕ) → 77 ≤ length text → get_or text 0 0 ∷ get_or text 1 0 ∷ get_or text 2 0 ∷ get_or text 3 0 ∷ get_or text 4 0 ∷ get_or text 5 0 ∷ [] ≡ take 6 text
six [] h = absurd (omega (arith, h))
six (a ∷ []) h = absurd (omega (arith, h))
six (a ∷ b ∷ []) h = absurd (omega (arith, h))
six (a ∷ b ∷ c ∷ []) h = absurd (omega (arith, h))
six (a ∷ b ∷ c ∷ d ∷ []) h = absurd (omega (arith, h))
six (a ∷ b ∷ c ∷ d ∷ e ∷ []) h = absurd (omega (arith, h))
six (a ∷ b ∷ c ∷ d ∷ e ∷ f ∷ text) h = refl

pub prefix_six : (text word : List ℕ) → 77 ≤ length text → (b : Bool) → b ≡ pointwise eqb (get_or text 0 0 ∷ get_or text 1 0 ∷ get_or text 2 0 ∷ get_or text 3 0 ∷ get_or text 4 0 ∷ get_or text 5 0 ∷ []) word → IsTrue b → take 6 text ≡ word
prefix_six text word long b e h = sym (six text long) ∙ is_same b _ word e h

-- the digits of the first words are the first digits
first_digits : (n k p : ℕ) (text : List ℕ) → p + 9 * (n + k) ≤ length text → take (8 * n) (flat_map (λ (w : List ℕ). w) (words_in_row text p (n + k))) ≡ flat_map (λ (w : List ℕ). w) (words_in_row text p n)
first_digits zero k p text h = refl
first_digits (suc n) k p text h =
    let word : List ℕ = take 8 (drop (p + 1) text) in
    let rest : List ℕ = flat_map (λ (w : List ℕ). w) (words_in_row text (p + 9) (n + k)) in
    let long : length (take 8 (drop (p + 1) text)) ≡ 8 = length-take-le 8 (drop (p + 1) text) (omega (arith, length-drop (p + 1) text, h)) in
    let size : 8 * suc n ≡ length (take 8 (drop (p + 1) text)) + 8 * n = omega (arith, long) in
    ap (λ (m : ℕ). take (8 * suc n) (flat_map (λ (w : List ℕ). w) (words_in_row text p m))) (let e : suc n + k ≡ suc (n + k) = omega arith in e)
    ∙ ap (λ (m : ℕ). take m (word ++ rest)) size ∙ take-append-add word rest (8 * n) ∙ ap (λ t. word ++ t) (first_digits n k (p + 9) text (omega (arith, h)))

-- a line of words, as many as there are eight digits
pub takes_words : (text bs old all new digits : List ℕ) (n count end : ℕ) → 77 ≤ length text → take 4 text ≡ codes "data" → ((k : ℕ) → k < count → get_or text (4 + 9 * k) 0 ≡ 32) → get_or text (4 + 9 * count) 0 ≡ 10 → length bs ≡ 32 → AreBytes bs
    → 0 < count → count ≤ 8 → 8 * count ≤ n → digits ≡ flat_map (λ (w : List ℕ). w) (words_in_row text 4 8) → take n digits ≡ take n (flat_map hex_byte bs) → end ≡ length old + 4 * count → all ≡ old ++ bs → new ≡ take end all → AppendsFirstLines text old new (5 + 9 * count) 1
takes_words text bs old all new digits n count end long word spaces last full fit some few most are same at put cut =
    let row : List ℕ = take (4 * count) bs in
    let ws : List ℕ = words_of_bytes (take (4 * count) bs) in
    let size : length (take (4 * count) bs) ≡ 4 * count = length-take-le (4 * count) bs (omega (arith, full, few)) in
    let fits : AreBytes (take (4 * count) bs) = all_take (λ b. b < 256) (4 * count) bs fit in
    let number : length (words_of_bytes (take (4 * count) bs)) ≡ count = length_words (take (4 * count) bs) count size in
    let parts : 8 ≡ count + (8 - count) = omega (arith, few) in
    let prefix : take (8 * count) digits ≡ flat_map (λ (w : List ℕ). w) (words_in_row text 4 count) =
    ap (take (8 * count)) are ∙ ap (λ (m : ℕ). take (8 * count) (flat_map (λ (w : List ℕ). w) (words_in_row text 4 m))) parts ∙ first_digits count (8 - count) 4 text (omega (arith, long, few)) in
    let hex : take (8 * count) digits ≡ flat_map hex_byte (take (4 * count) bs) =
    sym (take-take (8 * count) n digits most) ∙ ap (take (8 * count)) same ∙ take-take (8 * count) n (flat_map hex_byte bs) most
    ∙ ap (λ (m : ℕ). take m (flat_map hex_byte bs)) (let e : 8 * count ≡ 2 * (4 * count) = omega arith in e) ∙ hex_prefix (4 * count) bs (omega (arith, full, few)) in
    let words : words_in_row text 4 count ≡ map hex_word (words_of_bytes (take (4 * count) bs)) =
    sym (cut_again count 4 text (omega (arith, long, few))) ∙ ap (first_chunks 8 count) (sym prefix ∙ hex) ∙ hex_words count (take (4 * count) bs) size (each_byte (take (4 * count) bs) fits) in
    let known : take 4 text ++ take (9 * count) (drop 4 text) ≡ take 4 text ++ flat_map (λ (w : List ℕ). 32 ∷ w) (words_in_row text 4 count) =
    sym (take-add 4 (9 * count) text) ∙ listed_at count 4 text (omega (arith, long, few)) spaces in
    let shown : take (9 * count) (drop 4 text) ≡ flat_map spaced (words_of_bytes (take (4 * count) bs)) =
    append_cancel_left (take 4 text) _ _ known ∙ ap (flat_map (λ (w : List ℕ). 32 ∷ w)) words ∙ flat_map-map (λ (w : List ℕ). 32 ∷ w) hex_word (words_of_bytes (take (4 * count) bs)) in
    let added : new ≡ old ++ flat_map bytes_of_word (words_of_bytes (take (4 * count) bs)) =
    cut ∙ ap (take end) put ∙ ap (λ (k : ℕ). take k (old ++ bs)) at ∙ take-append-add old bs (4 * count) ∙ ap (λ t. old ++ t) (sym (bytes_words (take (4 * count) bs) count fits size)) in
    takes_line (Data (words_of_bytes (take (4 * count) bs))) (codes "data") (flat_map spaced (words_of_bytes (take (4 * count) bs))) text old new 4 (9 * count) (4 + 9 * count) (5 + 9 * count)
    (words_fit (take (4 * count) bs) fits, omega (arith, number, some), omega (arith, number, few)) tt refl word shown refl (omega arith) last (omega (arith, long, few)) added
  where
    each_byte : (xs : List ℕ) → AreBytes xs → Each1 (λ b. b < 256) xs
    each_byte [] a = tt
    each_byte (x ∷ xs) a = (a.0, each_byte xs a.1)

-- a line of bytes, as many as its digits
pub takes_prefix : (text bs old all new : List ℕ) (n count end : ℕ) → 77 ≤ length text → take 6 text ≡ codes "bytes " → n ≤ 64 → length bs ≡ 32 → AreBytes bs → take n (take 64 (drop 6 text)) ≡ take n (flat_map hex_byte bs)
    → 0 < count → n ≡ 2 * count → get_or text (6 + n) 0 ≡ 10 → end ≡ length old + count → all ≡ old ++ bs → new ≡ take end all → AppendsFirstLines text old new (7 + n) 1
takes_prefix text bs old all new n count end long word most full fit same some even is at put cut =
    let row : List ℕ = take count bs in
    let size : length (take count bs) ≡ count = length-take-le count bs (omega (arith, full, most, even)) in
    let digits : take n (drop 6 text) ≡ flat_map hex_byte (take count bs) =
    sym (take-take n 64 (drop 6 text) most) ∙ same ∙ ap (λ (k : ℕ). take k (flat_map hex_byte bs)) even ∙ hex_prefix count bs (omega (arith, full, most, even)) in
    let added : new ≡ old ++ take count bs = cut ∙ ap (take end) put ∙ ap (λ (k : ℕ). take k (old ++ bs)) at ∙ take-append-add old bs count in
    takes_line (Bytes (take count bs)) (codes "bytes ") (flat_map hex_byte (take count bs)) text old new 6 n (6 + n) (7 + n)
    (all_take (λ b. b < 256) count bs fit, omega (arith, size, some), omega (arith, size, most, even)) tt refl word digits refl (omega arith) is (omega (arith, long, most)) added
