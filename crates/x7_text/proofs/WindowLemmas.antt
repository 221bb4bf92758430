-- The first elements of a whole line.
use Rattle.std.proofs.Common.{◌≡◌, ℕ, zero, suc, ◌+◌, ◌-◌, ◌*◌, ◌/◌, ◌<◌, ◌≤◌, List, [], ◌∷◌, ◌++◌, codes, drop, get_or, length, length-append, length-take-le, take, take_all, refl, ap, sym, ◌∙◌, append_assoc, arith, ◌==◌, false}
use Rattle.std.proofs.Math.Seq.{take-add, take-append-add}
use Rattle.std.proofs.lemmas.Bool.Decides.{nat_tests}
use Rattle.std.proofs.lemmas.List.{take-append-le, take-take}
use Rattle.std.specs.List.{flat_map}
use Rattle.std.specs.Simd.{first_chunks}
use Rattle.x7_words.specs.Word.{words_of_bytes}
use Rattle.x7_words.proofs.WordLemmas.{length_words, words_of_bytes_append, words_taken}
use Rattle.x7_text.specs.Digits.{hex_byte}
use Rattle.x7_text.specs.Row.{bytes_text, close, in_line_after, line, open_text, spaced}
use Rattle.x7_text.proofs.FewLemmas.{few_count, few_text, hex_prefix}
use Rattle.x7_text.proofs.LineLemmas.{bytes_closed, in_line_after_row, in_line_after_whole, open_text_row, open_text_whole}
use Rattle.x7_text.proofs.ReadRowLemmas.{take_spaced}
use Rattle.x7_text.proofs.WholeLineLemmas.{length_hex_bytes}

-- how many words the first bytes are
first_count : (bytes : List ℕ) (count : ℕ) → 4 * count ≤ length bytes → length (words_of_bytes (take (4 * count) bytes)) ≡ count
first_count bytes count h = length_words (take (4 * count) bytes) count (length-take-le (4 * count) bytes h)

all_words : (bytes : List ℕ) (count : ℕ) → length bytes ≡ 32 → count ≡ 8 → words_of_bytes (take (4 * count) bytes) ≡ words_of_bytes bytes
all_words bytes count long e = ap words_of_bytes (take_all (4 * count) bytes (omega (arith, long, e)))

pub whole_words : (bytes : List ℕ) (count : ℕ) → length bytes ≡ 32 → count ≡ 8 → line (codes "data") spaced (words_of_bytes bytes) ≡ open_text 8 (codes "data") spaced 0 (words_of_bytes (take (4 * count) bytes))
whole_words bytes count long e = sym (open_text_whole 8 (codes "data") spaced (words_of_bytes bytes) (length_words bytes 8 (omega (arith, long))) (omega arith)) ∙ ap (open_text 8 (codes "data") spaced 0) (sym (all_words bytes count long e))

pub whole_count : (bytes : List ℕ) (count : ℕ) → length bytes ≡ 32 → count ≡ 8 → 0 ≡ in_line_after 8 0 (words_of_bytes (take (4 * count) bytes))
whole_count bytes count long e = sym (ap (in_line_after 8 0) (all_words bytes count long e) ∙ in_line_after_whole 8 (words_of_bytes bytes) (length_words bytes 8 (omega (arith, long))) (omega arith))

pub first_words_count : (bytes : List ℕ) (count : ℕ) → length bytes ≡ 32 → count < 8 → count ≡ in_line_after 8 0 (words_of_bytes (take (4 * count) bytes))
first_words_count bytes count long few =
    let n : length (words_of_bytes (take (4 * count) bytes)) ≡ count = first_count bytes count (omega (arith, long, few)) in
    let known : in_line_after 8 0 (words_of_bytes (take (4 * count) bytes)) ≡ 0 + length (words_of_bytes (take (4 * count) bytes)) = few_count 8 0 (words_of_bytes (take (4 * count) bytes)) (omega (arith, n, few)) in
    omega (arith, known, n)

-- a prefix of what was appended
kept_prefix : (old all known new : List ℕ) (n k : ℕ) → n ≡ length old + k → all ≡ old ++ known → new ≡ take n all → new ≡ old ++ take k known
kept_prefix old all known new n k e f g = g ∙ ap (λ (m : ℕ). take m all) e ∙ ap (take (length old + k)) f ∙ take-append-add old known k

pub first_words : (old all known new bytes : List ℕ) (n count : ℕ) → 0 < count → count < 8 → length bytes ≡ 32 → known ≡ line (codes "data") spaced (words_of_bytes bytes) → n ≡ length old + (4 + 9 * count) → all ≡ old ++ known → new ≡ take n all
    → new ≡ old ++ open_text 8 (codes "data") spaced 0 (words_of_bytes (take (4 * count) bytes))
first_words old all known new bytes n count some few long is e f g =
    let ws : List ℕ = words_of_bytes bytes in
    let prefix : List ℕ = words_of_bytes (take (4 * count) bytes) in
    let eight : length (words_of_bytes bytes) ≡ 8 = length_words bytes 8 (omega (arith, long)) in
    let number : length (words_of_bytes (take (4 * count) bytes)) ≡ count = first_count bytes count (omega (arith, long, few)) in
    let four : 4 + 9 * count ≡ suc (suc (suc (suc (9 * count)))) = omega arith in
    let digits : take (9 * count) (flat_map spaced (words_of_bytes bytes) ++ 10 ∷ []) ≡ flat_map spaced (words_of_bytes (take (4 * count) bytes)) =
    take_spaced count (words_of_bytes bytes) (10 ∷ []) (omega (arith, eight, few)) ∙ ap (flat_map spaced) (sym (words_taken count bytes (omega (arith, long, few)))) in
    let shown : take (4 + 9 * count) known ≡ codes "data" ++ flat_map spaced (words_of_bytes (take (4 * count) bytes)) =
    ap (take (4 + 9 * count)) is ∙ ap (λ (m : ℕ). take m (line (codes "data") spaced (words_of_bytes bytes))) four ∙ ap (λ t. codes "data" ++ t) digits in
    kept_prefix old all known new n (4 + 9 * count) e f g ∙ ap (λ t. old ++ t) (shown ∙ sym (few_text 8 (codes "data") spaced 0 (words_of_bytes (take (4 * count) bytes)) (omega (arith, number, some)) (omega (arith, number, few))))

-- the first rows of a block
row_zero : (n : ℕ) (bytes : List ℕ) → 0 < n → get_or (first_chunks 32 n bytes) 0 [] ≡ take 32 bytes
row_zero zero bytes h = absurd (omega (arith, h))
row_zero (suc n) bytes h = refl

row_one : (n : ℕ) (bytes : List ℕ) → 1 < n → get_or (first_chunks 32 n bytes) 1 [] ≡ take 32 (drop 32 bytes)
row_one zero bytes h = absurd (omega (arith, h))
row_one (suc n) bytes h = row_zero n (drop 32 bytes) (omega (arith, h))

pub first_row : (rows : List (List ℕ)) (bytes : List ℕ) → length bytes ≡ 64 → rows ≡ first_chunks 32 (length bytes / 32) bytes → get_or rows 0 [] ≡ take 32 bytes
first_row rows bytes long e = ap (λ (t : List (List ℕ)). get_or t 0 []) e ∙ row_zero (length bytes / 32) bytes (omega (arith, long))

pub second_row : (rows : List (List ℕ)) (bytes : List ℕ) → length bytes ≡ 64 → rows ≡ first_chunks 32 (length bytes / 32) bytes → get_or rows 1 [] ≡ take 32 (drop 32 bytes)
second_row rows bytes long e = ap (λ (t : List (List ℕ)). get_or t 1 []) e ∙ row_one (length bytes / 32) bytes (omega (arith, long))

-- words of the first row alone
pub in_one_row : (bytes row : List ℕ) (count : ℕ) → count ≤ 8 → row ≡ take 32 bytes → take (4 * count) row ≡ take (4 * count) bytes
in_one_row bytes row count h e = ap (take (4 * count)) e ∙ take-take (4 * count) 32 bytes (omega (arith, h))

-- words of two rows
in_two_rows : (bytes first second : List ℕ) (count : ℕ) → length bytes ≡ 64 → 8 < count → count ≤ 16 → first ≡ take 32 bytes → second ≡ take 32 (drop 32 bytes)
    → words_of_bytes (take (4 * count) bytes) ≡ words_of_bytes first ++ words_of_bytes (take (4 * (count - 8)) second)
in_two_rows bytes first second count long more few e f =
    let split : 4 * count ≡ 32 + 4 * (count - 8) = omega arith in
    let same : take (4 * (count - 8)) second ≡ take (4 * (count - 8)) (drop 32 bytes) = in_one_row (drop 32 bytes) second (count - 8) (omega (arith, few)) f in
    let whole : length first ≡ 4 * 8 = ap length e ∙ length-take-le 32 bytes (omega (arith, long)) in
    ap (λ (m : ℕ). words_of_bytes (take m bytes)) split ∙ ap words_of_bytes (take-add 32 (4 * (count - 8)) bytes)
    ∙ ap (λ t. words_of_bytes (t ++ take (4 * (count - 8)) (drop 32 bytes))) (sym e) ∙ ap (λ t. words_of_bytes (first ++ t)) (sym same)
    ∙ words_of_bytes_append 8 first (take (4 * (count - 8)) second) whole

row_of_eight : (bytes first : List ℕ) → length bytes ≡ 64 → first ≡ take 32 bytes → length (words_of_bytes first) ≡ 8
row_of_eight bytes first long e = length_words first 8 (ap length e ∙ length-take-le 32 bytes (omega (arith, long)) ∙ omega arith)

pub two_rows_count : (bytes first second : List ℕ) (count last : ℕ) → length bytes ≡ 64 → 8 < count → count ≤ 16 → first ≡ take 32 bytes → second ≡ take 32 (drop 32 bytes)
    → last ≡ in_line_after 8 0 (words_of_bytes (take (4 * (count - 8)) second)) → last ≡ in_line_after 8 0 (words_of_bytes (take (4 * count) bytes))
two_rows_count bytes first second count last long more few e f g =
    g ∙ sym (ap (in_line_after 8 0) (in_two_rows bytes first second count long more few e f) ∙ in_line_after_row 8 (words_of_bytes first) (words_of_bytes (take (4 * (count - 8)) second)) (row_of_eight bytes first long e) (omega arith))

pub two_rows : (bytes first second old middle new known : List ℕ) (count : ℕ) → length bytes ≡ 64 → 8 < count → count ≤ 16 → first ≡ take 32 bytes → second ≡ take 32 (drop 32 bytes)
    → known ≡ line (codes "data") spaced (words_of_bytes first) → middle ≡ old ++ known → new ≡ middle ++ open_text 8 (codes "data") spaced 0 (words_of_bytes (take (4 * (count - 8)) second))
    → new ≡ old ++ open_text 8 (codes "data") spaced 0 (words_of_bytes (take (4 * count) bytes))
two_rows bytes first second old middle new known count long more few e f t a b =
    b ∙ ap (λ x. x ++ open_text 8 (codes "data") spaced 0 (words_of_bytes (take (4 * (count - 8)) second))) (a ∙ ap (λ x. old ++ x) t)
    ∙ append_assoc old (line (codes "data") spaced (words_of_bytes first)) (open_text 8 (codes "data") spaced 0 (words_of_bytes (take (4 * (count - 8)) second)))
    ∙ ap (λ x. old ++ x) (sym (ap (open_text 8 (codes "data") spaced 0) (in_two_rows bytes first second count long more few e f)
    ∙ open_text_row 8 (codes "data") spaced (words_of_bytes first) (words_of_bytes (take (4 * (count - 8)) second)) (row_of_eight bytes first long e) (omega arith)))

closes : (k : ℕ) → 0 < k → close k ≡ 10 ∷ []
closes k h = let e : (k == 0) ≡ false = grind (arith, nat_tests) in rw e refl

pub first_bytes : (old begun all known cut new bytes : List ℕ) (n count : ℕ) → 0 < count → count < 32 → length bytes ≡ 32 → known ≡ flat_map hex_byte bytes → begun ≡ old ++ codes "bytes " → n ≡ length old + (6 + 2 * count) → all ≡ begun ++ known → cut ≡ take n all → new ≡ cut ++ 10 ∷ []
    → new ≡ old ++ bytes_text (take count bytes)
first_bytes old begun all known cut new bytes n count some few long is b e f g h =
    let prefix : List ℕ = take count bytes in
    let number : length (take count bytes) ≡ count = length-take-le count bytes (omega (arith, long, few)) in
    let shown : cut ≡ begun ++ flat_map hex_byte (take count bytes) =
    kept_prefix begun all known cut n (2 * count) (omega (arith, e, ap length b, length-append old (codes "bytes "))) f g ∙ ap (λ t. begun ++ take (2 * count) t) is
    ∙ ap (λ t. begun ++ t) (hex_prefix count bytes (omega (arith, long, few))) in
    let known_so : in_line_after 32 0 (take count bytes) ≡ 0 + length (take count bytes) = few_count 32 0 (take count bytes) (omega (arith, number, few)) in
    let ends : close (in_line_after 32 0 (take count bytes)) ≡ 10 ∷ [] = closes (in_line_after 32 0 (take count bytes)) (omega (arith, known_so, number, some)) in
    let text : bytes_text (take count bytes) ≡ (codes "bytes " ++ flat_map hex_byte (take count bytes)) ++ 10 ∷ [] =
    sym (bytes_closed (take count bytes)) ∙ ap (λ t. t ++ close (in_line_after 32 0 (take count bytes))) (few_text 32 (codes "bytes ") hex_byte 0 (take count bytes) (omega (arith, number, some)) (omega (arith, number, few)))
    ∙ ap (λ t. (codes "bytes " ++ flat_map hex_byte (take count bytes)) ++ t) ends in
    h ∙ ap (λ t. t ++ 10 ∷ []) (shown ∙ ap (λ t. t ++ flat_map hex_byte (take count bytes)) b ∙ append_assoc old (codes "bytes ") (flat_map hex_byte (take count bytes)))
    ∙ append_assoc old (codes "bytes " ++ flat_map hex_byte (take count bytes)) (10 ∷ []) ∙ ap (λ t. old ++ t) (sym text)

-- the first elements of a line that was written whole
pub first_of_line : (old all cut new bytes : List ℕ) (n count : ℕ) → 0 < count → count < 32 → length bytes ≡ 32 → all ≡ old ++ line (codes "bytes ") hex_byte bytes → n ≡ length old + (6 + 2 * count) → cut ≡ take n all → new ≡ cut ++ 10 ∷ []
    → new ≡ old ++ bytes_text (take count bytes)
first_of_line old all cut new bytes n count some few long e at f g =
    let hex : List ℕ = flat_map hex_byte bytes in
    let begun : List ℕ = old ++ codes "bytes " in
    let whole : all ≡ ((old ++ codes "bytes ") ++ flat_map hex_byte bytes) ++ 10 ∷ [] =
    e ∙ sym (append_assoc old (codes "bytes " ++ hex) (10 ∷ [])) ∙ ap (λ t. t ++ 10 ∷ []) (sym (append_assoc old (codes "bytes ") hex)) in
    let within : n ≤ length ((old ++ codes "bytes ") ++ flat_map hex_byte bytes) = omega (arith, at, few, long, length-append (old ++ codes "bytes ") hex, length-append old (codes "bytes "), length_hex_bytes bytes) in
    first_bytes old (old ++ codes "bytes ") ((old ++ codes "bytes ") ++ flat_map hex_byte bytes) (flat_map hex_byte bytes) cut new bytes n count some few long refl refl at refl
    (f ∙ ap (take n) whole ∙ take-append-le n ((old ++ codes "bytes ") ++ flat_map hex_byte bytes) (10 ∷ []) within) g
