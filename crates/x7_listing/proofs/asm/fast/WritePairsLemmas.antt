-- The two lines of a write of one word, read at once by a row of a table.
use Rattle.std.proofs.Common.{◌≡◌, ℕ, ◌+◌, ◌-◌, ◌%◌, ◌^◌, ◌<◌, ◌≤◌, Bool, not, cond, w8, List, [], ◌∷◌, ◌++◌, codes, get_or, length, take, drop, map, refl, ap, sym, ◌∙◌, arith, inl, inr, append_assoc, append-nil, length-append, take-add}
use Rattle.std.specs.List.{prefix_len}
use Rattle.std.proofs.lemmas.Bool.{cases_eq}
use Rattle.std.proofs.lemmas.Fmt.{decimal_digit}
use Rattle.std.proofs.lemmas.List.{drop_more, length-take-le, map-id, take-append-drop, take-take}
use Rattle.std.proofs.lemmas.Simd.{leading_from_mask_l, length-chunk, length-zip2, mask_l-mod, tops_compared, trailing_mask_l}
use lib.Lanes.{chunk, mask_l, top, zip2}
use lib.Count.{count_trailing_zeros}
use mir.Val.{bits, hbits}
use Rattle.x7_words.specs.Word.{bytes_of_word}
use Rattle.x7_regs.specs.Register.{reg_name, reg_number_count}
use Rattle.x7_text.specs.Digits.{hex_word}
use Rattle.x7_packets.specs.PacketWords.{type1_write_header}
use Rattle.x7_listing.specs.Assembling.{AppendsFirstLines}
use Rattle.x7_listing.specs.Fast.AtOnce.{command_lines_text, write_line_text, write_start_text}
use Rattle.x7_listing.specs.Fast.Looking.{bytes_differ}
use Rattle.x7_listing.specs.Line.{Line, Data, Write, line_bytes, text_of, cmd_line, ended_text}
use Rattle.x7_listing.proofs.asm.fast.QuickLemmas.{dropped_twice}
use Rattle.x7_listing.proofs.line.LineTextLemmas.{Listed, cmd_stands, IsLineOf}
use Rattle.x7_text.proofs.PrefixLemmas.{same_so_far}

-- ---- as many bytes are the same as come before the first that differs

few_set : (n m : ℕ) (ds : List Bool) → length ds ≡ 32 → n ≤ 32 → m ≡ mask_l ds → n ≤ count_trailing_zeros 64 m → n ≤ prefix_len (λ b. not b) ds
few_set n m ds long few e h =
    let same : mask_l (map (λ (b : Bool). b) ds) ≡ mask_l ds = ap mask_l (map-id ds) in
    elim (cases_eq (mask_l (map (λ (b : Bool). b) ds)) 0) [
      | inl none ↦ omega (arith, leading_from_mask_l (λ (b : Bool). b) ds none, long, few)
      | inr some ↦ omega (arith, ap (count_trailing_zeros 64) (e ∙ sym same), trailing_mask_l (λ (b : Bool). b) 64 ds (omega (arith, long)) (omega (arith, some)), h)
    ]

pub same_by_mask : (n m : ℕ) (text row : List ℕ) → 32 ≤ length text → length row ≡ 32 → n ≤ 32 → m ≡ mask_l (zip2 bytes_differ (chunk 0 32 text) row) → n ≤ count_trailing_zeros 64 m → take n text ≡ take n row
same_by_mask n m text row long full few e h =
    let ours : length (chunk 0 32 text) ≡ 32 = length-chunk 0 32 text long in
    let size : length (zip2 bytes_differ (chunk 0 32 text) row) ≡ 32 = length-zip2 bytes_differ (chunk 0 32 text) row (ours ∙ sym full) ∙ ours in
    sym (take-take n 32 text few) ∙ same_so_far n (chunk 0 32 text) row (few_set n m (zip2 bytes_differ (chunk 0 32 text) row) size few e h)

pub mask_of : (xs ys : List ℕ) → length xs ≡ 32 → length ys ≡ 32 → mask_l (map (top (hbits w8)) (zip2 (λ a b. cond (bytes_differ a b) (2 ^ bits w8 - 1) 0) xs ys)) % 2 ^ 64 ≡ mask_l (zip2 bytes_differ xs ys)
mask_of xs ys e f = ap (λ ms. mask_l ms % 2 ^ 64) (tops_compared w8 bytes_differ xs ys) ∙ mask_l-mod (zip2 bytes_differ xs ys) 64 (omega (arith, length-zip2 bytes_differ xs ys (e ∙ sym f), e))

-- ---- two lines at the beginning

takes_two : (a b : Line) (text old new : List ℕ) (size : ℕ) → size ≤ length text → Listed a → Listed b → take size text ≡ ended_text a ++ ended_text b → new ≡ old ++ (line_bytes 0 a ++ line_bytes 0 b) → AppendsFirstLines text old new size 2
takes_two a b text old new size within f g e n =
    let long : 2 ≤ size = omega (arith, ap length e, length-take-le size text within, length-append (ended_text a) (ended_text b), length-append (text_of a) (10 ∷ []), length-append (text_of b) (10 ∷ [])) in
    record {
      not_empty = omega (arith, long);
      within = within;
      counted = long;
      takes = record {
        lines = a ∷ b ∷ [];
        fit = (f.0, (g.0, tt));
        listed = (f.1, (g.1, tt));
        text_is = sym (take-append-drop size text) ∙ ap (λ t. t ++ drop size text) (e ∙ ap (λ t. ended_text a ++ t) (sym (append-nil (ended_text b))));
        appended = n ∙ ap (λ t. old ++ (line_bytes 0 a ++ t)) (sym (append-nil (line_bytes 0 b)));
        count_is = refl;
      };
    }

write_text : (register : ℕ) → ended_text (Write register 1) ≡ write_line_text register
write_text register =
    ap (λ t. (codes "write " ++ reg_name register ++ 32 ∷ t) ++ 10 ∷ []) (decimal_digit 1 (omega arith)) ∙ append_assoc (codes "write " ++ reg_name register) (32 ∷ 49 ∷ []) (10 ∷ [])

-- a write of a word to CMD
pub takes_command : (w size : ℕ) (text old new : List ℕ) → w < 32 → size ≤ length text → take size text ≡ command_lines_text w → new ≡ old ++ (bytes_of_word (type1_write_header 4 1) ++ bytes_of_word w) → AppendsFirstLines text old new size 2
takes_command w size text old new h within e n =
    let p : IsLineOf w (cmd_line w) = cmd_stands w (omega (arith, h)) in
    let is : take size text ≡ ended_text (Write 4 1) ++ ended_text (cmd_line w) = e ∙ ap (λ t. t ++ ended_text (cmd_line w)) (sym (write_text 4)) in
    takes_two (Write 4 1) (cmd_line w) text old new size within ((omega arith, omega arith), tt) p.1 is (n ∙ ap (λ t. old ++ (bytes_of_word (type1_write_header 4 1) ++ t)) (sym p.0))

-- a write of a word to another register
pub takes_word : (register w size eight : ℕ) (text old new : List ℕ) → register < reg_number_count → w < 2 ^ 32 → size + 9 ≤ length text → take size text ≡ write_start_text register → eight ≡ 8 → take eight (drop size text) ≡ hex_word w → get_or text (size + 8) 0 ≡ 10
    → new ≡ old ++ (bytes_of_word (type1_write_header register 1) ++ bytes_of_word w) → AppendsFirstLines text old new (size + 9) 2
takes_word register w size eight text old new h k within e is_eight digits end n =
    let last : take 1 (drop 8 (drop size text)) ≡ 10 ∷ [] =
    ap (take 1) (dropped_twice size 8 text ∙ drop_more text (size + 8) 0 (omega (arith, within))) ∙ ap (λ (c : ℕ). c ∷ []) end in
    let nine : take 9 (drop size text) ≡ hex_word w ++ 10 ∷ [] = take-add 8 1 (drop size text) ∙ ap (λ t. t ++ take 1 (drop 8 (drop size text))) (ap (λ (b : ℕ). take b (drop size text)) (sym is_eight) ∙ digits) ∙ ap (λ t. hex_word w ++ t) last in
    let tail : ended_text (Data (w ∷ [])) ≡ codes "data " ++ (hex_word w ++ 10 ∷ []) = ap (λ t. (codes "data" ++ t) ++ 10 ∷ []) (append-nil (32 ∷ hex_word w)) in
    let is : take (size + 9) text ≡ ended_text (Write register 1) ++ ended_text (Data (w ∷ [])) =
    take-add size 9 text ∙ ap (λ t. t ++ take 9 (drop size text)) e ∙ ap (λ t. write_start_text register ++ t) nine ∙ append_assoc (write_line_text register) (codes "data ") (hex_word w ++ 10 ∷ [])
    ∙ ap (λ t. t ++ (codes "data " ++ (hex_word w ++ 10 ∷ []))) (sym (write_text register)) ∙ ap (λ t. ended_text (Write register 1) ++ t) (sym tail) in
    takes_two (Write register 1) (Data (w ∷ [])) text old new (size + 9) within ((h, omega arith), tt) (((k, tt), omega arith, omega arith), tt) is n
