-- Four writes to one register at once.
use Rattle.std.proofs.Common.{◌≡◌, ℕ, zero, suc, ◌+◌, ◌*◌, ◌^◌, ◌<◌, ◌≤◌, List, [], ◌∷◌, ◌++◌, length, bit_xor, refl, sym, ap, ◌∙◌, arith, lit<, drop, get_or, add-one, drop-cons, take, append_assoc, ◌-◌}
use Rattle.std.specs.Int.Bits.{xor_assoc, xor_zero_r}
use Rattle.std.proofs.lemmas.Nat.{xor_comm}
use Rattle.std.proofs.lemmas.List.{drop_all, drop-drop, length-drop, map-append}
use Rattle.std.specs.List.{flat_map}
use Rattle.std.specs.Simd.{first_chunks}
use Rattle.x7_words.proofs.WordLemmas.{words_apart}
use Rattle.x7_words.specs.Word.{words_of_bytes}
use Rattle.x7_packets.specs.CheckedWrites.{write_to}
use Rattle.x7_crc.specs.Check.{check_after, check_after_one, writes_to}
use Rattle.x7_crc.specs.ShiftRegister.{advanced}
use Rattle.x7_crc.proofs.CheckLemmas.{advanced_by_write, check_after_append, check_after_fits, check_after_none}
use Rattle.x7_crc.proofs.ShiftLemmas.{advanced_xor}
use Rattle.x7_crc.proofs.TableLemmas.{advanced_add}
use Rattle.x7_regs.specs.Register.{reg_number_count}

-- one write: the check and the word move by 37 bits, the register by five
pub one_write : (v register word : ℕ) → v < 2 ^ 32 → register < reg_number_count → word < 2 ^ 32 →
    check_after_one v register word ≡ bit_xor (advanced 37 (bit_xor v word)) (advanced 5 register)
one_write v register word h k l =
    advanced_by_write v register word h k l
    ∙ advanced_xor 5 (advanced 32 (bit_xor v word)) register
    ∙ ap (λ x. bit_xor x (advanced 5 register)) (sym (advanced_add 32 5 (bit_xor v word)))

swapped : (a b c : ℕ) → bit_xor (bit_xor a b) c ≡ bit_xor (bit_xor a c) b
swapped a b c = xor_assoc a b c ∙ ap (bit_xor a) (xor_comm b c) ∙ sym (xor_assoc a c b)

-- a check in two parts: one of them goes on as if the words were 0
parted : (v x z register word : ℕ) → v < 2 ^ 32 → z < 2 ^ 32 → register < reg_number_count → word < 2 ^ 32 → v ≡ bit_xor x z →
    check_after_one v register word ≡ bit_xor (advanced 37 (bit_xor x word)) (check_after_one z register 0)
parted v x z register word h hz k l e =
    let k5 = advanced 5 register in
    one_write v register word h k l
    ∙ ap (λ t. bit_xor (advanced 37 t) k5) (ap (λ t. bit_xor t word) e ∙ swapped x z word)
    ∙ ap (λ t. bit_xor t k5) (advanced_xor 37 (bit_xor x word) z)
    ∙ xor_assoc (advanced 37 (bit_xor x word)) (advanced 37 z) k5
    ∙ ap (bit_xor (advanced 37 (bit_xor x word)))
    (ap (λ t. bit_xor (advanced 37 t) k5) (sym (xor_zero_r z)) ∙ sym (one_write z register 0 hz k (lit< tt)))

next_check : (v register word : ℕ) (words : List ℕ) → v < 2 ^ 32 →
    check_after v (writes_to register (word ∷ words)) ≡ check_after (check_after_one v register word) (writes_to register words)
next_check v register word words h = check_after_append v (write_to register word ∷ []) (writes_to register words) h

-- a check moved by m bits, and a word added to it, both moved by 37 bits more
spread2 : (m v a b : ℕ) → advanced 37 (bit_xor (advanced m v) b) ≡ bit_xor (advanced (m + 37) v) (advanced 37 b)
spread2 m v a b = advanced_xor 37 (advanced m v) b ∙ ap (λ t. bit_xor t (advanced 37 b)) (sym (advanced_add m 37 v))

spread3 : (m n v a b : ℕ) → advanced 37 (bit_xor (bit_xor (advanced m v) (advanced n a)) b) ≡ bit_xor (bit_xor (advanced (m + 37) v) (advanced (n + 37) a)) (advanced 37 b)
spread3 m n v a b =
    advanced_xor 37 (bit_xor (advanced m v) (advanced n a)) b
    ∙ ap (λ t. bit_xor t (advanced 37 b)) (advanced_xor 37 (advanced m v) (advanced n a)
    ∙ ap (λ t. bit_xor t (advanced 37 (advanced n a))) (sym (advanced_add m 37 v))
    ∙ ap (bit_xor (advanced (m + 37) v)) (sym (advanced_add n 37 a)))

spread4 : (m n o v a b c : ℕ) → advanced 37 (bit_xor (bit_xor (bit_xor (advanced m v) (advanced n a)) (advanced o b)) c)
    ≡ bit_xor (bit_xor (bit_xor (advanced (m + 37) v) (advanced (n + 37) a)) (advanced (o + 37) b)) (advanced 37 c)
spread4 m n o v a b c =
    advanced_xor 37 (bit_xor (bit_xor (advanced m v) (advanced n a)) (advanced o b)) c
    ∙ ap (λ t. bit_xor t (advanced 37 c)) (spread3 m n v a (advanced o b)
    ∙ ap (bit_xor (bit_xor (advanced (m + 37) v) (advanced (n + 37) a))) (sym (advanced_add o 37 b)))

first_of_five : (a b c d e : ℕ) → bit_xor a (bit_xor (bit_xor (bit_xor b c) d) e) ≡ bit_xor (bit_xor (bit_xor (bit_xor a b) c) d) e
first_of_five a b c d e =
    sym (xor_assoc a (bit_xor (bit_xor b c) d) e)
    ∙ ap (λ t. bit_xor t e) (sym (xor_assoc a (bit_xor b c) d) ∙ ap (λ t. bit_xor t d) (sym (xor_assoc a b c)))

-- four writes
pub four_writes : (v register a b c d none : ℕ) → v < 2 ^ 32 → register < reg_number_count → a < 2 ^ 32 → b < 2 ^ 32 → c < 2 ^ 32 → d < 2 ^ 32 →
    none ≡ check_after 0 (writes_to register (0 ∷ 0 ∷ 0 ∷ 0 ∷ [])) →
    bit_xor (bit_xor (bit_xor (bit_xor (advanced 148 (bit_xor v a)) (advanced 111 b)) (advanced 74 c)) (advanced 37 d)) none
    ≡ check_after v (writes_to register (a ∷ b ∷ c ∷ d ∷ []))
four_writes v register a b c d none h k ha hb hc hd e =
    let F : ℕ → ℕ → ℕ = λ v w. check_after_one v register w in
    let fits : (v w : ℕ) → F v w < 2 ^ 32 = λ v w. check_after_fits v (write_to register w ∷ []) in
    let z1 = F 0 0 in
    let z2 = F z1 0 in
    let z3 = F z2 0 in
    let c1 = F v a in
    let c2 = F c1 b in
    let c3 = F c2 c in
    let x1 = advanced 37 (bit_xor v a) in
    let x2 = bit_xor (advanced 74 (bit_xor v a)) (advanced 37 b) in
    let x3 = bit_xor (bit_xor (advanced 111 (bit_xor v a)) (advanced 74 b)) (advanced 37 c) in
    let e1 : c1 ≡ bit_xor x1 z1 = parted v v 0 register a h (lit< tt) k ha (sym (xor_zero_r v)) in
    let e2 : c2 ≡ bit_xor x2 z2 = parted c1 x1 z1 register b (fits v a) (fits 0 0) k hb e1 ∙ ap (λ t. bit_xor t z2) (spread2 37 (bit_xor v a) 0 b) in
    let e3 : c3 ≡ bit_xor x3 z3 = parted c2 x2 z2 register c (fits c1 b) (fits z1 0) k hc e2 ∙ ap (λ t. bit_xor t z3) (spread3 74 37 (bit_xor v a) b c) in
    let e4 : F c3 d ≡ bit_xor (bit_xor (bit_xor (bit_xor (advanced 148 (bit_xor v a)) (advanced 111 b)) (advanced 74 c)) (advanced 37 d)) (F z3 0) =
    parted c3 x3 z3 register d (fits c2 c) (fits z2 0) k hd e3 ∙ ap (λ t. bit_xor t (F z3 0)) (spread4 111 74 37 (bit_xor v a) b c d) in
    let whole : check_after v (writes_to register (a ∷ b ∷ c ∷ d ∷ [])) ≡ F c3 d =
    next_check v register a (b ∷ c ∷ d ∷ []) h ∙ next_check c1 register b (c ∷ d ∷ []) (fits v a) ∙ next_check c2 register c (d ∷ []) (fits c1 b) in
    let whole0 : check_after 0 (writes_to register (0 ∷ 0 ∷ 0 ∷ 0 ∷ [])) ≡ F z3 0 =
    next_check 0 register 0 (0 ∷ 0 ∷ 0 ∷ []) (lit< tt) ∙ next_check z1 register 0 (0 ∷ 0 ∷ []) (fits 0 0) ∙ next_check z2 register 0 (0 ∷ []) (fits z1 0) in
    ap (bit_xor (bit_xor (bit_xor (bit_xor (advanced 148 (bit_xor v a)) (advanced 111 b)) (advanced 74 c)) (advanced 37 d))) (e ∙ whole0)
    ∙ sym (whole ∙ e4)

-- the check after four writes to one register, as the code adds what each byte gives
pub four_at_once : (v register a b c d none : ℕ) → v < 2 ^ 32 → register < reg_number_count → a < 2 ^ 32 → b < 2 ^ 32 → c < 2 ^ 32 → d < 2 ^ 32 →
    none ≡ check_after 0 (writes_to register (0 ∷ 0 ∷ 0 ∷ 0 ∷ [])) →
    bit_xor (advanced 148 (bit_xor v a)) (bit_xor (bit_xor (bit_xor (advanced 111 b) (advanced 74 c)) (advanced 37 d)) none)
    ≡ check_after v (writes_to register (a ∷ b ∷ c ∷ d ∷ []))
four_at_once v register a b c d none h k ha hb hc hd e =
    first_of_five (advanced 148 (bit_xor v a)) (advanced 111 b) (advanced 74 c) (advanced 37 d) none
    ∙ four_writes v register a b c d none h k ha hb hc hd e

-- four writes of 0, one by one
pub four_zeros : (register one two three four : ℕ) → one ≡ check_after_one 0 register 0 → two ≡ check_after_one one register 0 →
    three ≡ check_after_one two register 0 → four ≡ check_after_one three register 0 → four ≡ check_after 0 (writes_to register (0 ∷ 0 ∷ 0 ∷ 0 ∷ []))
four_zeros register one two three four e f g h =
    let F : ℕ → ℕ → ℕ = λ v w. check_after_one v register w in
    let fits : (v w : ℕ) → F v w < 2 ^ 32 = λ v w. check_after_fits v (write_to register w ∷ []) in
    let none : check_after 0 (writes_to register (0 ∷ 0 ∷ 0 ∷ 0 ∷ [])) ≡ F (F (F (F 0 0) 0) 0) 0 =
    next_check 0 register 0 (0 ∷ 0 ∷ 0 ∷ []) (lit< tt) ∙ next_check (F 0 0) register 0 (0 ∷ 0 ∷ []) (fits 0 0) ∙ next_check (F (F 0 0) 0) register 0 (0 ∷ []) (fits (F 0 0) 0) in
    h ∙ ap (λ x. F x 0) (g ∙ ap (λ x. F x 0) (f ∙ ap (λ x. F x 0) e)) ∙ sym none

-- ---- blocks of a slice

-- a list of four by its elements
pub four_of : (ws : List ℕ) → length ws ≡ 4 → get_or ws 0 0 ∷ get_or ws 1 0 ∷ get_or ws 2 0 ∷ get_or ws 3 0 ∷ [] ≡ ws
four_of [] e = absurd (omega arith)
four_of (a ∷ []) e = absurd (omega arith)
four_of (a ∷ b ∷ []) e = absurd (omega arith)
four_of (a ∷ b ∷ c ∷ []) e = absurd (omega arith)
four_of (a ∷ b ∷ c ∷ d ∷ []) e = refl
four_of (a ∷ b ∷ c ∷ d ∷ x ∷ ws) e = absurd (omega arith)

pub words_by_blocks : (n : ℕ) (bs : List ℕ) → n * 16 ≤ length bs → words_of_bytes bs ≡ flat_map words_of_bytes (first_chunks 16 n bs) ++ words_of_bytes (drop (n * 16) bs)
words_by_blocks zero bs h = refl
words_by_blocks (suc n) bs h =
    let left : length (drop 16 bs) ≡ length bs - 16 = length-drop 16 bs in
    let at : n * 16 + 16 ≡ suc n * 16 = omega arith in
    words_apart 4 bs (omega arith)
    ∙ ap (λ x. words_of_bytes (take 16 bs) ++ x) (words_by_blocks n (drop 16 bs) (omega arith))
    ∙ sym (append_assoc (words_of_bytes (take 16 bs)) (flat_map words_of_bytes (first_chunks 16 n (drop 16 bs))) (words_of_bytes (drop (n * 16) (drop 16 bs))))
    ∙ ap (λ x. words_of_bytes (take 16 bs) ++ flat_map words_of_bytes (first_chunks 16 n (drop 16 bs)) ++ words_of_bytes x) (drop-drop (n * 16) 16 bs ∙ ap (λ k. drop k bs) (let k : 16 + n * 16 ≡ suc n * 16 = omega arith in k))

-- the check of a slice, its blocks first
pub blocks_and_rest : (v register prefix whole n : ℕ) (bs : List ℕ) → v < 2 ^ 32 → n * 16 ≤ length bs →
    prefix ≡ check_after v (writes_to register (flat_map words_of_bytes (first_chunks 16 n bs))) →
    whole ≡ check_after prefix (writes_to register (words_of_bytes (drop (n * 16) bs))) → whole ≡ check_after v (writes_to register (words_of_bytes bs))
blocks_and_rest v register prefix whole n bs h l e f =
    let a = flat_map words_of_bytes (first_chunks 16 n bs) in
    let b = words_of_bytes (drop (n * 16) bs) in
    f ∙ ap (λ x. check_after x (writes_to register b)) e
    ∙ sym (check_after_append v (writes_to register a) (writes_to register b) h)
    ∙ ap (check_after v) (sym (map-append (write_to register) a b) ∙ ap (writes_to register) (sym (words_by_blocks n bs l)))

-- the check of a slice after one block more
pub block_taken : (v register i next whole : ℕ) (blocks : List (List ℕ)) → v < 2 ^ 32 → i < length blocks →
    next ≡ check_after v (writes_to register (words_of_bytes (get_or blocks i []))) →
    check_after v (writes_to register (flat_map words_of_bytes (drop i blocks))) ≡ whole →
    check_after next (writes_to register (flat_map words_of_bytes (drop (i + 1) blocks))) ≡ whole
block_taken v register i next whole blocks h k e g =
    let a = words_of_bytes (get_or blocks i []) in
    let b = flat_map words_of_bytes (drop (i + 1) blocks) in
    let prefix : flat_map words_of_bytes (drop i blocks) ≡ a ++ b = rw (add-one, drop-cons blocks i []) refl in
    ap (λ x. check_after x (writes_to register b)) e
    ∙ sym (check_after_append v (writes_to register a) (writes_to register b) h)
    ∙ ap (check_after v) (sym (map-append (write_to register) a b) ∙ ap (writes_to register) (sym prefix)) ∙ g

pub blocks_end : (v register i whole : ℕ) (blocks : List (List ℕ)) → v < 2 ^ 32 → length blocks ≤ i →
    check_after v (writes_to register (flat_map words_of_bytes (drop i blocks))) ≡ whole → v ≡ whole
blocks_end v register i whole blocks h k g =
    let none : writes_to register (flat_map words_of_bytes (drop i blocks)) ≡ [] = rw (drop_all i blocks k) refl in
    sym (ap (check_after v) none ∙ check_after_none v h) ∙ g
