-- Lemmas on specs/Check: the check is what the shift register holds.
use Rattle.std.proofs.Common.{Bool, ◌≡◌, ℕ, ◌+◌, ◌^◌, ◌<◌, ◌≤◌, List, [], ◌∷◌, ◌++◌, length, bit_xor, refl, sym, ap, ◌∙◌, arith, lit<, append_assoc, append-nil, map, drop, get_or, add-one, drop-cons, subst, ◌*◌}
use Rattle.std.proofs.Math.Nat.{zero-mul}
use Rattle.std.specs.Int.Bits.{xor_zero_l}
use Rattle.std.proofs.lemmas.Nat.{xor_comm, xor_lt}
use Rattle.std.proofs.lemmas.List.{drop_all}
use Rattle.x7_words.specs.Word.{word_of_bytes}
use Rattle.x7_packets.specs.CheckedWrites.{RegisterWrite, write_to}
use Rattle.x7_crc.specs.Polynomial.{from_highest, IsRemainder, mirrored, remainder}
use Rattle.x7_crc.specs.Check.{bits_of_write, bits_of_writes, check_after, check_after_one, check_of, dividend, generator, low_bits, writes_to}
use Rattle.x7_crc.specs.ShiftRegister.{advanced}
use Rattle.x7_crc.proofs.PolynomialLemmas.{mirrored_lt, mirrored_same, one_remainder}
use Rattle.x7_crc.proofs.ShiftLemmas.{divided_shifted, shifted_all, shifted_all_append, shifted_all_divides, shifted_all_low}
use Rattle.x7_regs.specs.Register.{reg_number_count}

pub check_after_shifted : (v : ℕ) (writes : List RegisterWrite) → v < 2 ^ 32 → check_after v writes ≡ shifted_all v (bits_of_writes writes)
unfolding check_after
check_after_shifted v writes h = divided_shifted v (bits_of_writes writes) h

pub check_after_fits : (v : ℕ) (writes : List RegisterWrite) → check_after v writes < 2 ^ 32
unfolding check_after
check_after_fits v writes = mirrored_lt 32 (remainder generator 32 (length (bits_of_writes writes)) (dividend v (bits_of_writes writes)))

pub check_after_remainder : (v : ℕ) (writes : List RegisterWrite) → v < 2 ^ 32 →
    IsRemainder (dividend v (bits_of_writes writes)) generator 32 (mirrored 32 (check_after v writes))
check_after_remainder v writes h = rw (check_after_shifted v writes h) (shifted_all_divides v (bits_of_writes writes) h)

dividend_from_zero : (bits : List Bool) → dividend 0 bits ≡ from_highest bits * 2 ^ 32
unfolding dividend mirrored
dividend_from_zero bits = ap (λ x. bit_xor x (from_highest bits * 2 ^ 32)) (zero-mul (2 ^ length bits)) ∙ xor_zero_l (from_highest bits * 2 ^ 32)

pub check_of_remainder : (writes : List RegisterWrite) → IsRemainder (from_highest (bits_of_writes writes) * 2 ^ 32) generator 32 (mirrored 32 (check_of writes))
check_of_remainder writes =
    let P : ℕ → Type 0 = λ x. IsRemainder x generator 32 (mirrored 32 (check_of writes)) in
    subst P (dividend_from_zero (bits_of_writes writes)) (check_after_remainder 0 writes (lit< tt))

pub check_after_only : (v c : ℕ) (writes : List RegisterWrite) → v < 2 ^ 32 → c < 2 ^ 32 →
    IsRemainder (dividend v (bits_of_writes writes)) generator 32 (mirrored 32 c) → c ≡ check_after v writes
check_after_only v c writes h k r =
    mirrored_same 32 c (check_after v writes) k (check_after_fits v writes)
    (one_remainder (dividend v (bits_of_writes writes)) generator (mirrored 32 c) (mirrored 32 (check_after v writes)) (omega arith) (omega arith) r (check_after_remainder v writes h))

pub check_after_none : (v : ℕ) → v < 2 ^ 32 → check_after v [] ≡ v
check_after_none v h = check_after_shifted v [] h

bits_of_writes_append : (a b : List RegisterWrite) → bits_of_writes (a ++ b) ≡ bits_of_writes a ++ bits_of_writes b
bits_of_writes_append [] b = refl
bits_of_writes_append (w ∷ a) b =
    ap (λ x. bits_of_write w.register w.word ++ x) (bits_of_writes_append a b) ∙ sym (append_assoc (bits_of_write w.register w.word) (bits_of_writes a) (bits_of_writes b))

pub check_after_append : (v : ℕ) (a b : List RegisterWrite) → v < 2 ^ 32 → check_after v (a ++ b) ≡ check_after (check_after v a) b
check_after_append v a b h =
    check_after_shifted v (a ++ b) h ∙ ap (shifted_all v) (bits_of_writes_append a b)
    ∙ shifted_all_append v (bits_of_writes a) (bits_of_writes b)
    ∙ ap (λ x. shifted_all x (bits_of_writes b)) (sym (check_after_shifted v a h))
    ∙ sym (check_after_shifted (check_after v a) b (check_after_fits v a))

-- the check after one write, as the shift register takes it
pub check_after_write : (v register word : ℕ) → v < 2 ^ 32 →
    check_after_one v register word ≡ shifted_all (shifted_all v (low_bits 32 word)) (low_bits 5 register)
unfolding bits_of_write
check_after_write v register word h =
    check_after_shifted v (write_to register word ∷ []) h
    ∙ ap (shifted_all v) (append-nil (low_bits 32 word ++ low_bits 5 register))
    ∙ shifted_all_append v (low_bits 32 word) (low_bits 5 register)

-- the check after one write by the bits of word and register at once, as tables give it
pub advanced_by_write : (v register word : ℕ) → v < 2 ^ 32 → register < reg_number_count → word < 2 ^ 32 →
    check_after_one v register word ≡ advanced 5 (bit_xor (advanced 32 (bit_xor v word)) register)
advanced_by_write v register word h k l =
    check_after_write v register word h ∙ shifted_all_low 5 (shifted_all v (low_bits 32 word)) register k
    ∙ ap (λ x. advanced 5 (bit_xor x register)) (shifted_all_low 32 v word l)

pub check_after_linear : (v register word : ℕ) → v < 2 ^ 32 → register < reg_number_count → word < 2 ^ 32 →
    check_after_one v register word ≡ check_after_one 0 register (bit_xor word v)
check_after_linear v register word h k l =
    advanced_by_write v register word h k l
    ∙ ap (λ x. advanced 5 (bit_xor (advanced 32 x) register)) (xor_comm v word ∙ sym (xor_zero_l (bit_xor word v)))
    ∙ sym (advanced_by_write 0 register (bit_xor word v) (lit< tt) k (xor_lt 32 word v l h))

-- the check of writes, and of more after them
pub check_of_more : (v : ℕ) (writes more : List RegisterWrite) → v ≡ check_of writes → check_after v more ≡ check_of (writes ++ more)
check_of_more v writes more e = ap (λ x. check_after x more) e ∙ sym (check_after_append 0 writes more (lit< tt))

check_after_next : (v register i : ℕ) (chunks : List (List ℕ)) → v < 2 ^ 32 → i < length chunks →
    check_after v (writes_to register (map word_of_bytes (drop i chunks)))
    ≡ check_after (check_after_one v register (word_of_bytes (get_or chunks i []))) (writes_to register (map word_of_bytes (drop (i + 1) chunks)))
check_after_next v register i chunks h k =
    let w : ℕ = word_of_bytes (get_or chunks i []) in
    let rest : List RegisterWrite = writes_to register (map word_of_bytes (drop (i + 1) chunks)) in
    let prefix : writes_to register (map word_of_bytes (drop i chunks)) ≡ write_to register w ∷ rest = rw (add-one, drop-cons chunks i []) refl in
    ap (check_after v) prefix ∙ check_after_append v (write_to register w ∷ []) rest h

-- the check of a slice after one chunk more
pub chunk_taken : (v register i word next whole : ℕ) (chunks : List (List ℕ)) → v < 2 ^ 32 → i < length chunks →
    word ≡ word_of_bytes (get_or chunks i []) → next ≡ check_after_one v register word →
    check_after v (writes_to register (map word_of_bytes (drop i chunks))) ≡ whole →
    check_after next (writes_to register (map word_of_bytes (drop (i + 1) chunks))) ≡ whole
chunk_taken v register i word next whole chunks h k e f g =
    let rest : List RegisterWrite = writes_to register (map word_of_bytes (drop (i + 1) chunks)) in
    ap (λ x. check_after x rest) (f ∙ ap (λ w. check_after_one v register w) e) ∙ sym (check_after_next v register i chunks h k) ∙ g

pub chunks_end : (v register i whole : ℕ) (chunks : List (List ℕ)) → v < 2 ^ 32 → length chunks ≤ i →
    check_after v (writes_to register (map word_of_bytes (drop i chunks))) ≡ whole → v ≡ whole
chunks_end v register i whole chunks h k g =
    let none : writes_to register (map word_of_bytes (drop i chunks)) ≡ [] = rw (drop_all i chunks k) refl in
    sym (ap (check_after v) none ∙ check_after_none v h) ∙ g
