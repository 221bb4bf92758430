-- Lemmas on specs/Table: what the entries of a table give.
use Rattle.std.proofs.Common.{◌≡◌, ◌==◌, ℕ, zero, suc, ◌+◌, ◌-◌, ◌*◌, ◌/◌, ◌%◌, ◌^◌, ◌<◌, ◌&&◌, List, [], ◌∷◌, length, get_or, bit_xor, bit_and, refl, sym, ap, ◌∙◌, arith, IsTrue, eqb-true}
use Rattle.std.proofs.Math.Nat.{pow-suc, add-zero, zero-add, mul-one, mul_assoc, mod-lt}
use Rattle.std.specs.Int.Bits.{xor_zero_r}
use Rattle.std.proofs.lemmas.Nat.{xor_comm, pow_pos, and_mask, shr_split}
use Rattle.x7_crc.specs.Table.{all_have_advances, has_advances}
use Rattle.x7_crc.specs.ShiftRegister.{advanced}
use Rattle.x7_crc.proofs.PolynomialLemmas.{xor_above}
use Rattle.x7_crc.proofs.ShiftLemmas.{advanced_xor, one_step}
use Rattle.x7_words.proofs.CaseLemmas.{both_true}

pub advanced_shl : (n y : ℕ) → advanced n (y * 2 ^ n) ≡ y
unfolding advanced
advanced_shl zero y = mul-one y
advanced_shl (suc n) y =
    let e : y * 2 ^ suc n ≡ y * 2 ^ n * 2 = ap (λ x. y * x) (pow-suc 2 n) ∙ sym (mul_assoc y (2 ^ n) 2) in
    let half : y * 2 ^ suc n / 2 ≡ y * 2 ^ n = omega arith in
    let even : y * 2 ^ suc n % 2 ≡ 0 = omega arith in
    rw (half, even, xor_zero_r (y * 2 ^ n)) (advanced_shl n y)

pub advanced_add : (m n v : ℕ) → advanced (m + n) v ≡ advanced n (advanced m v)
unfolding advanced
advanced_add zero n v = rw (zero-add n) refl
advanced_add (suc m) n v = let e : suc m + n ≡ suc (m + n) = omega arith in rw e (advanced_add m n (one_step v))

-- a number by a low part in a table, and the rest shifted
pub advanced_split : (n v : ℕ) → advanced n v ≡ bit_xor (v / 2 ^ n) (advanced n (v % 2 ^ n))
advanced_split n v =
    let e : v ≡ bit_xor (v / 2 ^ n * 2 ^ n) (v % 2 ^ n) =
    sym (shr_split v n) ∙ sym (xor_above n (v / 2 ^ n) (v % 2 ^ n) (mod-lt v (pow_pos n))) in
    ap (advanced n) e ∙ advanced_xor n (v / 2 ^ n * 2 ^ n) (v % 2 ^ n)
    ∙ ap (λ x. bit_xor x (advanced n (v % 2 ^ n))) (advanced_shl n (v / 2 ^ n))

-- ---- entries

pub entry : (n k i : ℕ) (xs : List ℕ) → IsTrue (has_advances n k xs) → i < length xs → get_or xs i 0 ≡ advanced n (k + i)
entry n k i [] t h = absurd (omega arith)
entry n k zero (x ∷ xs) t h = rw add-zero (eqb-true x (advanced n k) (both_true (x == advanced n k) (has_advances n (k + 1) xs) t).0)
entry n k (suc i) (x ∷ xs) t h =
    let e : k + suc i ≡ k + 1 + i = omega arith in
    rw e (entry n (k + 1) i xs (both_true (x == advanced n k) (has_advances n (k + 1) xs) t).1 (omega arith))

pub entry_at : (n i : ℕ) (xs : List ℕ) → IsTrue (has_advances n 0 xs) → i < length xs → get_or xs i 0 ≡ advanced n i
entry_at n i xs t h = entry n 0 i xs t h ∙ ap (advanced n) (zero-add i)

pub low_mask : (n v : ℕ) → bit_and v (2 ^ n - 1) ≡ v % 2 ^ n
low_mask n v = and_mask v n

advanced_byte : (n v : ℕ) → advanced (8 + n) v ≡ bit_xor (advanced (8 + n) (v % 256)) (advanced n (v / 256))
advanced_byte n v =
    advanced_add 8 n v ∙ ap (advanced n) (advanced_split 8 v) ∙ advanced_xor n (v / 256) (advanced 8 (v % 256))
    ∙ xor_comm (advanced n (v / 256)) (advanced n (advanced 8 (v % 256)))
    ∙ ap (λ x. bit_xor x (advanced n (v / 256))) (sym (advanced_add 8 n (v % 256)))

advanced_at : (m n v : ℕ) → advanced (8 + m + n) v ≡ bit_xor (advanced (8 + m + n) (v % 256)) (advanced (m + n) (v / 256))
advanced_at m n v = let e : 8 + m + n ≡ 8 + (m + n) = omega arith in rw e (advanced_byte (m + n) v)

-- a word by its four bytes
four_bytes : (n v a b c d : ℕ) → a ≡ bit_and v 255 → b ≡ bit_and (v / 256) 255 → c ≡ bit_and (v / 65536) 255 → d ≡ v / 16777216 →
    bit_xor (advanced (24 + n) a) (bit_xor (advanced (16 + n) b) (bit_xor (advanced (8 + n) c) (advanced n d))) ≡ advanced (24 + n) v
four_bytes n v a b c d ea eb ec ed =
    let two : v / 256 / 256 ≡ v / 65536 = omega arith in
    let three : v / 256 / 256 / 256 ≡ v / 16777216 = omega arith in
    let ra : v % 256 ≡ a = sym (ea ∙ low_mask 8 v) in
    let rb : v / 256 % 256 ≡ b = sym (eb ∙ low_mask 8 (v / 256)) in
    let rc : v / 256 / 256 % 256 ≡ c = ap (λ x. x % 256) two ∙ sym (ec ∙ low_mask 8 (v / 65536)) in
    let rd : v / 256 / 256 / 256 ≡ d = three ∙ sym ed in
    let high : advanced (24 + n) v ≡ bit_xor (advanced (24 + n) (v % 256)) (advanced (16 + n) (v / 256)) = advanced_at 16 n v in
    let mid : advanced (16 + n) (v / 256) ≡ bit_xor (advanced (16 + n) (v / 256 % 256)) (advanced (8 + n) (v / 256 / 256)) = advanced_at 8 n (v / 256) in
    let low : advanced (8 + n) (v / 256 / 256) ≡ bit_xor (advanced (8 + n) (v / 256 / 256 % 256)) (advanced n (v / 256 / 256 / 256)) = advanced_byte n (v / 256 / 256) in
    sym (high ∙ ap (λ x. bit_xor (advanced (24 + n) (v % 256)) x) (mid
    ∙ ap (λ x. bit_xor (advanced (16 + n) (v / 256 % 256)) x) low)
    ∙ rw (ra, rb, rc, rd) refl)

-- a word by the entries of its four bytes, as they are looked up
pub four_entries : (n v a b c d : ℕ) → a ≡ bit_and v 255 → b ≡ bit_and (v / 256) 255 → c ≡ bit_and (v / 65536) 255 → d ≡ v / 16777216 →
    bit_xor (advanced (n + 8 * 3) a) (bit_xor (advanced (n + 8 * 2) b) (bit_xor (advanced (n + 8 * 1) c) (advanced (n + 8 * 0) d))) ≡ advanced (n + 24) v
four_entries n v a b c d ea eb ec ed =
    let three : n + 8 * 3 ≡ 24 + n = omega arith in
    let two : n + 8 * 2 ≡ 16 + n = omega arith in
    let one : n + 8 * 1 ≡ 8 + n = omega arith in
    let none : n + 8 * 0 ≡ n = omega arith in
    let all : n + 24 ≡ 24 + n = omega arith in
    ap (λ k. bit_xor (advanced k a) (bit_xor (advanced (n + 8 * 2) b) (bit_xor (advanced (n + 8 * 1) c) (advanced (n + 8 * 0) d)))) three
    ∙ ap (λ k. bit_xor (advanced (24 + n) a) (bit_xor (advanced k b) (bit_xor (advanced (n + 8 * 1) c) (advanced (n + 8 * 0) d)))) two
    ∙ ap (λ k. bit_xor (advanced (24 + n) a) (bit_xor (advanced (16 + n) b) (bit_xor (advanced k c) (advanced (n + 8 * 0) d)))) one
    ∙ ap (λ k. bit_xor (advanced (24 + n) a) (bit_xor (advanced (16 + n) b) (bit_xor (advanced (8 + n) c) (advanced k d)))) none
    ∙ four_bytes n v a b c d ea eb ec ed
    ∙ ap (λ k. advanced k v) (sym all)

pub entry_in_all : (n k i : ℕ) (ts : List (List ℕ)) → IsTrue (all_have_advances n ts) → k < length ts → i < 256 →
    get_or (get_or ts k []) i 0 ≡ advanced (n + 8 * k) i
entry_in_all n k i [] t h m = absurd (omega arith)
entry_in_all n zero i (x ∷ ts) t h m =
    let p = both_true (length x == 256) (has_advances n 0 x && all_have_advances (n + 8) ts) t in
    let len : length x ≡ 256 = eqb-true (length x) 256 p.0 in
    let e : n + 8 * 0 ≡ n = omega arith in
    rw e (entry_at n i x (both_true (has_advances n 0 x) (all_have_advances (n + 8) ts) p.1).0 (omega arith))
entry_in_all n (suc k) i (x ∷ ts) t h m =
    let p = both_true (length x == 256) (has_advances n 0 x && all_have_advances (n + 8) ts) t in
    let e : n + 8 * suc k ≡ n + 8 + 8 * k = omega arith in
    rw e (entry_in_all (n + 8) k i ts (both_true (has_advances n 0 x) (all_have_advances (n + 8) ts) p.1).1 (omega arith) m)
