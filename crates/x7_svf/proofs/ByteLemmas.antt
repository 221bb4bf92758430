-- Lemmas on the bytes of digits.
use Rattle.std.proofs.Common.{◌≡◌, ℕ, zero, suc, ◌+◌, ◌-◌, ◌*◌, ◌/◌, ◌%◌, ◌^◌, ◌<◌, ◌≤◌, ◌==◌, nat_lt, Bool, true, false, if◌then◌else◌, List, [], ◌∷◌, ◌++◌, length, take, drop, slice_index, refl, ap, ap₂, sym, ◌∙◌, append_assoc, append-nil, length-append, arith}
use Rattle.x7_words.specs.Characters.{digit_number}
use Rattle.x7_svf.specs.Bits.{bit_of, bits_from, byte_bits, bytes_bits, mirrored_digit}

mirror_8 : (n : ℕ) → n < 16 → mirrored_digit n / 8 % 2 ≡ n % 2
mirror_8 n l = omega (arith, l)

mirror_4 : (n : ℕ) → n < 16 → mirrored_digit n / 4 % 2 ≡ n / 2 % 2
mirror_4 n l = omega (arith, l)

mirror_2 : (n : ℕ) → n < 16 → mirrored_digit n / 2 % 2 ≡ n / 4 % 2
mirror_2 n l = omega (arith, l)

mirror_1 : (n : ℕ) → n < 16 → mirrored_digit n % 2 ≡ n / 8 % 2
mirror_1 n l = omega (arith, l)

is_one : (a b : ℕ) → a ≡ b → (a == 1) ≡ (b == 1)
is_one a b e = ap (λ (v : ℕ). v == 1) e

cons_8 : (a b c d e f g h p q r s t u v w : Bool) → a ≡ p → b ≡ q → c ≡ r → d ≡ s → e ≡ t → f ≡ u → g ≡ v → h ≡ w
    → a ∷ b ∷ c ∷ d ∷ e ∷ f ∷ g ∷ h ∷ [] ≡ p ∷ q ∷ r ∷ s ∷ t ∷ u ∷ v ∷ w ∷ []
cons_8 a b c d e f g h p q r s t u v w i j k l m n o x = rw (i, j, k, l, m, n, o, x) refl

place_of : (place k : ℕ) → k < 4 → (4 * place + k) / 4 ≡ place
place_of place k l = omega (arith, l)

rest_of : (place k : ℕ) → k < 4 → (4 * place + k) % 4 ≡ k
rest_of place k l = omega (arith, l)

bit_at_place : (ds : List ℕ) (place k : ℕ) → k < 4 → bit_of ds (4 * place + k) ≡ (if nat_lt place (length ds) then digit_number (slice_index ds (length ds - 1 - place)) / 2 ^ k % 2 == 1 else false)
bit_at_place ds place k l = ap₂ (λ (p r : ℕ). if nat_lt p (length ds) then digit_number (slice_index ds (length ds - 1 - p)) / 2 ^ r % 2 == 1 else false) (place_of place k l) (rest_of place k l)

low_bits : (v k : ℕ) → k < 4 → (v % 16 / 2 ^ k % 2 == 1) ≡ (v / 2 ^ k % 2 == 1)
low_bits v zero l = is_one (v % 16 / 2 ^ 0 % 2) (v / 2 ^ 0 % 2) (omega arith)
low_bits v (suc zero) l = is_one (v % 16 / 2 ^ 1 % 2) (v / 2 ^ 1 % 2) (omega arith)
low_bits v (suc (suc zero)) l = is_one (v % 16 / 2 ^ 2 % 2) (v / 2 ^ 2 % 2) (omega arith)
low_bits v (suc (suc (suc zero))) l = is_one (v % 16 / 2 ^ 3 % 2) (v / 2 ^ 3 % 2) (omega arith)
low_bits v (suc (suc (suc (suc k)))) l = absurd (omega (arith, l))

pub bits_within : (ds : List ℕ) (place v : ℕ) → place < length ds → v ≡ digit_number (slice_index ds (length ds - 1 - place)) → (k : ℕ) → k < 4 → (v % 16 / 2 ^ k % 2 == 1) ≡ bit_of ds (4 * place + k)
bits_within ds place v m e k l =
    let some : nat_lt place (length ds) ≡ true = grind (arith, m) in
    low_bits v k l ∙ ap (λ (x : ℕ). x / 2 ^ k % 2 == 1) e ∙ sym (bit_at_place ds place k l ∙ ap (λ (b : Bool). if b then digit_number (slice_index ds (length ds - 1 - place)) / 2 ^ k % 2 == 1 else false) some)

pub byte_of_digits : (ds : List ℕ) (at place first second byte : ℕ) → at % 4 ≡ 0 → place ≡ at / 4 → first < 16 → second < 16 → byte ≡ mirrored_digit first * 16 + mirrored_digit second
    → ((k : ℕ) → k < 4 → (first / 2 ^ k % 2 == 1) ≡ bit_of ds (4 * place + k)) → ((k : ℕ) → k < 4 → (second / 2 ^ k % 2 == 1) ≡ bit_of ds (4 * (place + 1) + k))
    → byte_bits byte ≡ bits_from ds at 8
byte_of_digits ds at place first second byte z p l m e f g =
    let m_is : mirrored_digit second < 16 = omega (arith, m) in
    let first_is : (k i : ℕ) → k < 4 → i ≡ 4 * place + k → (first / 2 ^ k % 2 == 1) ≡ bit_of ds i = λ k i n j. f k n ∙ ap (bit_of ds) (sym j) in
    let second_is : (k i : ℕ) → k < 4 → i ≡ 4 * (place + 1) + k → (second / 2 ^ k % 2 == 1) ≡ bit_of ds i = λ k i n j. g k n ∙ ap (bit_of ds) (sym j) in
    cons_8 (byte / 128 % 2 == 1) (byte / 64 % 2 == 1) (byte / 32 % 2 == 1) (byte / 16 % 2 == 1) (byte / 8 % 2 == 1) (byte / 4 % 2 == 1) (byte / 2 % 2 == 1) (byte % 2 == 1)
    (bit_of ds at) (bit_of ds (at + 1)) (bit_of ds (at + 1 + 1)) (bit_of ds (at + 1 + 1 + 1)) (bit_of ds (at + 1 + 1 + 1 + 1)) (bit_of ds (at + 1 + 1 + 1 + 1 + 1)) (bit_of ds (at + 1 + 1 + 1 + 1 + 1 + 1)) (bit_of ds (at + 1 + 1 + 1 + 1 + 1 + 1 + 1))
    (is_one (byte / 128 % 2) (first / 2 ^ 0 % 2) (omega (arith, e, m_is, l, mirror_8 first l)) ∙ first_is 0 at (omega arith) (omega (arith, z, p)))
    (is_one (byte / 64 % 2) (first / 2 ^ 1 % 2) (omega (arith, e, m_is, l, mirror_4 first l)) ∙ first_is 1 (at + 1) (omega arith) (omega (arith, z, p)))
    (is_one (byte / 32 % 2) (first / 2 ^ 2 % 2) (omega (arith, e, m_is, l, mirror_2 first l)) ∙ first_is 2 (at + 1 + 1) (omega arith) (omega (arith, z, p)))
    (is_one (byte / 16 % 2) (first / 2 ^ 3 % 2) (omega (arith, e, m_is, l, mirror_1 first l)) ∙ first_is 3 (at + 1 + 1 + 1) (omega arith) (omega (arith, z, p)))
    (is_one (byte / 8 % 2) (second / 2 ^ 0 % 2) (omega (arith, e, m, mirror_8 second m)) ∙ second_is 0 (at + 1 + 1 + 1 + 1) (omega arith) (omega (arith, z, p)))
    (is_one (byte / 4 % 2) (second / 2 ^ 1 % 2) (omega (arith, e, m, mirror_4 second m)) ∙ second_is 1 (at + 1 + 1 + 1 + 1 + 1) (omega arith) (omega (arith, z, p)))
    (is_one (byte / 2 % 2) (second / 2 ^ 2 % 2) (omega (arith, e, m, mirror_2 second m)) ∙ second_is 2 (at + 1 + 1 + 1 + 1 + 1 + 1) (omega arith) (omega (arith, z, p)))
    (is_one (byte % 2) (second / 2 ^ 3 % 2) (omega (arith, e, m, mirror_1 second m)) ∙ second_is 3 (at + 1 + 1 + 1 + 1 + 1 + 1 + 1) (omega arith) (omega (arith, z, p)))

-- ---- this many bits from a place on

from_drop : (ds : List ℕ) (from n k : ℕ) → k ≤ n → drop k (bits_from ds from n) ≡ bits_from ds (from + k) (n - k)
from_drop ds from n zero l = let e : from ≡ from + 0 = omega arith in let f : n ≡ n - 0 = omega arith in ap₂ (bits_from ds) e f
from_drop ds from zero (suc k) l = absurd (omega (arith, l))
from_drop ds from (suc n) (suc k) l =
    let e : from + 1 + k ≡ from + suc k = omega arith in
    let f : n - k ≡ suc n - suc k = omega arith in
    from_drop ds (from + 1) n k (omega (arith, l)) ∙ ap₂ (bits_from ds) e f

from_take : (ds : List ℕ) (from n k : ℕ) → k ≤ n → take k (bits_from ds from n) ≡ bits_from ds from k
from_take ds from n zero l = refl
from_take ds from zero (suc k) l = absurd (omega (arith, l))
from_take ds from (suc n) (suc k) l = ap (λ t. bit_of ds from ∷ t) (from_take ds (from + 1) n k (omega (arith, l)))

pub from_part : (ds : List ℕ) (n from k : ℕ) → from + k ≤ n → take k (drop from (bits_from ds 0 n)) ≡ bits_from ds from k
from_part ds n from k l =
    let e : 0 + from ≡ from = omega arith in
    ap (take k) (from_drop ds 0 n from (omega (arith, l)) ∙ ap (λ (i : ℕ). bits_from ds i (n - from)) e) ∙ from_take ds from (n - from) k (omega (arith, l))

pub from_join : (ds : List ℕ) (from m n : ℕ) → bits_from ds from m ++ bits_from ds (from + m) n ≡ bits_from ds from (m + n)
from_join ds from zero n = let e : from + 0 ≡ from = omega arith in let f : n ≡ 0 + n = omega arith in ap₂ (bits_from ds) e f
from_join ds from (suc m) n =
    let e : from + suc m ≡ from + 1 + m = omega arith in
    let f : suc (m + n) ≡ suc m + n = omega arith in
    ap (λ t. bit_of ds from ∷ t) (ap (λ (i : ℕ). bits_from ds (from + 1) m ++ bits_from ds i n) e ∙ from_join ds (from + 1) m n) ∙ ap (bits_from ds from) f

bytes_more : (bs : List ℕ) (b : ℕ) → bytes_bits (bs ++ b ∷ []) ≡ bytes_bits bs ++ byte_bits b
bytes_more [] b = append-nil (byte_bits b)
bytes_more (c ∷ bs) b = ap (λ t. byte_bits c ++ t) (bytes_more bs b) ∙ sym (append_assoc (byte_bits c) (bytes_bits bs) (byte_bits b))

-- a byte more of a piece
pub piece_on : (ds : List ℕ) (from at b : ℕ) (old new : List ℕ) → new ≡ old ++ b ∷ [] → at ≡ from + 8 * length old → bytes_bits old ≡ bits_from ds from (8 * length old) → byte_bits b ≡ bits_from ds at 8
    → bytes_bits new ≡ bits_from ds from (8 * length new)
piece_on ds from at b old new n a e f =
    let count : 8 * length old + 8 ≡ 8 * length new = omega (arith, ap length n, length-append old (b ∷ [])) in
    ap bytes_bits n ∙ bytes_more old b ∙ ap₂ (λ (x y : List Bool). x ++ y) e (f ∙ ap (λ (i : ℕ). bits_from ds i 8) a) ∙ from_join ds from (8 * length old) 8 ∙ ap (bits_from ds from) count
