-- Lemmas on specs/Polynomial: sums, mirrored numbers, and that a remainder is one and is what long division gives.
use Rattle.std.proofs.Common.{◌≡◌, ℕ, zero, suc, ◌+◌, ◌-◌, ◌*◌, ◌/◌, ◌%◌, ◌^◌, ◌<◌, ◌≤◌, Bool, true, false, List, [], ◌∷◌, length, bit_xor, nat_lt, refl, sym, ap, subst, ◌∙◌, arith, lit<, if◌then◌else◌, ◌⊎◌, inl, inr}
use Rattle.std.proofs.Math.Nat.{pow-suc, mul-one, zero-mul, one-mul}
use Rattle.std.specs.Int.Bits.{xor_assoc, xor_self, xor_zero_l, xor_zero_r}
use Rattle.std.proofs.lemmas.Nat.{pow-add, pow_pos, mul-le, mul-add-lt, xor_comm, xor_shr, xor_mod, xor_block, xor_lt}
use Rattle.std.proofs.lemmas.Bool.{cases_lt, cond_above, cond_below}
use Rattle.x7_crc.specs.Polynomial.{coefficient, from_highest, product, IsRemainder, mirrored, remainder}

-- ---- sums of polynomials

pub digit_cases : (d : ℕ) → d < 2 → (d ≡ 0) ⊎ (d ≡ 1)
digit_cases zero h = inl refl
digit_cases (suc zero) h = inr refl
digit_cases (suc (suc d)) h = absurd (omega arith)

pub xor_swap : (a b c d : ℕ) → bit_xor (bit_xor a b) (bit_xor c d) ≡ bit_xor (bit_xor a c) (bit_xor b d)
xor_swap a b c d =
    xor_assoc a b (bit_xor c d)
    ∙ ap (λ x. bit_xor a x) (sym (xor_assoc b c d) ∙ ap (λ x. bit_xor x d) (xor_comm b c) ∙ xor_assoc c b d)
    ∙ sym (xor_assoc a c (bit_xor b d))

pub xor_shl : (k a b : ℕ) → bit_xor (a * 2 ^ k) (b * 2 ^ k) ≡ bit_xor a b * 2 ^ k
xor_shl k a b =
    let e : bit_xor (a * 2 ^ k + 0) (b * 2 ^ k + 0) ≡ bit_xor a b * 2 ^ k + bit_xor 0 0 = xor_block k a b 0 0 (pow_pos k) (pow_pos k) in
    grind (arith, e)

pub xor_double : (a b : ℕ) → bit_xor (2 * a) (2 * b) ≡ 2 * bit_xor a b
xor_double a b =
    let e : bit_xor (a * 2 ^ 1) (b * 2 ^ 1) ≡ bit_xor a b * 2 ^ 1 = xor_shl 1 a b in
    let ea : 2 * a ≡ a * 2 ^ 1 = omega arith in
    let eb : 2 * b ≡ b * 2 ^ 1 = omega arith in
    let er : 2 * bit_xor a b ≡ bit_xor a b * 2 ^ 1 = omega arith in
    rw (ea, eb, er) e

-- a polynomial with a part above
pub xor_above : (k a r : ℕ) → r < 2 ^ k → bit_xor (a * 2 ^ k) r ≡ a * 2 ^ k + r
xor_above k a r h =
    let e : bit_xor (a * 2 ^ k + 0) (0 * 2 ^ k + r) ≡ bit_xor a 0 * 2 ^ k + bit_xor 0 r = xor_block k a 0 0 r (pow_pos k) h in
    let e1 : bit_xor a 0 ≡ a = xor_zero_r a in
    let e2 : bit_xor 0 r ≡ r = xor_zero_l r in
    let l : a * 2 ^ k + 0 ≡ a * 2 ^ k = omega arith in
    let r : 0 * 2 ^ k + r ≡ r = omega arith in
    grind (arith, e, e1, e2)

-- ---- a mirrored number

-- a coefficient above a number of n bits
digit_above : (n d r : ℕ) → d < 2 → r < 2 ^ n → d * 2 ^ n + r < 2 ^ suc n
digit_above n d r hd hr =
    let two : 2 ^ suc n ≡ 2 ^ n * 2 = pow-suc 2 n in
    let cases : (d ≡ 0) ⊎ (d ≡ 1) = digit_cases d hd in
    elim cases [ inl e ↦ rw e (omega arith) | inr e ↦ rw e (omega arith) ]

pub mirrored_lt : (n v : ℕ) → mirrored n v < 2 ^ n
unfolding mirrored
mirrored_lt zero v = lit< tt
mirrored_lt (suc n) v = digit_above n (v % 2) (mirrored n (v / 2)) (omega arith) (mirrored_lt n (v / 2))

pub mirrored_xor : (n a b : ℕ) → mirrored n (bit_xor a b) ≡ bit_xor (mirrored n a) (mirrored n b)
unfolding mirrored
mirrored_xor zero a b = refl
mirrored_xor (suc n) a b =
    let half : bit_xor a b / 2 ≡ bit_xor (a / 2) (b / 2) = xor_shr a b 1 in
    let low : bit_xor a b % 2 ≡ bit_xor (a % 2) (b % 2) = xor_mod a b 1 in
    rw (half, low, mirrored_xor n (a / 2) (b / 2))
    (sym (xor_block n (a % 2) (b % 2) (mirrored n (a / 2)) (mirrored n (b / 2)) (mirrored_lt n (a / 2)) (mirrored_lt n (b / 2))))

halves : (d p q a b : ℕ) → d < 2 → q ≡ p * 2 → a ≡ 2 * b → d * q + a ≡ 2 * (d * p + b)
halves d p q a b h eq ea = elim (digit_cases d h) [ inl e ↦ rw e (omega arith) | inr e ↦ rw e (omega arith) ]

pub mirrored_half : (n v : ℕ) → v < 2 ^ n → mirrored (suc n) v ≡ 2 * mirrored n v
unfolding mirrored
mirrored_half zero v h = let z : v ≡ 0 = omega arith in rw z refl
mirrored_half (suc n) v h =
    let two : 2 ^ suc n ≡ 2 ^ n * 2 = pow-suc 2 n in
    halves (v % 2) (2 ^ n) (2 ^ suc n) (mirrored (suc n) (v / 2)) (mirrored n (v / 2)) (omega arith) two
    (mirrored_half n (v / 2) (omega arith))

-- twice a mirrored number: its lowest bit goes over the top
pub mirrored_double : (n v : ℕ) → v < 2 ^ n → 2 * mirrored n v ≡ v % 2 * 2 ^ n + mirrored n (v / 2)
unfolding mirrored
mirrored_double n v h = sym (mirrored_half n v h)

pub digit_lt : (b : Bool) → coefficient b < 2
digit_lt true = lit< tt
digit_lt false = lit< tt

pub from_highest_lt : (bits : List Bool) → from_highest bits < 2 ^ length bits
from_highest_lt [] = lit< tt
from_highest_lt (b ∷ bs) = digit_above (length bs) (coefficient b) (from_highest bs) (digit_lt b) (from_highest_lt bs)

mirrored_parts : (n v : ℕ) → mirrored (suc n) v ≡ v % 2 * 2 ^ n + mirrored n (v / 2)
unfolding mirrored
mirrored_parts n v = refl

mirrored_power : (n : ℕ) → mirrored (suc n) (2 ^ n) ≡ 1
unfolding mirrored
mirrored_power zero = refl
mirrored_power (suc n) =
    let two : 2 ^ suc n ≡ 2 ^ n * 2 = pow-suc 2 n in
    let half : 2 ^ suc n / 2 ≡ 2 ^ n = omega arith in
    let low : 2 ^ suc n % 2 ≡ 0 = omega arith in
    rw (half, low, mirrored_power n) (omega arith)

odd_again : (v : ℕ) → v % 2 ≡ 1 → bit_xor 1 (2 * (v / 2)) ≡ v
odd_again v e =
    let half : v / 2 * 2 ^ 1 ≡ 2 * (v / 2) = omega arith in
    let sum : bit_xor (v / 2 * 2 ^ 1) 1 ≡ v / 2 * 2 ^ 1 + 1 = xor_above 1 (v / 2) 1 (lit< tt) in
    xor_comm 1 (2 * (v / 2)) ∙ ap (λ x. bit_xor x 1) (sym half) ∙ sum ∙ omega arith

-- mirrored twice, a number of n bits is itself
pub mirrored_twice : (n v : ℕ) → v < 2 ^ n → mirrored n (mirrored n v) ≡ v
mirrored_twice zero v h = omega (arith, mirrored_lt 0 (mirrored 0 v))
mirrored_twice (suc n) v h =
    let two : 2 ^ suc n ≡ 2 ^ n * 2 = pow-suc 2 n in
    let r = mirrored n (v / 2) in
    let hr : r < 2 ^ n = mirrored_lt n (v / 2) in
    let back : mirrored n r ≡ v / 2 = mirrored_twice n (v / 2) (omega arith) in
    let low : mirrored (suc n) r ≡ 2 * (v / 2) = mirrored_half n r hr ∙ ap (λ x. 2 * x) back in
    let parts : mirrored (suc n) v ≡ v % 2 * 2 ^ n + r = mirrored_parts n v in
    elim (digit_cases (v % 2) (omega arith)) [
      | inl e ↦
          let same : mirrored (suc n) v ≡ r = parts ∙ ap (λ d. d * 2 ^ n + r) e ∙ omega arith in
          ap (mirrored (suc n)) same ∙ low ∙ omega arith
      | inr e ↦
          let same : mirrored (suc n) v ≡ bit_xor (1 * 2 ^ n) r = parts ∙ ap (λ d. d * 2 ^ n + r) e ∙ sym (xor_above n 1 r hr) in
          let one : mirrored (suc n) (1 * 2 ^ n) ≡ 1 = ap (mirrored (suc n)) (one-mul (2 ^ n)) ∙ mirrored_power n in
          ap (mirrored (suc n)) same ∙ mirrored_xor (suc n) (1 * 2 ^ n) r ∙ ap (λ x. bit_xor x (mirrored (suc n) r)) one
          ∙ ap (λ x. bit_xor 1 x) low ∙ odd_again v e
    ]

-- ---- a remainder is one

pub xor_same : (a b : ℕ) → bit_xor a b ≡ 0 → a ≡ b
xor_same a b e =
    sym (xor_zero_r a) ∙ ap (λ x. bit_xor a x) (sym (xor_self b)) ∙ sym (xor_assoc a b b)
    ∙ ap (λ x. bit_xor x b) e ∙ xor_zero_l b

scaled_pair : (p : ℕ) (b c : Bool) → (bit_xor (coefficient b * p) (coefficient c * p) ≡ 0) ⊎ (bit_xor (coefficient b * p) (coefficient c * p) ≡ p)
scaled_pair p true true = inl (xor_self (1 * p))
scaled_pair p true false = inr (ap (λ x. bit_xor (1 * p) x) (zero-mul p) ∙ xor_zero_r (1 * p) ∙ one-mul p)
scaled_pair p false true = inr (ap (λ x. bit_xor x (1 * p)) (zero-mul p) ∙ xor_zero_l (1 * p) ∙ one-mul p)
scaled_pair p false false = inl (xor_self (0 * p))

scaled : (p : ℕ) (b : Bool) → (coefficient b * p ≡ 0) ⊎ (coefficient b * p ≡ p)
scaled p true = inr (one-mul p)
scaled p false = inl (zero-mul p)

-- what is high stays high below a higher coefficient
stays_high : (d y : ℕ) → d < 2 ^ 33 → 2 ^ 32 ≤ y → 2 ^ 32 ≤ bit_xor d (2 * y)
stays_high d y h k =
    let e : bit_xor d (2 * y) / 2 ^ 33 ≡ bit_xor (d / 2 ^ 33) (2 * y / 2 ^ 33) = xor_shr d (2 * y) 33 in
    let z : d / 2 ^ 33 ≡ 0 = omega arith in
    let f : bit_xor (d / 2 ^ 33) (2 * y / 2 ^ 33) ≡ 2 * y / 2 ^ 33 = ap (λ x. bit_xor x (2 * y / 2 ^ 33)) z ∙ xor_zero_l (2 * y / 2 ^ 33) in
    omega arith

high_step : (p d y : ℕ) → 2 ^ 32 ≤ p → p < 2 ^ 33 → (d ≡ 0) ⊎ (d ≡ p) → (y ≡ 0) ⊎ (2 ^ 32 ≤ y) →
    (bit_xor d (2 * y) ≡ 0) ⊎ (2 ^ 32 ≤ bit_xor d (2 * y))
high_step p d y h k (inl e) (inl z) = inl (rw (e, z) refl)
high_step p d y h k (inr e) (inl z) = inr (rw (e, z) (rw xor_zero_r h))
high_step p d y h k (inl e) (inr z) = inr (stays_high d y (omega arith) z)
high_step p d y h k (inr e) (inr z) = inr (stays_high d y (omega arith) z)

-- the sum of two products is a product's: 0, or of the degree 32 at least
pub product_high : (p : ℕ) → 2 ^ 32 ≤ p → p < 2 ^ 33 → (q r : List Bool) →
    (bit_xor (product q p) (product r p) ≡ 0) ⊎ (2 ^ 32 ≤ bit_xor (product q p) (product r p))
product_high p h k [] [] = inl refl
product_high p h k [] (c ∷ r) =
    let d = coefficient c * p in
    let a = product r p in
    let ih = product_high p h k [] r in
    let ih' : (a ≡ 0) ⊎ (2 ^ 32 ≤ a) = rw xor_zero_l at ih in
    rw (xor_zero_l (bit_xor d (2 * a))) (high_step p d a h k (scaled p c) ih')
product_high p h k (b ∷ q) [] =
    let d = coefficient b * p in
    let a = product q p in
    let ih = product_high p h k q [] in
    let ih' : (a ≡ 0) ⊎ (2 ^ 32 ≤ a) = rw xor_zero_r at ih in
    rw (xor_zero_r (bit_xor d (2 * a))) (high_step p d a h k (scaled p b) ih')
product_high p h k (b ∷ q) (c ∷ r) =
    rw (xor_swap (coefficient b * p) (2 * product q p) (coefficient c * p) (2 * product r p), xor_double (product q p) (product r p))
    (high_step p (bit_xor (coefficient b * p) (coefficient c * p)) (bit_xor (product q p) (product r p)) h k (scaled_pair p b c)
    (product_high p h k q r))

pub one_remainder : (w p r s : ℕ) → 2 ^ 32 ≤ p → p < 2 ^ 33 → IsRemainder w p 32 r → IsRemainder w p 32 s → r ≡ s
one_remainder w p r s h k x y =
    let a = product x.quotient p in
    let b = product y.quotient p in
    let same : bit_xor a r ≡ bit_xor b s = sym x.exact ∙ y.exact in
    let zero_sum : bit_xor (bit_xor a b) (bit_xor r s) ≡ 0 =
    sym (xor_swap a r b s) ∙ ap (λ v. bit_xor v (bit_xor b s)) same ∙ xor_self (bit_xor b s) in
    let e : bit_xor a b ≡ bit_xor r s = xor_same (bit_xor a b) (bit_xor r s) zero_sum in
    let small : bit_xor r s < 2 ^ 32 = xor_lt 32 r s x.below y.below in
    elim (product_high p h k x.quotient y.quotient)
    [ inl z ↦ xor_same r s (sym e ∙ z) | inr big ↦ absurd (omega arith) ]

same_parts : (m d e r s : ℕ) → d < 2 → e < 2 → r < m → s < m → d * m + r ≡ e * m + s → (d ≡ e) × (r ≡ s)
same_parts m d e r s hd he hr hs h =
    elim (digit_cases d hd) [
      | inl x ↦ elim (digit_cases e he) [ inl y ↦ let k = rw (x, y) at h in (x ∙ sym y, omega arith) | inr y ↦ let k = rw (x, y) at h in absurd (omega arith) ]
      | inr x ↦ elim (digit_cases e he) [ inl y ↦ let k = rw (x, y) at h in absurd (omega arith) | inr y ↦ let k = rw (x, y) at h in (x ∙ sym y, omega arith) ]
    ]

pub mirrored_same : (n a b : ℕ) → a < 2 ^ n → b < 2 ^ n → mirrored n a ≡ mirrored n b → a ≡ b
unfolding mirrored
mirrored_same zero a b h k e = omega arith
mirrored_same (suc n) a b h k e =
    let two : 2 ^ suc n ≡ 2 ^ n * 2 = pow-suc 2 n in
    let p : (a % 2 ≡ b % 2) × (mirrored n (a / 2) ≡ mirrored n (b / 2)) =
    same_parts (2 ^ n) (a % 2) (b % 2) (mirrored n (a / 2)) (mirrored n (b / 2)) (omega arith) (omega arith)
    (mirrored_lt n (a / 2)) (mirrored_lt n (b / 2)) e in
    let half : a / 2 ≡ b / 2 = mirrored_same n (a / 2) (b / 2) (omega arith) (omega arith) p.1 in
    let low : a % 2 ≡ b % 2 = p.0 in
    omega arith

-- ---- long division

xor_prefix : (a b c : ℕ) → bit_xor a (bit_xor b c) ≡ bit_xor b (bit_xor a c)
xor_prefix a b c = sym (xor_assoc a b c) ∙ ap (λ x. bit_xor x c) (xor_comm a b) ∙ xor_assoc b a c

xor_again : (a b : ℕ) → bit_xor a (bit_xor a b) ≡ b
xor_again a b = sym (xor_assoc a a b) ∙ ap (λ x. bit_xor x b) (xor_self a) ∙ xor_zero_l b

raised : (n p a c : ℕ) → c ≡ bit_xor (p * 2 ^ n) a → 2 * c ≡ bit_xor (p * 2 ^ suc n) (2 * a)
raised n p a c e =
    let two : 2 ^ suc n ≡ 2 ^ n * 2 = pow-suc 2 n in
    let high : 2 * (p * 2 ^ n) ≡ p * 2 ^ suc n = rw two (omega arith) in
    ap (λ x. 2 * x) e ∙ sym (xor_double (p * 2 ^ n) a) ∙ ap (λ x. bit_xor x (2 * a)) high

-- a product and x^n times the divisor are a product
more_of : (n p : ℕ) (q : List Bool) → (r : List Bool) × (product r p ≡ bit_xor (p * 2 ^ n) (product q p))
more_of zero p [] = (true ∷ [], ap (λ x. bit_xor x 0) (one-mul p ∙ sym (mul-one p)))
more_of zero p (true ∷ q) =
    let y = 2 * product q p in
    let e : bit_xor p (bit_xor p y) ≡ y = xor_again p y in
    (false ∷ q, rw (zero-mul p, xor_zero_l y, mul-one p, one-mul p) (sym e))
more_of zero p (false ∷ q) =
    let y = 2 * product q p in
    (true ∷ q, rw (zero-mul p, xor_zero_l y, mul-one p, one-mul p) refl)
more_of (suc n) p [] =
    let r = more_of n p [] in
    (false ∷ r.0, ap (λ x. bit_xor x (2 * product r.0 p)) (zero-mul p) ∙ xor_zero_l (2 * product r.0 p) ∙ raised n p 0 (product r.0 p) r.1)
more_of (suc n) p (b ∷ q) =
    let r = more_of n p q in
    (b ∷ r.0, ap (λ x. bit_xor (coefficient b * p) x) (raised n p (product q p) (product r.0 p) r.1) ∙ xor_prefix (coefficient b * p) (p * 2 ^ suc n) (2 * product q p))

-- of two with the same highest coefficient the sum has none there
top_goes : (m a b : ℕ) → 2 ^ m ≤ a → a < 2 ^ suc m → 2 ^ m ≤ b → b < 2 ^ suc m → bit_xor a b < 2 ^ m
top_goes m a b h k i j =
    let two : 2 ^ suc m ≡ 2 ^ m * 2 = pow-suc 2 m in
    let ha : a - 2 ^ m < 2 ^ m = omega arith in
    let hb : b - 2 ^ m < 2 ^ m = omega arith in
    let ea : a ≡ 1 * 2 ^ m + (a - 2 ^ m) = omega arith in
    let eb : b ≡ 1 * 2 ^ m + (b - 2 ^ m) = omega arith in
    let blocks : bit_xor (1 * 2 ^ m + (a - 2 ^ m)) (1 * 2 ^ m + (b - 2 ^ m)) ≡ bit_xor 1 1 * 2 ^ m + bit_xor (a - 2 ^ m) (b - 2 ^ m) =
    xor_block m 1 1 (a - 2 ^ m) (b - 2 ^ m) ha hb in
    let whole : bit_xor a b ≡ bit_xor (1 * 2 ^ m + (a - 2 ^ m)) (1 * 2 ^ m + (b - 2 ^ m)) =
    ap (λ x. bit_xor x b) ea ∙ ap (λ x. bit_xor (1 * 2 ^ m + (a - 2 ^ m)) x) eb in
    let low : bit_xor (a - 2 ^ m) (b - 2 ^ m) < 2 ^ m = xor_lt m (a - 2 ^ m) (b - 2 ^ m) ha hb in
    omega (arith, whole ∙ blocks, low)

-- the divisor at the place n has its highest coefficient there
divisor_low : (n p : ℕ) → 2 ^ 32 ≤ p → 2 ^ (32 + n) ≤ p * 2 ^ n
divisor_low n p h = rw (pow-add 2 32 n) (mul-le (2 ^ 32) (2 ^ n) p (2 ^ n) h (omega arith))

divisor_high : (n p : ℕ) → p < 2 ^ 33 → p * 2 ^ n < 2 ^ suc (32 + n)
divisor_high n p h =
    let e : suc (32 + n) ≡ n + 33 = omega arith in
    let l : p * 2 ^ n + 0 < 2 ^ n * 2 ^ 33 = mul-add-lt p (2 ^ n) 0 (2 ^ 33) h (pow_pos n) in
    rw (e, pow-add 2 n 33) (omega (arith, l))

-- a remainder of what is left when a multiple was taken away
taken_away : (n p w s : ℕ) → IsRemainder (bit_xor (p * 2 ^ n) w) p 32 s → IsRemainder w p 32 s
taken_away n p w s r =
    let q = more_of n p r.quotient in
    let exact : w ≡ bit_xor (product q.0 p) s =
    sym (xor_again (p * 2 ^ n) w) ∙ ap (λ x. bit_xor (p * 2 ^ n) x) r.exact
    ∙ sym (xor_assoc (p * 2 ^ n) (product r.quotient p) s) ∙ ap (λ x. bit_xor x s) (sym q.1) in
    record { quotient = q.0; exact = exact; below = r.below }

-- long division gives the remainder
pub remainder_is : (n p w : ℕ) → 2 ^ 32 ≤ p → p < 2 ^ 33 → w < 2 ^ (32 + n) → IsRemainder w p 32 (remainder p 32 n w)
unfolding remainder
remainder_is zero p w h k l = record { quotient = []; exact = sym (xor_zero_l w); below = l }
remainder_is (suc n) p w h k l =
    let m : ℕ = 2 ^ (32 + n) in
    let v : ℕ = bit_xor (p * 2 ^ n) w in
    let P : ℕ → Type 0 = λ x. IsRemainder w p 32 (remainder p 32 n x) in
    elim (cases_lt w m) [
      | inl below ↦ let e : w ≡ (if nat_lt w m then w else v) = cond_below w m w v below in subst P e (remainder_is n p w h k below)
      | inr above ↦
          let next : 32 + suc n ≡ suc (32 + n) = omega arith in
          let top : w < 2 ^ suc (32 + n) = rw next at l in
          let small : v < m = top_goes (32 + n) (p * 2 ^ n) w (divisor_low n p h) (divisor_high n p k) above top in
          let e : v ≡ (if nat_lt w m then w else v) = cond_above w m w v v above refl in
          subst P e (taken_away n p w (remainder p 32 n v) (remainder_is n p v h k small))
    ]
