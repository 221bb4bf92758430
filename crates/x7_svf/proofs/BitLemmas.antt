-- Lemmas on specs/Bits.
use Rattle.std.proofs.Common.{◌≡◌, ◌+◌, ◌<◌, ◌≤◌, ℕ, zero, suc, None, Some, List, length, refl, ap, ◌∙◌, arith}
use Rattle.std.specs.List.{slice_get}
use Rattle.x7_svf.specs.Bits.{bit_of, bits_from, bits_of}

pub bit_within : (ds : List ℕ) (n i from : ℕ) → i < n → Some (bit_of ds (from + i)) ≡ slice_get (bits_from ds from n) i
bit_within ds zero i from l = absurd (omega (arith, l))
bit_within ds (suc n) zero from l = let e : from + 0 ≡ from = omega arith in ap (λ k. Some (bit_of ds k)) e
bit_within ds (suc n) (suc i) from l =
    let e : from + suc i ≡ (from + 1) + i = omega arith in
    ap (λ k. Some (bit_of ds k)) e ∙ bit_within ds n i (from + 1) (omega (arith, l))

pub bit_past : (ds : List ℕ) (n i from : ℕ) → n ≤ i → None ≡ slice_get (bits_from ds from n) i
bit_past ds zero i from l = refl
bit_past ds (suc n) zero from l = absurd (omega (arith, l))
bit_past ds (suc n) (suc i) from l = bit_past ds n i (from + 1) (omega (arith, l))

pub count_of : (ds : List ℕ) (n from : ℕ) → n ≡ length (bits_from ds from n)
count_of ds zero from = refl
count_of ds (suc n) from = ap suc (count_of ds n (from + 1))

pub bit_of_is : (ds : List ℕ) (n i : ℕ) → i < n → Some (bit_of ds i) ≡ slice_get (bits_of n ds) i
bit_of_is ds n i l = let e : i ≡ 0 + i = omega arith in ap (λ k. Some (bit_of ds k)) e ∙ bit_within ds n i 0 l
