-- Where the first line end stands among the first 32 bytes of a text.
use Rattle.std.proofs.Common.{◌≡◌, ◌==◌, ℕ, ◌+◌, ◌-◌, ◌<◌, ◌≤◌, Bool, not, List, ◌∷◌, get_or, length, take, drop, map, sym, ap, subst, refl, ◌∙◌, arith, inl, inr}
use Rattle.std.specs.List.{prefix_len}
use Rattle.std.proofs.lemmas.Bool.{false≢true}
use Rattle.std.proofs.lemmas.Bool.Decides.{eqb_tells}
use Rattle.std.proofs.lemmas.Simd.{length-chunk, run_in_chunk_fails, run_in_chunk_stops, trailing_mask_l}
use lib.Lanes.{chunk, mask_l}
use lib.Count.{count_trailing_zeros}
use Rattle.x7_text.specs.Lines.{split}
use Rattle.x7_text.proofs.SplitLemmas.{first_line}

some_end : (m : ℕ) → count_trailing_zeros 64 m ≤ 31 → 0 < m
unfolding count_trailing_zeros
some_end m low = elim (eqb_tells m 0) [
  | inl z ↦ let no : count_trailing_zeros 64 0 ≤ 31 = subst (λ (n : ℕ). count_trailing_zeros 64 n ≤ 31) z.1 low in
      let all : count_trailing_zeros 64 0 ≡ 64 = refl in
      absurd (omega (arith, no, all))
  | inr n ↦ let some = n.1 in omega (arith, some)
]

pub near_end : (t : List ℕ) (m : ℕ) → 32 ≤ length t → m ≡ mask_l (map (λ c. c == 10) (chunk 0 32 t)) → count_trailing_zeros 64 m ≤ 31
    → (split t ≡ take (count_trailing_zeros 64 m) t ∷ split (take (length t - (count_trailing_zeros 64 m + 1)) (drop (count_trailing_zeros 64 m + 1) t)))
    × (length (take (length t - (count_trailing_zeros 64 m + 1)) (drop (count_trailing_zeros 64 m + 1) t)) < length t)
near_end t m long e low =
    let p : ℕ → Bool = λ c. c == 10 in
    let xs = chunk 0 32 t in
    let size : length xs ≡ 32 = length-chunk 0 32 t long in
    let some : 0 < mask_l (map p xs) = omega (arith, e, some_end m low) in
    let run : count_trailing_zeros 64 m ≡ prefix_len (λ x. not (p x)) xs = ap (count_trailing_zeros 64) e ∙ trailing_mask_l p 64 xs (omega (arith, size)) some in
    let here : count_trailing_zeros 64 m ≡ 0 + count_trailing_zeros 64 m = omega arith in
    first_line t (count_trailing_zeros 64 m)
    (λ j i k is. false≢true (sym (run_in_chunk_fails p t 0 32 (count_trailing_zeros 64 m) 0 long run j i (omega (arith, k))) ∙ is))
    (omega (arith, low, long))
    (ap (λ (k : ℕ). get_or t k 0 == 10) here ∙ run_in_chunk_stops p t 0 32 (count_trailing_zeros 64 m) 0 long run (omega (arith, low)))
