-- Bytes that are saved at the beginning of a text.
use Rattle.std.proofs.Common.{◌≡◌, ℕ, ◌+◌, ◌-◌, ◌≤◌, List, ◌++◌, length, take, drop, ap, sym, ◌∙◌, length-append, length-drop, arith}
use Rattle.std.proofs.lemmas.List.{drop-drop, length-take-le, take_at}
use Rattle.std.proofs.lemmas.Slice.{drop-append-drop}
use Rattle.std.specs.List.{copy_within}

-- n bytes from place `at` on are copied to place k
module _ (xs : List ℕ) (k at n : ℕ) where
  abbrev pub copied : List ℕ
  copied = take k xs ++ take n (drop at xs)

  copied_long : k ≤ at → at + n ≤ length xs → length copied ≡ k + n
  copied_long l w =
      let prefix : length (take k xs) ≡ k = length-take-le k xs (omega (arith, l, w)) in
      let part : length (take n (drop at xs)) ≡ n = length-take-le n (drop at xs) (omega (arith, w, length-drop at xs)) in
      omega (arith, length-append (take k xs) (take n (drop at xs)), prefix, part)

  shape : copy_within xs at (at + n) k ≡ copied ++ drop (k + n) xs
  shape = let count : at + n - at ≡ n = omega arith in ap (λ (m : ℕ). take k xs ++ take m (drop at xs) ++ drop (k + m) xs) count

  pub saved_more : k ≤ at → at + n ≤ length xs → take (k + n) (copy_within xs at (at + n) k) ≡ copied
  saved_more l w = ap (take (k + n)) shape ∙ take_at copied (drop (k + n) xs) (k + n) (copied_long l w)

  pub rest_same : k ≤ at → at + n ≤ length xs → drop (at + n) (copy_within xs at (at + n) k) ≡ drop n (drop at xs)
  rest_same l w =
      ap (drop (at + n)) shape ∙ drop-append-drop (k + n) xs copied (at + n) (omega (arith, l)) (copied_long l w) ∙ sym (drop-drop n at xs)
