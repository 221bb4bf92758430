-- Lemmas on what a write to a flash in memory leaves, torn by a pattern or not.
use Rattle.std.proofs.Common.{◌≡◌, ℕ, ◌+◌, ◌%◌, ◌<◌, ◌≤◌, ◌⊎◌, inl, inr, List, [], ◌∷◌, ◌++◌, ◌-◌, length, get_or, take, drop, slice_range, min, max, Option, None, Some, refl, ap, sym, subst, ◌∙◌, arith, bit_and, bit_xor}
use Rattle.std.specs.Int.{bit_at}
use Rattle.std.proofs.lemmas.Bool.{cases_eq}
use Rattle.std.proofs.lemmas.Nat.Bits.{bit_at_and, bit_at_or, bit_at_xor, bit_at-lt}
use Rattle.x7_words.specs.Flash.{IsTorn}
use Rattle.x7_words.proofs.FlashLemmas.{get_or_replaced_inside, get_or_replaced_outside, get_or_slice_range, length_replaced, length_slice_range}
use Rattle.x7_words.proofs.ZipLemmas.{length_zip_with, get_or_zip_with}
use borrow.Rule.Slice.PartMut.{Post-is, put_mid}
use Rattle.x7_in_memory.specs.Memory.{torn_byte, left_byte, left_by, written}

-- each bit of a torn byte is the old one or the target's
pick_bit : (v x y q : ℕ) → x < 2 → y < 2 → q < 2 → v ≡ max (min x q) ((y + min y q) % 2) → (v ≡ x) ⊎ (v ≡ y)
pick_bit v x y q a b c e = elim (cases_eq q 0) [
  | inl zero_q ↦ inr (omega arith)
  | inr one ↦ inl (omega arith)
]

torn_bit : (pattern old target bit : ℕ) → (bit_at (torn_byte pattern old target) bit ≡ bit_at old bit) ⊎ (bit_at (torn_byte pattern old target) bit ≡ bit_at target bit)
torn_bit pattern old target bit =
    let kept = bit_at_and old pattern bit in
    let put = bit_at_xor target (bit_and target pattern) bit ∙ ap (λ b. (bit_at target bit + b) % 2) (bit_at_and target pattern bit) in
    let all : bit_at (torn_byte pattern old target) bit ≡ max (min (bit_at old bit) (bit_at pattern bit)) ((bit_at target bit + min (bit_at target bit) (bit_at pattern bit)) % 2) =
    bit_at_or (bit_and old pattern) (bit_xor target (bit_and target pattern)) bit
    ∙ ap (λ l. max l (bit_at (bit_xor target (bit_and target pattern)) bit)) kept
    ∙ ap (λ r. max (min (bit_at old bit) (bit_at pattern bit)) r) put in
    pick_bit (bit_at (torn_byte pattern old target) bit) (bit_at old bit) (bit_at target bit) (bit_at pattern bit) (bit_at-lt old bit) (bit_at-lt target bit) (bit_at-lt pattern bit) all

left_bit : (torn : Option ℕ) (old target bit : ℕ) → (bit_at (left_byte torn old target) bit ≡ bit_at old bit) ⊎ (bit_at (left_byte torn old target) bit ≡ bit_at target bit)
left_bit None old target bit = inr refl
left_bit (Some pattern) old target bit = torn_bit pattern old target bit

-- a write that isn't torn leaves its target
pub left_whole : (before target : List ℕ) → length before ≡ length target → left_by None before target ≡ target
left_whole [] [] e = refl
left_whole [] (t ∷ target) e = absurd (omega (arith, e))
left_whole (b ∷ before) [] e = absurd (omega (arith, e))
left_whole (b ∷ before) (t ∷ target) e = ap (λ rest. t ∷ rest) (left_whole before target (omega (arith, e)))

-- what a write leaves, torn by a pattern or not
module _ (torn : Option ℕ) (place : ℕ) (target old : List ℕ) (within : place + length target ≤ length old) where
  abbrev before : List ℕ
  before = slice_range old place (place + length target)

  abbrev left : List ℕ
  left = left_by torn before target

  pub length_before : length before ≡ length target
  length_before = length_slice_range old place (length target) within

  length_left : length left ≡ length target
  length_left = length_zip_with (left_byte torn) before target length_before

  fits : place + length left ≤ length old
  fits = omega (arith, length_left, within)

  pub written_is_torn : IsTorn place target old (written torn place target old)
  written_is_torn = record {
    size = length_replaced place left old fits;
    outside = λ i h. get_or_replaced_outside place left old fits i (subst (λ n. (i < place) ⊎ (place + n ≤ i)) (sym length_left) h);
    inside = λ i bit h. inside_bit i bit h;
  }
    where
      inside_bit : (i bit : ℕ) → i < length target → (bit_at (get_or (written torn place target old) (place + i) 0) bit ≡ bit_at (get_or old (place + i) 0) bit) ⊎ (bit_at (get_or (written torn place target old) (place + i) 0) bit ≡ bit_at (get_or target i 0) bit)
      inside_bit i bit h =
          let now : get_or (written torn place target old) (place + i) 0 ≡ left_byte torn (get_or old (place + i) 0) (get_or target i 0) =
          get_or_replaced_inside place left old fits i (omega (arith, length_left, h))
          ∙ get_or_zip_with (left_byte torn) before target i (omega (arith, length_before, h)) h
          ∙ ap (λ b. left_byte torn b (get_or target i 0)) (get_or_slice_range old place (length target) i h) in
          subst (λ v. (bit_at v bit ≡ bit_at (get_or old (place + i) 0) bit) ⊎ (bit_at v bit ≡ bit_at (get_or target i 0) bit)) (sym now) (left_bit torn (get_or old (place + i) 0) (get_or target i 0) bit)

-- what a write leaves of a range, put back in the place of that
pub put_back : (torn : Option ℕ) (place count : ℕ) (target old piece : List ℕ) → length target ≡ count → place + count ≤ length old → piece ≡ left_by torn (slice_range old place (place + count)) target
    → put_mid place (place + count - place) old piece ≡ written torn place target old
put_back torn place count target old piece l within is =
    let enough : place + length target ≤ length old = omega (arith, l, within) in
    let put : List ℕ = left_by torn (slice_range old place (place + length target)) target in
    let here : piece ≡ put = is ∙ ap (λ n. left_by torn (slice_range old place (place + n)) target) (sym l) in
    let long : count ≡ length put = sym (length_left torn place target old enough ∙ l) in
    ap (λ rest. take place old ++ (piece ++ rest)) (Post-is place (place + count) old (omega arith))
    ∙ ap (λ p. take place old ++ (p ++ drop (place + count) old)) here
    ∙ ap (λ n. take place old ++ (put ++ drop (place + n) old)) long
