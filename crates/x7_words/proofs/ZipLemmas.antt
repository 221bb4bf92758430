-- Lemmas on the values of a function at the pairs of two lists.
use Rattle.std.proofs.Common.{◌≡◌, ℕ, zero, suc, ◌+◌, ◌<◌, ◌≤◌, List, [], ◌∷◌, ◌++◌, length, get_or, take, drop, set, refl, ap, sym, ◌∙◌, arith}
use Rattle.std.proofs.lemmas.List.{take_all, drop_all, append-nil, drop_more, set_at, get_or_at, length-take-le, append_assoc}
use Rattle.x7_words.specs.Flash.{zip_with}

module _ (f : ℕ → ℕ → ℕ) where
  pub length_zip_with : (xs ys : List ℕ) → length xs ≡ length ys → length (zip_with f xs ys) ≡ length ys
  length_zip_with [] [] e = refl
  length_zip_with [] (y ∷ ys) e = absurd (omega (arith, e))
  length_zip_with (x ∷ xs) [] e = absurd (omega (arith, e))
  length_zip_with (x ∷ xs) (y ∷ ys) e = ap suc (length_zip_with xs ys (omega (arith, e)))

  pub get_or_zip_with : (xs ys : List ℕ) (i : ℕ) → i < length xs → i < length ys → get_or (zip_with f xs ys) i 0 ≡ f (get_or xs i 0) (get_or ys i 0)
  get_or_zip_with [] ys i h k = absurd (omega arith)
  get_or_zip_with (x ∷ xs) [] i h k = absurd (omega arith)
  get_or_zip_with (x ∷ xs) (y ∷ ys) zero h k = refl
  get_or_zip_with (x ∷ xs) (y ∷ ys) (suc i) h k = get_or_zip_with xs ys i (omega arith) (omega arith)

  -- the values up to the next place
  pub zip_with_suc : (xs ys : List ℕ) (i : ℕ) → i < length xs → i < length ys → zip_with f (take (suc i) xs) (take (suc i) ys) ≡ zip_with f (take i xs) (take i ys) ++ f (get_or xs i 0) (get_or ys i 0) ∷ []
  zip_with_suc [] ys i h k = absurd (omega arith)
  zip_with_suc (x ∷ xs) [] i h k = absurd (omega arith)
  zip_with_suc (x ∷ xs) (y ∷ ys) zero h k = refl
  zip_with_suc (x ∷ xs) (y ∷ ys) (suc i) h k = ap (λ t. f x y ∷ t) (zip_with_suc xs ys i (omega arith) (omega arith))

  pub zip_with_more : (xs ys : List ℕ) (i : ℕ) → i < length xs → i < length ys → zip_with f (take (i + 1) xs) (take (i + 1) ys) ≡ zip_with f (take i xs) (take i ys) ++ f (get_or xs i 0) (get_or ys i 0) ∷ []
  zip_with_more xs ys i h k = let e : i + 1 ≡ suc i = omega arith in rw e (zip_with_suc xs ys i h k)

  pub zip_with_all : (xs ys : List ℕ) (i : ℕ) → length xs ≤ i → length ys ≤ i → zip_with f (take i xs) (take i ys) ≡ zip_with f xs ys
  zip_with_all xs ys i h k = rw (take_all i xs h, take_all i ys k) refl

  -- the first i of the values in the place of the first i elements
  pub length_prefix : (xs ys : List ℕ) (i : ℕ) → i ≤ length xs → i ≤ length ys → length (zip_with f (take i xs) (take i ys)) ≡ i
  length_prefix xs ys i h k =
      length_zip_with (take i xs) (take i ys) (length-take-le i xs h ∙ sym (length-take-le i ys k)) ∙ length-take-le i ys k

  -- the next element is the old one
  pub next_in_place : (now xs ys : List ℕ) (i d : ℕ) → i < length xs → i < length ys → now ≡ zip_with f (take i xs) (take i ys) ++ drop i xs → get_or now i d ≡ get_or xs i 0
  next_in_place now xs ys i d h k e =
      e_at ∙ ap (λ t. get_or t i d) (ap (λ t. zip_with f (take i xs) (take i ys) ++ t) (drop_more xs i 0 h)) ∙ get_or_at (zip_with f (take i xs) (take i ys)) (get_or xs i 0) (drop (i + 1) xs) d i (length_prefix xs ys i (omega arith) (omega arith))
    where
      e_at : get_or now i d ≡ get_or (zip_with f (take i xs) (take i ys) ++ drop i xs) i d
      e_at = ap (λ t. get_or t i d) e

  -- one place more
  pub more_in_place : (now xs ys : List ℕ) (i v : ℕ) → i < length xs → i < length ys → now ≡ zip_with f (take i xs) (take i ys) ++ drop i xs → v ≡ f (get_or xs i 0) (get_or ys i 0)
      → set now i v ≡ zip_with f (take (i + 1) xs) (take (i + 1) ys) ++ drop (i + 1) xs
  more_in_place now xs ys i v h k e is =
      let prefix = zip_with f (take i xs) (take i ys) in
      ap (λ t. set t i v) (e ∙ ap (λ t. prefix ++ t) (drop_more xs i 0 h))
      ∙ set_at prefix (get_or xs i 0) (drop (i + 1) xs) v i (length_prefix xs ys i (omega arith) (omega arith))
      ∙ ap (λ t. prefix ++ t ∷ drop (i + 1) xs) is
      ∙ sym (append_assoc prefix (f (get_or xs i 0) (get_or ys i 0) ∷ []) (drop (i + 1) xs))
      ∙ ap (λ t. t ++ drop (i + 1) xs) (sym (zip_with_more xs ys i h k))

  -- all places
  pub all_in_place : (now xs ys : List ℕ) (i : ℕ) → length xs ≤ i → length ys ≤ i → now ≡ zip_with f (take i xs) (take i ys) ++ drop i xs → now ≡ zip_with f xs ys
  all_in_place now xs ys i h k e = e ∙ ap (λ t. zip_with f (take i xs) (take i ys) ++ t) (drop_all i xs h) ∙ append-nil _ ∙ zip_with_all xs ys i h k
