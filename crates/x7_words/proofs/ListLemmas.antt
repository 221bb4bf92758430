-- Lemmas on lists that several crates cite: common prefixes and ends, and a list with one element more at its end.
use Rattle.std.proofs.Common.{◌≡◌, ℕ, suc, ◌<◌, ◌≤◌, List, [], ◌∷◌, ◌++◌, ◌⊎◌, inl, inr, length, refl, ap, sym, ◌∙◌, append_assoc, append-nil, arith, length-append, get_or, take, drop, take-append-drop, ◌+◌, ◌-◌, take-add, bytes_eq, true, ◌*◌, drop-drop, mul-suc, zero}
use Rattle.std.specs.List.{flat_map, AllByRecursion}
use Rattle.std.specs.Simd.{first_chunks}
use Rattle.std.proofs.lemmas.Slice.Eq.{bytes_eq-Decides}

pub flat_map_last : {X Y : Type 0} → (f : X → List Y) (xs : List X) (x : X) → flat_map f (xs ++ x ∷ []) ≡ flat_map f xs ++ f x
flat_map_last f [] x = append-nil (f x)
flat_map_last f (y ∷ ys) x = ap (λ t. f y ++ t) (flat_map_last f ys x) ∙ sym (append_assoc (f y) (flat_map f ys) (f x))

-- two lists that end in as many elements end in the same
pub same_end : (xs ys cs ds : List ℕ) → length cs ≡ length ds → xs ++ cs ≡ ys ++ ds → cs ≡ ds
same_end [] [] cs ds l e = e
same_end [] (y ∷ ys) cs ds l e = absurd (omega (arith, ap length e, length-append ys ds))
same_end (x ∷ xs) [] cs ds l e = absurd (omega (arith, ap length e, length-append xs cs))
same_end (x ∷ xs) (y ∷ ys) cs ds l e = same_end xs ys cs ds l (let rest : xs ++ cs ≡ ys ++ ds = cc in rest)

-- two lists that begin with as many elements begin with the same
pub same_prefix : (xs ys cs ds : List ℕ) → length xs ≡ length ys → xs ++ cs ≡ ys ++ ds → xs ≡ ys
same_prefix [] [] cs ds l e = refl
same_prefix [] (y ∷ ys) cs ds l e = absurd (omega (arith, l))
same_prefix (x ∷ xs) [] cs ds l e = absurd (omega (arith, l))
same_prefix (x ∷ xs) (y ∷ ys) cs ds l e =
    let head : x ≡ y = cc in
    let tail : xs ++ cs ≡ ys ++ ds = cc in
    let rest : xs ≡ ys = same_prefix xs ys cs ds (omega (arith, l)) tail in cc

pub cons_prefix : (x y : ℕ) (xs ys m : List ℕ) → x ≡ y → ys ≡ xs ++ m → y ∷ ys ≡ x ∷ (xs ++ m)
cons_prefix x y xs ys m h t = cc

-- the shorter of two prefixes begins the longer
pub shorter_prefix : (xs ys cs ds : List ℕ) → length xs ≤ length ys → xs ++ cs ≡ ys ++ ds → (m : List ℕ) × (ys ≡ xs ++ m)
shorter_prefix [] ys cs ds h e = (ys, refl)
shorter_prefix (x ∷ xs) [] cs ds h e = absurd (omega arith)
shorter_prefix (x ∷ xs) (y ∷ ys) cs ds h e =
    let head : x ≡ y = cc in
    let tail : xs ++ cs ≡ ys ++ ds = cc in
    let r : (m : List ℕ) × (ys ≡ xs ++ m) = shorter_prefix xs ys cs ds (omega arith) tail in
    (r.0, cons_prefix x y xs ys r.0 head r.1)

-- xs is a prefix of ys, and cs is what ys has after it, and then ds
pub record IsFront (xs ys cs ds : List ℕ) : Type 0 where
  pub more : List ℕ
  pub prefix : ys ≡ xs ++ more
  pub back : cs ≡ more ++ ds

-- of two prefixes of one list, one is a prefix of the other
pub prefixes_of : (xs ys cs ds : List ℕ) → xs ++ cs ≡ ys ++ ds → IsFront xs ys cs ds ⊎ IsFront ys xs ds cs
prefixes_of [] ys cs ds e = inl (record { more = ys; prefix = refl; back = e })
prefixes_of (x ∷ xs) [] cs ds e = inr (record { more = x ∷ xs; prefix = refl; back = sym e })
prefixes_of (x ∷ xs) (y ∷ ys) cs ds e =
    let head : x ≡ y = cc in
    let tail : xs ++ cs ≡ ys ++ ds = cc in
    elim (prefixes_of xs ys cs ds tail) [
      | inl l ↦ inl (record { more = l.more; prefix = rw (head, l.prefix) refl; back = l.back })
      | inr l ↦ inr (record { more = l.more; prefix = rw (← head, l.prefix) refl; back = l.back })
    ]

-- a list is empty, or has a last element
pub last_of : (xs : List ℕ) → (xs ≡ []) ⊎ ((prefix : List ℕ) × (x : ℕ) × (xs ≡ prefix ++ x ∷ []))
last_of [] = inl refl
last_of (x ∷ xs) = inr (elim (last_of xs) [ inl e ↦ ([], x, ap (λ t. x ∷ t) e) | inr l ↦ (x ∷ l.0, l.1, ap (λ t. x ∷ t) l.2) ])

pub all_append : {X : Type 0} → (P : X → Type 0) (xs ys : List X) → AllByRecursion P xs → AllByRecursion P ys → AllByRecursion P (xs ++ ys)
all_append P [] ys a b = b
all_append P (x ∷ xs) ys a b = (a.0, all_append P xs ys a.1 b)

pub all_prefix : {X : Type 0} → (P : X → Type 0) (xs ys : List X) → AllByRecursion P (xs ++ ys) → AllByRecursion P xs
all_prefix P [] ys a = tt
all_prefix P (x ∷ xs) ys a = (a.0, all_prefix P xs ys a.1)

pub all_back : {X : Type 0} → (P : X → Type 0) (xs ys : List X) → AllByRecursion P (xs ++ ys) → AllByRecursion P ys
all_back P [] ys a = a
all_back P (x ∷ xs) ys a = all_back P xs ys a.1

-- what holds at each place holds of each element
pub all_from_places : (P : ℕ → Type 0) (xs : List ℕ) → ((k : ℕ) → k < length xs → P (get_or xs k 0)) → AllByRecursion P xs
all_from_places P [] h = tt
all_from_places P (x ∷ xs) h = (h 0 (omega arith), all_from_places P xs (λ k l. h (suc k) (omega arith)))

pub all_take : {X : Type 0} → (P : X → Type 0) (n : ℕ) (xs : List X) → AllByRecursion P xs → AllByRecursion P (take n xs)
all_take P n xs a = all_prefix P (take n xs) (drop n xs) (rw take-append-drop a)

-- a prefix and what stands after it up to a later place
pub take_up_to : {X : Type 0} → (xs : List X) (from to : ℕ) → from ≤ to → take from xs ++ take (to - from) (drop from xs) ≡ take to xs
take_up_to xs from to h = let sum : from + (to - from) ≡ to = omega arith in sym (take-add from (to - from) xs) ∙ ap (λ (k : ℕ). take k xs) sum

-- a prefix and the first n of xs, and then the others of xs
pub taken_and_left : {X : Type 0} → (prefix xs : List X) (n : ℕ) → (prefix ++ take n xs) ++ drop n xs ≡ prefix ++ xs
taken_and_left prefix xs n = append_assoc prefix (take n xs) (drop n xs) ∙ ap (λ t. prefix ++ t) (take-append-drop n xs)

-- bytes that the test says are equal
pub same_by_test : (xs ys : List ℕ) → bytes_eq xs ys ≡ true → xs ≡ ys
same_by_test xs ys e = (bytes_eq-Decides xs ys).0 e

pub same_as_itself : (xs : List ℕ) → bytes_eq xs xs ≡ true
same_as_itself xs = (bytes_eq-Decides xs xs).1 refl

pub chunk_at : (n m k : ℕ) (xs d : List ℕ) → k < m → get_or (first_chunks n m xs) k d ≡ take n (drop (n * k) xs)
chunk_at n zero k xs d h = absurd (omega (arith, h))
chunk_at n (suc m) zero xs d h = ap (λ (j : ℕ). take n (drop j xs)) (let e : 0 ≡ n * 0 = omega arith in e)
chunk_at n (suc m) (suc k) xs d h =
    chunk_at n m k (drop n xs) d (omega (arith, h)) ∙ ap (take n) (drop-drop (n * k) n xs ∙ ap (λ (j : ℕ). drop j xs) (let m : n * suc k ≡ n * k + n = mul-suc n k in let e : n + n * k ≡ n * suc k = omega (arith, m) in e))
