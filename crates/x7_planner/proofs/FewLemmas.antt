-- A plan has no more rows than the part has addresses.
use Rattle.std.proofs.Common.{◌≡◌, ℕ, zero, suc, ◌+◌, ◌<◌, ◌≤◌, inl, inr, List, [], ◌∷◌, length, get_or, sym, subst, arith}
use Rattle.std.specs.Prelude.{All, Contains}
use Rattle.std.specs.List.{AllByRecursion}
use Rattle.std.proofs.lemmas.Bool.{cases_eq}
use Rattle.std.proofs.lemmas.List.Elements.{All-head, All-tail}
use Rattle.std.proofs.lemmas.List.{length-map}
use Rattle.x7_part.specs.AddressOrder.{Rises, addresses_in, rise, risen}
use Rattle.x7_part.specs.Part.{PartData}
use Rattle.x7_part.specs.Ranges.{IsPart}
use Rattle.x7_part.proofs.RowLemmas.{part_rises}
use Rattle.x7_memory.specs.Plan.{AreInOrder, PlanRow, planned_addresses}

-- of numbers that rise those after the first rise from one above it
pub rises_rest : (l y : ℕ) (ys : List ℕ) → Rises l (y ∷ ys) → Rises (y + 1) ys
rises_rest _ _ _ (rise l y ys le more) = more

-- of numbers that rise from `l` on each is `l` or more
pub rises_in : (l : ℕ) (xs : List ℕ) (x : ℕ) → Rises l xs → Contains xs x → l ≤ x
rises_in _ _ x (risen l) (k, low, e) = absurd (omega arith)
rises_in _ _ x (rise l y ys le more) (zero, low, e) = omega (arith, e)
rises_in _ _ x (rise l y ys le more) (suc k, low, e) = let h : y + 1 ≤ x = rises_in (y + 1) ys x more (k, omega arith, e) in omega arith

later : (y z : ℕ) (ys : List ℕ) → y + 1 ≤ z → Contains (y ∷ ys) z → Contains ys z
later y z ys l (zero, low, e) = absurd (omega (arith, l, e))
later y z ys l (suc k, low, e) = (k, omega arith, e)

all_later : (y : ℕ) (xs ys : List ℕ) → Rises (y + 1) xs → AllByRecursion (Contains (y ∷ ys)) xs → AllByRecursion (Contains ys) xs
all_later y [] ys r c = tt
all_later y (x ∷ xs) ys (rise l z zs le more) c = (later y x ys le c.0, all_later y xs ys (above xs more) c.1)
  where
    above : (xs : List ℕ) → Rises (x + 1) xs → Rises (y + 1) xs
    above [] r = risen (y + 1)
    above (z ∷ zs) (rise l a bs low more) = rise (y + 1) z zs (omega (arith, le, low)) more

fewer : (a l : ℕ) (xs ys : List ℕ) → Rises a xs → Rises l ys → AllByRecursion (Contains ys) xs → length xs ≤ length ys
fewer a l [] ys r s c = omega arith
fewer a l (x ∷ xs) [] r s c = absurd (let low = c.0.1 in omega arith)
fewer a l (x ∷ xs) (y ∷ ys) r s c =
    elim (cases_eq x y) [
      | inl e ↦ (let rest : AllByRecursion (Contains ys) xs = all_later y xs ys (subst (λ (z : ℕ). Rises (z + 1) xs) e (rises_rest a x xs r)) c.1 in
          let fewer_rest : length xs ≤ length ys = fewer (x + 1) (y + 1) xs ys (rises_rest a x xs r) (rises_rest l y ys s) rest in
          omega (arith, fewer_rest))
      | inr n ↦ (let there : Contains ys x = not_first x y ys n c.0 in
          let above : y + 1 ≤ x = rises_in (y + 1) ys x (rises_rest l y ys s) there in
          let rises : Rises (y + 1) (x ∷ xs) = rise (y + 1) x xs above (rises_rest a x xs r) in
          let fewer_all : length (x ∷ xs) ≤ length ys = fewer (y + 1) (y + 1) (x ∷ xs) ys rises (rises_rest l y ys s) (all_later y (x ∷ xs) ys rises c) in
          omega (arith, fewer_all))
    ]
  where
    not_first : (x y : ℕ) (ys : List ℕ) → (x ≡ y → ⊥) → Contains (y ∷ ys) x → Contains ys x
    not_first x y ys n (zero, low, e) = absurd (n (sym e))
    not_first x y ys n (suc k, low, e) = (k, omega arith, e)

order_rises : (least : ℕ) (rows : List PlanRow) → AreInOrder rows → least ≤ get_or (planned_addresses rows) 0 least → Rises least (planned_addresses rows)
order_rises least [] o l = risen least
order_rises least (r ∷ []) o l = rise least r.far [] l (risen (r.far + 1))
order_rises least (r ∷ s ∷ rows) o l =
    let next : r.far < s.far = o 0 1 r (omega arith) (omega arith) in
    rise least r.far (planned_addresses (s ∷ rows)) l (order_rises (r.far + 1) (s ∷ rows) (λ i j d low few. o (suc i) (suc j) d (omega (arith, low)) (omega (arith, few))) (omega (arith, next)))

each_named : (part : PartData) (rows : List PlanRow) → AllByRecursion (λ row. Contains (addresses_in part) row.far) rows → AllByRecursion (Contains (addresses_in part)) (planned_addresses rows)
each_named part [] a = tt
each_named part (r ∷ rows) a = (a.0, each_named part rows a.1)

pub by_rows : (P : PlanRow → Type 0) (rows : List PlanRow) → All P rows → AllByRecursion P rows
by_rows P [] a = tt
by_rows P (r ∷ rows) a = (All-head P r rows a, by_rows P rows (All-tail P r rows a))

pub rows_few : (part : PartData) (rows : List PlanRow) → IsPart part → AreInOrder rows → All (λ row. Contains (addresses_in part) row.far) rows → length rows ≤ length (addresses_in part)
rows_few part rows is o h =
    let named : length (planned_addresses rows) ≤ length (addresses_in part) = fewer 0 0 (planned_addresses rows) (addresses_in part) (order_rises 0 rows o (omega arith)) (part_rises part.field_widths part.rows is.field_widths is.rows)
    (each_named part rows (by_rows (λ row. Contains (addresses_in part) row.far) rows h)) in
    omega (arith, named, length-map rows (λ (row : PlanRow). row.far))
