-- Rows of a plan by their addresses.
use Rattle.std.proofs.Common.{◌≡◌, ℕ, zero, suc, ◌+◌, ◌-◌, ◌<◌, ◌≤◌, inl, inr, List, [], ◌∷◌, length, get_or, eq-eqb, ne_eqb, Option, Some, None, ◌^◌, refl, sym, ap, subst, ◌∙◌, ◌==◌, if◌then◌else◌, arith}
use Rattle.std.specs.Prelude.{All, Contains}
use Rattle.std.specs.List.{insert}
use Rattle.std.specs.List.Sorted.{IsPermutation}
use Rattle.std.proofs.lemmas.Bool.Decides.{eqb_tells}
use Rattle.std.proofs.lemmas.List.{get_or-map, length-map}
use Rattle.std.proofs.lemmas.List.Edits.{length-insert, get_or-insert_below, get_or-insert_at, get_or-insert_above}
use Rattle.std.proofs.lemmas.List.Sorted.{All-permutation, IsPermutation-sym}
use Rattle.std.proofs.lemmas.List.Elements.{All-nil, All-cons, All-head, All-tail}
use Rattle.std.proofs.lemmas.Option.{none-some, same_Some}
use Rattle.std.proofs.lemmas.Bool.{cases_order}
use Rattle.x7_words.specs.Word.{AreWords}
use Rattle.x7_memory.specs.Plan.{PlanRow, IsPlan, IsPlanRow, AreInOrder, AreApart, planned, planned_addresses}
use Rattle.x7_memory.specs.Places.{IsRowPlace, IsInsertPlace}

pub no_row : PlanRow
no_row = record { far = 0; words = [] }

-- ---- one row more

pub planned_here : (row : PlanRow) (rows : List PlanRow) (far : ℕ) → far ≡ row.far → planned (row ∷ rows) far ≡ Some row.words
unfolding planned
planned_here row rows far e = rw (eq-eqb far row.far e) refl

pub planned_after : (row : PlanRow) (rows : List PlanRow) (far : ℕ) → (far ≡ row.far → ⊥) → planned (row ∷ rows) far ≡ planned rows far
unfolding planned
planned_after row rows far n = rw (ne_eqb far row.far n) refl

pub order_tail : (row : PlanRow) (rows : List PlanRow) → AreInOrder (row ∷ rows) → AreInOrder rows
order_tail row rows order i j d h k = order (suc i) (suc j) d (omega arith) (omega arith)

-- ---- the frame of an address

pub planned_at : (rows : List PlanRow) (i far : ℕ) (d : PlanRow) → AreInOrder rows → i < length rows → (get_or rows i d).far ≡ far → planned rows far ≡ Some (get_or rows i d).words
planned_at [] i far d order h e = absurd (omega arith)
planned_at (row ∷ rows) zero far d order h e = planned_here row rows far (sym e)
planned_at (row ∷ rows) (suc i) far d order h e =
    let low = order 0 (suc i) d (omega arith) h in
    planned_after row rows far (λ same. absurd (omega arith)) ∙ planned_at rows i far d (order_tail row rows order) (omega arith) e

pub planned_none : (rows : List PlanRow) (far : ℕ) → ((j : ℕ) → j < length rows → (get_or rows j no_row).far ≡ far → ⊥) → planned rows far ≡ None
unfolding planned
planned_none [] far free = refl
planned_none (row ∷ rows) far free =
    planned_after row rows far (λ e. free 0 (omega arith) (sym e)) ∙ planned_none rows far (λ j h. free (suc j) (omega arith))

-- ---- a row that is added

pub planned_insert : (rows : List PlanRow) (i : ℕ) (row : PlanRow) (a : ℕ) → i ≤ length rows → ((j : ℕ) → j < i → (get_or rows j no_row).far ≡ row.far → ⊥) →
    planned (insert rows i row) a ≡ (if a == row.far then Some row.words else planned rows a)
planned_insert rows zero row a h free =
    elim (eqb_tells a row.far) [
      | inl y ↦ rw (eq-eqb a row.far y.1) (planned_here row rows a y.1)
      | inr n ↦ rw (ne_eqb a row.far n.1) (planned_after row rows a n.1)
    ]
planned_insert [] (suc i) row a h free = absurd (omega arith)
planned_insert (first ∷ rows) (suc i) row a h free =
    let ih = planned_insert rows i row a (omega arith) (λ j k. free (suc j) (omega arith)) in
    let apart : first.far ≡ row.far → ⊥ = free 0 (omega arith) in
    elim (eqb_tells a first.far) [
      | inl y ↦ let n : a ≡ row.far → ⊥ = λ x. apart (sym y.1 ∙ x) in
          rw (ne_eqb a row.far n) (planned_here first (insert rows i row) a y.1 ∙ sym (planned_here first rows a y.1))
      | inr n ↦ rw (planned_after first (insert rows i row) a n.1, planned_after first rows a n.1) ih
    ]

module _ (rows : List PlanRow) (row : PlanRow) (at : ℕ) (gap : IsInsertPlace rows row.far at) where
  -- rows stay in order with a row at the place where its address goes: each of them is an old one before it, the new
  -- one, or an old one moved up by one place
  pub order_insert : AreInOrder rows → AreInOrder (insert rows at row)
  order_insert order i j d lt inside =
      let new = insert rows at row in
      let length_new = length-insert rows at row gap.inside in
      let below : (i : ℕ) → i < at → (get_or new i d).far ≡ (get_or rows i d).far = λ i h. ap (λ r. r.far) (get_or-insert_below rows at row d i h gap.inside) in
      let here : (i : ℕ) → i ≡ at → (get_or new i d).far ≡ row.far = λ i h. rw h (ap (λ r. r.far) (get_or-insert_at rows at row d gap.inside)) in
      let above : (i : ℕ) → at < i → (get_or new i d).far ≡ (get_or rows (i - 1) d).far =
      λ i h. subst (λ q. (get_or new q d).far ≡ (get_or rows (i - 1) d).far) {x = i - 1 + 1} (omega arith) (ap (λ r. r.far) (get_or-insert_above rows at row d (i - 1) (omega arith) gap.inside)) in
      grind (arith, below i, here i, above i, below j, here j, above j, order i j d, order i (j - 1) d, order (i - 1) (j - 1) d, gap.smaller i d, gap.greater (j - 1) d)

  pub all_insert : (P : PlanRow → Type 0) → All P rows → P row → All P (insert rows at row)
  all_insert P all p i d inside =
      let new = insert rows at row in
      let length_new = length-insert rows at row gap.inside in
      let in_gap = gap.inside in
      elim (cases_order i at) [
        | inl same ↦ subst P (sym (ap (λ k. get_or new k d) same ∙ get_or-insert_at rows at row d gap.inside)) p
        | inr (inl below) ↦ subst P (sym (get_or-insert_below rows at row d i below gap.inside)) (all i d (omega arith))
        | inr (inr above) ↦
            let place : i - 1 + 1 ≡ i = omega arith in
            subst P (sym (ap (λ k. get_or new k d) (sym place) ∙ get_or-insert_above rows at row d (i - 1) (omega arith) gap.inside)) (all (i - 1) d (omega arith))
      ]

pub plan_insert : (width : ℕ) (rows : List PlanRow) (row : PlanRow) (at : ℕ) → IsPlan record { width = width; rows = rows } → IsInsertPlace rows row.far at → length row.words ≡ width →
    IsPlanRow row → IsPlan record { width = width; rows = insert rows at row }
plan_insert width rows row at is gap e fits = record {
  order = order_insert rows row at gap is.order;
  width = all_insert rows row at gap (λ r. length r.words ≡ width) is.width e;
  each = all_insert rows row at gap IsPlanRow is.each fits;
}

-- numbers that place by place have 32 bits are words
pub words_by_place : (ws : List ℕ) → ((i : ℕ) → i < length ws → get_or ws i 0 < 2 ^ 32) → AreWords ws
words_by_place [] f = tt
words_by_place (w ∷ ws) f = (f 0 (omega arith), words_by_place ws (λ i h. f (suc i) (omega arith)))

-- ---- rows in another order

none_planned : (rows : List PlanRow) (far : ℕ) → All (λ r. r.far ≡ far → ⊥) rows → planned rows far ≡ None
none_planned rows far all = planned_none rows far (λ j h. all j no_row h)

unplanned : (rows : List PlanRow) (far : ℕ) → planned rows far ≡ None → All (λ r. r.far ≡ far → ⊥) rows
unplanned [] far e = All-nil (λ r. r.far ≡ far → ⊥)
unplanned (r ∷ rows) far e =
    elim (eqb_tells far r.far) [
      | inl y ↦ absurd (none-some r.words (sym e ∙ planned_here r rows far y.1))
      | inr n ↦ All-cons (λ r. r.far ≡ far → ⊥) r rows (λ same. n.1 (sym same)) (unplanned rows far (sym (planned_after r rows far n.1) ∙ e))
    ]

-- where no two rows have one address, the frame of an address is that of each row with it
alone : (rows : List PlanRow) (far : ℕ) (words : List ℕ) → AreApart rows → planned rows far ≡ Some words → All (λ r. r.far ≡ far → r.words ≡ words) rows
alone [] far words apart e = All-nil (λ r. r.far ≡ far → r.words ≡ words)
alone (r ∷ rows) far words apart e =
    elim (eqb_tells far r.far) [
      | inl y ↦ All-cons (λ r. r.far ≡ far → r.words ≡ words) r rows (λ same. same_Some _ _ (sym (planned_here r rows far y.1) ∙ e))
          (λ k d h same. absurd (apart 0 (suc k) d (omega arith) (omega arith) (sym y.1 ∙ sym same)))
      | inr n ↦ All-cons (λ r. r.far ≡ far → r.words ≡ words) r rows (λ same. absurd (n.1 (sym same)))
          (alone rows far words (λ i j d lt h. apart (suc i) (suc j) d (omega arith) (omega arith)) (sym (planned_after r rows far n.1) ∙ e))
    ]

found : (rows : List PlanRow) (far : ℕ) (words others : List ℕ) → All (λ r. r.far ≡ far → r.words ≡ words) rows → planned rows far ≡ Some others → others ≡ words
unfolding planned
found [] far words others all e = absurd (none-some others e)
found (r ∷ rows) far words others all e =
    elim (eqb_tells far r.far) [
      | inl y ↦ same_Some _ _ (sym e ∙ planned_here r rows far y.1) ∙ All-head (λ r. r.far ≡ far → r.words ≡ words) r rows all (sym y.1)
      | inr n ↦ found rows far words others (All-tail (λ r. r.far ≡ far → r.words ≡ words) r rows all) (sym (planned_after r rows far n.1) ∙ e)
    ]

pub planned_permuted : (rows others : List PlanRow) (far : ℕ) → IsPermutation rows others → AreApart rows → planned rows far ≡ planned others far
planned_permuted rows others far same apart = by (planned rows far) refl (planned others far) refl
  where
    by : (o : Option (List ℕ)) → planned rows far ≡ o → (p : Option (List ℕ)) → planned others far ≡ p → planned rows far ≡ planned others far
    by None e p f = e ∙ sym (none_planned others far (All-permutation (λ r. r.far ≡ far → ⊥) rows others same (unplanned rows far e)))
    by (Some words) e None f =
        absurd (none-some words (sym (none_planned rows far (All-permutation (λ r. r.far ≡ far → ⊥) others rows (IsPermutation-sym rows others same) (unplanned others far f))) ∙ e))
    by (Some words) e (Some more) f =
        e ∙ ap Some (sym (found others far words more (All-permutation (λ r. r.far ≡ far → r.words ≡ words) rows others same (alone rows far words apart e)) f)) ∙ sym f

-- ---- whether an address is planned

pub place_listed : (rows : List PlanRow) (far i : ℕ) → IsRowPlace rows far i → Contains (planned_addresses rows) far
place_listed rows far i place =
    let long = length-map rows (λ row. row.far) in
    (i, (let h = place.inside in omega arith), get_or-map (λ row. row.far) rows i no_row far place.inside ∙ place.same no_row)

pub gap_free : (rows : List PlanRow) (far i : ℕ) → IsInsertPlace rows far i → (j : ℕ) → j < length rows → (get_or rows j no_row).far ≡ far → ⊥
gap_free rows far i gap j h e = grind (arith, gap.smaller j no_row, gap.greater j no_row)

pub gap_unlisted : (rows : List PlanRow) (far i : ℕ) → IsInsertPlace rows far i → Contains (planned_addresses rows) far → ⊥
gap_unlisted rows far i gap has =
    let long = length-map rows (λ row. row.far) in
    let inside : has.0 < length rows = let h = has.1 in omega arith in
    gap_free rows far i gap has.0 inside (sym (get_or-map (λ row. row.far) rows has.0 no_row far inside) ∙ has.2)

pub gap_none : (rows : List PlanRow) (far i : ℕ) → IsInsertPlace rows far i → planned rows far ≡ None
gap_none rows far i gap = planned_none rows far (gap_free rows far i gap)
