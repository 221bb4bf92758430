-- Rows as their fields hold them.
use Rattle.std.proofs.Common.{◌≡◌, ℕ, zero, suc, ◌+◌, ◌-◌, ◌<◌, ◌≤◌, List, [], ◌∷◌, ◌++◌, length, get_or, map, take, drop, Result, Ok, Err, IfOk, IfErr, OnErr, refl, sym, ap, ◌∙◌, arith}
use Rattle.std.specs.Prelude.{All, IsPermutation}
use Rattle.std.specs.List.{insert}
use Rattle.std.specs.List.Sorted.{IsSearchInRange, IsBinarySearchResult, IsNonDecreasingBy}
use Rattle.std.specs.Ordering.{nat_cmp, ordering_index}
use Rattle.std.proofs.lemmas.Bool.Decides.{nat_tests}
use Rattle.std.proofs.lemmas.Cmp.{ranked}
use Rattle.std.proofs.lemmas.List.{get_or-map, length-map, length-append, take-append-le, drop-append-le, length-drop}
use Rattle.std.proofs.Math.Seq.{drop-append_seam}
use Rattle.std.proofs.lemmas.List.Sorted.{All-permutation, IsNonDecreasingBy-from_default, IsPermutation-map}
use Rattle.std.proofs.lemmas.List.Elements.{All-nil, All-cons, All-head, All-tail}
use Rattle.x7_memory.specs.declared.rows.StoredRow.{StoredRow}
use Rattle.x7_memory.specs.Plan.{PlanRow, AreInOrder, IsDraft, IsPlanRow}
use Rattle.x7_memory.specs.Places.{IsRowPlace, IsInsertPlace}
use Rattle.x7_memory.specs.Rows.{AreKept, row_in, rows_in}

pub no_place : StoredRow
no_place = record { far = 0; start = 0 }

-- what holds anyway holds on an error
pub on_err : {A B P : Type 0} → (r : Result A B) → P → OnErr r P
on_err (Ok x) p = tt
on_err (Err e) p = p

-- ---- words that come after

pub more_words : (width : ℕ) (words more : List ℕ) (rows : List StoredRow) → All (λ row. row.start + width ≤ length words) rows → rows_in width (words ++ more) rows ≡ rows_in width words rows
more_words width words more [] inside = refl
more_words width words more (row ∷ rows) inside =
    let fits : row.start + width ≤ length words = All-head (λ r. r.start + width ≤ length words) row rows inside in
    let left : length (drop row.start words) ≡ length words - row.start = length-drop row.start words in
    let same : take width (drop row.start (words ++ more)) ≡ take width (drop row.start words) =
    ap (take width) (drop-append-le row.start words more (omega arith)) ∙ take-append-le width (drop row.start words) more (omega arith) in
    rw (same, more_words width words more rows (All-tail (λ r. r.start + width ≤ length words) row rows inside)) refl

-- the words that came last
pub last_words : (width : ℕ) (words new : List ℕ) → length new ≡ width → take width (drop (length words) (words ++ new)) ≡ new
last_words width words new e = ap (take width) (drop-append_seam words new) ∙ ap (λ k. take k new) (sym e) ∙ whole new
  where
    whole : (ws : List ℕ) → take (length ws) ws ≡ ws
    whole [] = refl
    whole (w ∷ ws) = ap (λ t. w ∷ t) (whole ws)

pub more_inside : (width : ℕ) (words new : List ℕ) (rows : List StoredRow) → All (λ row. row.start + width ≤ length words) rows → All (λ row. row.start + width ≤ length (words ++ new)) rows
more_inside width words new rows inside i d h =
    let long = length-append words new in let fits = inside i d h in omega arith

-- ---- a row more

pub map_insert : {X Y : Type 0} → (f : X → Y) (xs : List X) (i : ℕ) (x : X) → map f (insert xs i x) ≡ insert (map f xs) i (f x)
map_insert f xs zero x = refl
map_insert f [] (suc i) x = refl
map_insert f (y ∷ ys) (suc i) x = ap (λ t. f y ∷ t) (map_insert f ys i x)

all_insert : {X : Type 0} → (P : X → Type 0) (xs : List X) (i : ℕ) (x : X) → All P xs → P x → All P (insert xs i x)
all_insert P xs zero x all p = All-cons P x xs p all
all_insert P [] (suc i) x all p = All-cons P x [] p (All-nil P)
all_insert P (y ∷ ys) (suc i) x all p = All-cons P y (insert ys i x) (All-head P y ys all) (all_insert P ys i x (All-tail P y ys all) p)

draft_insert : (width : ℕ) (rows : List PlanRow) (i : ℕ) (row : PlanRow) → IsDraft record { width = width; rows = rows } → length row.words ≡ width → IsPlanRow row → IsDraft record { width = width; rows = insert rows i row }
draft_insert width rows i row is e fits = record {
  width = all_insert (λ r. length r.words ≡ width) rows i row is.width e;
  each = all_insert IsPlanRow rows i row is.each fits;
}

module _ (width : ℕ) (words new now : List ℕ) (rows : List StoredRow) (is : AreKept width words rows) (grown : now ≡ words ++ new) where
  pub rows_stay : (others : List StoredRow) → others ≡ rows → rows_in width now others ≡ rows_in width words rows
  rows_stay others e = ap (rows_in width now) e ∙ ap (λ t. rows_in width t rows) grown ∙ more_words width words new rows is.inside

  pub kept_still : (others : List StoredRow) → others ≡ rows → AreKept width now others
  kept_still others e = record {
    inside = rw (e, grown) (more_inside width words new rows is.inside);
    draft = rw (rows_stay others e) is.draft;
  }

  module _ (i far start : ℕ) (others : List StoredRow) (long : length new ≡ width) (last : start ≡ length words) (added : others ≡ insert rows i record { far = far; start = start }) where
    pub rows_insert : rows_in width now others ≡ insert (rows_in width words rows) i record { far = far; words = new }
    rows_insert =
        ap (rows_in width now) added ∙ map_insert (row_in width now) rows i record { far = far; start = start }
        ∙ ap (λ t. insert t i (row_in width now record { far = far; start = start })) (rows_stay rows refl)
        ∙ ap (λ t. insert (rows_in width words rows) i record { far = far; words = t })
        (ap (λ t. take width (drop start t)) grown ∙ ap (λ k. take width (drop k (words ++ new))) last ∙ last_words width words new long)

    pub kept_insert : IsPlanRow record { far = far; words = new } → AreKept width now others
    kept_insert fits =
        let all : length now ≡ length words + length new = ap length grown ∙ length-append words new in
        let fit : start + width ≤ length now = omega arith in
        record {
          inside = rw added (all_insert (λ row. row.start + width ≤ length now) rows i record { far = far; start = start } (kept_still rows refl).inside fit);
          draft = rw rows_insert (draft_insert width (rows_in width words rows) i record { far = far; words = new } is.draft long fits);
        }

-- ---- a search by halves

module _ (width : ℕ) (words : List ℕ) (rows : List StoredRow) (order : AreInOrder (rows_in width words rows)) (far : ℕ) where
  far_at : (i : ℕ) (e : StoredRow) (d : PlanRow) → i < length rows → (get_or (rows_in width words rows) i d).far ≡ (get_or rows i e).far
  far_at i e d h = ap (λ r. r.far) (get_or-map (row_in width words) rows i e d h)

  long : length (rows_in width words rows) ≡ length rows
  long = length-map rows (row_in width words)

  comparisons_rise : IsNonDecreasingBy (λ row. ordering_index (nat_cmp row.far far)) rows
  comparisons_rise = IsNonDecreasingBy-from_default (λ row. ordering_index (nat_cmp row.far far)) rows no_place (λ i j le inside.
      let d = row_in width words no_place in
      let first = far_at i no_place d (omega arith) in let second = far_at j no_place d (omega arith) in let all = long in
      let rise : (get_or rows i no_place).far ≤ (get_or rows j no_place).far = grind (arith, order i j d, λ (same : i ≡ j). ap (λ k. (get_or rows k no_place).far) same) in
      grind (arith, nat_tests))

  pub searched : (r : Result ℕ ℕ) → IsSearchInRange r (length rows) → IsBinarySearchResult (λ row. nat_cmp row.far far) rows r
      → (IfOk r (IsRowPlace (rows_in width words rows) far)) × (IfErr r (IsInsertPlace (rows_in width words rows) far))
  searched (Ok at) inside equal =
      let all = long in (record { inside = omega arith; same = λ d. far_at at no_place d inside ∙ ranked _ far _ (sym (equal no_place)) }, tt)
  searched (Err at) inside parted =
      let all = long in (
        tt,
        record {
          inside = omega arith;
          smaller = λ j d lt.
              let e = far_at j no_place d (omega arith) in
              let low : (get_or rows j no_place).far < far = ranked _ far _ (sym ((parted comparisons_rise).0 j no_place (omega arith) lt)) in omega arith;
          greater = λ j d le lt.
              let e = far_at j no_place d (omega arith) in
              let high : far < (get_or rows j no_place).far = ranked _ far _ (sym ((parted comparisons_rise).1 j no_place le (omega arith))) in omega arith;
        },
      )

-- ---- rows sorted

pub sorted_rows : (width : ℕ) (words : List ℕ) (rows : List StoredRow) → IsNonDecreasingBy (λ row. row.far) rows → IsNonDecreasingBy (λ row. row.far) (rows_in width words rows)
sorted_rows width words rows rise i j d le h =
    let all = length-map rows (row_in width words) in
    let first = ap (λ r. r.far) (get_or-map (row_in width words) rows i no_place d (omega arith)) in
    let second = ap (λ r. r.far) (get_or-map (row_in width words) rows j no_place d (omega arith)) in
    let low : (get_or rows i no_place).far ≤ (get_or rows j no_place).far = rise i j no_place le (omega arith) in omega arith

pub kept_sorted : (width : ℕ) (words : List ℕ) (rows sorted : List StoredRow) → AreKept width words rows → IsPermutation rows sorted → AreKept width words sorted
kept_sorted width words rows sorted is same = record {
  inside = All-permutation (λ row. row.start + width ≤ length words) rows sorted same is.inside;
  draft = record {
    width = All-permutation (λ r. length r.words ≡ width) (rows_in width words rows) (rows_in width words sorted) (IsPermutation-map (row_in width words) rows sorted same) is.draft.width;
    each = All-permutation IsPlanRow (rows_in width words rows) (rows_in width words sorted) (IsPermutation-map (row_in width words) rows sorted same) is.draft.each;
  };
}
