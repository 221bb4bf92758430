-- Every text comes to something: a line after good ones is good, or it is at fault.
use Rattle.std.proofs.Common.{◌≡◌, ◌⊎◌, inl, inr, ℕ, zero, suc, ◌+◌, ◌*◌, ◌^◌, ◌<◌, Bool, true, false, List, [], ◌∷◌, ◌++◌, length, take, drop, Option, Some, None, refl, sym, subst, ap, ap₂, ◌∙◌, arith, append_assoc, append-nil}
use Rattle.std.specs.Prelude.{All, Contains, Ok, Err}
use Rattle.std.proofs.lemmas.Bool.{cases_order}
use Rattle.std.proofs.lemmas.Bool.Decides.{eqb_tells}
use Rattle.std.proofs.lemmas.List.Elements.{All-cons, All-nil}
use Rattle.std.proofs.lemmas.Option.{none-some, same_Some}
use Rattle.x7_words.specs.Word.{AreWords, words_of_bytes}
use Rattle.x7_words.proofs.WordLemmas.{words_fit}
use Rattle.x7_text.specs.DigitValue.{word_value}
use Rattle.x7_text.specs.EitherCase.{bytes_of_pairs}
use Rattle.x7_text.specs.Lines.{means_nothing, split}
use Rattle.x7_text.proofs.ValueLemmas.{word_back}
use Rattle.x7_text.proofs.CaseLemmas.{pairs_fit}
use Rattle.x7_part.specs.AddressOrder.{addresses_in}
use Rattle.x7_part.specs.Part.{PartData, frame_words}
use Rattle.x7_memory.specs.Plan.{IsPlanRow, PlanRow, planned_addresses}
use Rattle.x7_memory.proofs.DraftLemmas.{sorted_plan}
use Rattle.x7_frames.specs.FramesText.{AreGood, AreLinesOfRows, frame, frame_head, HasPlanOrFault, IsFrameLine, IsGoodText, no_frame, no_line}
use Rattle.x7_frames.specs.LineTaken.{IsFaultAt, TakesLine}
use Rattle.x7_frames.specs.declared.fault.FramesFault.{FramesFault}
use Rattle.x7_frames.specs.declared.fault.FramesFault.TheVariants as fault
use Rattle.x7_frames.proofs.GoodLemmas.{fault_of, good_next, no_rows_apart}
use Rattle.x7_frames.proofs.LineLemmas.{frame_long}
use Rattle.x7_frames.proofs.OrderLemmas.{has_sorted}

-- ---- what is decided of numbers

same_or : (a b : ℕ) → (a ≡ b) ⊎ (a ≡ b → ⊥)
same_or a b = elim (eqb_tells a b) [ inl y ↦ inl y.1 | inr n ↦ inr n.1 ]

contains_or : (xs : List ℕ) (x : ℕ) → Contains xs x ⊎ (Contains xs x → ⊥)
contains_or [] x = inr (λ c. let l = c.1 in omega (arith, l))
contains_or (y ∷ ys) x = by (same_or y x) (contains_or ys x)
  where
    neither : (y ≡ x → ⊥) → (Contains ys x → ⊥) → Contains (y ∷ ys) x → ⊥
    neither n none (zero, l, e) = n e
    neither n none (suc k, l, e) = none (k, omega (arith, l), e)

    by : (y ≡ x) ⊎ (y ≡ x → ⊥) → Contains ys x ⊎ (Contains ys x → ⊥) → Contains (y ∷ ys) x ⊎ (Contains (y ∷ ys) x → ⊥)
    by (inl e) more = inl (0, omega arith, e)
    by (inr n) (inl c) = inl (suc c.0, (let l = c.1 in omega (arith, l)), c.2)
    by (inr n) (inr none) = inr (neither n none)

heads : (x y : ℕ) (xs ys : List ℕ) → (x ∷ xs) ≡ (y ∷ ys) → x ≡ y
heads x y xs ys e = cc

tails : (x y : ℕ) (xs ys : List ℕ) → (x ∷ xs) ≡ (y ∷ ys) → xs ≡ ys
tails x y xs ys e = cc

lists_or : (xs ys : List ℕ) → (xs ≡ ys) ⊎ (xs ≡ ys → ⊥)
lists_or [] [] = inl refl
lists_or [] (y ∷ ys) = inr (λ e. cc)
lists_or (x ∷ xs) [] = inr (λ e. cc)
lists_or (x ∷ xs) (y ∷ ys) = by (same_or x y) (lists_or xs ys)
  where
    by : (x ≡ y) ⊎ (x ≡ y → ⊥) → (xs ≡ ys) ⊎ (xs ≡ ys → ⊥) → ((x ∷ xs) ≡ (y ∷ ys)) ⊎ ((x ∷ xs) ≡ (y ∷ ys) → ⊥)
    by (inr n) more = inr (λ e. n (heads x y xs ys e))
    by (inl e) (inl f) = inl (ap₂ (λ (a : ℕ) (b : List ℕ). a ∷ b) e f)
    by (inl e) (inr n) = inr (λ f. n (tails x y xs ys f))

-- ---- the line of a frame, or none

FrameOr : ℕ → List ℕ → Type 0
FrameOr width line = ((row : PlanRow) × IsFrameLine width line row) ⊎ ((row : PlanRow) → IsFrameLine width line row → ⊥)

frame_or : (width : ℕ) (line : List ℕ) → FrameOr width line
unfolding FrameOr
frame_or width line = by_head (lists_or line (frame_head far ++ digits))
  where
    far : ℕ
    far = word_value (take 8 (drop 6 line))

    digits : List ℕ
    digits = drop 15 line

    far_is : (row : PlanRow) (is : IsFrameLine width line row) → row.far ≡ far
    far_is row is = sym (word_back row.far is.far) ∙ ap (λ (t : List ℕ). word_value (take 8 (drop 6 t))) (sym is.text)

    digits_are : (row : PlanRow) (is : IsFrameLine width line row) → is.digits ≡ digits
    digits_are row is = ap (λ (t : List ℕ). drop 15 t) (sym is.text)

    by_count : (bytes : List ℕ) → line ≡ frame_head far ++ digits → far < 2 ^ 32 → bytes_of_pairs digits ≡ Some bytes → (length bytes ≡ 4 * width) ⊎ (length bytes ≡ 4 * width → ⊥) → FrameOr width line
    by_count bytes e l p (inl long) =
        inl (record { far = far; words = words_of_bytes bytes }, record { far = l; digits = digits; text = e; bytes = bytes; read = p; long = long; words = refl })
    by_count bytes e l p (inr n) = inr (λ row is. n (ap length (same_Some bytes is.bytes (sym p ∙ ap bytes_of_pairs (sym (digits_are row is)) ∙ is.read)) ∙ is.long))

    by_digits : line ≡ frame_head far ++ digits → far < 2 ^ 32 → (o : Option (List ℕ)) → bytes_of_pairs digits ≡ o → FrameOr width line
    by_digits e l None p = inr (λ row is. none-some is.bytes (sym p ∙ ap bytes_of_pairs (sym (digits_are row is)) ∙ is.read))
    by_digits e l (Some bytes) p = by_count bytes e l p (same_or (length bytes) (4 * width))

    by_far : line ≡ frame_head far ++ digits → (far ≡ 2 ^ 32) ⊎ ((far < 2 ^ 32) ⊎ (2 ^ 32 < far)) → FrameOr width line
    by_far e (inl f) = inr (λ row is. let l = is.far in let same = far_is row is in omega (arith, l, same, f))
    by_far e (inr (inl l)) = by_digits e l (bytes_of_pairs digits) refl
    by_far e (inr (inr g)) = inr (λ row is. let l = is.far in let same = far_is row is in omega (arith, l, same, g))

    by_head : (line ≡ frame_head far ++ digits) ⊎ (line ≡ frame_head far ++ digits → ⊥) → FrameOr width line
    by_head (inl e) = by_far e (cases_order far (2 ^ 32))
    by_head (inr n) = inr (λ row is. n (is.text ∙ ap₂ (λ (f : ℕ) (d : List ℕ). frame_head f ++ d) (far_is row is) (digits_are row is)))

-- ---- a line is good after these rows, or it is line n at fault

unfoldable pub LineOr : PartData → List PlanRow → ℕ → List ℕ → Type 0
LineOr part rows n line = ((new : List PlanRow) × TakesLine part line rows new) ⊎ ((f : FramesFault) × IsFaultAt part rows n line f)

pub line_or : (part : PartData) (rows : List PlanRow) (n : ℕ) (line : List ℕ) → LineOr part rows n line
unfolding FrameOr LineOr
line_or part rows n line = by (means_nothing line) refl
  where
    address_or : (row : PlanRow) (is : IsFrameLine (frame_words part) line row) → Contains (addresses_in part) row.far ⊎ (Contains (addresses_in part) row.far → ⊥)
        → Contains (planned_addresses rows) row.far ⊎ (Contains (planned_addresses rows) row.far → ⊥) → LineOr part rows n line
    address_or row is (inr none) twice = inr (fault.Address n, (refl, record { row = row; frame = is; foreign = none }))
    address_or row is (inl there) (inl twice) = inr (fault.Twice n, (refl, record { row = row; frame = is; address = there; repeated = twice }))
    address_or row is (inl there) (inr new) = inl (rows ++ row ∷ [], inr (record { row = row; frame = is; address = there; apart = new; rows = refl }))

    by_frame : means_nothing line ≡ false → FrameOr (frame_words part) line → LineOr part rows n line
    by_frame e (inl (row, is)) = address_or row is (contains_or (addresses_in part) row.far) (contains_or (planned_addresses rows) row.far)
    by_frame e (inr none) = inr (fault.Line n, (refl, record { has_meaning = e; no_frame = none }))

    by : (b : Bool) → means_nothing line ≡ b → LineOr part rows n line
    by true e = inl (rows, inl (e, refl))
    by false e = by_frame e (frame_or (frame_words part) line)

-- ---- the plan of good lines

row_fits : (width : ℕ) (line : List ℕ) (row : PlanRow) → IsFrameLine width line row → IsPlanRow row
row_fits width line row is = record { far = is.far; words = subst AreWords (sym is.words) (words_fit is.bytes (pairs_fit is.digits is.bytes is.read)) }

rows_fit : (width : ℕ) (lines : List (List ℕ)) (rows : List PlanRow) → AreLinesOfRows width lines rows → All IsPlanRow rows
rows_fit width _ _ (no_line w) = All-nil IsPlanRow
rows_fit width _ _ (no_frame w line lines rows e more) = rows_fit width lines rows more
rows_fit width _ _ (frame w line lines row rows is more) = All-cons IsPlanRow row rows (row_fits width line row is) (rows_fit width lines rows more)

rows_long : (width : ℕ) (lines : List (List ℕ)) (rows : List PlanRow) → AreLinesOfRows width lines rows → All (λ r. length r.words ≡ width) rows
rows_long width _ _ (no_line w) = All-nil (λ r. length r.words ≡ width)
rows_long width _ _ (no_frame w line lines rows e more) = rows_long width lines rows more
rows_long width _ _ (frame w line lines row rows is more) = All-cons (λ r. length r.words ≡ width) row rows (frame_long width line row is) (rows_long width lines rows more)

pub good_text : (part : PartData) (text : List ℕ) (rows : List PlanRow) → AreGood part (split text) rows → IsGoodText part text
good_text part text rows good =
    let s = has_sorted rows in
    let w : ℕ = frame_words part in (
      record { width = w; rows = s.sorted },
      record {
        rows = rows;
        good = good;
        same = s.same;
        is_plan = sorted_plan w rows s.sorted (record { width = rows_long w (split text) rows good.read; each = rows_fit w (split text) rows good.read }) good.apart s.same s.rises;
        width = refl;
      },
    )

-- ---- the lines of a text in turn

from : (part : PartData) (text : List ℕ) (before rest : List (List ℕ)) (rows : List PlanRow) → split text ≡ before ++ rest → AreGood part before rows → HasPlanOrFault part text
unfolding LineOr
from part text before [] rows e good = let g = good_text part text rows (subst (λ lines. AreGood part lines rows) (sym (e ∙ append-nil before)) good) in (Ok g.0, g.1)
from part text before (line ∷ rest) rows e good = by (λ new. from part text (before ++ line ∷ []) rest new (e ∙ sym (append_assoc before (line ∷ []) rest))) (line_or part rows (length before + 1) line)
  where
    by : ((new : List PlanRow) → AreGood part (before ++ line ∷ []) new → HasPlanOrFault part text) → LineOr part rows (length before + 1) line → HasPlanOrFault part text
    by goes-on (inl (new, takes)) = goes-on new (good_next part before line rows new good takes)
    by goes-on (inr (f, is)) =
        (Err f, fault_of part text line rows (length before + 1) f (record { before = before; after = rest; texts = e; good = good; count = refl }) is)

pub has_plan : (part : PartData) (text : List ℕ) → HasPlanOrFault part text
has_plan part text =
    from part text [] (split text) [] refl (record { read = no_line (frame_words part); addresses = All-nil (λ r. Contains (addresses_in part) r.far); apart = no_rows_apart })
