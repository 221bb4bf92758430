-- Good lines, one more, and the line at fault.
use Rattle.std.proofs.Common.{◌≡◌, inl, inr, ℕ, zero, suc, ◌+◌, ◌<◌, ◌≤◌, Bool, true, false, List, [], ◌∷◌, ◌++◌, length, get_or, replicate, set, refl, sym, subst, ap, ◌∙◌, arith}
use Rattle.std.specs.Prelude.{Contains, Result, Ok, Err, OnErr, OnOk, ◌↔◌, slice_index}
use Rattle.std.proofs.lemmas.Bool.{cases_order, false≢true}
use Rattle.std.proofs.lemmas.List.{get_or_append_left, get_or_push, get_or-map, length-map, length_push, map_push, get_or-replicate, get_or-set_same, get_or-set_other, length-replicate, length-set}
use Rattle.std.proofs.lemmas.List.Elements.{All-push, All-nil, Contains-push, Contains-push_cases, Contains-append_left}
use Rattle.x7_part.specs.AddressOrder.{addresses_in, Rises, risen, rise}
use Rattle.x7_part.specs.Part.{PartData, frame_words}
use Rattle.x7_memory.specs.Plan.{PlanRow, AreApart, planned_addresses}
use Rattle.x7_text.specs.Lines.{means_nothing}
use Rattle.x7_frames.specs.FramesText.{AreGood, AreLinesOfRows, no_line, no_frame, frame, IsFrameLine, IsPlanOf, ReachesLine}
use Rattle.x7_frames.specs.LineTaken.{HasMarks, IsFaultAt, TakesLine}
use Rattle.x7_frames.specs.declared.fault.FramesFault.{FramesFault}
use Rattle.x7_frames.specs.declared.fault.FramesFault.TheVariants as fault

-- ---- one line more

lines_skip : (width : ℕ) (lines : List (List ℕ)) (rows : List PlanRow) (line : List ℕ) → means_nothing line ≡ true → AreLinesOfRows width lines rows → AreLinesOfRows width (lines ++ line ∷ []) rows
lines_skip width _ _ line e (no_line w) = no_frame width line [] [] e (no_line width)
lines_skip width _ _ line e (no_frame w t ts rows f more) = no_frame width t (ts ++ line ∷ []) rows f (lines_skip width ts rows line e more)
lines_skip width _ _ line e (frame w t ts row rows f more) = frame width t (ts ++ line ∷ []) row rows f (lines_skip width ts rows line e more)

lines_frame : (width : ℕ) (lines : List (List ℕ)) (rows : List PlanRow) (line : List ℕ) (last : PlanRow) → IsFrameLine width line last → AreLinesOfRows width lines rows → AreLinesOfRows width (lines ++ line ∷ []) (rows ++ last ∷ [])
lines_frame width _ _ line last e (no_line w) = frame width line [] last [] e (no_line width)
lines_frame width _ _ line last e (no_frame w t ts rows f more) = no_frame width t (ts ++ line ∷ []) (rows ++ last ∷ []) f (lines_frame width ts rows line last e more)
lines_frame width _ _ line last e (frame w t ts row rows f more) = frame width t (ts ++ line ∷ []) row (rows ++ last ∷ []) f (lines_frame width ts rows line last e more)

apart_push : (rows : List PlanRow) (row : PlanRow) → AreApart rows → ¬ Contains (planned_addresses rows) row.far → AreApart (rows ++ row ∷ [])
apart_push rows row apart new i j d lt h e =
    let long = length_push rows row in
    elim (cases_order j (length rows)) [
      | inl last ↦
          let a : (get_or (rows ++ row ∷ []) i d).far ≡ (get_or rows i d).far = ap (λ r. r.far) (get_or_append_left rows (row ∷ []) d i (omega arith)) in
          let b : (get_or (rows ++ row ∷ []) j d).far ≡ row.far = ap (λ r. r.far) (get_or_push rows row d j (sym last)) in
          let count = length-map rows (λ r. r.far) in
          new (i, (let k : i < length (planned_addresses rows) = omega arith in k), get_or-map (λ r. r.far) rows i d row.far (omega arith) ∙ sym a ∙ e ∙ b)
      | inr (inl below) ↦
          let a : (get_or (rows ++ row ∷ []) i d).far ≡ (get_or rows i d).far = ap (λ r. r.far) (get_or_append_left rows (row ∷ []) d i (omega arith)) in
          let b : (get_or (rows ++ row ∷ []) j d).far ≡ (get_or rows j d).far = ap (λ r. r.far) (get_or_append_left rows (row ∷ []) d j below) in
          apart i j d lt below (sym a ∙ e ∙ b)
      | inr (inr above) ↦ absurd (omega arith)
    ]

pub good_next : (part : PartData) (lines : List (List ℕ)) (line : List ℕ) (rows new : List PlanRow) → AreGood part lines rows → TakesLine part line rows new → AreGood part (lines ++ line ∷ []) new
good_next part lines line rows new good (inl same) =
    subst (λ r. AreGood part (lines ++ line ∷ []) r) (sym same.1)
    (record { read = lines_skip (frame_words part) lines rows line same.0 good.read; addresses = good.addresses; apart = good.apart })
good_next part lines line rows new good (inr a) =
    subst (λ r. AreGood part (lines ++ line ∷ []) r) (sym a.rows)
    (record {
      read = lines_frame (frame_words part) lines rows line a.row a.frame good.read;
      addresses = All-push (λ r. Contains (addresses_in part) r.far) rows a.row good.addresses a.address;
      apart = apart_push rows a.row good.apart a.apart;
    })

pub no_rows_apart : AreApart []
no_rows_apart i j d lt h e = absurd (omega arith)

pub no_rows_good : (part : PartData) → AreGood part [] []
no_rows_good part = record { read = no_line (frame_words part); addresses = All-nil (λ r. Contains (addresses_in part) r.far); apart = no_rows_apart }

-- the fault of line n, which good lines reach, is the fault of the text
pub fault_of : (part : PartData) (text line : List ℕ) (rows : List PlanRow) (n : ℕ) (f : FramesFault) → ReachesLine part text n line rows → IsFaultAt part rows n line f → IsPlanOf part text (Err f)
fault_of part text line rows n (fault.Line m) r h = (line, rows, subst (λ k. ReachesLine part text k line rows) (sym h.0) r, h.1)
fault_of part text line rows n (fault.Address m) r h = (line, rows, subst (λ k. ReachesLine part text k line rows) (sym h.0) r, h.1)
fault_of part text line rows n (fault.Twice m) r h = (line, rows, subst (λ k. ReachesLine part text k line rows) (sym h.0) r, h.1)
fault_of part text line rows n fault.NoMemory r h = h

apart_takes : (part : PartData) (line : List ℕ) (rows new : List PlanRow) → AreApart rows → TakesLine part line rows new → AreApart new
apart_takes part line rows new apart (inl same) = subst AreApart (sym same.1) apart
apart_takes part line rows new apart (inr a) = subst AreApart (sym a.rows) (apart_push rows a.row apart a.apart)

pub apart_taken : {A E : Type 0} (r : Result A E) (part : PartData) (line : List ℕ) (rows new : List PlanRow) → AreApart rows → OnOk r (TakesLine part line rows new) → OnErr r (new ≡ rows) → AreApart new
apart_taken (Ok a) part line rows new apart takes same = apart_takes part line rows new apart takes
apart_taken (Err e) part line rows new apart takes same = subst AreApart (sym same) apart

-- ---- marks

rises_at : (least : ℕ) (xs : List ℕ) (i d : ℕ) → Rises least xs → i < length xs → least ≤ get_or xs i d
rises_at least _ i d (risen l) h = absurd (omega arith)
rises_at least _ zero d (rise l x xs le more) h = le
rises_at least _ (suc i) d (rise l x xs le more) h = let k = rises_at (x + 1) xs i d more (omega arith) in omega arith

rises_apart : (least : ℕ) (xs : List ℕ) (i j d : ℕ) → Rises least xs → i < length xs → j < length xs → get_or xs i d ≡ get_or xs j d → i ≡ j
rises_apart least _ i j d (risen l) h k e = absurd (omega arith)
rises_apart least _ zero zero d (rise l x xs le more) h k e = refl
rises_apart least _ zero (suc j) d (rise l x xs le more) h k e = let low = rises_at (x + 1) xs j d more (omega arith) in absurd (omega arith)
rises_apart least _ (suc i) zero d (rise l x xs le more) h k e = let low = rises_at (x + 1) xs i d more (omega arith) in absurd (omega arith)
rises_apart least _ (suc i) (suc j) d (rise l x xs le more) h k e = ap suc (rises_apart (x + 1) xs i j d more (omega arith) (omega arith) e)

-- no address is marked before the first line
pub no_marks : (part : PartData) (marks : List Bool) (count : ℕ) → Rises 0 (addresses_in part) → count ≡ length (addresses_in part) → marks ≡ replicate count false → HasMarks part [] marks
no_marks part marks count order counted is =
    subst (HasMarks part []) (sym is) (record {
      order = order;
      long = length-replicate count false ∙ counted;
      at = λ r h. (
        λ marked. absurd (false≢true (sym (get_or-replicate count r false false (omega (arith, h, length-replicate count false))) ∙ marked)),
        λ has. absurd (let none = has.1 in omega (arith, none)),
      );
    })

pub marks_more : (part : PartData) (rows new : List PlanRow) (marks : List Bool) (r : ℕ) (row : PlanRow) → HasMarks part rows marks
    → r < length (addresses_in part) → slice_index (addresses_in part) r ≡ row.far → new ≡ rows ++ row ∷ [] → HasMarks part new (set marks r true)
marks_more part rows new marks r row has inside here e =
    subst (λ n. HasMarks part n (set marks r true)) (sym e) (record { order = has.order; long = length-set marks r true ∙ has.long; at = at })
  where
    more : planned_addresses (rows ++ row ∷ []) ≡ planned_addresses rows ++ row.far ∷ []
    more = map_push (λ s. s.far) rows row

    at : (q : ℕ) → q < length (set marks r true) → (get_or (set marks r true) q false ≡ true) ↔ Contains (planned_addresses (rows ++ row ∷ [])) (slice_index (addresses_in part) q)
    at q h =
        let long = length-set marks r true in
        let all = has.long in
        elim (cases_order q r) [
          | inl same ↦ (
            λ _. subst (λ a. Contains a (slice_index (addresses_in part) q)) (sym more)
                (subst (λ a. Contains (planned_addresses rows ++ row.far ∷ []) a) (sym here ∙ ap (λ (k : ℕ). slice_index (addresses_in part) k) (sym same)) (Contains-push (planned_addresses rows) row.far)),
            λ _. ap (λ (k : ℕ). get_or (set marks r true) k false) same ∙ get_or-set_same marks r true false (omega arith),
          )
          | inr other ↦
              let ne : q ≡ r → ⊥ = λ s. elim other [ inl l ↦ absurd (omega arith) | inr l ↦ absurd (omega arith) ] in
              let old : get_or (set marks r true) q false ≡ get_or marks q false = get_or-set_other marks r q true false ne in
              let iff = has.at q (omega arith) in (
                λ y. subst (λ a. Contains a (slice_index (addresses_in part) q)) (sym more) (Contains-append_left (planned_addresses rows) (row.far ∷ []) (slice_index (addresses_in part) q) (iff.0 (sym old ∙ y))),
                λ c. elim (Contains-push_cases (planned_addresses rows) row.far (slice_index (addresses_in part) q) (subst (λ a. Contains a (slice_index (addresses_in part) q)) more c)) [
                  | inl there ↦ old ∙ iff.1 there
                  | inr last ↦ absurd (ne (rises_apart 0 (addresses_in part) q r 0 has.order (omega arith) inside (sym last ∙ sym here)))
                ],
              )
        ]
