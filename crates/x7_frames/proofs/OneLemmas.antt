-- A text comes to one thing: its lines have one list of rows, and a line at fault is no good line.
use Rattle.std.proofs.Common.{◌≡◌, ◌⊎◌, inl, inr, ℕ, zero, suc, ◌<◌, ◌≤◌, true, List, [], ◌∷◌, ◌++◌, length, get_or, take, drop, refl, sym, subst, ap, ap₂, ◌∙◌, arith}
use Rattle.std.specs.Prelude.{All, Contains, IsPermutation, Err}
use Rattle.std.proofs.lemmas.Bool.{false≢true}
use Rattle.std.proofs.lemmas.Option.{same_Some}
use Rattle.std.proofs.lemmas.List.{get_or-map, length-map, get_or_at, get_or_append_left}
use Rattle.std.proofs.lemmas.List.Elements.{All-contains, All-contains_itself, Contains-append_right}
use Rattle.std.proofs.lemmas.List.Sorted.{All-permutation, IsPermutation-sym, IsPermutation-trans}
use Rattle.x7_memory.proofs.PlanLemmas.{order_tail}
use Rattle.x7_words.proofs.ListLemmas.{same_prefix}
use Rattle.x7_words.specs.Word.{words_of_bytes}
use Rattle.x7_text.specs.DigitValue.{word_value}
use Rattle.x7_text.specs.EitherCase.{bytes_of_pairs}
use Rattle.x7_text.specs.Lines.{means_nothing, split}
use Rattle.x7_text.proofs.ValueLemmas.{word_back}
use Rattle.x7_part.specs.AddressOrder.{addresses_in}
use Rattle.x7_part.specs.Part.{PartData, frame_words}
use Rattle.x7_memory.specs.Plan.{PlanRow, PlanData, AreApart, AreInOrder}
use Rattle.x7_frames.specs.FramesText.{frame_head, AreGood, AreLinesOfRows, no_line, no_frame, frame, IsFrameLine, IsNoLine, IsForeign, IsRepeated, IsPlanOf, HasPlan}
use Rattle.x7_frames.specs.declared.fault.FramesFault.{FramesFault}
use Rattle.x7_frames.specs.declared.fault.FramesFault.TheVariants as fault

-- ---- a line has at most one row

row_is : (a b : PlanRow) → a.far ≡ b.far → a.words ≡ b.words → a ≡ b
row_is a b e f = ap₂ (λ (x : ℕ) (w : List ℕ). let r : PlanRow = record { far = x; words = w } in r) e f

pub one_row : (width : ℕ) (line : List ℕ) (a b : PlanRow) → IsFrameLine width line a → IsFrameLine width line b → a ≡ b
one_row width line a b is other =
    let e : frame_head a.far ++ is.digits ≡ frame_head b.far ++ other.digits = sym is.text ∙ other.text in
    let head : frame_head a.far ≡ frame_head b.far = same_prefix (frame_head a.far) (frame_head b.far) is.digits other.digits refl e in
    let far : a.far ≡ b.far = sym (word_back a.far is.far) ∙ ap (λ (t : List ℕ). word_value (take 8 (drop 6 t))) head ∙ word_back b.far other.far in
    let digits : is.digits ≡ other.digits = ap (λ (t : List ℕ). drop 15 t) e in
    let bytes : is.bytes ≡ other.bytes = same_Some is.bytes other.bytes (sym is.read ∙ ap bytes_of_pairs digits ∙ other.read) in
    row_is a b far (is.words ∙ ap words_of_bytes bytes ∙ sym other.words)

no_comment : (width : ℕ) (line : List ℕ) (row : PlanRow) → IsFrameLine width line row → means_nothing line ≡ true → ⊥
no_comment width line row is e = false≢true (sym (ap means_nothing is.text) ∙ e)

pub one_rows : (width : ℕ) (lines others : List (List ℕ)) (xs ys : List PlanRow) → lines ≡ others → AreLinesOfRows width lines xs → AreLinesOfRows width others ys → xs ≡ ys
one_rows width _ _ _ _ e (no_line w) (no_line v) = refl
one_rows width _ _ _ _ e (no_line w) (no_frame v t ts ys g rest) = absurd cc
one_rows width _ _ _ _ e (no_line w) (frame v t ts b ys is rest) = absurd cc
one_rows width _ _ _ _ e (no_frame w s ss xs f more) (no_line v) = absurd cc
one_rows width _ _ _ _ e (no_frame w s ss xs f more) (no_frame v t ts ys g rest) =
    let tail : ss ≡ ts = cc in one_rows width ss ts xs ys tail more rest
one_rows width _ _ _ _ e (no_frame w s ss xs f more) (frame v t ts b ys is rest) =
    let head : s ≡ t = cc in absurd (no_comment width t b is (ap means_nothing (sym head) ∙ f))
one_rows width _ _ _ _ e (frame w s ss a xs is more) (no_line v) = absurd cc
one_rows width _ _ _ _ e (frame w s ss a xs is more) (no_frame v t ts ys g rest) =
    let head : s ≡ t = cc in absurd (no_comment width s a is (ap means_nothing head ∙ g))
one_rows width _ _ _ _ e (frame w s ss a xs is more) (frame v t ts b ys it rest) =
    let head : s ≡ t = cc in let tail : ss ≡ ts = cc in
    ap₂ (λ (x : PlanRow) (xs : List PlanRow). x ∷ xs) (one_row width t a b (subst (λ l. IsFrameLine width l a) head is) it) (one_rows width ss ts xs ys tail more rest)

-- ---- lines in two parts

record Parts (width : ℕ) (first second : List (List ℕ)) (rows : List PlanRow) : Type 0 where
  before : List PlanRow
  after : List PlanRow
  joined : rows ≡ before ++ after
  prefix : AreLinesOfRows width first before
  back : AreLinesOfRows width second after

parts : (width : ℕ) (first second all : List (List ℕ)) (rows : List PlanRow) → all ≡ first ++ second → AreLinesOfRows width all rows → Parts width first second rows
parts width [] second all rows e l = record { before = []; after = rows; joined = refl; prefix = no_line width; back = subst (λ a. AreLinesOfRows width a rows) e l }
parts width (t ∷ ts) second _ _ e (no_line w) = absurd cc
parts width (t ∷ ts) second _ _ e (no_frame w s ss rows f more) =
    let head : s ≡ t = cc in let tail : ss ≡ ts ++ second = cc in
    let p = parts width ts second ss rows tail more in
    record { before = p.before; after = p.after; joined = p.joined; prefix = no_frame width t ts p.before (ap means_nothing (sym head) ∙ f) p.prefix; back = p.back }
parts width (t ∷ ts) second _ _ e (frame w s ss row rows is more) =
    let head : s ≡ t = cc in let tail : ss ≡ ts ++ second = cc in
    let p = parts width ts second ss rows tail more in
    record { before = row ∷ p.before; after = p.after; joined = ap (λ x. row ∷ x) p.joined; prefix = frame width t ts row p.before (subst (λ l. IsFrameLine width l row) head is) p.prefix; back = p.back }

first_line : (width : ℕ) (line : List ℕ) (more all : List (List ℕ)) (rows : List PlanRow) → all ≡ line ∷ more → AreLinesOfRows width all rows
    → (means_nothing line ≡ true) ⊎ ((row : PlanRow) × (rest : List PlanRow) × (rows ≡ row ∷ rest) × IsFrameLine width line row)
first_line width line more _ _ e (no_line w) = absurd cc
first_line width line more _ _ e (no_frame w s ss rows f rest) = let head : s ≡ line = cc in inl (ap means_nothing (sym head) ∙ f)
first_line width line more _ _ e (frame w s ss row rows is rest) = let head : s ≡ line = cc in inr (row, rows, refl, subst (λ l. IsFrameLine width l row) head is)

-- ---- a line at fault after good lines, and good lines that go on with it

module _ (part : PartData) (before after : List (List ℕ)) (line : List ℕ) (rows all : List PlanRow) (good : AreGood part before rows) (whole : AreGood part (before ++ line ∷ after) all) where
  in_parts : Parts (frame_words part) before (line ∷ after) all
  in_parts = parts (frame_words part) before (line ∷ after) (before ++ line ∷ after) all refl whole.read

  same_rows : in_parts.before ≡ rows
  same_rows = one_rows (frame_words part) before before in_parts.before rows refl in_parts.prefix good.read

  -- the line means nothing, or its row comes right after the rows of the lines before it
  next_row : (means_nothing line ≡ true) ⊎ ((row : PlanRow) × (rest : List PlanRow) × (all ≡ rows ++ row ∷ rest) × IsFrameLine (frame_words part) line row)
  next_row =
      elim (first_line (frame_words part) line after (line ∷ after) in_parts.after refl in_parts.back) [
        | inl nothing ↦ inl nothing
        | inr r ↦ inr (r.0, r.1, in_parts.joined ∙ ap₂ (λ (x y : List PlanRow). x ++ y) same_rows r.2, r.3)
      ]

  pub no_line_there : IsNoLine (frame_words part) line → ⊥
  no_line_there n =
      elim next_row [
        | inl nothing ↦ false≢true (sym n.has_meaning ∙ nothing)
        | inr r ↦ n.no_frame r.0 r.3
      ]

  pub foreign_there : IsForeign part line → ⊥
  foreign_there f =
      elim next_row [
        | inl nothing ↦ no_comment (frame_words part) line f.row f.frame nothing
        | inr r ↦
            let same : r.0 ≡ f.row = one_row (frame_words part) line r.0 f.row r.3 f.frame in
            let has : Contains (rows ++ r.0 ∷ r.1) r.0 = Contains-append_right rows (r.0 ∷ r.1) r.0 (0, (omega arith), refl) in
            let there : Contains (addresses_in part) r.0.far = All-contains (λ row. Contains (addresses_in part) row.far) (rows ++ r.0 ∷ r.1) r.0 (subst (λ x. All (λ row. Contains (addresses_in part) row.far) x) r.2 whole.addresses) has in
            f.foreign (subst (λ (row : PlanRow). Contains (addresses_in part) row.far) same there)
      ]

  pub repeated_there : IsRepeated part rows line → ⊥
  repeated_there f =
      elim next_row [
        | inl nothing ↦ no_comment (frame_words part) line f.row f.frame nothing
        | inr r ↦
            let same : r.0 ≡ f.row = one_row (frame_words part) line r.0 f.row r.3 f.frame in
            let apart : AreApart (rows ++ r.0 ∷ r.1) = subst (λ x. AreApart x) r.2 whole.apart in
            let k : ℕ = f.repeated.0 in
            let count = length-map rows (λ row. row.far) in
            let inside : k < length rows = let h = f.repeated.1 in omega arith in
            let long = length_both rows r.0 r.1 in
            let early : (get_or (rows ++ r.0 ∷ r.1) k r.0).far ≡ f.row.far =
            ap (λ row. row.far) (get_or_append_left rows (r.0 ∷ r.1) r.0 k inside) ∙ sym (get_or-map (λ row. row.far) rows k r.0 f.row.far inside) ∙ f.repeated.2 in
            let late : (get_or (rows ++ r.0 ∷ r.1) (length rows) r.0).far ≡ f.row.far = ap (λ row. row.far) (get_or_at rows r.0 r.1 r.0 (length rows) refl) ∙ ap (λ row. row.far) same in
            apart k (length rows) r.0 inside (omega arith) (early ∙ sym late)
      ]
    where
      length_both : (xs : List PlanRow) (y : PlanRow) (ys : List PlanRow) → length xs < length (xs ++ y ∷ ys)
      length_both [] y ys = omega arith
      length_both (x ∷ xs) y ys = let l = length_both xs y ys in omega arith

-- ---- plans of one text

head_low : (x : PlanRow) (xs : List PlanRow) (k : ℕ) (d : PlanRow) → AreInOrder (x ∷ xs) → k < length xs → x.far < (get_or xs k d).far
head_low x xs k d order h = order 0 (suc k) d (omega arith) (omega arith)

-- a row of a list that hasn't the address of its head stands after the head
after : (x y : PlanRow) (ys : List PlanRow) → Contains (y ∷ ys) x → (x.far ≡ y.far → ⊥) → Contains ys x
after x y ys (zero, h, e) n = absurd (n (ap (λ r. r.far) (sym e)))
after x y ys (suc k, h, e) n = (k, (omega arith), e)

-- no row of rows in order has an address below that of their head
not_below : (x y : PlanRow) (ys : List PlanRow) → AreInOrder (y ∷ ys) → Contains (y ∷ ys) x → y.far ≤ x.far
not_below x y ys order (zero, h, e) = let same = ap (λ r. r.far) e in omega arith
not_below x y ys order (suc k, h, e) = let low = head_low y ys k x order (omega arith) in let same = ap (λ r. r.far) e in omega arith

is_head : (x y : PlanRow) (ys : List PlanRow) → AreInOrder (y ∷ ys) → Contains (y ∷ ys) x → x.far ≡ y.far → x ≡ y
is_head x y ys order (zero, h, e) f = sym e
is_head x y ys order (suc k, h, e) f = let low = head_low y ys k x order (omega arith) in let same = ap (λ r. r.far) e in absurd (omega arith)

pub same_order : (xs ys : List PlanRow) → AreInOrder xs → AreInOrder ys → All (Contains ys) xs → All (Contains xs) ys → xs ≡ ys
same_order [] [] a b f g = refl
same_order [] (y ∷ ys) a b f g = let h = g 0 y (omega arith) in absurd (let k = h.1 in omega arith)
same_order (x ∷ xs) [] a b f g = let h = f 0 x (omega arith) in absurd (let k = h.1 in omega arith)
same_order (x ∷ xs) (y ∷ ys) a b f g =
    let up = not_below x y ys b (f 0 x (omega arith)) in
    let down = not_below y x xs a (g 0 y (omega arith)) in
    let far : x.far ≡ y.far = omega arith in
    let head : x ≡ y = is_head x y ys b (f 0 x (omega arith)) far in
    let tails : xs ≡ ys = same_order xs ys (order_tail x xs a) (order_tail y ys b)
    (λ k d h. after (get_or xs k d) y ys (f (suc k) d (omega arith)) (λ e. let low = head_low x xs k d a h in absurd (omega arith)))
    (λ k d h. after (get_or ys k d) x xs (g (suc k) d (omega arith)) (λ e. let low = head_low y ys k d b h in absurd (omega arith))) in
    ap₂ (λ (r : PlanRow) (rs : List PlanRow). r ∷ rs) head tails

pub one_plan : (part : PartData) (text : List ℕ) (p q : PlanData) → HasPlan part text p → HasPlan part text q → p ≡ q
one_plan part text p q a b =
    let rows : a.rows ≡ b.rows = one_rows (frame_words part) (split text) (split text) a.rows b.rows refl a.good.read b.good.read in
    let same : IsPermutation p.rows q.rows = IsPermutation-trans p.rows a.rows q.rows (IsPermutation-sym a.rows p.rows a.same) (subst (λ r. IsPermutation r q.rows) (sym rows) b.same) in
    let e : p.rows ≡ q.rows = same_order p.rows q.rows a.is_plan.order b.is_plan.order
    (All-permutation (Contains q.rows) q.rows p.rows (IsPermutation-sym p.rows q.rows same) (All-contains_itself q.rows))
    (All-permutation (Contains p.rows) p.rows q.rows same (All-contains_itself p.rows)) in
    ap₂ (λ (w : ℕ) (r : List PlanRow). let plan : PlanData = record { width = w; rows = r } in plan) (a.width ∙ sym b.width) e

-- a text that has a plan has no fault
pub no_fault : (part : PartData) (text : List ℕ) (p : PlanData) (f : FramesFault) → HasPlan part text p → IsPlanOf part text (Err f) → ⊥
no_fault part text p (fault.Line n) a (line, rows, r, bad) = no_line_there part r.before r.after line rows a.rows r.good (subst (λ t. AreGood part t a.rows) r.texts a.good) bad
no_fault part text p (fault.Address n) a (line, rows, r, bad) = foreign_there part r.before r.after line rows a.rows r.good (subst (λ t. AreGood part t a.rows) r.texts a.good) bad
no_fault part text p (fault.Twice n) a (line, rows, r, bad) = repeated_there part r.before r.after line rows a.rows r.good (subst (λ t. AreGood part t a.rows) r.texts a.good) bad
no_fault part text p fault.NoMemory a h = h
