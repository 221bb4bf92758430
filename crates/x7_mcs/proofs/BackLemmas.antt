-- The text of bytes gives them back.
use Rattle.std.proofs.Common.{◌≡◌, ◌==◌, ℕ, zero, suc, ◌+◌, ◌-◌, ◌*◌, ◌/◌, ◌%◌, ◌^◌, ◌<◌, ◌≤◌, ◌||◌, nat_lt, max, Bool, true, false, if◌then◌else◌, List, [], ◌∷◌, ◌++◌, None, Some, Ok, length, get_or, codes, refl, ap, ap₂, sym, subst, ◌∙◌, ◌⊎◌, inl, inr, arith, append_assoc, length-append, append-nil}
use Rattle.std.proofs.lemmas.Grind.{common_steps}
use Rattle.std.proofs.lemmas.Bool.{cases_lt, cases_eq, le-ltb}
use Rattle.std.proofs.lemmas.List.{get_or_append_left, get_or-append_right, get_or_past}
use Rattle.std.proofs.lemmas.List.FromFn.{fill_by_all}
use Rattle.std.specs.List.{flat_map}
use Rattle.x7_mcs.specs.Record.{block_size}
use Rattle.x7_words.specs.Word.{AreBytes}
use Rattle.x7_text.specs.Row.{AreFullButLast, rows}
use Rattle.x7_text.proofs.RowLemmas.{rows_full, rows_joined}
use Rattle.x7_mcs.specs.Lines.{lines_of}
use Rattle.x7_mcs.specs.DataRecords.{DataRecord, byte_at, covered, covers, extent, records_image, overlap, unless_covered, with_record}
use Rattle.x7_mcs.specs.Flash.{FlashReading, after_lines, flash_in, mcs_of, with_end}
use Rattle.x7_mcs.specs.Flash.{mcs_reading}
use Rattle.x7_mcs.specs.Text.{base_line, block_start, data_line, mcs_text, row_lines}
use Rattle.x7_mcs.proofs.PlaceLemmas.{within, end_is}
use Rattle.x7_mcs.proofs.ReadLemmas.{read_base, read_free}

-- the records give these bytes from place 0 on
pub record GiveJust (xs : List DataRecord) (done : List ℕ) : Type 0 where
  pub long : extent xs ≡ length done
  pub at : (p : ℕ) → byte_at xs p ≡ get_or done p 255
  pub marked : (p : ℕ) → covered xs p ≡ nat_lt p (length done)

no_overlap : (xs : List DataRecord) (done : List ℕ) → GiveJust xs done → (q n : ℕ) → length done ≤ q → overlap xs q n ≡ None
no_overlap xs done f q zero h = refl
no_overlap xs done f q (suc n) h = ap (λ (b : Bool). if b then Some q else overlap xs (q + 1) n) (f.marked q ∙ le-ltb q (length done) h) ∙ no_overlap xs done f (q + 1) n (omega arith)

pub free_piece : (n : ℕ) (xs : List DataRecord) (done r : List ℕ) (q : ℕ) → GiveJust xs done → q ≡ length done → 0 < length r → q + length r ≤ 2 ^ 27 → with_record n xs (record { place = q; bytes = r }) ≡ Ok (record { place = q; bytes = r } ∷ xs)
free_piece n xs done r q f e h l = within n xs (record { place = q; bytes = r }) h l ∙ ap (λ o. unless_covered o (record { place = q; bytes = r } ∷ xs)) (no_overlap xs done f q (length r) (omega (arith, e)))

covers_below : (x : DataRecord) (p : ℕ) → p < x.place → covers x p ≡ false
covers_below x p h = grind (arith, common_steps)

covers_in : (x : DataRecord) (p : ℕ) → x.place ≤ p → p < x.place + length x.bytes → covers x p ≡ true
covers_in x p h l = grind (arith, common_steps)

covers_after : (x : DataRecord) (p : ℕ) → x.place + length x.bytes ≤ p → covers x p ≡ false
covers_after x p h = grind (arith, common_steps)

marks_more : (x : DataRecord) (p : ℕ) → (covers x p || nat_lt p x.place) ≡ nat_lt p (x.place + length x.bytes)
marks_more x p = grind (arith, common_steps)

top : (a b : ℕ) → max a (a + b) ≡ a + b
top a b = grind (arith, common_steps)

at_more : (xs : List DataRecord) (x : DataRecord) (done : List ℕ) → GiveJust xs done → x.place ≡ length done → (p : ℕ) → byte_at (x ∷ xs) p ≡ get_or (done ++ x.bytes) p 255
at_more xs x done f e p = elim (cases_lt p x.place) [
  | inl below ↦ ap (λ (b : Bool). if b then get_or x.bytes (p - x.place) 255 else byte_at xs p) (covers_below x p below) ∙ f.at p ∙ sym (get_or_append_left done x.bytes 255 p (omega (arith, e, below)))
  | inr above ↦ elim (cases_lt p (x.place + length x.bytes)) [
    | inl low ↦ ap (λ (b : Bool). if b then get_or x.bytes (p - x.place) 255 else byte_at xs p) (covers_in x p above low) ∙ sym (get_or-append_right done x.bytes x.place p 255 (sym e) above)
    | inr high ↦ ap (λ (b : Bool). if b then get_or x.bytes (p - x.place) 255 else byte_at xs p) (covers_after x p high) ∙ f.at p ∙ get_or_past done p 255 (omega (arith, e, above))
        ∙ sym (get_or_past (done ++ x.bytes) p 255 (omega (arith, e, high, length-append done x.bytes)))
  ]
]

pub prefix_more : (xs : List DataRecord) (x : DataRecord) (done : List ℕ) → GiveJust xs done → x.place ≡ length done → 0 < length x.bytes → GiveJust (x ∷ xs) (done ++ x.bytes)
prefix_more xs x done f e h = record {
  long = ap₂ max (f.long ∙ sym e) (end_is x h) ∙ top x.place (length x.bytes) ∙ ap (λ (k : ℕ). k + length x.bytes) e ∙ sym (length-append done x.bytes);
  at = at_more xs x done f e;
  marked = λ p. ap (λ (b : Bool). covers x p || b) (f.marked p ∙ ap (nat_lt p) (sym e)) ∙ marks_more x p ∙ ap (λ (k : ℕ). nat_lt p (k + length x.bytes)) e ∙ ap (nat_lt p) (sym (length-append done x.bytes));
}

-- a text that goes on from line n, with this base and these records before it, gives the bytes `all`
pub record Ends (n base : ℕ) (xs : List DataRecord) (text all : List ℕ) : Type 0 where
  pub reading : FlashReading
  pub is : with_end (after_lines n (mcs_reading base false xs) (lines_of text)) ≡ Ok reading
  pub image : records_image reading.records ≡ all

pub ends_end : (n base : ℕ) (xs : List DataRecord) (done : List ℕ) → GiveJust xs done → Ends n base xs (codes ":00000001FF\n") done
ends_end n base xs done f = record {
  reading = record { base = base; has_ended = true; records = xs };
  is = refl;
  image = sym (fill_by_all (byte_at xs) done (extent xs) 255 (sym f.long) (λ p h. sym (f.at p)));
}

parts : (a b : List ℕ) → AreBytes (a ++ b) → AreBytes a × AreBytes b
parts [] b h = (tt, h)
parts (x ∷ xs) b h = let p = parts xs b h.1 in ((h.0, p.0), p.1)

eq_false_not : (a : ℕ) → (a == 0) ≡ false → a ≡ 0 → ⊥
eq_false_not a e f = grind (arith, common_steps)

-- the base is that of the place's block, or the place begins a block, whose record 04 comes
abbrev pub AtBase : ℕ → ℕ → Type 0
AtBase place base = (base ≡ block_size * (place / block_size)) ⊎ (place % block_size ≡ 0)

read_block : (b : Bool) (n base place : ℕ) (xs : List DataRecord) (rest : List ℕ) → (place % block_size == 0) ≡ b → place < 2 ^ 27 → AtBase place base
    → (m : ℕ) × (after_lines n (mcs_reading base false xs) (lines_of ((if b then base_line (place / block_size) else []) ++ rest)) ≡ after_lines m (mcs_reading (block_size * (place / block_size)) false xs) (lines_of rest))
read_block true n base place xs rest e h (inl i) = (n + 1, read_base n base (place / block_size) xs rest (omega arith))
read_block true n base place xs rest e h (inr z) = (n + 1, read_base n base (place / block_size) xs rest (omega arith))
read_block false n base place xs rest e h (inl i) = (n, ap (λ (v : ℕ). after_lines n (mcs_reading v false xs) (lines_of rest)) i)
read_block false n base place xs rest e h (inr z) = absurd (eq_false_not (place % block_size) e z)

placed : (place : ℕ) → block_size * (place / block_size) + place % block_size ≡ place
placed place = omega arith

pub one_row : (n base place : ℕ) (xs : List DataRecord) (done r rest : List ℕ) → GiveJust xs done → place ≡ length done → 0 < length r → length r ≤ 16 → place % 16 ≡ 0 → place + length r ≤ 2 ^ 27 → AreBytes r → AtBase place base
    → (m : ℕ) × (after_lines n (mcs_reading base false xs) (lines_of ((block_start place ++ data_line (place % block_size) r) ++ rest)) ≡ after_lines m (mcs_reading (block_size * (place / block_size)) false (record { place = place; bytes = r } ∷ xs)) (lines_of rest))
one_row n base place xs done r rest f e h l a w b i =
    let p = read_block (place % block_size == 0) n base place xs (data_line (place % block_size) r ++ rest) refl (omega arith) i in
    let q : ℕ = block_size * (place / block_size) + place % block_size in
    let is : block_size * (place / block_size) + place % block_size ≡ place = placed place in (
      p.0 + 1,
      ap (λ t. after_lines n (mcs_reading base false xs) (lines_of t)) (append_assoc (block_start place) (data_line (place % block_size) r) rest) ∙ p.1
          ∙ read_free p.0 (block_size * (place / block_size)) (place % block_size) xs r rest b (omega arith) (omega arith) (omega arith)
          (free_piece p.0 xs done r (block_size * (place / block_size) + place % block_size) f (is ∙ e) h (omega (arith, is)))
          ∙ ap (λ (k : ℕ). after_lines (p.0 + 1) (mcs_reading (block_size * (place / block_size)) false (record { place = k; bytes = r } ∷ xs)) (lines_of rest)) is,
    )

-- rows, if there are any, begin at a multiple of 16 for which the base stands
abbrev pub Aligned : ℕ → ℕ → List (List ℕ) → Type 0
Aligned place base [] = Unit {0}
Aligned place base (r ∷ rs) = (place % 16 ≡ 0) × AtBase place base

first_size : (r : List ℕ) (rs : List (List ℕ)) → AreFullButLast 16 (r ∷ rs) → (0 < length r) × (length r ≤ 16)
first_size r [] h = h
first_size r (s ∷ rs) h = (omega (arith, h.0), omega (arith, h.0))

rest_full : (r : List ℕ) (rs : List (List ℕ)) → AreFullButLast 16 (r ∷ rs) → AreFullButLast 16 rs
rest_full r [] h = tt
rest_full r (s ∷ rs) h = h.1

same_block : (place : ℕ) → place % 16 ≡ 0 → (block_size * (place / block_size) ≡ block_size * ((place + 16) / block_size)) ⊎ ((place + 16) % block_size ≡ 0)
same_block place h = elim (cases_eq ((place + 16) % block_size) 0) [
  | inl e ↦ inr e
  | inr e ↦ inl (omega (arith, h, e))
]

next_aligned : (place : ℕ) (r : List ℕ) (rs : List (List ℕ)) → AreFullButLast 16 (r ∷ rs) → place % 16 ≡ 0 → Aligned (place + length r) (block_size * (place / block_size)) rs
next_aligned place r [] h a = tt
next_aligned place r (s ∷ rs) h a = (omega (arith, h.0, a), subst (λ (k : ℕ). AtBase (place + k) (block_size * (place / block_size))) (sym h.0) (same_block place a))

pub rows_read : (rs : List (List ℕ)) (n base place : ℕ) (xs : List DataRecord) (done all : List ℕ) → GiveJust xs done → place ≡ length done → all ≡ done ++ flat_map (λ (r : List ℕ). r) rs → AreFullButLast 16 rs → Aligned place base rs
    → place + length (flat_map (λ (r : List ℕ). r) rs) ≤ 2 ^ 27 → AreBytes (flat_map (λ (r : List ℕ). r) rs) → Ends n base xs (row_lines place rs ++ codes ":00000001FF\n") all
rows_read [] n base place xs done all f e is full a w b = subst (λ (t : List ℕ). Ends n base xs (codes ":00000001FF\n") t) (sym (append-nil done) ∙ sym is) (ends_end n base xs done f)
rows_read (r ∷ rs) n base place xs done all f e is full a w b =
    let long : length (r ++ flat_map (λ (s : List ℕ). s) rs) ≡ length r + length (flat_map (λ (s : List ℕ). s) rs) = length-append r (flat_map (λ (s : List ℕ). s) rs) in
    let size = first_size r rs full in
    let both = parts r (flat_map (λ (s : List ℕ). s) rs) b in
    let p = one_row n base place xs done r (row_lines (place + length r) rs ++ codes ":00000001FF\n") f e size.0 size.1 a.0 (omega (arith, long, w)) both.0 a.1 in
    let more = rows_read rs p.0 (block_size * (place / block_size)) (place + length r) (record { place = place; bytes = r } ∷ xs) (done ++ r) all (prefix_more xs (record { place = place; bytes = r }) done f e size.0)
    (ap (λ (k : ℕ). k + length r) e ∙ sym (length-append done r)) (is ∙ sym (append_assoc done r (flat_map (λ (s : List ℕ). s) rs))) (rest_full r rs full) (next_aligned place r rs full a.0) (omega (arith, long, w)) both.1 in
    record {
      reading = more.reading;
      is = ap with_end (ap (λ t. after_lines n (mcs_reading base false xs) (lines_of t)) (append_assoc (block_start place ++ data_line (place % block_size) r) (row_lines (place + length r) rs) (codes ":00000001FF\n")) ∙ p.1) ∙ more.is;
      image = more.image;
    }

aligned_none : (rs : List (List ℕ)) → Aligned 0 0 rs
aligned_none [] = tt
aligned_none (r ∷ rs) = (refl, inr refl)

prefix_none : GiveJust [] []
prefix_none = record { long = refl; at = λ p. refl; marked = λ p. sym (le-ltb p 0 (omega arith)) }

pub text_gives : (bytes : List ℕ) → AreBytes bytes → length bytes ≤ 2 ^ 27 → mcs_of (mcs_text bytes) ≡ Ok bytes
text_gives bytes h l =
    let j : flat_map (λ (r : List ℕ). r) (rows 16 bytes) ≡ bytes = rows_joined 16 [] bytes in
    let e = rows_read (rows 16 bytes) 1 0 0 [] [] bytes prefix_none refl (sym j) (rows_full 16 [] bytes (omega arith)) (aligned_none (rows 16 bytes)) (omega (arith, ap length j, l)) (subst AreBytes (sym j) h) in
    ap flash_in e.is ∙ ap Ok e.image
