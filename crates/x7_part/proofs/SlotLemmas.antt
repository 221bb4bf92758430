-- The slots of a part, and where they stand.
use Rattle.std.proofs.Common.{◌≡◌, ℕ, zero, suc, ◌+◌, ◌*◌, ◌^◌, ◌<◌, ◌≤◌, ◌↔◌, inl, inr, List, [], ◌∷◌, ◌++◌, length, get_or, map, refl, sym, ap, subst, ◌∙◌, arith, eq-eqb, ne_eqb, append_assoc, length-append}
use Rattle.std.specs.Prelude.{Contains, slice_index}
use Rattle.std.proofs.lemmas.Bool.{cases_eq, cases_lt}
use Rattle.std.proofs.lemmas.List.{get_or_append_left, get_or-append-add, get_or_default}
use Rattle.std.proofs.lemmas.List.Concat.{flat_map-append}
use Rattle.std.proofs.lemmas.List.Elements.{Contains-append_cases}
use Rattle.x7_part.specs.Part.{FieldWidths, RowData, PartData}
use Rattle.x7_part.specs.Ranges.{IsPart}
use Rattle.x7_part.specs.Address.{AreRows, no_row, row, row_address, column_low}
use Rattle.x7_part.specs.AddressOrder.{addresses_of, addresses, addresses_in, Rises, risen, rise, IsFollowedBy}
use Rattle.x7_part.specs.Slot.{slots, slots_in, from_address, addresses_among, AreInOneRow, pads_after_row}
use Rattle.x7_part.specs.declared.slot.Slot.{Slot}
use Rattle.x7_part.specs.declared.slot.Slot.TheVariants.{Frame, Pad, End}
use Rattle.x7_part.proofs.RowLemmas.{part_rises, later_larger}
use Rattle.x7_part.proofs.PartLemmas.{slots_count, first_minors}
use Rattle.x7_part.proofs.TableLemmas.{row_length}
use Rattle.x7_part.proofs.FieldLemmas.{row_in}

-- ---- the addresses among slots

among_append : (first second : List Slot) → addresses_among (first ++ second) ≡ addresses_among first ++ addresses_among second
among_append [] second = refl
among_append (Frame far ∷ first) second = ap (λ rest. far ∷ rest) (among_append first second)
among_append (Pad ∷ first) second = among_append first second
among_append (End ∷ first) second = among_append first second

among_map : (fars : List ℕ) → addresses_among (map Frame fars) ≡ fars
among_map [] = refl
among_map (far ∷ fars) = ap (λ rest. far ∷ rest) (among_map fars)

pub among_slots : (far : FieldWidths) (rows : List RowData) → addresses_among (slots far rows) ≡ addresses far rows
unfolding slots addresses
among_slots far [] = refl
among_slots far (r ∷ rows) =
    among_append (map Frame (addresses_of far r) ++ Pad ∷ Pad ∷ []) (slots far rows)
    ∙ ap (λ rest. rest ++ addresses_among (slots far rows)) (among_append (map Frame (addresses_of far r)) (Pad ∷ Pad ∷ []))
    ∙ append_assoc (addresses_among (map Frame (addresses_of far r))) [] (addresses_among (slots far rows))
    ∙ ap (λ rest. rest ++ addresses_among (slots far rows)) (among_map (addresses_of far r))
    ∙ ap (λ rest. addresses_of far r ++ rest) (among_slots far rows)

-- ---- the slots from an address

-- the slots from an address on are an end of all slots
from_end : (far : ℕ) (places : List Slot) → (before : List Slot) × (places ≡ before ++ from_address far places)
from_end far [] = ([], refl)
from_end far (Frame a ∷ places) =
    elim (cases_eq a far) [
      | inl y ↦ ([], rw (eq-eqb a far y) refl)
      | inr x ↦ let more = from_end far places in (Frame a ∷ more.0, rw (ne_eqb a far x) (ap (λ rest. Frame a ∷ rest) more.1))
    ]
from_end far (Pad ∷ places) = let more = from_end far places in (Pad ∷ more.0, ap (λ rest. Pad ∷ rest) more.1)
from_end far (End ∷ places) = let more = from_end far places in (End ∷ more.0, ap (λ rest. End ∷ rest) more.1)

pub slots_split : (part : PartData) (far : ℕ) → Contains (addresses_in part) far → (before : List Slot) × (slots_in part ≡ before ++ from_address far (slots_in part))
slots_split part far has = from_end far (slots_in part)

later : (a far : ℕ) (fars : List ℕ) → (a ≡ far → ⊥) → Contains (a ∷ fars) far → Contains fars far
later a far fars n (zero, low, e) = absurd (n e)
later a far fars n (suc k, low, e) = (k, omega arith, e)

-- the slots from an address on begin with its frame
from_first : (far : ℕ) (places : List Slot) → Contains (addresses_among places) far → get_or (from_address far places) 0 End ≡ Frame far
from_first far [] (k, low, e) = absurd (omega arith)
from_first far (Frame a ∷ places) has =
    elim (cases_eq a far) [
      | inl y ↦ rw (eq-eqb a far y) (ap (λ (x : ℕ). Frame x) y)
      | inr x ↦ rw (ne_eqb a far x) (from_first far places (later a far (addresses_among places) x has))
    ]
from_first far (Pad ∷ places) has = from_first far places has
from_first far (End ∷ places) has = from_first far places has

pub slots_first : (part : PartData) (far : ℕ) → Contains (addresses_in part) far → get_or (from_address far (slots_in part)) 0 End ≡ Frame far
slots_first part far has = from_first far (slots_in part) (rw (among_slots part.field_widths part.rows) has)

pub slots_number : (part : PartData) → length (slots_in part) ≡ length (addresses_in part) + pads_after_row * length part.rows
slots_number part = slots_count part.field_widths part.rows

-- the slots from the first address on are all slots
from_head : (places : List Slot) (a : ℕ) (rest : List Slot) → places ≡ Frame a ∷ rest → from_address a places ≡ places
from_head places a rest e = rw (e, eq-eqb a a refl) refl

-- the slots of rows: those of the rows before a row, the slots of the row, and those of the rows after it
pub slots_rows : (far : FieldWidths) (rows before after : List RowData) (r : RowData) → rows ≡ before ++ r ∷ after →
    slots far rows ≡ slots far before ++ (map Frame (addresses_of far r) ++ (Pad ∷ Pad ∷ slots far after))
unfolding slots
slots_rows far rows before after r e =
    let f : RowData → List Slot = λ r. map Frame (addresses_of far r) ++ Pad ∷ Pad ∷ [] in
    ap (slots far) e ∙ flat_map-append f before (r ∷ after)
    ∙ ap (λ rest. slots far before ++ rest) (append_assoc (map Frame (addresses_of far r)) (Pad ∷ Pad ∷ []) (slots far after))

-- ---- the first slot

starts_with : (fars more : List ℕ) (rest : List Slot) → 0 < length fars →
    (after : List Slot) × (map Frame fars ++ Pad ∷ Pad ∷ [] ++ rest ≡ Frame (get_or (fars ++ more) 0 0) ∷ after)
starts_with [] more rest h = absurd (omega arith)
starts_with (a ∷ fars) more rest h = (map Frame fars ++ Pad ∷ Pad ∷ [] ++ rest, refl)

rows_start : (far : FieldWidths) (least : ℕ) (rows : List RowData) → AreRows far least rows → 1 ≤ length rows →
    (after : List Slot) × (slots far rows ≡ Frame (get_or (addresses far rows) 0 0) ∷ after)
unfolding slots addresses
rows_start far _ _ (no_row f least) h = absurd (omega arith)
rows_start far _ _ (row f least r rows le is rest) h =
    let n = row_length (2 ^ column_low far) (row_address far r) 0 r.minors in
    let some = first_minors r.minors is.some is.minors in
    starts_with (addresses_of far r) (addresses far rows) (slots far rows) (omega arith)

pub slots_all : (part : PartData) → IsPart part → from_address (slice_index (addresses_in part) 0) (slots_in part) ≡ slots_in part
slots_all part is =
    let h = rows_start part.field_widths 0 part.rows is.rows is.some in
    from_head (slots_in part) (get_or (addresses_in part) 0 0) h.0 h.1

-- ---- the slot after an address

-- a number stands at one place alone in a list that rises
same_place : (l : ℕ) (xs : List ℕ) (i j : ℕ) → Rises l xs → i < length xs → j < length xs → get_or xs i 0 ≡ get_or xs j 0 → i ≡ j
same_place l [] i j rises h k e = absurd (omega arith)
same_place l (x ∷ xs) zero zero (rise _ _ _ le more) h k e = refl
same_place l (x ∷ xs) zero (suc j) (rise _ _ _ le more) h k e = let low = later_larger (x + 1) j xs more (omega arith) in absurd (omega arith)
same_place l (x ∷ xs) (suc i) zero (rise _ _ _ le more) h k e = let low = later_larger (x + 1) i xs more (omega arith) in absurd (omega arith)
same_place l (x ∷ xs) (suc i) (suc j) (rise _ _ _ le more) h k e = ap suc (same_place (x + 1) xs i j more (omega arith) (omega arith) e)

rises_after : (l : ℕ) (xs ys : List ℕ) → Rises l (xs ++ ys) → (m : ℕ) × Rises m ys
rises_after l [] ys rises = (l, rises)
rises_after l (x ∷ xs) ys (rise _ _ _ le more) = rises_after (x + 1) xs ys more

pad_is_no_frame : (far : ℕ) → Pad ≡ Frame far → ⊥
pad_is_no_frame far e = cc

-- right after a frame stands the next frame of its row, or a pad where it is the row's last
inside : (l x k : ℕ) (xs : List ℕ) (rest : List Slot) → Rises l xs → k + 1 < length xs → get_or xs k 0 ≡ x →
    get_or (from_address x (map Frame xs ++ rest)) 1 End ≡ Frame (get_or xs (k + 1) 0)
inside l x k [] rest rises h e = absurd (omega arith)
inside l x zero (a ∷ []) rest rises h e = absurd (omega arith)
inside l x zero (a ∷ b ∷ xs) rest rises h e = rw (eq-eqb a x e) refl
inside l x (suc k) (a ∷ xs) rest (rise _ _ _ le more) h e =
    let low = later_larger (a + 1) k xs more (omega arith) in
    let next : suc k + 1 ≡ suc (k + 1) = omega arith in
    rw (ne_eqb a x (λ same. omega arith), next) (inside (a + 1) x k xs rest more (omega arith) e)

at_end : (l x k : ℕ) (xs : List ℕ) (rest : List Slot) → Rises l xs → k + 1 ≡ length xs → get_or xs k 0 ≡ x →
    get_or (from_address x (map Frame xs ++ (Pad ∷ rest))) 1 End ≡ Pad
at_end l x k [] rest rises h e = absurd (omega arith)
at_end l x zero (a ∷ []) rest rises h e = rw (eq-eqb a x e) refl
at_end l x zero (a ∷ b ∷ xs) rest rises h e = absurd (omega arith)
at_end l x (suc k) (a ∷ xs) rest (rise _ _ _ le more) h e =
    let low = later_larger (a + 1) k xs more (omega arith) in
    rw (ne_eqb a x (λ same. omega arith)) (at_end (a + 1) x k xs rest more (omega arith) e)

skips : (x : ℕ) (xs : List ℕ) (rest : List Slot) → (Contains xs x → ⊥) → from_address x (map Frame xs ++ rest) ≡ from_address x rest
skips x [] rest n = refl
skips x (a ∷ xs) rest n =
    rw (ne_eqb a x (λ e. n (0, omega arith, e))) (skips x xs rest (λ has. n (suc has.0, (let h = has.1 in omega arith), has.2)))

rises_prefix : (l : ℕ) (xs ys : List ℕ) → Rises l (xs ++ ys) → Rises l xs
rises_prefix l [] ys rises = risen l
rises_prefix l (x ∷ xs) ys (rise _ _ _ le more) = rise l x xs le (rises_prefix (x + 1) xs ys more)

frame_is : (a b : ℕ) → Frame a ≡ Frame b → a ≡ b
frame_is a b e = cc

-- rows of which one has both addresses
InOne : FieldWidths → List RowData → ℕ → ℕ → Type 0
InOne far rows x y = (r : RowData) × Contains rows r × Contains (addresses_of far r) x × Contains (addresses_of far r) y

row_holds : (far : FieldWidths) (rows : List RowData) (r : RowData) (x : ℕ) → Contains rows r → Contains (addresses_of far r) x → Contains (addresses far rows) x
row_holds far rows r x (k, low, e) has = row_in far rows r k x low e has

module _ (far : FieldWidths) (r : RowData) (rows : List RowData) (l x y : ℕ) (rises : Rises l (addresses_of far r ++ addresses far rows)) where
  abbrev A : List ℕ
  A = addresses_of far r

  abbrev B : List ℕ
  B = addresses far rows

  long : length (A ++ B) ≡ length A + length B
  long = length-append A B

  left : (k : ℕ) → k < length A → get_or (A ++ B) k 0 ≡ get_or A k 0
  left k h = get_or_append_left A B 0 k h

  right : (k : ℕ) → get_or (A ++ B) (length A + k) 0 ≡ get_or B k 0
  right k = get_or-append-add A B k 0

  not_both : Contains A x → Contains B x → ⊥
  not_both (i, h, e) (j, k, f) =
      let d = get_or_default A i x 0 h in let c = get_or_default B j x 0 k in
      let s = same_place l (A ++ B) i (length A + j) rises (omega (arith, h, long)) (omega (arith, k, long)) (left i h ∙ sym d ∙ e ∙ sym (sym c ∙ f) ∙ sym (right j)) in
      omega (arith, s, h)

  -- where x is an address of the first row
  here_next : Contains A x → get_or (from_address x (map Frame A ++ (Pad ∷ Pad ∷ slots far rows))) 1 End ≡ Frame y → IsFollowedBy (A ++ B) x y × InOne far (r ∷ rows) x y
  unfolding InOne
  here_next (k, h, e) s =
      let at : get_or A k 0 ≡ x = sym (get_or_default A k x 0 h) ∙ e in
      elim (cases_lt (k + 1) (length A)) [
        | inl low ↦
            let is : get_or A (k + 1) 0 ≡ y = frame_is _ y (sym (inside l x k A (Pad ∷ Pad ∷ slots far rows) (rises_prefix l A B rises) low at) ∙ s) in
            ((k, omega (arith, low, long), left k h ∙ at, left (k + 1) low ∙ is), (r, (0, omega arith, refl), (k, h, e), (k + 1, low, get_or_default A (k + 1) y 0 low ∙ is)))
        | inr high ↦ absurd (pad_is_no_frame y (sym (at_end l x k A (Pad ∷ slots far rows) (rises_prefix l A B rises) (omega (arith, h, high)) at) ∙ s))
      ]

  here_frame : Contains A x → IsFollowedBy (A ++ B) x y → InOne far (r ∷ rows) x y → get_or (from_address x (map Frame A ++ (Pad ∷ Pad ∷ slots far rows))) 1 End ≡ Frame y
  unfolding InOne
  here_frame (k, h, e) (i, low, f, g) (s, (zero, jl, je), ax, (m, ml, me)) =
      let at : get_or A k 0 ≡ x = sym (get_or_default A k x 0 h) ∙ e in
      let i_is : i ≡ k = same_place l (A ++ B) i k rises (omega (arith, low)) (omega (arith, h, long)) (f ∙ sym (left k h ∙ at)) in
      let mine : length (addresses_of far s) ≡ length A = ap (λ q. length (addresses_of far q)) (sym je) in
      let m_low : m < length A = omega (arith, ml, mine) in
      let there : get_or A m 0 ≡ y = sym (get_or_default A m y 0 m_low) ∙ ap (λ q. get_or (addresses_of far q) m y) je ∙ me in
      let m_is : m ≡ i + 1 = same_place l (A ++ B) m (i + 1) rises (omega (arith, m_low, long)) low (left m m_low ∙ there ∙ sym g) in
      inside l x k A (Pad ∷ Pad ∷ slots far rows) (rises_prefix l A B rises) (omega (arith, m_is, i_is, m_low)) at
      ∙ ap (λ (q : ℕ). Frame q) (ap (λ q. get_or A q 0) (let q : k + 1 ≡ m = omega (arith, m_is, i_is) in q) ∙ there)
  here_frame has follows (s, (suc j, jl, je), ax, ay) = absurd (not_both has (row_holds far rows s x (j, omega arith, je) ax))

  -- where x is an address of a later row
  later_follows : Contains B x → IsFollowedBy (A ++ B) x y → IsFollowedBy B x y
  later_follows (p, h, e) (i, low, f, g) =
      let at : get_or B p 0 ≡ x = sym (get_or_default B p x 0 h) ∙ e in
      let i_is : i ≡ length A + p = same_place l (A ++ B) i (length A + p) rises (omega (arith, low)) (omega (arith, h, long)) (f ∙ sym (right p ∙ at)) in
      let next : i + 1 ≡ length A + (p + 1) = omega (arith, i_is) in
      (p, omega (arith, low, i_is, long), at, sym (right (p + 1)) ∙ ap (λ q. get_or (A ++ B) q 0) (sym next) ∙ g)

  more_follows : IsFollowedBy B x y → IsFollowedBy (A ++ B) x y
  more_follows (p, low, f, g) =
      let next : length A + p + 1 ≡ length A + (p + 1) = omega arith in
      (length A + p, omega (arith, low, long), right p ∙ f, ap (λ q. get_or (A ++ B) q 0) next ∙ right (p + 1) ∙ g)

  later_row : Contains B x → InOne far (r ∷ rows) x y → InOne far rows x y
  unfolding InOne
  later_row has (s, (zero, jl, je), ax, ay) = absurd (not_both (subst (λ q. Contains (addresses_of far q) x) (sym je) ax) has)
  later_row has (s, (suc j, jl, je), ax, ay) = (s, (j, omega arith, je), ax, ay)

  more_row : InOne far rows x y → InOne far (r ∷ rows) x y
  unfolding InOne
  more_row (s, (j, jl, je), ax, ay) = (s, (suc j, omega arith, je), ax, ay)

  flat : from_address x (map Frame A ++ Pad ∷ Pad ∷ [] ++ slots far rows) ≡ from_address x (map Frame A ++ (Pad ∷ Pad ∷ slots far rows))
  flat = ap (from_address x) (append_assoc (map Frame A) (Pad ∷ Pad ∷ []) (slots far rows))

next_is : (far : FieldWidths) (l : ℕ) (rows : List RowData) (x y : ℕ) → Rises l (addresses far rows) → Contains (addresses far rows) x →
    (get_or (from_address x (slots far rows)) 1 End ≡ Frame y) ↔ (IsFollowedBy (addresses far rows) x y × InOne far rows x y)
unfolding addresses slots
next_is far l [] x y rises (k, low, e) = absurd (omega arith)
next_is far l (r ∷ rows) x y rises has =
    elim (Contains-append_cases (addresses_of far r) (addresses far rows) x has) [
      | inl here ↦ (
        λ s. here_next far r rows l x y rises here (ap (λ t. get_or t 1 End) (sym (flat far r rows l x y rises)) ∙ s),
        λ f. ap (λ t. get_or t 1 End) (flat far r rows l x y rises) ∙ here_frame far r rows l x y rises here f.0 f.1,
      )
      | inr after ↦
          let ih = next_is far (rises_after l (addresses_of far r) (addresses far rows) rises).0 rows x y (rises_after l (addresses_of far r) (addresses far rows) rises).1 after in
          let same = flat far r rows l x y rises ∙ skips x (addresses_of far r) (Pad ∷ Pad ∷ slots far rows) (λ here. not_both far r rows l x y rises here after) in (
            λ s. let f = ih.0 (ap (λ t. get_or t 1 End) (sym same) ∙ s) in (more_follows far r rows l x y rises f.0, more_row far r rows l x y rises f.1),
            λ f. ap (λ t. get_or t 1 End) same ∙ ih.1 (later_follows far r rows l x y rises after f.0, later_row far r rows l x y rises after f.1),
          )
    ]

pub slots_next : (part : PartData) (far next : ℕ) → IsPart part → Contains (addresses_in part) far →
    (get_or (from_address far (slots_in part)) 1 End ≡ Frame next) ↔ (IsFollowedBy (addresses_in part) far next × AreInOneRow part far next)
unfolding InOne
slots_next part far next is has = next_is part.field_widths 0 part.rows far next (part_rises part.field_widths part.rows is.field_widths is.rows) has
