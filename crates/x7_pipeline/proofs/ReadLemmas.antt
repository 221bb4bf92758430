-- The words of a readback.
use Rattle.std.proofs.Common.{◌≡◌, ℕ, zero, suc, ◌+◌, ◌-◌, ◌*◌, ◌/◌, ◌%◌, ◌<◌, ◌≤◌, inl, inr, List, [], ◌∷◌, ◌++◌, length, get_or, map, min, refl, sym, ap, ◌∙◌, arith, eq-eqb, ne_eqb}
use Rattle.std.proofs.lemmas.Bool.{cases_lt, cases_eq}
use Rattle.std.proofs.lemmas.List.{get_or_past}
use Rattle.std.proofs.lemmas.Nat.{div-mul-add, div-add-mod'}
use Rattle.std.proofs.Math.Nat.{le-div_iff_mul-le, div-eq_of_lt, mod-lt, mul-pos}
use Rattle.x7_part.specs.Part.{FieldWidths, RowData, PartData, frame_words}
use Rattle.x7_part.specs.AddressOrder.{addresses_of}
use Rattle.x7_part.specs.Slot.{slots, slots_in, from_address, slots_from}
use Rattle.x7_part.specs.declared.slot.Slot.{Slot}
use Rattle.x7_part.specs.declared.slot.Slot.TheVariants.{Frame, Pad, End}
use Rattle.x7_memory.specs.FrameMap.{FrameMap}
use Rattle.x7_pipeline.specs.Readback.{word_at, read_slot, readback_at, readback_end, given_stored}

-- ---- a slot among those of a readback

pub after_pad : (places : List Slot) (frame : ℕ) → (frame ≡ 0 → ⊥) → get_or places (frame - 1) End ≡ get_or (Pad ∷ places) frame End
after_pad places zero n = absurd (n refl)
after_pad places (suc frame) n = ap (λ i. get_or places i End) (omega arith)

pub read_slot_frame : (part : PartData) (base place : ℕ) → (place / frame_words part ≡ 0 → ⊥) → read_slot part base place ≡ get_or (slots_from part base) (place / frame_words part - 1) End
unfolding read_slot
read_slot_frame part base place n = sym (after_pad (slots_from part base) (place / frame_words part) n)

pub read_slot_pad : (part : PartData) (base place : ℕ) → place < frame_words part → read_slot part base place ≡ Pad
unfolding read_slot
read_slot_pad part base place h = ap (λ i. get_or (Pad ∷ slots_from part base) i End) (div-eq_of_lt h)

-- before any word of a readback was given, its slot is the pad
pub first_slot : (part : PartData) (base : ℕ) → 0 < frame_words part → Pad ≡ read_slot part base (given_stored part base 0)
first_slot part base some = sym (read_slot_pad part base (given_stored part base 0) (omega arith))

-- ---- the limit

NoEnds : List Slot → Type 0
NoEnds [] = Unit {0}
NoEnds (Frame far ∷ places) = NoEnds places
NoEnds (Pad ∷ places) = NoEnds places
NoEnds (End ∷ places) = ⊥

ends_append : (prefix back : List Slot) → NoEnds prefix → NoEnds back → NoEnds (prefix ++ back)
unfolding NoEnds
ends_append [] back f b = b
ends_append (Frame far ∷ prefix) back f b = ends_append prefix back f b
ends_append (Pad ∷ prefix) back f b = ends_append prefix back f b
ends_append (End ∷ prefix) back f b = absurd f

ends_frames : (fars : List ℕ) → NoEnds (map Frame fars)
unfolding NoEnds
ends_frames [] = tt
ends_frames (far ∷ fars) = ends_frames fars

ends_slots : (far : FieldWidths) (rows : List RowData) → NoEnds (slots far rows)
unfolding NoEnds slots
ends_slots far [] = tt
ends_slots far (r ∷ rows) = ends_append (map Frame (addresses_of far r) ++ Pad ∷ Pad ∷ []) (slots far rows) (ends_append (map Frame (addresses_of far r)) (Pad ∷ Pad ∷ []) (ends_frames (addresses_of far r)) tt) (ends_slots far rows)

ends_from : (far : ℕ) (places : List Slot) → NoEnds places → NoEnds (from_address far places)
unfolding NoEnds
ends_from far [] n = n
ends_from far (Frame a ∷ places) n =
    elim (cases_eq a far) [
      | inl y ↦ rw (eq-eqb a far y) n
      | inr x ↦ rw (ne_eqb a far x) (ends_from far places n)
    ]
ends_from far (Pad ∷ places) n = ends_from far places n
ends_from far (End ∷ places) n = absurd n

no_end : (places : List Slot) (i : ℕ) → NoEnds places → i < length places → get_or places i End ≡ End → ⊥
unfolding NoEnds
no_end [] i n h e = omega arith
no_end (Frame far ∷ places) zero n h e = cc
no_end (Frame far ∷ places) (suc i) n h e = no_end places i n (omega arith) e
no_end (Pad ∷ places) zero n h e = cc
no_end (Pad ∷ places) (suc i) n h e = no_end places i n (omega arith) e
no_end (End ∷ places) i n h e = n

pub commute : (a b n : ℕ) → a * b ≤ n → b * a ≤ n
commute a b n h = grind (arith, h)

-- from the limit on there is no slot
pub past_limit : (part : PartData) (base place : ℕ) → 0 < frame_words part → readback_end part base ≤ place → read_slot part base place ≡ End
unfolding read_slot readback_end
past_limit part base place some h =
    let many : 1 + length (slots_from part base) ≤ place / frame_words part =
    (le-div_iff_mul-le {k = frame_words part} {x = 1 + length (slots_from part base)} {y = place} some).1 (commute (frame_words part) (1 + length (slots_from part base)) place h) in
    get_or_past (Pad ∷ slots_from part base) (place / frame_words part) End (omega arith)

pub at_end : (part : PartData) (base place : ℕ) → 0 < frame_words part → read_slot part base place ≡ End → readback_end part base ≤ place
unfolding read_slot readback_end NoEnds
at_end part base place some e =
    elim (cases_lt (place / frame_words part) (1 + length (slots_from part base))) [
      | inl low ↦ absurd (no_end (Pad ∷ slots_from part base) (place / frame_words part) (ends_from base (slots_in part) (ends_slots part.field_widths part.rows)) (omega arith) e)
      | inr past ↦ commute (1 + length (slots_from part base)) (frame_words part) place
          ((le-div_iff_mul-le {k = frame_words part} {x = 1 + length (slots_from part base)} {y = place} some).0 past)
    ]

-- zeros from the limit on
pub zeros_from : (part : PartData) (base : ℕ) (memory : FrameMap) (place : ℕ) → 0 < frame_words part → readback_end part base ≤ place → readback_at part base memory place ≡ 0
unfolding readback_at
zeros_from part base memory place some high = ap (λ slot. word_at slot memory (place % frame_words part)) (past_limit part base place some high)

-- the stored count gives the word of the count
pub read_stored : (part : PartData) (base : ℕ) (memory : FrameMap) (given : ℕ) → 0 < frame_words part → readback_at part base memory (given_stored part base given) ≡ readback_at part base memory given
read_stored part base memory given some =
    elim (cases_lt given (readback_end part base)) [
      | inl low ↦ let e : given_stored part base given ≡ given = omega arith in rw e refl
      | inr high ↦ let e : given_stored part base given ≡ readback_end part base = omega arith in
          ap (readback_at part base memory) e ∙ zeros_from part base memory (readback_end part base) some (omega arith) ∙ sym (zeros_from part base memory given some high)
    ]

-- ---- words that are passed over

pub passed : (part : PartData) (base given n width : ℕ) → width ≡ frame_words part →
    min (given_stored part base given + n) (width * (1 + length (slots_from part base))) ≡ given_stored part base (given + n)
unfolding readback_end
passed part base given n width w = rw w (lesser given n (frame_words part * (1 + length (slots_from part base))))
  where
    lesser : (g n limit : ℕ) → min (min g limit + n) limit ≡ min (g + n) limit
    lesser g n limit = omega arith

-- past the last slot the stored count stands still
pub stands_still : (part : PartData) (base given : ℕ) → 0 < frame_words part → read_slot part base (given_stored part base given) ≡ End → given_stored part base given ≡ given_stored part base (given + 1)
stands_still part base given some e = let high = at_end part base (given_stored part base given) some e in omega arith

-- before the end the stored count goes up by one for each word
pub goes_up : (part : PartData) (base given : ℕ) → 0 < frame_words part → (read_slot part base (given_stored part base given) ≡ End → ⊥) → given_stored part base given + 1 ≡ given_stored part base (given + 1)
goes_up part base given some n =
    elim (cases_lt given (readback_end part base)) [
      | inl low ↦ omega arith
      | inr high ↦ absurd (n (past_limit part base (given_stored part base given) some (omega arith)))
    ]

-- within a frame the slot stays
pub same_slot : (part : PartData) (base place : ℕ) → 0 < frame_words part → ((place + 1) % frame_words part ≡ 0 → ⊥) → read_slot part base place ≡ read_slot part base (place + 1)
unfolding read_slot
same_slot part base place some n =
    ap (λ i. get_or (Pad ∷ slots_from part base) i End) (same_frame (frame_words part) place some n)
  where
    same_frame : (w a : ℕ) → 0 < w → ((a + 1) % w ≡ 0 → ⊥) → a / w ≡ (a + 1) / w
    same_frame w a some n =
        let q = (a + 1) / w in
        let r = (a + 1) % w in
        let whole : q * w + r ≡ a + 1 = div-add-mod' (a + 1) w in
        let low : r < w = mod-lt (a + 1) some in
        let e : a ≡ q * w + (r - 1) = omega arith in
        ap (λ x. x / w) e ∙ div-mul-add q w (r - 1) (omega arith)

-- some words were given exactly where the stored count isn't 0
pub none_given : (part : PartData) (base given : ℕ) → 0 < frame_words part → given_stored part base given ≡ 0 → given ≡ 0
unfolding readback_end
none_given part base given some e = none given (frame_words part * (1 + length (slots_from part base))) (mul-pos some (omega arith)) e
  where
    none : (g limit : ℕ) → 0 < limit → min g limit ≡ 0 → g ≡ 0
    none g limit some e = omega arith
