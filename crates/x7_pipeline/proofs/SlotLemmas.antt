-- The slots of a part, by the addresses among them.
use Rattle.std.proofs.Common.{◌≡◌, ℕ, zero, suc, ◌^◌, ◌<◌, ◌≤◌, ◌⊎◌, ◌↔◌, inl, inr, Bool, true, false, List, [], ◌∷◌, length, get_or, refl, sym, arith, eq-eqb, ne_eqb}
use Rattle.std.specs.Prelude.{Contains}
use Rattle.std.proofs.lemmas.Bool.{cases_eq, false≢true, ltb-true, lt-ltb}
use Rattle.std.proofs.lemmas.Bool.Decides.{nat_tests}
use Rattle.std.proofs.lemmas.List.{get_or_past}
use Rattle.x7_part.specs.Part.{PartData}
use Rattle.x7_part.specs.Ranges.{IsPart}
use Rattle.x7_part.specs.AddressOrder.{addresses_in}
use Rattle.x7_part.specs.Slot.{slots_in, from_address, slots_from, addresses_among}
use Rattle.x7_part.specs.declared.slot.Slot.{Slot}
use Rattle.x7_part.specs.declared.slot.Slot.TheVariants.{Frame, Pad, End}
use Rattle.x7_part.proofs.PartLemmas.{slots_count}
use Rattle.x7_part.proofs.SlotLemmas.{among_slots}
use Rattle.x7_pipeline.specs.FarAsRead.{is_frame_address}

-- ---- the slots from an address on

contains_later : (far a : ℕ) (fars : List ℕ) → Contains fars far → Contains (a ∷ fars) far
contains_later far a fars has = (suc has.0, (let h = has.1 in omega arith), has.2)

-- what stands among the slots from a place on stands among all
pub slot_among : (base n far : ℕ) (places : List Slot) → get_or (from_address base places) n End ≡ Frame far → Contains (addresses_among places) far
slot_among base n far [] e = absurd (cc)
slot_among base n far (Frame a ∷ places) e =
    elim (cases_eq a base) [
      | inl y ↦ here n far a places (rw (eq-eqb a base y) at e)
      | inr x ↦ contains_later far a (addresses_among places) (slot_among base n far places (rw (ne_eqb a base x) at e))
    ]
  where
    listed : (n far : ℕ) (places : List Slot) → get_or places n End ≡ Frame far → Contains (addresses_among places) far
    listed n far [] e = absurd (cc)
    listed zero far (Frame a ∷ places) e = (0, omega arith, (let same : a ≡ far = cc in same))
    listed (suc n) far (Frame a ∷ places) e = contains_later far a (addresses_among places) (listed n far places e)
    listed zero far (Pad ∷ places) e = absurd (cc)
    listed (suc n) far (Pad ∷ places) e = listed n far places e
    listed zero far (End ∷ places) e = absurd (cc)
    listed (suc n) far (End ∷ places) e = listed n far places e

    here : (n far a : ℕ) (places : List Slot) → get_or (Frame a ∷ places) n End ≡ Frame far → Contains (a ∷ addresses_among places) far
    here n far a places e = listed n far (Frame a ∷ places) e
slot_among base n far (Pad ∷ places) e = slot_among base n far places e
slot_among base n far (End ∷ places) e = slot_among base n far places e

pub from_some : (far : ℕ) (places : List Slot) → Contains (addresses_among places) far → 0 < length (from_address far places)
from_some far [] (k, low, e) = absurd (omega arith)
from_some far (Frame a ∷ places) (k, low, e) =
    elim (cases_eq a far) [
      | inl y ↦ rw (eq-eqb a far y) (omega arith)
      | inr x ↦ rw (ne_eqb a far x) (from_some far places (later k low e x))
    ]
  where
    later : (k : ℕ) → k < length (a ∷ addresses_among places) → get_or (a ∷ addresses_among places) k far ≡ far → (a ≡ far → ⊥) → Contains (addresses_among places) far
    later zero low e x = absurd (x e)
    later (suc k) low e x = (k, omega arith, e)
from_some far (Pad ∷ places) has = from_some far places has
from_some far (End ∷ places) has = from_some far places has

pub some_from : (far : ℕ) (places : List Slot) → 0 < length (from_address far places) → Contains (addresses_among places) far
some_from far [] h = absurd (omega arith)
some_from far (Frame a ∷ places) h =
    elim (cases_eq a far) [
      | inl y ↦ (0, omega arith, y)
      | inr x ↦ contains_later far a (addresses_among places) (some_from far places (rw (ne_eqb a far x) at h))
    ]
some_from far (Pad ∷ places) h = some_from far places h
some_from far (End ∷ places) h = some_from far places h

length_from : (far : ℕ) (places : List Slot) → length (from_address far places) ≤ length places
length_from far [] = omega arith
length_from far (Frame a ∷ places) =
    elim (cases_eq a far) [
      | inl y ↦ rw (eq-eqb a far y) (omega arith)
      | inr x ↦ rw (ne_eqb a far x) (let ih = length_from far places in omega arith)
    ]
length_from far (Pad ∷ places) = let ih = length_from far places in omega arith
length_from far (End ∷ places) = let ih = length_from far places in omega arith

-- ---- of a part

-- an address has slots from it on
pub address_has : (part : PartData) (far : ℕ) → Contains (addresses_in part) far → is_frame_address part far ≡ true
address_has part far has =
    lt-ltb 0 (length (slots_from part far)) (from_some far (slots_in part) (rw (among_slots part.field_widths part.rows) has))

pub has_address : (part : PartData) (far : ℕ) → is_frame_address part far ≡ true → Contains (addresses_in part) far
has_address part far t =
    rw (among_slots part.field_widths part.rows) at (some_from far (slots_in part) (ltb-true 0 (length (slots_from part far)) t))

-- the test for an address
pub is_base_so : (part : PartData) (far : ℕ) (b : Bool) → (b ≡ true) ↔ Contains (addresses_in part) far → b ≡ is_frame_address part far
is_base_so part far true h = sym (address_has part far (h.0 refl))
is_base_so part far false h =
    elim (tells (is_frame_address part far)) [
      | inl t ↦ absurd (false≢true (h.1 (has_address part far t)))
      | inr f ↦ sym f
    ]
  where
    tells : (b : Bool) → (b ≡ true) ⊎ (b ≡ false)
    tells true = inl refl
    tells false = inr refl

-- what is no address has no slot
pub no_slots : (part : PartData) (far : ℕ) → is_frame_address part far ≡ false → length (slots_from part far) ≡ 0
no_slots part far f = grind (arith, nat_tests)

pub no_slot : (part : PartData) (far n : ℕ) → is_frame_address part far ≡ false → End ≡ get_or (slots_from part far) n End
no_slot part far n f = sym (get_or_past (slots_from part far) n End (let none = no_slots part far f in omega arith))

-- a slot of a frame has an address of the part
pub slot_address : (part : PartData) (base n far : ℕ) → Frame far ≡ get_or (slots_from part base) n End → Contains (addresses_in part) far
slot_address part base n far e = rw (among_slots part.field_widths part.rows) at (slot_among base n far (slots_in part) (sym e))

-- a part has fewer than 2^31 slots
pub few_slots : (part : PartData) (far : ℕ) → IsPart part → length (slots_from part far) < 2 ^ 31
few_slots part far is =
    let few = is.frames in let rows = is.few in let count = slots_count part.field_widths part.rows in let from_there = length_from far (slots_in part) in omega arith
