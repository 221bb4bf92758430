-- FAR as read.
use Rattle.std.proofs.Common.{◌≡◌, ℕ, zero, suc, ◌+◌, ◌-◌, ◌*◌, ◌/◌, ◌<◌, ◌≤◌, inl, inr, true, false, List, [], ◌∷◌, length, get_or, drop, max, min, Option, Some, None, unwrap_or, refl, sym, subst, ap, ◌∙◌, arith}
use Rattle.std.proofs.lemmas.Bool.{cases_lt}
use Rattle.std.proofs.lemmas.List.{drop_all, drop_more}
use Rattle.std.proofs.Math.Nat.{mul-div_cancel_left, le-div_iff_mul-le}
use Rattle.x7_part.specs.Part.{PartData}
use Rattle.x7_part.specs.declared.slot.Slot.{Slot}
use Rattle.x7_part.specs.declared.slot.Slot.TheVariants.{Frame, Pad, End}
use Rattle.x7_part.specs.Slot.{slots_from}
use Rattle.x7_pipeline.specs.FarAsRead.{is_frame_address, first_address, last_address, far_at}
use Rattle.x7_pipeline.specs.RunsInWords.{FarStandsAt, HasNoAddress, HasNoFrame, IsFirstAddress}

-- a base that is no address is FAR itself
pub far_at_none : (part : PartData) (base slot : ℕ) → is_frame_address part base ≡ false → base ≡ far_at part base slot
unfolding far_at
far_at_none part base slot f = rw f refl

pub far_at_some : (part : PartData) (base slot : ℕ) → is_frame_address part base ≡ true → far_at part base slot ≡ unwrap_or (first_address (drop slot (slots_from part base))) (last_address part)
unfolding far_at
far_at_some part base slot t = rw t refl

-- ---- the search from a slot on

first_more : (places : List Slot) (i : ℕ) → i < length places → first_address (drop i places) ≡ first_address (get_or places i End ∷ drop (i + 1) places)
first_more places i h = ap first_address (drop_more places i End h)

-- FAR at or after a slot is the address of the first frame there
pub found_here : (part : PartData) (base slot place far : ℕ) → is_frame_address part base ≡ true → place < length (slots_from part base) →
    first_address (drop place (slots_from part base)) ≡ first_address (drop slot (slots_from part base)) →
    Frame far ≡ get_or (slots_from part base) place End → far ≡ far_at part base slot
found_here part base slot place far t h same e =
    let there : first_address (drop place (slots_from part base)) ≡ Some far = first_more (slots_from part base) place h ∙ rw (← e) refl in
    sym (far_at_some part base slot t ∙ ap (λ o. unwrap_or o (last_address part)) (sym same ∙ there))

-- FAR at or after a slot past the last one is the last address
pub far_past : (part : PartData) (base slot place : ℕ) → is_frame_address part base ≡ true → length (slots_from part base) ≤ place →
    first_address (drop place (slots_from part base)) ≡ first_address (drop slot (slots_from part base)) → last_address part ≡ far_at part base slot
far_past part base slot place t h same =
    let none : first_address (drop slot (slots_from part base)) ≡ None = sym same ∙ ap first_address (drop_all place (slots_from part base) h) in
    sym (far_at_some part base slot t ∙ ap (λ o. unwrap_or o (last_address part)) none)

-- ---- by the count of words given as it is stored

-- slots past the last are alike
far_alike : (part : PartData) (base first second : ℕ) → length (slots_from part base) ≤ first → length (slots_from part base) ≤ second → far_at part base first ≡ far_at part base second
unfolding far_at
far_alike part base first second h k = rw (drop_all first (slots_from part base) h, drop_all second (slots_from part base) k) refl

-- a count capped at the limit has the same FAR
pub far_stored : (part : PartData) (base frames given width : ℕ) → 0 < width →
    far_at part base (max frames (min given (width * (1 + length (slots_from part base))) / width) - 1) ≡ far_at part base (max frames (given / width) - 1)
far_stored part base frames given width some =
    let slots = length (slots_from part base) in
    elim (cases_lt given (width * (1 + slots))) [
      | inl low ↦ let e : min given (width * (1 + slots)) ≡ given = omega arith in rw e refl
      | inr high ↦
          let e : min given (width * (1 + slots)) ≡ width * (1 + slots) = omega arith in
          let whole : min given (width * (1 + slots)) / width ≡ 1 + slots = ap (λ n. n / width) e ∙ mul-div_cancel_left (1 + slots) some in
          let commuted : (1 + slots) * width ≤ given = commute width (1 + slots) given high in
          let many : 1 + slots ≤ given / width = (le-div_iff_mul-le {k = width} {x = 1 + slots} {y = given} some).1 commuted in
          far_alike part base (max frames (min given (width * (1 + slots)) / width) - 1) (max frames (given / width) - 1) (omega arith) (omega arith)
    ]
  where
    commute : (a b n : ℕ) → a * b ≤ n → b * a ≤ n
    commute a b n h = grind (arith, h)

-- ---- FAR stands at a slot

AddressFrom : List Slot → ℕ → Option ℕ → Type 0
AddressFrom places n None = HasNoAddress places n
AddressFrom places n (Some far) = IsFirstAddress places n far

-- slots with one slot before them: from slot m of all on there is the first address that there is from slot n of the
-- others on
slot_put_before : (slot : Slot) (places : List Slot) (n m : ℕ) (o : Option ℕ) → m ≤ suc n → ((i : ℕ) → m ≤ suc i → n ≤ i) → (m ≡ 0 → HasNoFrame slot) → AddressFrom places n o → AddressFrom (slot ∷ places) m o
unfolding AddressFrom
slot_put_before slot places n m None l back here none = at
  where
    at : HasNoAddress (slot ∷ places) m
    at zero h = here (omega arith)
    at (suc i) h = none i (back i h)
slot_put_before slot places n m (Some far) l back here first =
    let after : n ≤ first.place = first.no_sooner in
    record { place = suc first.place; no_sooner = omega arith; there = first.there; none_before = before }
  where
    before : (earlier : ℕ) → m ≤ earlier → earlier < suc first.place → HasNoFrame (get_or (slot ∷ places) earlier End)
    before zero h k = here (omega arith)
    before (suc i) h k = first.none_before i (back i h) (omega arith)

first_found : (places : List Slot) (n : ℕ) → AddressFrom places n (first_address (drop n places))
unfolding AddressFrom
first_found [] zero = λ place h far e. cc
first_found [] (suc n) = λ place h far e. cc
first_found (Frame far ∷ places) zero = record { place = 0; no_sooner = omega arith; there = refl; none_before = λ earlier h k. absurd (omega arith) }
first_found (Pad ∷ places) zero = slot_put_before Pad places 0 0 (first_address places) (omega arith) (λ i h. omega arith) (λ z far e. cc) (first_found places 0)
first_found (End ∷ places) zero = slot_put_before End places 0 0 (first_address places) (omega arith) (λ i h. omega arith) (λ z far e. cc) (first_found places 0)
first_found (slot ∷ places) (suc n) = slot_put_before slot places n (suc n) (first_address (drop n places)) (omega arith) (λ i h. omega arith) (λ z. absurd (omega arith)) (first_found places n)

pub far_stands : (part : PartData) (base n : ℕ) → is_frame_address part base ≡ true → FarStandsAt part base n (far_at part base n)
unfolding AddressFrom
far_stands part base n t = by (first_address (drop n (slots_from part base))) (first_found (slots_from part base) n) (far_at_some part base n t)
  where
    by : (o : Option ℕ) → AddressFrom (slots_from part base) n o → far_at part base n ≡ unwrap_or o (last_address part) → FarStandsAt part base n (far_at part base n)
    by None none e = inr (none, e)
    by (Some far) first e = inl (subst (IsFirstAddress (slots_from part base) n) (sym e) first)
