-- Lemmas on the calls of an update: which of them write at a place, and what is read there after the last.
use Rattle.std.proofs.Common.{◌≡◌, ℕ, zero, suc, ◌+◌, ◌-◌, ◌*◌, ◌/◌, ◌<◌, ◌≤◌, ◌⊎◌, inl, inr, List, [], ◌∷◌, ◌++◌, Option, None, Some, Bool, true, false, cond, length, get_or, replicate, slice_range, refl, ap, sym, ◌∙◌, append_assoc, append-nil, arith, length-append}
use Rattle.std.proofs.lemmas.Bool.{cases_lt}
use Rattle.std.proofs.lemmas.Bool.Decides.{nat_tests}
use Rattle.std.proofs.lemmas.List.{length-replicate, get_or_append_left, get_or-append_right, get_or-replicate}
use Rattle.x7_words.specs.Flash.{erased_byte, sector_size, sector_place}
use Rattle.x7_words.proofs.FlashLemmas.{get_or_slice_range, length_slice_range}
use Rattle.x7_packets.specs.FlashSlot.{flash_slot_size, flash_slot_count}
use Rattle.x7_update.specs.Layout.{open_switch, spent_switch}
use Rattle.x7_update.specs.Slots.{TargetFits, WithinSlots}
use Rattle.x7_update.specs.Writing.{wanted_at}
use Rattle.x7_update.specs.declared.slots.UpdateTarget.{UpdateTarget}
use Rattle.x7_words.specs.declared.flash_call.FlashCall.{FlashCall}
use Rattle.x7_words.specs.declared.flash_call.FlashCall.TheVariants.{Read, Erased, Programmed}
use Rattle.x7_words.specs.FlashHistory.{WasRead, covers, writes_at, writes_of}
use Rattle.x7_update.specs.UpdateCalls.{spending, erasing, reading, replacing, verifying, opening, padded, calls_to, calls_to_open, sectors_from}
use Rattle.x7_update.proofs.StreamLemmas.{wanted_inside, wanted_after}

pub covers_not : (from count place : ℕ) → (place < from) ⊎ (from + count ≤ place) → covers from count place ≡ false
covers_not from count place (inl h) = grind (arith, nat_tests)
covers_not from count place (inr h) = grind (arith, nat_tests)

pub covers_so : (from count place : ℕ) → from ≤ place → place < from + count → covers from count place ≡ true
covers_so from count place h k = grind (arith, nat_tests)

-- ---- the calls that write at a place

one_more : (b : Bool) (x : FlashCall) (all xs ys : List FlashCall) → all ≡ xs ++ ys → cond b (x ∷ all) all ≡ cond b (x ∷ xs) xs ++ ys
one_more true x all xs ys e = ap (λ l. x ∷ l) e
one_more false x all xs ys e = e

pub writes_on : (at : ℕ) (xs ys : List FlashCall) → writes_of at (xs ++ ys) ≡ writes_of at xs ++ writes_of at ys
writes_on at [] ys = refl
writes_on at (x ∷ xs) ys = one_more (writes_at at x) x (writes_of at (xs ++ ys)) (writes_of at xs) (writes_of at ys) (writes_on at xs ys)

one_call : (at : ℕ) (call : FlashCall) (calls : List FlashCall) → writes_at at call ≡ true → writes_of at (call ∷ calls) ≡ call ∷ writes_of at calls
one_call at call calls e = ap (λ b. cond b (call ∷ writes_of at calls) (writes_of at calls)) e

no_call : (at : ℕ) (call : FlashCall) (calls : List FlashCall) → writes_at at call ≡ false → writes_of at (call ∷ calls) ≡ writes_of at calls
no_call at call calls e = ap (λ b. cond b (call ∷ writes_of at calls) (writes_of at calls)) e

-- sectors that don't have the place
erasing_none : (at sector count : ℕ) → (at < sector * sector_size) ⊎ ((sector + count) * sector_size ≤ at) → writes_of at (erasing sector count) ≡ []
erasing_none at sector zero h = refl
erasing_none at sector (suc count) (inl h) =
    no_call at (Erased sector) (erasing (suc sector) count) (covers_not (sector_place sector) sector_size at (inl h)) ∙ erasing_none at (suc sector) count (inl (omega arith))
erasing_none at sector (suc count) (inr h) =
    no_call at (Erased sector) (erasing (suc sector) count) (covers_not (sector_place sector) sector_size at (inr (omega arith))) ∙ erasing_none at (suc sector) count (inr (omega arith))

-- the sector that has the place is erased once
erasing_once : (at sector count : ℕ) → sector * sector_size ≤ at → at < (sector + count) * sector_size → writes_of at (erasing sector count) ≡ Erased (at / sector_size) ∷ []
erasing_once at sector zero h k = absurd (omega arith)
erasing_once at sector (suc count) h k = elim (cases_lt at (sector * sector_size + sector_size)) [
  | inl here ↦
      let is : sector ≡ at / sector_size = omega arith in
      one_call at (Erased sector) (erasing (suc sector) count) (covers_so (sector_place sector) sector_size at h here)
      ∙ ap (λ l. Erased sector ∷ l) (erasing_none at (suc sector) count (inl (omega arith)))
      ∙ ap (λ s. Erased s ∷ []) is
  | inr later ↦
      no_call at (Erased sector) (erasing (suc sector) count) (covers_not (sector_place sector) sector_size at (inr later))
      ∙ erasing_once at (suc sector) count (omega arith) (omega arith)
]

reading_none : (at size : ℕ) (stream : List ℕ) (place sector count : ℕ) → writes_of at (reading size stream place sector count) ≡ []
reading_none at size stream place sector zero = refl
reading_none at size stream place sector (suc count) = reading_none at size stream place (suc sector) count

spending_none : (at : ℕ) (one : Option ℕ) → WithinSlots one → sector_size ≤ at → writes_of at (spending one) ≡ []
spending_none at None w h = refl
spending_none at (Some slot) w h = no_call at (Programmed (flash_slot_size * slot) spent_switch) [] (covers_not (flash_slot_size * slot) 4 at (inr (omega arith)))

opening_none : (at slot : ℕ) → slot < flash_slot_count → sector_size ≤ at → writes_of at (opening slot) ≡ []
opening_none at slot w h = no_call at (Programmed (flash_slot_size * slot) open_switch) (Read (flash_slot_size * slot) open_switch ∷ []) (covers_not (flash_slot_size * slot) 4 at (inr (omega arith)))

-- ---- what was read

pub was_read_later : (at byte : ℕ) (xs ys : List FlashCall) → WasRead at byte ys → WasRead at byte (xs ++ ys)
was_read_later at byte xs ys r = record {
  before = xs ++ r.before;
  place = r.place;
  bytes = r.bytes;
  since = r.since;
  are = ap (λ l. xs ++ l) r.are ∙ sym (append_assoc xs r.before (Read r.place r.bytes ∷ r.since));
  from = r.from;
  to = r.to;
  is = r.is;
  unwritten = r.unwritten;
}

pub length_padded : (stream : List ℕ) (count : ℕ) → length stream ≤ count → length (padded stream count) ≡ count
length_padded stream count h = length-append stream (replicate (count - length stream) erased_byte) ∙ omega (arith, length-replicate {A = ℕ} (count - length stream) erased_byte)

pub padded_wanted : (place : ℕ) (stream : List ℕ) (count i : ℕ) → i < count → get_or (padded stream count) i 0 ≡ wanted_at place stream (place + i)
padded_wanted place stream count i h =
    let back : place + i - place ≡ i = omega arith in
    elim (cases_lt i (length stream)) [
      | inl inside ↦
          get_or_append_left stream (replicate (count - length stream) 255) 0 i inside
          ∙ sym (wanted_inside place stream (place + i) (omega arith) ∙ ap (λ k. get_or stream k 0) back)
      | inr after ↦
          get_or-append_right stream (replicate (count - length stream) 255) (length stream) i 0 refl after
          ∙ get_or-replicate (count - length stream) (i - length stream) 255 0 (omega arith)
          ∙ sym (wanted_after place stream (place + i) (omega arith))
    ]

-- each byte was read as it is wanted
reading_was : (at size : ℕ) (stream : List ℕ) (place sector count : ℕ) → place ≤ sector * sector_size → (sector + count) * sector_size ≤ size → length stream ≤ size - place
    → sector * sector_size ≤ at → at < (sector + count) * sector_size → WasRead at (wanted_at place stream at) (reading size stream place sector count)
reading_was at size stream place sector zero from within fits h k = absurd (omega arith)
reading_was at size stream place sector (suc count) from within fits h k = elim (cases_lt at (sector * sector_size + sector_size)) [
  | inl here ↦
      let long : length (slice_range (padded stream (size - place)) (sector_place sector - place) (sector_place sector - place + sector_size)) ≡ sector_size =
      length_slice_range (padded stream (size - place)) (sector_place sector - place) sector_size (omega (arith, length_padded stream (size - place) fits)) in
      let there : place + (sector_place sector - place + (at - sector_place sector)) ≡ at = omega arith in
      record {
        before = [];
        place = sector_place sector;
        bytes = slice_range (padded stream (size - place)) (sector_place sector - place) (sector_place sector - place + sector_size);
        since = reading size stream place (suc sector) count;
        are = refl;
        from = h;
        to = omega (arith, long, here);
        is = get_or_slice_range (padded stream (size - place)) (sector_place sector - place) sector_size (at - sector_place sector) (omega arith)
            ∙ padded_wanted place stream (size - place) (sector_place sector - place + (at - sector_place sector)) (omega arith)
            ∙ ap (λ n. wanted_at place stream n) there;
        unwritten = reading_none at size stream place (suc sector) count;
      }
  | inr later ↦
      was_read_later at (wanted_at place stream at) (Read (sector_place sector) (slice_range (padded stream (size - place)) (sector_place sector - place) (sector_place sector - place + sector_size)) ∷ [])
      (reading size stream place (suc sector) count) (reading_was at size stream place (suc sector) count (omega arith) (omega arith) fits (omega arith) (omega arith))
]

-- ---- an update, by where it goes

module _ (size : ℕ) (first_sector stream : List ℕ) (target : UpdateTarget) (f : TargetFits size target) (fits : target.place + length stream ≤ size) where
  start : target.place / sector_size * sector_size ≡ target.place
  start = omega (arith, f.place.whole)

  end : (target.place / sector_size + sectors_from target.place size) * sector_size ≡ size
  end = omega (arith, start, f.place.most, f.sized.whole)

  module _ (at : ℕ) where
    replaced_writes : writes_of at (replacing size stream target)
        ≡ writes_of at (spending target.slots.open_slot) ++ (writes_of at (erasing (target.place / sector_size) (sectors_from target.place size)) ++ writes_of at (Programmed target.place stream ∷ []))
    replaced_writes =
        writes_on at (spending target.slots.open_slot) (erasing (target.place / sector_size) (sectors_from target.place size) ++ Programmed target.place stream ∷ [])
        ∙ ap (λ l. writes_of at (spending target.slots.open_slot) ++ l) (writes_on at (erasing (target.place / sector_size) (sectors_from target.place size)) (Programmed target.place stream ∷ []))

    before_writes : writes_of at (calls_to_open size first_sector stream target) ≡ writes_of at (replacing size stream target)
    before_writes =
        writes_on at (replacing size stream target) (verifying size stream target)
        ∙ ap (λ l. writes_of at (replacing size stream target) ++ l) (reading_none at size stream target.place (target.place / sector_size) (sectors_from target.place size))
        ∙ append-nil _

    -- From the update's place on a place is written to by the erase of its sector, and then, where the stream has it,
    -- by the stream's program, and by nothing else.
    pub writes_above : target.place ≤ at → at < size → writes_of at (calls_to size first_sector stream target) ≡ Erased (at / sector_size) ∷ writes_of at (Programmed target.place stream ∷ [])
    writes_above h k =
        writes_on at (calls_to_open size first_sector stream target) (opening target.slots.next)
        ∙ ap (λ l. writes_of at (calls_to_open size first_sector stream target) ++ l) (opening_none at target.slots.next f.next (omega (arith, f.place.least)))
        ∙ append-nil _
        ∙ before_writes
        ∙ replaced_writes
        ∙ ap (λ l. l ++ (writes_of at (erasing (target.place / sector_size) (sectors_from target.place size)) ++ writes_of at (Programmed target.place stream ∷ []))) (spending_none at target.slots.open_slot f.opens (omega (arith, f.place.least)))
        ∙ ap (λ l. l ++ writes_of at (Programmed target.place stream ∷ [])) (erasing_once at (target.place / sector_size) (sectors_from target.place size) (omega (arith, start)) (omega (arith, end)))

    -- below it a place is written to where it is in the switch word of the open slot, or of the next one, and not else
    pub writes_below : at < target.place → writes_of at (calls_to size first_sector stream target) ≡ writes_of at (spending target.slots.open_slot) ++ writes_of at (opening target.slots.next)
    writes_below h =
        writes_on at (calls_to_open size first_sector stream target) (opening target.slots.next)
        ∙ ap (λ l. l ++ writes_of at (opening target.slots.next))
        (before_writes
        ∙ replaced_writes
        ∙ ap (λ l. writes_of at (spending target.slots.open_slot) ++ (l ++ writes_of at (Programmed target.place stream ∷ []))) (erasing_none at (target.place / sector_size) (sectors_from target.place size) (inl (omega (arith, start))))
        ∙ ap (λ l. writes_of at (spending target.slots.open_slot) ++ l) (no_call at (Programmed target.place stream) [] (covers_not target.place (length stream) at (inl h)))
        ∙ append-nil _)

    -- before the next slot is opened each byte was read as it is wanted, after its last write
    pub verified_before : target.place ≤ at → at < size → WasRead at (wanted_at target.place stream at) (calls_to_open size first_sector stream target)
    verified_before h k = was_read_later at (wanted_at target.place stream at) (Read 0 first_sector ∷ replacing size stream target) (verifying size stream target)
        (reading_was at size stream target.place (target.place / sector_size) (sectors_from target.place size) (omega (arith, start)) (omega (arith, end)) (omega (arith, fits)) (omega (arith, start)) (omega (arith, end)))
