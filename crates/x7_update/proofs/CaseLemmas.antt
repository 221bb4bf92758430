-- Lemmas on what may be left of a flash: from one case to the next.
use Rattle.std.proofs.Common.{◌≡◌, ℕ, ◌+◌, ◌*◌, ◌%◌, ◌<◌, ◌≤◌, ◌⊎◌, inl, inr, List, length, get_or, Bool, true, false, refl, ap, sym, subst, ◌∙◌, arith}
use Rattle.std.proofs.lemmas.Bool.{cases_eq, cases_lt}
use Rattle.x7_words.specs.Word.{AreBytes}
use Rattle.x7_packets.specs.FlashSlot.{flash_slot_size, flash_slot_count}
use Rattle.x7_update.specs.Layout.{IsUpdatable, HasSlots, IsOpen, IsFree, IsNextFreeSlot, switch_of, open_switch, free_switch, spent_switch, update_place, switch_size}
use Rattle.x7_update.specs.After.{SpendsOpenSlot, already, spends, IsAfterUpdate, IsBetweenSlots, MayBeLeft, untouched, between, after, with_switch_word, with_stream}
use Rattle.x7_update.specs.Writing.{SpendingSlot, HasWanted, KeepsBelow, OnlySwitch, OpeningSlot, UpdateReplaced, ReplacingUpdate}
use Rattle.x7_update.specs.Slots.{IsTargetIn}
use Rattle.x7_update.specs.declared.slots.UpdateTarget.{UpdateTarget}
use Rattle.x7_update.proofs.StreamLemmas.{length_with_stream, with_stream_below, with_stream_wanted}
use Rattle.x7_update.proofs.SwitchLemmas.{length_switched, switched_others, switch_switched, switch_other}

pub true_or_false : (b : Bool) → b ≡ true → b ≡ false → ⊥
true_or_false b t f = let same : true ≡ false = sym t ∙ f in cc

-- a switch word stays where its four bytes do
pub same_switch : (old new : List ℕ) (slot : ℕ) → ((i : ℕ) → flash_slot_size * slot ≤ i → i < flash_slot_size * slot + switch_size → get_or new i 0 ≡ get_or old i 0) → switch_of new slot ≡ switch_of old slot
same_switch old new slot h =
    rw (h (flash_slot_size * slot) (omega arith) (omega arith), h (flash_slot_size * slot + 1) (omega arith) (omega arith), h (flash_slot_size * slot + 2) (omega arith) (omega arith), h (flash_slot_size * slot + 3) (omega arith) (omega arith)) refl

pub open_not_free : (flash : List ℕ) (slot : ℕ) → IsOpen flash slot → IsFree flash slot → ⊥
open_not_free flash slot o f =
    let same : open_switch ≡ free_switch = sym o ∙ f in
    let first : 0xAA ≡ 0xFF = ap (λ l. get_or l 0 0) same in
    absurd (omega (arith, first))

open_not_spent : spent_switch ≡ open_switch → ⊥
open_not_spent same = let first : 0 ≡ 0xAA = ap (λ l. get_or l 0 0) same in absurd (omega (arith, first))

-- what is after a switch word is in no switch word
pub outside_switch : (slot i : ℕ) → 4 ≤ i % flash_slot_size → (i < flash_slot_size * slot) ⊎ (flash_slot_size * slot + switch_size ≤ i)
outside_switch slot i h = elim (cases_lt i (flash_slot_size * slot)) [
  | inl less ↦ inl less
  | inr from ↦ elim (cases_lt i (flash_slot_size * slot + switch_size)) [ inl inside ↦ absurd (omega arith) | inr above ↦ inr above ]
]

-- the bytes of another slot's switch word
other_slot : (slot other i : ℕ) → (other ≡ slot → ⊥) → flash_slot_size * other ≤ i → i < flash_slot_size * other + switch_size → (i < flash_slot_size * slot) ⊎ (flash_slot_size * slot + switch_size ≤ i)
other_slot slot other i n h k = elim (cases_lt other slot) [ inl less ↦ inl (omega arith) | inr more ↦ elim (cases_eq other slot) [ inl same ↦ absurd (n same) | inr d ↦ inr (omega arith) ] ]

only_other : (slot other : ℕ) (old found : List ℕ) → (other ≡ slot → ⊥) → OnlySwitch slot old found → switch_of found other ≡ switch_of old other
only_other slot other old found n only = same_switch old found other (λ i h k. only.others i (other_slot slot other i n h k))

-- ---- from the flash itself

-- the open slot alone is torn
pub between_spending : (size slot : ℕ) (all found : List ℕ) → HasSlots size all → slot < flash_slot_count → IsOpen all slot → OnlySwitch slot all found → IsBetweenSlots all found
between_spending size slot all found has h is only = record {
  size = only.size;
  slots = λ i k b. only.others i (outside_switch slot i b);
  none_open = none_open;
  switches = λ other k is_open last. only_other slot other all found (λ same. is_open (subst (IsOpen all) (sym same) is)) only;
  golden = λ i k b. only.others i (inr (omega arith));
}
  where
    none_open : (other : ℕ) → other < flash_slot_count → IsOpen found other → ⊥
    none_open other k o = elim (cases_eq other slot) [
      | inl same ↦ only.not_open (subst (λ n. IsOpen found n) same o)
      | inr n ↦ n (has.one_open other slot k h (sym (only_other slot other all found n only) ∙ o) is)
    ]

-- the slot is spent
pub only_spent : (slot : ℕ) (all : List ℕ) → flash_slot_size * slot + switch_size ≤ length all → OnlySwitch slot all (with_switch_word slot spent_switch all)
only_spent slot all within = record {
  size = length_switched slot spent_switch all refl within;
  others = switched_others slot spent_switch all refl within;
  not_open = λ o. open_not_spent (sym (switch_switched slot 0 0 0 0 all within) ∙ o);
}

pub between_spent : (all spent : List ℕ) → HasSlots (length all) all → SpendsOpenSlot all spent → IsBetweenSlots all spent
between_spent all spent has (already none same) = subst (λ l. IsBetweenSlots all l) (sym same) (record { size = refl; slots = λ i h k. refl; none_open = none; switches = λ slot h o n. refl; golden = λ i h k. refl })
between_spent all spent has (spends slot h is same) =
    subst (λ l. IsBetweenSlots all l) (sym same) (between_spending (length all) slot all (with_switch_word slot spent_switch all) has h is (only_spent slot all (omega (arith, has.place.least, has.place.most, h))))

-- ---- from what is between

pub between_below : (size : ℕ) (all mid found : List ℕ) → HasSlots size all → IsBetweenSlots all mid → KeepsBelow (update_place all) mid found → IsBetweenSlots all found
between_below size all mid found has b keeps = record {
  size = keeps.size ∙ b.size;
  slots = λ i h k. keeps.below i (omega (arith, has.place.least, h)) ∙ b.slots i h k;
  none_open = λ slot h o. b.none_open slot h (sym (same_switch mid found slot (λ i k l. keeps.below i (omega (arith, has.place.least, h, l)))) ∙ o);
  switches = λ slot h o n. same_switch mid found slot (λ i k l. keeps.below i (omega (arith, has.place.least, h, l))) ∙ b.switches slot h o n;
  golden = λ i h k. keeps.below i k ∙ b.golden i h k;
}

pub stream_keeps : (place : ℕ) (stream all : List ℕ) → place + length stream ≤ length all → KeepsBelow place all (with_stream place stream all)
stream_keeps place stream all fits = record { size = length_with_stream place stream all fits; below = with_stream_below place stream all fits }

-- the next slot alone is torn
pub between_opening : (slot : ℕ) (all mid found : List ℕ) → IsBetweenSlots all mid → IsNextFreeSlot all slot → OnlySwitch slot mid found → IsBetweenSlots all found
between_opening slot all mid found b next only = record {
  size = only.size ∙ b.size;
  slots = λ i k l. only.others i (outside_switch slot i l) ∙ b.slots i k l;
  none_open = none_open;
  switches = λ other k o n. only_other slot other mid found (λ same. n (subst (IsNextFreeSlot all) (sym same) next)) only ∙ b.switches other k o n;
  golden = λ i k l. only.others i (inr (omega arith)) ∙ b.golden i k l;
}
  where
    none_open : (other : ℕ) → other < flash_slot_count → IsOpen found other → ⊥
    none_open other k o = elim (cases_eq other slot) [
      | inl same ↦ only.not_open (subst (λ n. IsOpen found n) same o)
      | inr n ↦ b.none_open other k (sym (only_other slot other mid found n only) ∙ o)
    ]

-- the next slot is free still when the stream is written
pub next_free : (next : ℕ) (all spent found : List ℕ) → HasSlots (length all) all → IsNextFreeSlot all next → SpendsOpenSlot all spent → KeepsBelow (update_place all) spent found → IsFree found next
next_free next all spent found has n is_spent keeps =
    same_switch spent found next (λ i h k. keeps.below i (omega (arith, has.place.least, n.within, k))) ∙ free is_spent
  where
    free : SpendsOpenSlot all spent → IsFree spent next
    free (already none same) = ap (λ l. switch_of l next) same ∙ n.free next (omega arith) n.within
    free (spends slot h is same) =
        ap (λ l. switch_of l next) same
        ∙ switch_other slot next spent_switch all refl (omega (arith, has.place.least, has.place.most, h)) (λ same. open_not_free all slot is (subst (λ m. IsFree all m) same (n.free next (omega arith) n.within)))
        ∙ n.free next (omega arith) n.within

-- ---- the steps, by the slots that were found

module _ (all : List ℕ) (target : UpdateTarget) (finds : IsTargetIn (length all) all target) where
  updatable : IsUpdatable all
  updatable = record { size = finds.sized; slots = finds.has }

  -- while the open slot is spent
  pub spending_replaces : (slot : ℕ) (found : List ℕ) → slot < flash_slot_count → IsOpen all slot → SpendingSlot slot all found → ReplacingUpdate all found
  spending_replaces slot found h is (inl same) = inl same
  spending_replaces slot found h is (inr only) = inr (between_spending (length all) slot all found finds.has h is only)

  -- while the stream is written after spent slots
  pub writing_replaces : (spent found : List ℕ) → SpendsOpenSlot all spent → KeepsBelow target.place spent found → ReplacingUpdate all found
  writing_replaces spent found is_spent keeps =
      inr (between_below (length all) all spent found finds.has (between_spent all spent finds.has is_spent) (subst (λ u. KeepsBelow u spent found) finds.update keeps))

  -- what is found while the update is replaced may be left
  pub replacing_left : (stream found : List ℕ) → ReplacingUpdate all found → AreBytes found → MayBeLeft stream all found
  replacing_left stream found (inl same) fits = untouched same
  replacing_left stream found (inr b) fits = between updatable fits b

  module _ (stream now : List ℕ) (fits : target.place + length stream ≤ length all) (r : UpdateReplaced target.place stream all now) where
    is_between : IsBetweenSlots all r.spent
    is_between = between_spent all r.spent finds.has r.is_spent

    inside : target.place + length stream ≤ length r.spent
    inside = omega (arith, fits, is_between.size)

    keeps : KeepsBelow (update_place all) r.spent (with_stream target.place stream r.spent)
    keeps = subst (λ u. KeepsBelow u r.spent (with_stream target.place stream r.spent)) finds.update (stream_keeps target.place stream r.spent inside)

    -- the stream stands as it is wanted
    pub replaced_wanted : HasWanted target.place stream now
    replaced_wanted = subst (HasWanted target.place stream) (sym r.stands) (with_stream_wanted target.place stream r.spent inside)

    -- the next slot is free still
    pub replaced_free : IsFree now target.slots.next
    replaced_free = subst (λ l. IsFree l target.slots.next) (sym r.stands) (next_free target.slots.next all r.spent (with_stream target.place stream r.spent) finds.has finds.next r.is_spent keeps)

    -- no slot is open as yet
    pub replaced_between : IsBetweenSlots all now
    replaced_between = subst (λ l. IsBetweenSlots all l) (sym r.stands) (between_below (length all) all r.spent (with_stream target.place stream r.spent) finds.has is_between keeps)

    -- the slot is open: the flash is updated
    pub opened_after : IsAfterUpdate stream all (with_switch_word target.slots.next open_switch now)
    opened_after = record {
      spent = r.spent;
      is_spent = r.is_spent;
      next = target.slots.next;
      is_next = finds.next;
      fits = omega (arith, fits, finds.update);
      is = ap (λ l. with_switch_word target.slots.next open_switch l) r.stands ∙ ap (λ u. with_switch_word target.slots.next open_switch (with_stream u stream r.spent)) finds.update;
    }

    -- while the next slot is opened
    pub opening_left : (found : List ℕ) → OpeningSlot target.slots.next now found → AreBytes found → MayBeLeft stream all found
    opening_left found (inl is) fits = after updatable (subst (IsAfterUpdate stream all) (sym is) opened_after)
    opening_left found (inr only) fits = between updatable fits (between_opening target.slots.next all now found replaced_between finds.next only)
