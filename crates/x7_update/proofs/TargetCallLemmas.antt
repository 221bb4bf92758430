-- Lemmas on where an update goes, as a function of the first sector.
use Rattle.std.proofs.Common.{◌≡◌, ℕ, zero, suc, ◌+◌, ◌-◌, ◌*◌, ◌<◌, ◌≤◌, inl, inr, List, Option, None, Some, Bool, true, false, cond, length, get_or, bytes_eq, refl, ap, sym, subst, ◌∙◌, arith}
use Rattle.std.proofs.lemmas.Bool.{cases_eq, cases_lt}
use Rattle.std.proofs.lemmas.Slice.Eq.{bytes_eq-Decides}
use Rattle.x7_words.specs.Flash.{sector_size}
use Rattle.x7_words.specs.Word.{word_of_bytes}
use Rattle.x7_packets.specs.FlashSlot.{flash_slot_size, flash_slot_count}
use Rattle.x7_update.specs.Layout.{IsUpdatable, IsUpdatableSize, HasSlots, IsFree, IsOpen, IsNextFreeSlot, free_switch, four_at, open_switch, switch_of, update_place}
use Rattle.x7_update.specs.Slots.{IsTargetIn, OpenAmong}
use Rattle.x7_update.specs.UpdateCalls.{free_from, open_among, target_in}
use Rattle.x7_update.specs.declared.slots.UpdateTarget.{UpdateTarget}
use Rattle.x7_update.proofs.CaseLemmas.{true_or_false}
use Rattle.x7_update.proofs.LawLemmas.{one_next}

-- ---- the open slot

not_same : (xs ys : List ℕ) → bytes_eq xs ys ≡ false → xs ≡ ys → ⊥
not_same xs ys e same = true_or_false (bytes_eq xs ys) ((bytes_eq-Decides xs ys).1 same) e

more_among : (flash : List ℕ) (count : ℕ) (one : Option ℕ) → (IsOpen flash count → ⊥) → OpenAmong flash count one → OpenAmong flash (suc count) one
more_among flash count None n o = λ slot h is. elim (cases_eq slot count) [ inl same ↦ n (subst (λ k. IsOpen flash k) same is) | inr d ↦ o slot (omega arith) is ]
more_among flash count (Some slot) n o = (omega (arith, o.0), o.1)

pub open_among_is : (flash : List ℕ) (count : ℕ) → OpenAmong flash count (open_among count flash)
unfolding open_among
open_among_is flash zero = λ slot h is. absurd (omega arith)
open_among_is flash (suc count) = by (bytes_eq (switch_of flash count) open_switch) refl (open_among_is flash count)
  where
    by : (b : Bool) → bytes_eq (switch_of flash count) open_switch ≡ b → OpenAmong flash count (open_among count flash) → OpenAmong flash (suc count) (cond b (Some count) (open_among count flash))
    by true e o = (omega arith, (bytes_eq-Decides (switch_of flash count) open_switch).0 e)
    by false e o = more_among flash count (open_among count flash) (not_same (switch_of flash count) open_switch e) o

-- ---- the next slot

record FreeFrom (flash : List ℕ) (count next : ℕ) : Type 0 where
  within : next ≤ count
  free : (slot : ℕ) → next ≤ slot → slot < count → IsFree flash slot
  first : (slot : ℕ) → suc slot ≡ next → IsFree flash slot → ⊥

free_from_is : (flash : List ℕ) (count : ℕ) → FreeFrom flash count (free_from count flash)
unfolding free_from
free_from_is flash zero = record { within = omega arith; free = λ slot h k. absurd (omega arith); first = λ slot e is. absurd (omega arith) }
free_from_is flash (suc count) = by (bytes_eq (switch_of flash count) free_switch) refl (free_from_is flash count)
  where
    by : (b : Bool) → bytes_eq (switch_of flash count) free_switch ≡ b → FreeFrom flash count (free_from count flash) → FreeFrom flash (suc count) (cond b (free_from count flash) (suc count))
    by true e so = record {
      within = omega (arith, so.within);
      free = λ slot h k. elim (cases_eq slot count) [
        | inl same ↦ subst (λ n. IsFree flash n) (sym same) ((bytes_eq-Decides (switch_of flash count) free_switch).0 e)
        | inr d ↦ so.free slot h (omega arith)
      ];
      first = so.first;
    }
    by false e so = record {
      within = omega arith;
      free = λ slot h k. absurd (omega arith);
      first = λ slot is free. let same : slot ≡ count = omega arith in not_same (switch_of flash count) free_switch e (subst (λ n. IsFree flash n) same free);
    }

-- slots as the layout has them have their target
pub target_in_is : (size : ℕ) (flash : List ℕ) → IsUpdatableSize size → HasSlots size flash → IsTargetIn size flash (target_in flash)
target_in_is size flash sized has = record {
  sized = sized;
  has = has;
  update = refl;
  opens = open_among_is flash flash_slot_count;
  next = next_is (free_from flash_slot_count flash) (free_from_is flash flash_slot_count);
}
  where
    next_is : (next : ℕ) → FreeFrom flash flash_slot_count next → IsNextFreeSlot flash next
    next_is next so = record {
      within = elim (cases_lt next flash_slot_count) [
        | inl less ↦ less
        | inr more ↦ absurd (so.first (flash_slot_count - 1) (omega (arith, so.within)) has.last_free)
      ];
      free = so.free;
      first = so.first;
    }

-- ---- the first sector alone says it

-- a target of these parts
abbrev target_of_parts : ℕ → Option ℕ → ℕ → UpdateTarget
target_of_parts place one next = record { place = place; slots = record { open_slot = one; next = next } }

same_parts : (p q : ℕ) (o r : Option ℕ) (n m : ℕ) → p ≡ q → o ≡ r → n ≡ m → target_of_parts p o n ≡ target_of_parts q r m
same_parts p q o r n m e f g = ap (λ k. target_of_parts k o n) e ∙ ap (λ k. target_of_parts q k n) f ∙ ap (λ k. target_of_parts q r k) g

module _ (first all : List ℕ) (same : (i : ℕ) → i < sector_size → get_or first i 0 ≡ get_or all i 0) where
  four_same : (place : ℕ) → place + 4 ≤ sector_size → four_at first place ≡ four_at all place
  four_same place h = rw (same place (omega arith), same (place + 1) (omega arith), same (place + 2) (omega arith), same (place + 3) (omega arith)) refl

  open_among_same : (count : ℕ) → count ≤ flash_slot_count → open_among count first ≡ open_among count all
  unfolding open_among
  open_among_same zero h = refl
  open_among_same (suc count) h =
      let word : switch_of first count ≡ switch_of all count = four_same (flash_slot_size * count) (omega arith) in
      ap (λ w. cond (bytes_eq w open_switch) (Some count) (open_among count first)) word
      ∙ ap (λ o. cond (bytes_eq (switch_of all count) open_switch) (Some count) o) (open_among_same count (omega arith))

  free_from_same : (count : ℕ) → count ≤ flash_slot_count → free_from count first ≡ free_from count all
  unfolding free_from
  free_from_same zero h = refl
  free_from_same (suc count) h =
      let word : switch_of first count ≡ switch_of all count = four_same (flash_slot_size * count) (omega arith) in
      ap (λ w. cond (bytes_eq w free_switch) (free_from count first) (suc count)) word
      ∙ ap (λ n. cond (bytes_eq (switch_of all count) free_switch) n (suc count)) (free_from_same count (omega arith))

  pub target_in_same : target_in first ≡ target_in all
  target_in_same =
      same_parts (update_place first) (update_place all) (open_among flash_slot_count first) (open_among flash_slot_count all) (free_from flash_slot_count first) (free_from flash_slot_count all)
      (ap word_of_bytes (four_same 12 (omega arith))) (open_among_same flash_slot_count (omega arith)) (free_from_same flash_slot_count (omega arith))

-- where an update of a flash that can be updated goes, by its first sector
pub target_in_sector : (first flash : List ℕ) → ((i : ℕ) → i < sector_size → get_or first i 0 ≡ get_or flash i 0) → IsUpdatable flash → IsTargetIn (length flash) flash (target_in first)
target_in_sector first flash same l = subst (λ t. IsTargetIn (length flash) flash t) (sym (target_in_same first flash same)) (target_in_is (length flash) flash l.size l.slots)

-- ---- there is one target

one_opened : (size : ℕ) (flash : List ℕ) → HasSlots size flash → (o p : Option ℕ) → OpenAmong flash flash_slot_count o → OpenAmong flash flash_slot_count p → o ≡ p
one_opened size flash has None None a b = refl
one_opened size flash has None (Some slot) a b = absurd (a slot b.0 b.1)
one_opened size flash has (Some slot) None a b = absurd (b slot a.0 a.1)
one_opened size flash has (Some slot) (Some other) a b = ap Some (has.one_open slot other a.0 b.0 a.1 b.1)

pub one_target : (size : ℕ) (flash : List ℕ) (one : UpdateTarget) → IsTargetIn size flash one → one ≡ target_in flash
one_target size flash one a =
    let b = target_in_is size flash a.sized a.has in
    same_parts one.place (target_in flash).place one.slots.open_slot (target_in flash).slots.open_slot one.slots.next (target_in flash).slots.next
    (a.update ∙ sym b.update) (one_opened size flash a.has one.slots.open_slot (target_in flash).slots.open_slot a.opens b.opens) (one_next flash one.slots.next (target_in flash).slots.next a.next b.next)
