-- Lemmas on the slots of a first sector.
use Rattle.std.proofs.Common.{◌≡◌, ℕ, suc, ◌+◌, ◌-◌, ◌*◌, ◌<◌, ◌≤◌, inl, inr, List, Option, None, Some, refl, sym, subst, arith}
use Rattle.std.proofs.lemmas.Bool.{cases_eq, cases_order}
use Rattle.x7_packets.specs.FlashSlot.{flash_slot_size, flash_slot_count}
use Rattle.x7_update.specs.Layout.{CanStandAt, IsUpdatableSize, IsFree, IsOpen, LeadsToUpdate, update_place}
use Rattle.x7_update.specs.Fault.{HasGoodBeginning, IsGoodSlot, NoLayoutAt, OpensAgain, last_taken}
use Rattle.x7_update.specs.Slots.{IsTargetIn, OpenAmong, SlotsAmong, TargetFits, WithinSlots}
use Rattle.x7_update.specs.declared.slots.Slots.{Slots}
use Rattle.x7_update.specs.declared.slots.UpdateTarget.{UpdateTarget}

-- what holds of the slots before one and of it
up_to : (P : ℕ → Type 0) (count : ℕ) → ((k : ℕ) → k < count → P k) → P count → (k : ℕ) → k < count + 1 → P k
up_to P count before here k h = elim (cases_eq k count) [
  | inl is ↦ subst P (sym is) here
  | inr n ↦ before k (omega arith)
]

module _ (first : List ℕ) (slot : ℕ) (leads : LeadsToUpdate first slot) where
  not_open_more : (count : ℕ) (one : Option ℕ) → count ≡ slot → (IsOpen first slot → ⊥) → OpenAmong first slot one → OpenAmong first (slot + 1) one
  not_open_more count None e n o = up_to (λ k. IsOpen first k → ⊥) slot o n
  not_open_more count (Some k) e n o = (omega (arith, o.0), o.1)

  once_more : (before : Slots) → (IsOpen first slot → ⊥) → SlotsAmong first slot before → (k : ℕ) → k < slot + 1 → OpensAgain first k → ⊥
  once_more before n so = up_to (λ k. OpensAgain first k → ⊥) slot so.once (λ again. n again.second)

  -- the slot is free
  pub so_far_free : (before : Slots) → (IsOpen first slot → ⊥) → IsFree first slot → SlotsAmong first slot before → SlotsAmong first (slot + 1) before
  so_far_free before n is so = record {
    leads = up_to (λ k. LeadsToUpdate first k) slot so.leads leads;
    once = once_more before n so;
    opens = not_open_more slot before.open_slot refl n so.opens;
    within = omega (arith, so.within);
    free = λ k h l. elim (cases_eq k slot) [ inl e ↦ subst (λ m. IsFree first m) (sym e) is | inr d ↦ so.free k h (omega arith) ];
    first = so.first;
  }

  -- the slot is spent
  pub so_far_spent : (before : Slots) → (IsOpen first slot → ⊥) → (IsFree first slot → ⊥) → SlotsAmong first slot before → SlotsAmong first (slot + 1) (record { open_slot = before.open_slot; next = slot + 1 })
  so_far_spent before n f so = record {
    leads = up_to (λ k. LeadsToUpdate first k) slot so.leads leads;
    once = once_more before n so;
    opens = not_open_more slot before.open_slot refl n so.opens;
    within = omega arith;
    free = λ k h l. absurd (omega arith);
    first = λ k e is_free. let same : k ≡ slot = omega arith in f (subst (λ m. IsFree first m) same is_free);
  }

pub so_far_good : (first : List ℕ) (count : ℕ) (slots : Slots) → SlotsAmong first count slots → (slot : ℕ) → slot < count → IsGoodSlot first slot
so_far_good first count slots so slot h = (so.leads slot h, so.once slot h)

-- all slots are good
pub all_found : (size : ℕ) (first : List ℕ) (target : UpdateTarget) → IsUpdatableSize size → CanStandAt size (update_place first) → SlotsAmong first flash_slot_count target.slots → target.slots.next < flash_slot_count → target.place ≡ update_place first → IsTargetIn size first target
all_found size first target sized place so some is = record {
  sized = sized;
  has = record { place = place; leads = so.leads; one_open = one_open; last_free = so.free (flash_slot_count - 1) (omega arith) (omega arith) };
  update = is;
  opens = so.opens;
  next = record { within = some; free = so.free; first = so.first };
}
  where
    one_open : (slot other : ℕ) → slot < flash_slot_count → other < flash_slot_count → IsOpen first slot → IsOpen first other → slot ≡ other
    one_open slot other h k o p = elim (cases_order slot other) [
      | inl same ↦ same
      | inr differ ↦ elim differ [
        | inl less ↦ absurd (so.once other k (record { other = slot; before = less; first = o; second = p }))
        | inr more ↦ absurd (so.once slot h (record { other = other; before = more; first = p; second = o }))
      ]
    ]

-- all slots are good, but none is free
pub none_free : (size : ℕ) (first : List ℕ) (slots : Slots) (place : ℕ) → HasGoodBeginning size first → SlotsAmong first flash_slot_count slots → flash_slot_count ≤ slots.next → place ≡ flash_slot_size * (flash_slot_count - 1) → NoLayoutAt size first place
none_free size first slots place begins so all is =
    let last : suc (flash_slot_count - 1) ≡ slots.next = omega (arith, so.within) in
    last_taken begins (so_far_good first flash_slot_count slots so) (so.first (flash_slot_count - 1) last) is

within_slots : (first : List ℕ) (opened : Option ℕ) → OpenAmong first flash_slot_count opened → WithinSlots opened
within_slots first None o = tt
within_slots first (Some slot) o = o.0

-- where an update goes is within the flash
pub target_fits : (size : ℕ) (first : List ℕ) (target : UpdateTarget) → IsTargetIn size first target → TargetFits size target
target_fits size first target f = record {
  sized = f.sized;
  place = subst (λ u. CanStandAt size u) (sym f.update) f.has.place;
  next = f.next.within;
  opens = within_slots first target.slots.open_slot f.opens;
}
