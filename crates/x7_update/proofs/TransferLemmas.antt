-- Lemmas on two lists with the same first sector: what holds of the slots of the one holds of those of the other.
use Rattle.std.proofs.Common.{◌≡◌, ℕ, ◌+◌, ◌-◌, ◌*◌, ◌<◌, ◌≤◌, inl, inr, List, Option, None, Some, get_or, refl, ap, sym, subst, ◌∙◌, arith}
use Rattle.x7_words.specs.Flash.{sector_size}
use Rattle.x7_words.specs.Word.{word_of_bytes}
use Rattle.x7_packets.specs.FlashSlot.{flash_slot, flash_slot_size, flash_slot_count}
use Rattle.x7_update.specs.Layout.{CanStandAt, LeadsToUpdate, IsOpen, IsFree, four_at, switch_of, first_slot, update_place, open_switch}
use Rattle.x7_update.specs.Fault.{HasGoodBeginning, DiffersAt, IsBadSlotAt, IsGoodSlot, NoLayoutAt, OpensAgain, bad_first, bad_place, bad_size, bad_slot, last_taken}
use Rattle.x7_update.specs.Slots.{OpenAmong, IsTargetIn}
use Rattle.x7_update.specs.declared.slots.UpdateTarget.{UpdateTarget}

module _ (first all : List ℕ) (same : (i : ℕ) → i < sector_size → get_or first i 0 ≡ get_or all i 0) where
  four_same : (place : ℕ) → place + 4 ≤ sector_size → four_at first place ≡ four_at all place
  four_same place h = rw (same place (omega arith), same (place + 1) (omega arith), same (place + 2) (omega arith), same (place + 3) (omega arith)) refl

  switch_same : (slot : ℕ) → slot < flash_slot_count → switch_of first slot ≡ switch_of all slot
  switch_same slot h = four_same (flash_slot_size * slot) (omega arith)

  first_slot_same : first_slot first ≡ first_slot all
  first_slot_same = ap (flash_slot open_switch) (four_same 12 (omega arith))

  pub place_same : update_place first ≡ update_place all
  place_same = ap word_of_bytes (four_same 12 (omega arith))

  pub leads_same : (slot : ℕ) → slot < flash_slot_count → LeadsToUpdate first slot → LeadsToUpdate all slot
  leads_same slot h leads = λ i k l. sym (same (flash_slot_size * slot + i) (omega arith)) ∙ leads i k l ∙ ap (λ b. get_or b i 0) first_slot_same

  open_same : (slot : ℕ) → slot < flash_slot_count → IsOpen first slot → IsOpen all slot
  open_same slot h is = sym (switch_same slot h) ∙ is

  free_same : (slot : ℕ) → slot < flash_slot_count → IsFree first slot → IsFree all slot
  free_same slot h is = sym (switch_same slot h) ∙ is

  pub again_same : (slot : ℕ) → slot < flash_slot_count → OpensAgain first slot → OpensAgain all slot
  again_same slot h again = record { other = again.other; before = again.before; first = open_same again.other (omega (arith, again.before)) again.first; second = open_same slot h again.second }

  pub stands_same : (size : ℕ) → CanStandAt size (update_place first) → CanStandAt size (update_place all)
  stands_same size stands = let P : ℕ → Type 0 = λ u. CanStandAt size u in subst P place_same stands

  pub differs_same : (slot place : ℕ) → slot < flash_slot_count → DiffersAt first slot place → DiffersAt all slot place
  differs_same slot place h d =
      let short : place < sector_size = omega (arith, d.is, d.within) in
      record {
        i = d.i;
        after_switch = d.after_switch;
        within = d.within;
        is = d.is;
        differs = λ e. d.differs (same place short ∙ e ∙ sym (ap (λ b. get_or b d.i 0) first_slot_same));
        first = λ j k l. sym (same (flash_slot_size * slot + j) (omega (arith, d.within))) ∙ d.first j k l ∙ ap (λ b. get_or b j 0) first_slot_same;
      }

-- the first sector of the one is that of the other
module _ (first all : List ℕ) (same : (i : ℕ) → i < sector_size → get_or first i 0 ≡ get_or all i 0) where
  back : (i : ℕ) → i < sector_size → get_or all i 0 ≡ get_or first i 0
  back i h = sym (same i h)

  pub finds_same : (size : ℕ) (target : UpdateTarget) → IsTargetIn size first target → IsTargetIn size all target
  finds_same size target f = record {
    sized = f.sized;
    has = record {
      place = stands_same first all same size f.has.place;
      leads = λ slot h. leads_same first all same slot h (f.has.leads slot h);
      one_open = λ slot other h k o p. f.has.one_open slot other h k (open_same all first back slot h o) (open_same all first back other k p);
      last_free = free_same first all same (flash_slot_count - 1) (omega arith) f.has.last_free;
    };
    update = f.update ∙ place_same first all same;
    opens = opens_same target.slots.open_slot f.opens;
    next = record {
      within = f.next.within;
      free = λ slot h k. free_same first all same slot k (f.next.free slot h k);
      first = λ slot e is. f.next.first slot e (free_same all first back slot (omega (arith, e, f.next.within)) is);
    };
  }
    where
      opens_same : (one : Option ℕ) → OpenAmong first flash_slot_count one → OpenAmong all flash_slot_count one
      opens_same None o = λ slot h is. o slot h (open_same all first back slot h is)
      opens_same (Some slot) o = (o.0, open_same first all same slot o.0 o.1)

  good_same : (slot : ℕ) → slot < flash_slot_count → IsGoodSlot first slot → IsGoodSlot all slot
  good_same slot h g = (leads_same first all same slot h g.0, λ again. g.1 (again_same all first back slot h again))

  stands_back : (size : ℕ) → (CanStandAt size (update_place first) → ⊥) → CanStandAt size (update_place all) → ⊥
  stands_back size n stands = n (stands_same all first back size stands)

  begins_same : (size : ℕ) → HasGoodBeginning size first → HasGoodBeginning size all
  begins_same size b = record { sized = b.sized; leads = leads_same first all same 0 (omega arith) b.leads; place = stands_same first all same size b.place }

  bad_same : (slot place : ℕ) → slot < flash_slot_count → IsBadSlotAt first slot place → IsBadSlotAt all slot place
  bad_same slot place h (inl d) = inl (differs_same first all same slot place h d)
  bad_same slot place h (inr b) = inr (leads_same first all same slot h b.0, again_same first all same slot h b.1, b.2)

  pub no_layout_same : (size place : ℕ) → NoLayoutAt size first place → NoLayoutAt size all place
  no_layout_same size place (bad_size n is) = bad_size n is
  no_layout_same size place (bad_first sized d) = bad_first sized (differs_same first all same 0 place (omega arith) d)
  no_layout_same size place (bad_place sized leads n is) = bad_place sized (leads_same first all same 0 (omega arith) leads) (stands_back size n) is
  no_layout_same size place (bad_slot begins slot h to bad) = bad_slot (begins_same size begins) slot h (λ earlier k. good_same earlier (omega arith) (to earlier k)) (bad_same slot place h bad)
  no_layout_same size place (last_taken begins good taken is) =
      last_taken (begins_same size begins) (λ slot h. good_same slot h (good slot h)) (λ free. taken (free_same all first back (flash_slot_count - 1) (omega arith) free)) is
