-- Lemmas on the calls of an update: what they leave of the flash, at whatever moment.
use Rattle.std.proofs.Common.{◌≡◌, ℕ, zero, suc, ◌+◌, ◌*◌, ◌/◌, ◌%◌, ◌<◌, ◌≤◌, inl, inr, ⊎_elim, List, [], ◌∷◌, ◌++◌, Option, None, Some, length, refl, rules, ap, sym, subst, ◌∙◌, arith}
use Rattle.x7_words.specs.Flash.{sector_size, cleared, erased, erased_sector, programmed, replaced}
use Rattle.x7_words.specs.Word.{AreBytes}
use Rattle.x7_words.proofs.FlashLemmas.{byte_at, target_is_torn, length_erased_sector, length_cleared}
use Rattle.x7_packets.specs.FlashSlot.{flash_slot_size, flash_slot_count}
use Rattle.x7_update.specs.After.{SpendsOpenSlot, already, spends, IsAfterUpdate, IsBetweenSlots, MayBeLeft, with_switch_word}
use Rattle.x7_update.specs.Layout.{open_switch, spent_switch}
use Rattle.x7_update.specs.Slots.{IsTargetIn, OpenAmong}
use Rattle.x7_update.specs.Writing.{ErasedTo, KeepsBelow, OpeningSlot, ReplacingUpdate, StreamStands, UpdateReplaced}
use Rattle.x7_update.specs.declared.slots.UpdateTarget.{UpdateTarget}
use Rattle.x7_words.specs.declared.flash_call.FlashCall.TheVariants.{Programmed}
use Rattle.x7_words.specs.FlashHistory.{IsHistory, MayLeave}
use Rattle.x7_update.specs.UpdateCalls.{spending, erasing, reading, replacing, verifying, opening, calls_to, calls_to_open, sectors_from}
use Rattle.x7_update.proofs.CallLemmas.{history_on, leaves_on, leaves_bytes, history_leaves, ProgramBytes, program_bytes_on}
use Rattle.x7_update.proofs.CaseLemmas.{between_spent, opened_after, opening_left, replaced_between, replaced_free, replacing_left, spending_replaces, writing_replaces}
use Rattle.x7_update.proofs.StreamLemmas.{erased_keeps, erased_more, stream_written, torn_keeps}
use Rattle.x7_update.proofs.SwitchLemmas.{clears_to_open, clears_to_spent}
use Rattle.x7_update.proofs.SwitchLemmas as switch

-- ---- erasing

pub erases_to : (place sector count end : ℕ) (all now new : List ℕ) → place ≤ sector * sector_size → end ≡ (sector + count) * sector_size → end ≤ length all → ErasedTo place (sector * sector_size) all now
    → IsHistory (erasing sector count) now new → ErasedTo place end all new
erases_to place sector zero end all now new from is within so h =
    let same : sector * sector_size ≡ end = omega arith in
    subst (λ l. ErasedTo place end all l) (sym h) (subst (λ n. ErasedTo place n all now) same so)
erases_to place sector (suc count) end all now new from is within so h =
    let next : sector * sector_size + sector_size ≡ suc sector * sector_size = omega arith in
    let long : sector * sector_size + sector_size ≤ length now = omega (arith, so.size) in
    let more : ErasedTo place (suc sector * sector_size) all h.0 = subst (λ n. ErasedTo place n all h.0) next
    (subst (λ l. ErasedTo place (sector * sector_size + sector_size) all l) (sym h.1) (erased_more place sector all now from long so)) in
    erases_to place (suc sector) count end all h.0 new (omega arith) (omega arith) within more h.2

pub erasing_keeps : (place sector count : ℕ) (all now found : List ℕ) → place ≤ sector * sector_size → (sector + count) * sector_size ≤ length all → KeepsBelow place all now → MayLeave (erasing sector count) now found
    → KeepsBelow place all found
erasing_keeps place sector zero all now found from within keeps m = subst (λ l. KeepsBelow place all l) (sym m) keeps
erasing_keeps place sector (suc count) all now found from within keeps (inl torn) = torn_keeps place (sector * sector_size) erased_sector all now found from keeps torn
erasing_keeps place sector (suc count) all now found from within keeps (inr m) =
    let long : sector * sector_size + length erased_sector ≤ length now = omega (arith, length_erased_sector, keeps.size) in
    let mid : KeepsBelow place all m.0 = subst (λ l. KeepsBelow place all l) (sym m.1)
    (torn_keeps place (sector * sector_size) erased_sector all now (erased sector now) from keeps (target_is_torn (sector * sector_size) erased_sector now long)) in
    erasing_keeps place (suc sector) count all m.0 found (omega arith) (omega arith) mid m.2

-- ---- reading

pub reading_leaves : (size : ℕ) (stream : List ℕ) (place sector count : ℕ) (now found : List ℕ) → MayLeave (reading size stream place sector count) now found → found ≡ now
reading_leaves size stream place sector zero now found m = m
reading_leaves size stream place sector (suc count) now found (inl w) = w
reading_leaves size stream place sector (suc count) now found (inr m) = reading_leaves size stream place (suc sector) count m.0 found m.2 ∙ m.1.0

pub reading_bytes : (size : ℕ) (stream : List ℕ) (place sector count : ℕ) → ProgramBytes (reading size stream place sector count)
reading_bytes size stream place sector zero = tt
reading_bytes size stream place sector (suc count) = reading_bytes size stream place (suc sector) count

erasing_bytes : (sector count : ℕ) → ProgramBytes (erasing sector count)
erasing_bytes sector zero = tt
erasing_bytes sector (suc count) = erasing_bytes (suc sector) count

spending_bytes : (one : Option ℕ) → ProgramBytes (spending one)
spending_bytes None = tt
spending_bytes (Some slot) = search rules

-- ---- an update, by where it goes

module _ (all stream : List ℕ) (target : UpdateTarget) (finds : IsTargetIn (length all) all target) (fits : target.place + length stream ≤ length all) (bytes : AreBytes stream) where
  start : target.place / sector_size * sector_size ≡ target.place
  start = let whole : target.place % sector_size ≡ 0 = subst (λ u. u % sector_size ≡ 0) (sym finds.update) finds.has.place.whole in omega arith

  end : length all ≡ (target.place / sector_size + sectors_from target.place (length all)) * sector_size
  end = let whole : length all % sector_size ≡ 0 = finds.sized.whole in omega (arith, start)

  from : target.place ≤ target.place / sector_size * sector_size
  from = omega (arith, start)

  slot_within : (slot : ℕ) → slot < flash_slot_count → flash_slot_size * slot + 4 ≤ length all
  slot_within slot h = omega (arith, finds.sized.least)

  -- ---- the open slot is spent

  spent_of : (one : Option ℕ) (now : List ℕ) → OpenAmong all flash_slot_count one → IsHistory (spending one) all now → SpendsOpenSlot all now
  spent_of None now o h = already o h
  spent_of (Some slot) now o h = spends slot o.0 o.1 (h.2 ∙ h.1 ∙ ap (λ w. replaced (flash_slot_size * slot) w all) (clears_to_spent slot all (slot_within slot o.0)))

  is_spent_at : (now : List ℕ) → IsHistory (spending target.slots.open_slot) all now → SpendsOpenSlot all now
  is_spent_at now h = spent_of target.slots.open_slot now finds.opens h

  spending_of : (one : Option ℕ) (found : List ℕ) → OpenAmong all flash_slot_count one → MayLeave (spending one) all found → ReplacingUpdate all found
  spending_of None found o m = inl m
  spending_of (Some slot) found o (inl torn) =
      let four : length (cleared (flash_slot_size * slot) spent_switch all) ≡ 4 = length_cleared (flash_slot_size * slot) spent_switch all (slot_within slot o.0) in
      spending_replaces all target finds slot found o.0 o.1 (switch.spending slot (cleared (flash_slot_size * slot) spent_switch all) all found four o.1 torn)
  spending_of (Some slot) found o (inr m) = inr (between_spent all found finds.has (spent_of (Some slot) found o m))

  -- ---- the stream is written

  begun : (spent : List ℕ) → ErasedTo target.place (target.place / sector_size * sector_size) spent spent
  begun spent = record { size = refl; below = λ i h. refl; ones = λ i h k. absurd (omega (arith, start)) }

  module _ (spent : List ℕ) (size : length spent ≡ length all) where
    erased_by : (now : List ℕ) → IsHistory (erasing (target.place / sector_size) (sectors_from target.place (length all))) spent now → ErasedTo target.place (length spent) spent now
    erased_by now h = erases_to target.place (target.place / sector_size) (sectors_from target.place (length all)) (length spent) spent spent now from (size ∙ end) (omega arith) (begun spent) h

    stands_by : (now : List ℕ) → IsHistory (erasing (target.place / sector_size) (sectors_from target.place (length all)) ++ Programmed target.place stream ∷ []) spent now → StreamStands target.place stream spent now
    stands_by now h =
        let parts = history_on (erasing (target.place / sector_size) (sectors_from target.place (length all))) (Programmed target.place stream ∷ []) spent now h in
        parts.2.2 ∙ parts.2.1 ∙ stream_written target.place stream spent parts.0 (omega (arith, fits, size)) (λ i. byte_at stream i bytes) (erased_by parts.0 parts.1)

    writing_keeps : (found : List ℕ) → MayLeave (erasing (target.place / sector_size) (sectors_from target.place (length all)) ++ Programmed target.place stream ∷ []) spent found → KeepsBelow target.place spent found
    writing_keeps found m = ⊎_elim
        (λ l. erasing_keeps target.place (target.place / sector_size) (sectors_from target.place (length all)) spent spent found from (omega (arith, end, size)) (record { size = refl; below = λ i h. refl }) l)
        (λ r.
        let erased_now = erased_by r.0 r.1 in
        let keeps = erased_keeps target.place (length spent) spent r.0 erased_now in
        let here : target.place ≤ target.place = omega arith in
        let long : target.place + length stream ≤ length r.0 = omega (arith, fits, size, keeps.size) in
        let target_long : length (cleared target.place stream r.0) ≡ length stream = length_cleared target.place stream r.0 long in
        ⊎_elim
        (λ torn. torn_keeps target.place target.place (cleared target.place stream r.0) spent r.0 found here keeps torn)
        (λ m. subst (λ l. KeepsBelow target.place spent l) (sym (m.2 ∙ m.1))
        (torn_keeps target.place target.place (cleared target.place stream r.0) spent r.0 (programmed target.place stream r.0) here keeps
        (target_is_torn target.place (cleared target.place stream r.0) r.0 (omega (arith, target_long, long)))))
        r.2)
        (leaves_on (erasing (target.place / sector_size) (sectors_from target.place (length all))) (Programmed target.place stream ∷ []) spent found m)

  -- ---- both

  pub replaced_by : (now : List ℕ) → IsHistory (replacing (length all) stream target) all now → UpdateReplaced target.place stream all now
  replaced_by now h =
      let parts = history_on (spending target.slots.open_slot) (erasing (target.place / sector_size) (sectors_from target.place (length all)) ++ Programmed target.place stream ∷ []) all now h in
      let is_spent = is_spent_at parts.0 parts.1 in
      record { spent = parts.0; is_spent = is_spent; stands = stands_by parts.0 (between_spent all parts.0 finds.has is_spent).size now parts.2 }

  pub replacing_leaves : (found : List ℕ) → MayLeave (replacing (length all) stream target) all found → ReplacingUpdate all found
  replacing_leaves found m = ⊎_elim
      (λ l. spending_of target.slots.open_slot found finds.opens l)
      (λ r. let is_spent = is_spent_at r.0 r.1 in writing_replaces all target finds r.0 found is_spent (writing_keeps r.0 (between_spent all r.0 finds.has is_spent).size found r.2))
      (leaves_on (spending target.slots.open_slot) (erasing (target.place / sector_size) (sectors_from target.place (length all)) ++ Programmed target.place stream ∷ []) all found m)

  -- ---- the next slot is opened

  module _ (now : List ℕ) (r : UpdateReplaced target.place stream all now) where
    pub next_within : flash_slot_size * target.slots.next + 4 ≤ length now
    next_within = omega (arith, slot_within target.slots.next finds.next.within, (replaced_between all target finds stream now fits r).size)

    pub opens_whole : cleared (flash_slot_size * target.slots.next) open_switch now ≡ open_switch
    opens_whole = clears_to_open target.slots.next now next_within (replaced_free all target finds stream now fits r)

    opening_of : (found : List ℕ) → MayLeave (opening target.slots.next) now found → OpeningSlot target.slots.next now found
    opening_of found (inl torn) =
        let four : length (cleared (flash_slot_size * target.slots.next) open_switch now) ≡ 4 = length_cleared (flash_slot_size * target.slots.next) open_switch now next_within in
        switch.opening target.slots.next (cleared (flash_slot_size * target.slots.next) open_switch now) now found four next_within torn
    opening_of found (inr m) =
        let is : m.0 ≡ with_switch_word target.slots.next open_switch now = m.1 ∙ ap (λ w. replaced (flash_slot_size * target.slots.next) w now) opens_whole in
        inl (⊎_elim (λ same. same ∙ is) (λ n. n.2 ∙ n.1.0 ∙ is) m.2)

    opened_by : (new : List ℕ) → IsHistory (opening target.slots.next) now new → IsAfterUpdate stream all new
    opened_by new h =
        let is : new ≡ with_switch_word target.slots.next open_switch now = h.2.2 ∙ h.2.1.0 ∙ h.1 ∙ ap (λ w. replaced (flash_slot_size * target.slots.next) w now) opens_whole in
        subst (IsAfterUpdate stream all) (sym is) (opened_after all target finds stream now fits r)

  -- ---- the whole

  calls_bytes : (first_sector : List ℕ) → ProgramBytes (calls_to (length all) first_sector stream target)
  calls_bytes first_sector =
      program_bytes_on (replacing (length all) stream target ++ verifying (length all) stream target) (opening target.slots.next)
      (program_bytes_on (replacing (length all) stream target) (verifying (length all) stream target)
      (program_bytes_on (spending target.slots.open_slot) (erasing (target.place / sector_size) (sectors_from target.place (length all)) ++ Programmed target.place stream ∷ []) (spending_bytes target.slots.open_slot)
      (program_bytes_on (erasing (target.place / sector_size) (sectors_from target.place (length all))) (Programmed target.place stream ∷ []) (erasing_bytes (target.place / sector_size) (sectors_from target.place (length all))) (bytes, tt)))
      (reading_bytes (length all) stream target.place (target.place / sector_size) (sectors_from target.place (length all))))
      (search rules)

  replaced_before : (first_sector now : List ℕ) → IsHistory (calls_to_open (length all) first_sector stream target) all now → UpdateReplaced target.place stream all now
  replaced_before first_sector now h =
      let parts = history_on (replacing (length all) stream target) (verifying (length all) stream target) h.0 now h.2 in
      let r = replaced_by parts.0 (subst (λ f. IsHistory (replacing (length all) stream target) f parts.0) h.1.0 parts.1) in
      let same : now ≡ parts.0 = reading_leaves (length all) stream target.place (target.place / sector_size) (sectors_from target.place (length all)) parts.0 now
      (history_leaves (verifying (length all) stream target) parts.0 now parts.2) in
      subst (λ f. UpdateReplaced target.place stream all f) (sym same) r

  -- a power loss at whatever moment
  pub update_leaves : (first_sector found : List ℕ) → AreBytes all → MayLeave (calls_to (length all) first_sector stream target) all found → MayBeLeft stream all found
  update_leaves first_sector found are m =
      let fine : AreBytes found = leaves_bytes (calls_to (length all) first_sector stream target) all found (calls_bytes first_sector) are m in
      ⊎_elim
      (λ l. ⊎_elim
      (λ w. replacing_left all target finds stream found (inl w) fine)
      (λ n. ⊎_elim
      (λ k. replacing_left all target finds stream found (replacing_leaves found (subst (λ f. MayLeave (replacing (length all) stream target) f found) n.1.0 k)) fine)
      (λ k.
      let r = replaced_by k.0 (subst (λ f. IsHistory (replacing (length all) stream target) f k.0) n.1.0 k.1) in
      let same : found ≡ k.0 = reading_leaves (length all) stream target.place (target.place / sector_size) (sectors_from target.place (length all)) k.0 found k.2 in
      replacing_left all target finds stream found (inr (subst (λ f. IsBetweenSlots all f) (sym same) (replaced_between all target finds stream k.0 fits r))) fine)
      (leaves_on (replacing (length all) stream target) (verifying (length all) stream target) n.0 found n.2))
      l)
      (λ n. let r = replaced_before first_sector n.0 n.1 in opening_left all target finds stream n.0 fits r found (opening_of n.0 r found n.2) fine)
      (leaves_on (calls_to_open (length all) first_sector stream target) (opening target.slots.next) all found m)

  -- where all is done the flash is updated
  pub update_becomes : (first_sector now : List ℕ) → IsHistory (calls_to (length all) first_sector stream target) all now → IsAfterUpdate stream all now
  update_becomes first_sector now h =
      let parts = history_on (calls_to_open (length all) first_sector stream target) (opening target.slots.next) all now h in
      opened_by parts.0 (replaced_before first_sector parts.0 parts.1) now parts.2
