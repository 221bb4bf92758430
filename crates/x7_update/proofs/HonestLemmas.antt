-- Lemmas on a flash that gives what it holds: no byte that it gives in an update differs from the one wanted.
use Rattle.std.proofs.Common.{◌≡◌, ℕ, zero, suc, ◌+◌, ◌-◌, ◌*◌, ◌/◌, ◌<◌, ◌≤◌, List, [], ◌∷◌, ◌++◌, Option, None, Some, length, slice_range, refl, ap, sym, subst, ◌∙◌, arith}
use Rattle.std.proofs.lemmas.List.{ext_get_or}
use Rattle.x7_words.specs.Flash.{sector_size, sector_place, erased, programmed, replaced}
use Rattle.x7_words.specs.Word.{AreBytes}
use Rattle.x7_words.proofs.FlashLemmas.{get_or_slice_range, length_slice_range, length_replaced, get_or_replaced_inside}
use Rattle.x7_packets.specs.FlashSlot.{flash_slot_count, flash_slot_size}
use Rattle.x7_update.specs.Layout.{open_switch, spent_switch, update_place}
use Rattle.x7_update.specs.Slots.{IsTargetIn}
use Rattle.x7_update.specs.Writing.{HasWanted}
use Rattle.x7_update.specs.declared.slots.UpdateTarget.{UpdateTarget}
use Rattle.x7_words.specs.declared.flash_call.FlashCall.{FlashCall}
use Rattle.x7_words.specs.declared.flash_call.FlashCall.TheVariants.{Attached, NotAttached, Read, ReadFailed, Erased, EraseFailed, Programmed, ProgramFailed}
use Rattle.x7_words.specs.FlashHistory.{IsHistory}
use Rattle.x7_update.specs.UpdateCalls.{free_from, open_among, update_calls, spending, erasing, reading, replacing, verifying, opening, padded, calls_to, calls_to_open, sectors_from}
use Rattle.x7_words.proofs.FollowLemmas.{happens_on}
use Rattle.x7_update.proofs.CallLemmas.{history_on}
use Rattle.x7_update.proofs.CaseLemmas.{replaced_between, replaced_wanted}
use Rattle.x7_update.proofs.MadeLemmas.{sector_long, sector_wanted}
use Rattle.x7_update.proofs.UpdateCallLemmas.{next_within, opens_whole, replaced_by}

spending_happens : (one : Option ℕ) (a : List ℕ) → (b : List ℕ) × IsHistory (spending one) a b
spending_happens None a = (a, refl)
spending_happens (Some slot) a = let b = programmed (flash_slot_size * slot) spent_switch a in (b, (b, refl, refl))

erasing_happens : (sector count : ℕ) (a : List ℕ) → (b : List ℕ) × IsHistory (erasing sector count) a b
erasing_happens sector zero a = (a, refl)
erasing_happens sector (suc count) a = let r = erasing_happens (suc sector) count (erased sector a) in (r.0, (erased sector a, refl, r.1))

reading_happens : (stream : List ℕ) (place sector count : ℕ) (now : List ℕ) → place ≤ sector * sector_size → (sector + count) * sector_size ≤ length now → place + length stream ≤ length now → HasWanted place stream now
    → IsHistory (reading (length now) stream place sector count) now now
reading_happens stream place sector zero now from within fits has = refl
reading_happens stream place sector (suc count) now from within fits has = (now, (refl, same), reading_happens stream place (suc sector) count now (omega arith) (omega arith) fits has)
  where
    wanted : List ℕ
    wanted = slice_range (padded stream (length now - place)) (sector_place sector - place) (sector_place sector - place + sector_size)

    here : sector_place sector + sector_size ≤ length now
    here = omega arith

    long : length wanted ≡ sector_size
    long = sector_long (length now) stream place sector from here fits

    same : wanted ≡ slice_range now (sector_place sector) (sector_place sector + length wanted)
    same = ext_get_or 0 wanted (slice_range now (sector_place sector) (sector_place sector + length wanted))
        (sym (length_slice_range now (sector_place sector) (length wanted) (omega (arith, long, here))))
        (λ k h.
        let less : k < sector_size = omega (arith, h, long) in
        sym (sector_wanted (length now) stream place sector k from here fits less)
        ∙ sym (has (sector_place sector + k) (omega arith) (omega (arith, less, here)))
        ∙ sym (get_or_slice_range now (sector_place sector) (length wanted) k h))

-- a word that was programmed whole is read there
opened_reads : (place : ℕ) (word now : List ℕ) → place + length word ≤ length now → word ≡ slice_range (replaced place word now) place (place + length word)
opened_reads place word now within = ext_get_or 0 word (slice_range (replaced place word now) place (place + length word))
    (sym (length_slice_range (replaced place word now) place (length word) (omega (arith, length_replaced place word now within, within))))
    (λ k h. sym (get_or_slice_range (replaced place word now) place (length word) k h ∙ get_or_replaced_inside place word now within k h))

module _ (all stream : List ℕ) (target : UpdateTarget) (finds : IsTargetIn (length all) all target) (fits : target.place + length stream ≤ length all) (bytes : AreBytes stream) where
  -- what is called where all goes well is what such a flash answers
  pub update_happens : (first_sector : List ℕ) → first_sector ≡ slice_range all 0 (0 + length first_sector) → (now : List ℕ) × IsHistory (calls_to (length all) first_sector stream target) all now
  update_happens first_sector gave =
      let spent = spending_happens target.slots.open_slot all in
      let blank = erasing_happens (target.place / sector_size) (sectors_from target.place (length all)) spent.0 in
      let written = programmed target.place stream blank.0 in
      let replaces : IsHistory (replacing (length all) stream target) all written =
      happens_on (spending target.slots.open_slot) (erasing (target.place / sector_size) (sectors_from target.place (length all)) ++ Programmed target.place stream ∷ []) all spent.0 written spent.1
      (happens_on (erasing (target.place / sector_size) (sectors_from target.place (length all))) (Programmed target.place stream ∷ []) spent.0 blank.0 written blank.1 (written, refl, refl)) in
      let r = replaced_by all stream target finds fits bytes written replaces in
      let size : length written ≡ length all = (replaced_between all target finds stream written fits r).size in
      let place = flash_slot_size * target.slots.next in
      let opened = programmed place open_switch written in
      let whole : opened ≡ replaced place open_switch written = ap (λ w. replaced place w written) (opens_whole all stream target finds fits bytes written r) in
      let reads : IsHistory (verifying (length all) stream target) written written =
      subst (λ n. IsHistory (reading n stream target.place (target.place / sector_size) (sectors_from target.place (length all))) written written) size
      (reading_happens stream target.place (target.place / sector_size) (sectors_from target.place (length all)) written (omega (arith, finds.update, finds.has.place.whole)) (omega (arith, size, finds.update, finds.has.place.whole, finds.has.place.most, finds.sized.whole)) (omega (arith, size, fits))
      (replaced_wanted all target finds stream written fits r)) in
      let word : open_switch ≡ slice_range opened place (place + 4) =
      subst (λ f. open_switch ≡ slice_range f place (place + 4)) (sym whole) (opened_reads place open_switch written (next_within all stream target finds fits bytes written r)) in (
        opened,
        happens_on (calls_to_open (length all) first_sector stream target) (opening target.slots.next) all written opened
            (all, (refl, gave), happens_on (replacing (length all) stream target) (verifying (length all) stream target) all written written replaces reads)
            (opened, refl, (opened, (refl, word), refl)),
      )

-- ---- what such a flash answers is determined, but for writes that fail

-- no write failed
abbrev pub AreWhole : List FlashCall → Type 0
AreWhole [] = Unit {0}
AreWhole (ReadFailed place count ∷ calls) = ⊥
AreWhole (EraseFailed sector ∷ calls) = ⊥
AreWhole (ProgramFailed place given ∷ calls) = ⊥
AreWhole (call ∷ calls) = AreWhole calls

pub whole_on : (xs ys : List FlashCall) → AreWhole xs → AreWhole ys → AreWhole (xs ++ ys)
whole_on [] ys p q = q
whole_on (Read place bytes ∷ xs) ys p q = whole_on xs ys p q
whole_on (ReadFailed place count ∷ xs) ys p q = absurd p
whole_on (Attached name size ∷ xs) ys p q = whole_on xs ys p q
whole_on (NotAttached name fault ∷ xs) ys p q = whole_on xs ys p q
whole_on (Erased sector ∷ xs) ys p q = whole_on xs ys p q
whole_on (EraseFailed sector ∷ xs) ys p q = absurd p
whole_on (Programmed place given ∷ xs) ys p q = whole_on xs ys p q
whole_on (ProgramFailed place given ∷ xs) ys p q = absurd p

whole_first : (xs ys : List FlashCall) → AreWhole (xs ++ ys) → AreWhole xs
whole_first [] ys p = tt
whole_first (Read place bytes ∷ xs) ys p = whole_first xs ys p
whole_first (ReadFailed place count ∷ xs) ys p = absurd p
whole_first (Attached name size ∷ xs) ys p = whole_first xs ys p
whole_first (NotAttached name fault ∷ xs) ys p = whole_first xs ys p
whole_first (Erased sector ∷ xs) ys p = whole_first xs ys p
whole_first (EraseFailed sector ∷ xs) ys p = absurd p
whole_first (Programmed place given ∷ xs) ys p = whole_first xs ys p
whole_first (ProgramFailed place given ∷ xs) ys p = absurd p

one_history : (xs : List FlashCall) (a b c : List ℕ) → AreWhole xs → IsHistory xs a b → IsHistory xs a c → b ≡ c
one_history [] a b c w h k = h ∙ sym k
one_history (Read place bytes ∷ xs) a b c w h k = one_history xs h.0 b c w h.2 (subst (λ f. IsHistory xs f c) (k.1.0 ∙ sym h.1.0) k.2)
one_history (ReadFailed place count ∷ xs) a b c w h k = absurd w
one_history (Attached name size ∷ xs) a b c w h k = one_history xs h.0 b c w h.2 (subst (λ f. IsHistory xs f c) (k.1 ∙ sym h.1) k.2)
one_history (NotAttached name fault ∷ xs) a b c w h k = one_history xs h.0 b c w h.2 (subst (λ f. IsHistory xs f c) (k.1 ∙ sym h.1) k.2)
one_history (Erased sector ∷ xs) a b c w h k = one_history xs h.0 b c w h.2 (subst (λ f. IsHistory xs f c) (k.1 ∙ sym h.1) k.2)
one_history (EraseFailed sector ∷ xs) a b c w h k = absurd w
one_history (Programmed place given ∷ xs) a b c w h k = one_history xs h.0 b c w h.2 (subst (λ f. IsHistory xs f c) (k.1 ∙ sym h.1) k.2)
one_history (ProgramFailed place given ∷ xs) a b c w h k = absurd w

-- of a flash that can answer a plan so, a read in the place of the plan's next one gives what the plan has
pub reads_as_planned : (before after : List FlashCall) (place : ℕ) (wanted bytes a now done : List ℕ) → length bytes ≡ length wanted → AreWhole (before ++ Read place wanted ∷ after) → IsHistory (before ++ Read place wanted ∷ after) a done
    → IsHistory (before ++ Read place bytes ∷ []) a now → bytes ≡ wanted
reads_as_planned before after place wanted bytes a now done long w h k =
    let p = history_on before (Read place wanted ∷ after) a done h in
    let q = history_on before (Read place bytes ∷ []) a now k in
    let same : q.0 ≡ p.0 = one_history before a q.0 p.0 (whole_first before (Read place wanted ∷ after) w) q.1 p.1 in
    q.2.1.1 ∙ ap (λ f. slice_range f place (place + length bytes)) same ∙ ap (λ n. slice_range p.0 place (place + n)) long ∙ sym p.2.1.1

reading_whole : (size : ℕ) (stream : List ℕ) (place sector count : ℕ) → AreWhole (reading size stream place sector count)
reading_whole size stream place sector zero = tt
reading_whole size stream place sector (suc count) = reading_whole size stream place (suc sector) count

erasing_whole : (sector count : ℕ) → AreWhole (erasing sector count)
erasing_whole sector zero = tt
erasing_whole sector (suc count) = erasing_whole (suc sector) count

spending_whole : (one : Option ℕ) → AreWhole (spending one)
spending_whole None = tt
spending_whole (Some slot) = tt

pub calls_whole : (size : ℕ) (first_sector stream : List ℕ) (target : UpdateTarget) → AreWhole (calls_to size first_sector stream target)
calls_whole size first_sector stream target =
    whole_on (replacing size stream target ++ verifying size stream target) (opening target.slots.next)
    (whole_on (replacing size stream target) (verifying size stream target)
    (whole_on (spending target.slots.open_slot) (erasing (target.place / sector_size) (sectors_from target.place size) ++ Programmed target.place stream ∷ []) (spending_whole target.slots.open_slot)
    (whole_on (erasing (target.place / sector_size) (sectors_from target.place size)) (Programmed target.place stream ∷ []) (erasing_whole (target.place / sector_size) (sectors_from target.place size)) tt))
    (reading_whole size stream target.place (target.place / sector_size) (sectors_from target.place size)))
    tt

-- ---- a small case

-- the calls of an update of a flash of three sectors, whose slot 0 is open and slot 1 the next
abbrev three_sectors : List ℕ → List ℕ → List FlashCall
three_sectors first_sector stream =
    Read 0 first_sector ∷ Programmed 0 spent_switch ∷ Erased 2 ∷ Programmed 131072 stream ∷ Read 131072 (slice_range (padded stream 65536) 0 65536) ∷ Programmed 32 open_switch ∷ Read 32 open_switch ∷ []

pub small_calls : (first_sector stream : List ℕ) → update_place first_sector ≡ 131072 → open_among flash_slot_count first_sector ≡ Some 0 → free_from flash_slot_count first_sector ≡ 1
    → update_calls 196608 first_sector stream ≡ three_sectors first_sector stream
small_calls first_sector stream p o n =
    let Are : ℕ → Option ℕ → ℕ → Type 0 = λ place opened next. calls_to 196608 first_sector stream (record { place = place; slots = record { open_slot = opened; next = next } }) ≡ three_sectors first_sector stream in
    subst (λ place. Are place (open_among flash_slot_count first_sector) (free_from flash_slot_count first_sector)) (sym p)
    (subst (λ opened. Are 131072 opened (free_from flash_slot_count first_sector)) (sym o) (subst (λ next. Are 131072 (Some 0) next) (sym n) refl))
