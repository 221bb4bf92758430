-- Which flashes have an open slot: one that can be updated, with an open slot, one after an update, and one that begins
-- as an image does.
use Rattle.std.proofs.Common.{◌≡◌, ◌+◌, ◌-◌, ◌*◌, ◌/◌, ◌%◌, ◌<◌, ◌≤◌, ◌⊎◌, inl, inr, ℕ, zero, suc, List, [], ◌∷◌, ◌++◌, drop, take, get_or, length, length-append, length-drop, refl, ap, sym, subst, ◌∙◌, append_assoc, take-append-drop, length-take-le, replicate, arith}
use Rattle.std.proofs.lemmas.Bool.{cases_eq, cases_lt}
use Rattle.std.proofs.lemmas.List.{ext_get_or, get_or-drop, get_or-take, get_or_append_left}
use Rattle.std.proofs.Math.Seq.{drop-append_seam, take-append_seam}
use Rattle.x7_words.specs.Word.{AreBytes, bytes_of_word, word_of_bytes}
use Rattle.x7_words.proofs.WordLemmas.{bytes_words}
use Rattle.x7_packets.specs.FlashSlot.{sector_size, flash_slot, flash_slot_size, flash_slot_count}
use Rattle.x7_packets.specs.SyncWord.{HasNoSync, sync_bytes}
use Rattle.x7_part.specs.Part.{PartData}
use Rattle.x7_part.specs.Ranges.{IsPart}
use Rattle.x7_memory.specs.Plan.{PlanData}
use Rattle.x7_planner.specs.FullStream.{full_stream}
use Rattle.x7_boot.specs.Image as image
use Rattle.x7_boot.specs.Image.{free_slot, free_slots, first_sector, flash_limit, image_of, image_size, open_slot, slot}
use Rattle.x7_update.specs.After.{IsAfterUpdate, IsBetweenSlots, spends, with_switch_word, with_stream}
use Rattle.x7_update.specs.Layout.{IsUpdatable, IsOpen, first_slot, four_at, open_switch, spent_switch, switch_of, update_place, switch_size}
use Rattle.x7_update.proofs.CaseLemmas.{between_below, between_spent, outside_switch, stream_keeps}
use Rattle.x7_update.proofs.LawLemmas.{byte_between, no_sync}
use Rattle.x7_update.proofs.SwitchLemmas.{length_switched, same_four, switch_switched, switched_others}
use Rattle.x7_boot.specs.Boot.{start_address}
use Rattle.x7_recovery.specs.OpenBoot.{HasFullGolden}
use Rattle.x7_recovery.specs.OpenSlot.{BeginsAsImage, HasOpenSlot, HasUpdatableSlot, IsOpenFlash, image_of_flash, slot_of_flash}
use Rattle.x7_recovery.specs.PlannedImage.{HasImage, flash_of_image, golden_image}
use Rattle.x7_recovery.specs.Recovery.{HasGolden}
use Rattle.x7_recovery.specs.Updated.{WasUpdated}
use Rattle.x7_recovery.proofs.GoldenLemmas.{golden_stands}
use Rattle.x7_recovery.proofs.UpdatableLemmas.{free_byte, open_is}
use Rattle.x7_recovery.proofs.SlotLemmas.{free_none, image_begins, image_has, open_none, place_whole, sector_fits, sector_long, size_after, slot_long, start_small, start_whole}

fits_at : (xs : List ℕ) (i : ℕ) → AreBytes xs → i < length xs → get_or xs i 0 < 256
fits_at [] i f h = absurd (omega arith)
fits_at (x ∷ xs) zero f h = f.0
fits_at (x ∷ xs) (suc i) f h = fits_at xs i f.1 (omega arith)

bytes_back : (a b c d : ℕ) → AreBytes (a ∷ b ∷ c ∷ d ∷ []) → bytes_of_word (word_of_bytes (a ∷ b ∷ c ∷ d ∷ [])) ≡ a ∷ b ∷ c ∷ d ∷ []
bytes_back a b c d f = bytes_words (a ∷ b ∷ c ∷ d ∷ []) 1 f refl

-- ---- a flash that has a slot opened in what is between

module _ (flash now found : List ℕ) (number : ℕ) (l : IsUpdatable flash) (b : IsBetweenSlots flash now) (within : number < flash_slot_count) (size : length found ≡ length now)
    (others : (i : ℕ) → (i < flash_slot_size * number) ⊎ (flash_slot_size * number + switch_size ≤ i) → get_or found i 0 ≡ get_or now i 0) (is_open : switch_of found number ≡ open_switch) where
  found_long : 131072 ≤ length found
  found_long = omega (arith, size, b.size, l.size.least)

  -- a byte after a switch word
  byte_at : (i m : ℕ) → i < sector_size → i % flash_slot_size ≡ m → 4 ≤ m → get_or found i 0 ≡ get_or (first_slot flash) m 0
  byte_at i m h e k = others i (outside_switch number i (omega (arith, e, k))) ∙ byte_between flash now l b i m h e k

  same_outside : (place : ℕ) → ((k : ℕ) → k < 4 → (place + k < flash_slot_size * number) ⊎ (flash_slot_size * number + switch_size ≤ place + k)) → four_at found place ≡ four_at now place
  same_outside place out =
      let at : place ≡ place + 0 = omega arith in
      let first : get_or found place 0 ≡ get_or now place 0 = ap (λ (n : ℕ). get_or found n 0) at ∙ others (place + 0) (out 0 (omega arith)) ∙ ap (λ (n : ℕ). get_or now n 0) (sym at) in
      rw (first, others (place + 1) (out 1 (omega arith)), others (place + 2) (out 2 (omega arith)), others (place + 3) (out 3 (omega arith))) refl

  alone : (place : ℕ) → place < sector_size → four_at found place ≡ open_switch → place ≡ flash_slot_size * number
  alone place h e =
      let first : get_or found place 0 ≡ 0xAA = ap (λ (w : List ℕ). get_or w 0 0) e in
      elim (cases_lt (place + 3) (flash_slot_size * number)) [
        | inl below ↦ absurd (no_sync flash now l b place h (sym (same_outside place (λ k m. inl (omega (arith, m, below)))) ∙ e))
        | inr touches ↦ elim (cases_lt place (flash_slot_size * number)) [
          | inl before ↦
              let m : ℕ = place % flash_slot_size in
              let late : 29 ≤ m = omega (arith, touches, before) in
              let byte : get_or found place 0 ≡ get_or (first_slot flash) m 0 = byte_at place m h refl (omega (arith, late)) in
              elim (cases_eq m 31) [
                | inl last ↦ (let is : 0xAA ≡ 0x0D = sym first ∙ byte ∙ ap (λ (n : ℕ). get_or (first_slot flash) n 0) last in absurd (omega (arith, is)))
                | inr not_last ↦ elim (cases_eq m 30) [
                  | inl second ↦ (let is : 0xAA ≡ 0 = sym first ∙ byte ∙ ap (λ (n : ℕ). get_or (first_slot flash) n 0) second in absurd (omega (arith, is)))
                  | inr not_second ↦ (let third : m ≡ 29 = omega (arith, late, not_last, not_second) in
                      let is : 0xAA ≡ 0 = sym first ∙ byte ∙ ap (λ (n : ℕ). get_or (first_slot flash) n 0) third in absurd (omega (arith, is)))
                ]
              ]
          | inr from ↦ elim (cases_eq place (flash_slot_size * number)) [
            | inl same ↦ same
            | inr other ↦ elim (cases_eq place (flash_slot_size * number + 1)) [
              | inl one ↦ (let is : 0xAA ≡ 0x99 = sym first ∙ ap (λ (n : ℕ). get_or found n 0) one ∙ ap (λ (w : List ℕ). get_or w 1 0) is_open in absurd (omega (arith, is)))
              | inr not_one ↦ elim (cases_eq place (flash_slot_size * number + 2)) [
                | inl two ↦ (let is : 0xAA ≡ 0x55 = sym first ∙ ap (λ (n : ℕ). get_or found n 0) two ∙ ap (λ (w : List ℕ). get_or w 2 0) is_open in absurd (omega (arith, is)))
                | inr not_two ↦ elim (cases_eq place (flash_slot_size * number + 3)) [
                  | inl three ↦ (let is : 0xAA ≡ 0x66 = sym first ∙ ap (λ (n : ℕ). get_or found n 0) three ∙ ap (λ (w : List ℕ). get_or w 3 0) is_open in absurd (omega (arith, is)))
                  | inr not_three ↦ (let above : flash_slot_size * number + switch_size ≤ place = omega (arith, from, other, not_one, not_two, not_three) in
                      absurd (no_sync flash now l b place h (sym (same_outside place (λ k m. inr (omega (arith, m, above)))) ∙ e)))
                ]
              ]
            ]
          ]
        ]
      ]

  -- the slot
  slot_byte : (i : ℕ) → i < flash_slot_size → get_or found (flash_slot_size * number + i) 0 ≡ get_or (first_slot flash) i 0
  slot_byte i h = elim (cases_lt i 4) [
    | inl in_switch ↦ (let at : 0 + i ≡ i = omega arith in same_four found (first_slot flash) (flash_slot_size * number) 0 i is_open in_switch ∙ ap (λ (n : ℕ). get_or (first_slot flash) n 0) at)
    | inr past ↦ byte_at (flash_slot_size * number + i) i (omega (arith, within, h)) (omega (arith, h)) past
  ]

  slot_stands : take flash_slot_size (drop (flash_slot_size * number) found) ≡ first_slot flash
  slot_stands = ext_get_or 0 (take flash_slot_size (drop (flash_slot_size * number) found)) (first_slot flash) long each
    where
      long : length (take flash_slot_size (drop (flash_slot_size * number) found)) ≡ flash_slot_size
      long = length-take-le flash_slot_size (drop (flash_slot_size * number) found) (omega (arith, length-drop (flash_slot_size * number) found, found_long, within))

      each : (i : ℕ) → i < length (take flash_slot_size (drop (flash_slot_size * number) found)) → get_or (take flash_slot_size (drop (flash_slot_size * number) found)) i 0 ≡ get_or (first_slot flash) i 0
      each i h =
          let short : i < flash_slot_size = omega (arith, h, long) in
          get_or-take flash_slot_size (drop (flash_slot_size * number) found) i 0 short ∙ get_or-drop (flash_slot_size * number) found i 0 ∙ slot_byte i short

  pub opened : AreBytes (take sector_size found) → HasOpenSlot found number (update_place flash)
  opened fits =
      let long : length (take sector_size found) ≡ sector_size = length-take-le sector_size found (omega (arith, found_long)) in
      let small : (m : ℕ) → 12 ≤ m → m < 16 → get_or (first_slot flash) m 0 < 256 =
      λ m least most. (let byte : get_or found m 0 ≡ get_or (first_slot flash) m 0 = byte_at m m (omega (arith, most)) (omega (arith, most)) (omega (arith, least)) in
      let held : get_or (take sector_size found) m 0 ≡ get_or found m 0 = get_or-take sector_size found m 0 (omega (arith, most)) in
      omega (arith, byte, held, fits_at (take sector_size found) m fits (omega (arith, long, most)))) in
      let start_fits : AreBytes (four_at flash 12) = (small 12 (omega arith) (omega arith), (small 13 (omega arith) (omega arith), (small 14 (omega arith) (omega arith), (small 15 (omega arith) (omega arith), tt)))) in
      let start : bytes_of_word (update_place flash) ≡ four_at flash 12 = bytes_back (get_or flash 12 0) (get_or flash (12 + 1) 0) (get_or flash (12 + 2) 0) (get_or flash (12 + 3) 0) start_fits in
      record {
        within = within;
        stands = slot_stands ∙ ap (flash_slot open_switch) (sym start) ∙ open_is (update_place flash);
        alone = alone;
        long = omega (arith, found_long);
        fits = fits;
      }

  pub same_place : update_place found ≡ update_place flash
  same_place =
      let start : four_at found 12 ≡ four_at flash 12 =
      rw (byte_at 12 12 (omega arith) refl (omega arith), byte_at 13 13 (omega arith) refl (omega arith), byte_at 14 14 (omega arith) refl (omega arith), byte_at 15 15 (omega arith) refl (omega arith)) refl in
      ap word_of_bytes start

  -- after the first sector the flash is as it was between
  pub same_from : (at : ℕ) → sector_size ≤ at → drop at found ≡ drop at now
  same_from at past = ext_get_or 0 (drop at found) (drop at now) (length-drop at found ∙ ap (λ (n : ℕ). n - at) size ∙ sym (length-drop at now))
      (λ i h. get_or-drop at found i 0 ∙ others (at + i) (inr (omega (arith, past, within))) ∙ sym (get_or-drop at now i 0))

  -- the golden stream stands after the first sector
  pub golden_from : (part : PartData) (golden : PlanData) → HasGolden part golden flash → (rest : List ℕ) × (drop sector_size found ≡ full_stream part golden ++ rest)
  golden_from part golden g =
      let stream : List ℕ = full_stream part golden in
      let n : ℕ = sector_size + length stream in
      let count : n - sector_size ≡ length stream = omega arith in
      let here : take (length stream) (drop sector_size now) ≡ stream =
      ap (λ (m : ℕ). take m (drop sector_size now)) (sym count) ∙ golden_stands flash now n l b g.ends ∙ ap (λ (m : ℕ). take m (drop sector_size flash)) count ∙ ap (take (length stream)) g.stands ∙ take-append_seam stream g.rest in (
        drop (length stream) (drop sector_size now),
        same_from sector_size (omega arith) ∙ sym (take-append-drop (length stream) (drop sector_size now)) ∙ ap (λ (x : List ℕ). x ++ drop (length stream) (drop sector_size now)) here,
      )

-- ---- a flash that can be updated

module _ (flash : List ℕ) (number : ℕ) (l : IsUpdatable flash) (within : number < flash_slot_count) (is : IsOpen flash number) where
  abbrev spent : List ℕ
  spent = with_switch_word number spent_switch flash

  room : flash_slot_size * number + switch_size ≤ length flash
  room = omega (arith, within, l.size.least)

  switched_between : IsBetweenSlots flash spent
  switched_between = between_spent flash spent l.slots (spends number within is refl)

  pub updatable_opened : AreBytes (take sector_size flash) → HasOpenSlot flash number (update_place flash)
  updatable_opened fits = opened flash spent flash number l switched_between within (sym (length_switched number spent_switch flash refl room)) (λ i h. sym (switched_others number spent_switch flash refl room i h)) is fits

-- ---- a flash after an update

module _ (stream flash found : List ℕ) (l : IsUpdatable flash) (a : IsAfterUpdate stream flash found) where
  abbrev now : List ℕ
  now = with_stream (update_place flash) stream a.spent

  spent_between : IsBetweenSlots flash a.spent
  spent_between = between_spent flash a.spent l.slots a.is_spent

  now_between : IsBetweenSlots flash now
  now_between = between_below (length flash) flash a.spent now l.slots spent_between (stream_keeps (update_place flash) stream a.spent (omega (arith, a.fits, spent_between.size)))

  now_room : flash_slot_size * a.next + switch_size ≤ length now
  now_room = omega (arith, now_between.size, a.is_next.within, l.size.least)

  found_size : length found ≡ length now
  found_size = ap length a.is ∙ length_switched a.next open_switch now refl now_room

  found_others : (i : ℕ) → (i < flash_slot_size * a.next) ⊎ (flash_slot_size * a.next + switch_size ≤ i) → get_or found i 0 ≡ get_or now i 0
  found_others i h = ap (λ (x : List ℕ). get_or x i 0) a.is ∙ switched_others a.next open_switch now refl now_room i h

  found_open : switch_of found a.next ≡ open_switch
  found_open = ap (λ (x : List ℕ). switch_of x a.next) a.is ∙ switch_switched a.next 0xAA 0x99 0x55 0x66 now now_room

  pub after_opened : AreBytes (take sector_size found) → HasOpenSlot found a.next (update_place flash)
  after_opened fits = opened flash now found a.next l now_between a.is_next.within found_size found_others found_open fits

  pub after_golden : (part : PartData) (golden : PlanData) → HasGolden part golden flash → (rest : List ℕ) × (drop sector_size found ≡ full_stream part golden ++ rest)
  after_golden part golden g = golden_from flash now found a.next l now_between a.is_next.within found_size found_others found_open part golden g

  pub after_golden_same : (n : ℕ) → n ≤ update_place flash → take (n - sector_size) (drop sector_size found) ≡ take (n - sector_size) (drop sector_size flash)
  after_golden_same n most =
      ap (take (n - sector_size)) (same_from flash now found a.next l now_between a.is_next.within found_size found_others found_open sector_size (omega arith)) ∙ golden_stands flash now n l now_between most

  pub after_place : update_place found ≡ update_place flash
  after_place = same_place flash now found a.next l now_between a.is_next.within found_size found_others found_open

  pub after_has_golden : (part : PartData) (golden : PlanData) → HasGolden part golden flash → HasGolden part golden found
  after_has_golden part golden g =
      let stands : (rest : List ℕ) × (drop sector_size found ≡ full_stream part golden ++ rest) = after_golden part golden g in
      let place : update_place found ≡ update_place flash = same_place flash now found a.next l now_between a.is_next.within found_size found_others found_open in
      record { rest = stands.0; stands = stands.1; ends = omega (arith, place, g.ends) }

  -- the stream stands at the update's place
  pub after_stream : (rest : List ℕ) × (drop (update_place flash) found ≡ stream ++ rest)
  after_stream =
      let place : ℕ = update_place flash in
      let fill : List ℕ = replicate (length a.spent - (place + length stream)) 255 in
      let prefix : length (take place a.spent) ≡ place = length-take-le place a.spent (omega (arith, l.slots.place.most, spent_between.size)) in (
        fill,
        same_from flash now found a.next l now_between a.is_next.within found_size found_others found_open place (omega (arith, l.slots.place.least))
            ∙ ap (λ (n : ℕ). drop n now) (sym prefix) ∙ drop-append_seam (take place a.spent) (stream ++ fill),
      )

-- ---- a flash that begins as an image does

four_suc : (x : ℕ) (xs : List ℕ) (place : ℕ) → four_at (x ∷ xs) (suc place) ≡ four_at xs place
four_suc x xs place =
    let byte : (k : ℕ) → get_or (x ∷ xs) (suc place + k) 0 ≡ get_or xs (place + k) 0 = λ k. (let at : suc place + k ≡ suc (place + k) = omega arith in ap (λ (n : ℕ). get_or (x ∷ xs) n 0) at) in
    rw (byte 1, byte 2, byte 3) refl

four_split : (xs : List ℕ) (place : ℕ) → place + 4 ≤ length xs → four_at xs place ≡ sync_bytes → xs ≡ take place xs ++ (sync_bytes ++ drop (place + 4) xs)
four_split [] place h e = absurd (omega arith)
four_split (a ∷ []) zero h e = absurd (omega arith)
four_split (a ∷ b ∷ []) zero h e = absurd (omega arith)
four_split (a ∷ b ∷ c ∷ []) zero h e = absurd (omega arith)
four_split (a ∷ b ∷ c ∷ d ∷ xs) zero h e = (let one : a ≡ 0xAA = ap (λ (w : List ℕ). get_or w 0 0) e in
    let two : b ≡ 0x99 = ap (λ (w : List ℕ). get_or w 1 0) e in
    let three : c ≡ 0x55 = ap (λ (w : List ℕ). get_or w 2 0) e in
    let four : d ≡ 0x66 = ap (λ (w : List ℕ). get_or w 3 0) e in
    rw (one, two, three, four) refl)
four_split (x ∷ xs) (suc place) h e =
    let at : suc place + 4 ≡ suc (place + 4) = omega arith in
    ap (λ (l : List ℕ). x ∷ l) (four_split xs place (omega arith) (sym (four_suc x xs place) ∙ e))
    ∙ ap (λ (n : ℕ). (x ∷ take place xs) ++ (sync_bytes ++ drop n (x ∷ xs))) (sym at)

free_end : (start : ℕ) → (get_or (free_slot start) 29 0 ≡ 0) × (get_or (free_slot start) 30 0 ≡ 0) × (get_or (free_slot start) 31 0 ≡ 13)
unfolding slot
free_end start = (refl, refl, refl)

module _ (start : ℕ) (flash more : List ℕ) (whole : start % 256 ≡ 0) (low : start < 0xAA000000) (begins : flash ≡ first_sector start ++ more) where
  prefix_is : take sector_size flash ≡ first_sector start
  prefix_is = ap (take sector_size) begins ∙ ap (λ (n : ℕ). take n (first_sector start ++ more)) (sym (sector_long start)) ∙ take-append_seam (first_sector start) more

  image_stands : take flash_slot_size (drop 0 flash) ≡ open_slot start
  image_stands =
      ap (take flash_slot_size) (begins ∙ append_assoc (open_slot start) (free_slots start) more)
      ∙ ap (λ (n : ℕ). take n (open_slot start ++ (free_slots start ++ more))) (sym (slot_long 0xAA995566 start)) ∙ take-append_seam (open_slot start) (free_slots start ++ more)

  ends_at : (i : ℕ) → i < flash_slot_size → get_or flash (flash_slot_size * suc 2046 + i) 0 ≡ get_or (free_slot start) i 0
  ends_at i h = free_byte start flash more begins 2046 i (omega arith) h

  first_sector_none : (tail : List ℕ) × (first_sector start ≡ 0xAA ∷ tail) × HasNoSync tail
  first_sector_none = open_none start (free_slots start) whole low (free_none start whole low)

  in_sector : (place : ℕ) → place + 4 ≤ sector_size → four_at flash place ≡ four_at (first_sector start) place
  in_sector place h =
      let byte : (i : ℕ) → i < sector_size → get_or flash i 0 ≡ get_or (first_sector start) i 0 = λ i m. ap (λ (x : List ℕ). get_or x i 0) begins ∙ get_or_append_left (first_sector start) more 0 i (omega (arith, m, sector_long start)) in
      rw (byte place (omega (arith, h)), byte (place + 1) (omega (arith, h)), byte (place + 2) (omega (arith, h)), byte (place + 3) (omega (arith, h))) refl

  not_later : (p : ℕ) → suc p + 4 ≤ sector_size → four_at flash (suc p) ≡ open_switch → ⊥
  not_later p h e =
      let t : (tail : List ℕ) × (first_sector start ≡ 0xAA ∷ tail) × HasNoSync tail = first_sector_none in
      let there : four_at (first_sector start) (suc p) ≡ open_switch = sym (in_sector (suc p) h) ∙ e in
      let here : four_at t.0 p ≡ open_switch = sym (four_suc 0xAA t.0 p) ∙ ap (λ (x : List ℕ). four_at x (suc p)) (sym t.1) ∙ there in
      let long : sector_size ≡ suc (length t.0) = sym (sector_long start) ∙ ap length t.1 in
      let split : t.0 ≡ take p t.0 ++ (sync_bytes ++ drop (p + 4) t.0) = four_split t.0 p (omega (arith, long, h)) here in
      t.2.none (take p t.0) (drop (p + 4) t.0) (split ∙ sym (append_assoc (take p t.0) sync_bytes (drop (p + 4) t.0)))

  image_alone : (place : ℕ) → place < sector_size → four_at flash place ≡ open_switch → place ≡ flash_slot_size * 0
  image_alone zero h e = refl
  image_alone (suc p) h e =
      let first : get_or flash (suc p) 0 ≡ 0xAA = ap (λ (w : List ℕ). get_or w 0 0) e in
      elim (cases_lt (suc p) 65533) [
        | inl early ↦ absurd (not_later p (omega (arith, early)) e)
        | inr late ↦ elim (cases_eq (suc p) 65533) [
          | inl third ↦ (let at : suc p ≡ flash_slot_size * suc 2046 + 29 = omega (arith, third) in
              let is : 0xAA ≡ 0 = sym first ∙ ap (λ (n : ℕ). get_or flash n 0) at ∙ ends_at 29 (omega arith) ∙ (free_end start).0 in absurd (omega (arith, is)))
          | inr not_third ↦ elim (cases_eq (suc p) 65534) [
            | inl second ↦ (let at : suc p ≡ flash_slot_size * suc 2046 + 30 = omega (arith, second) in
                let is : 0xAA ≡ 0 = sym first ∙ ap (λ (n : ℕ). get_or flash n 0) at ∙ ends_at 30 (omega arith) ∙ (free_end start).1 in absurd (omega (arith, is)))
            | inr not_second ↦ (let at : suc p ≡ flash_slot_size * suc 2046 + 31 = omega (arith, late, h, not_third, not_second) in
                let is : 0xAA ≡ 13 = sym first ∙ ap (λ (n : ℕ). get_or flash n 0) at ∙ ends_at 31 (omega arith) ∙ (free_end start).2 in absurd (omega (arith, is)))
          ]
        ]
      ]

  pub image_opened : HasOpenSlot flash 0 start
  image_opened = record {
    within = omega arith;
    stands = image_stands;
    alone = image_alone;
    long = omega (arith, ap length begins, length-append (first_sector start) more, sector_long start);
    fits = subst AreBytes (sym prefix_is) (sector_fits start);
  }

  pub image_after : drop sector_size flash ≡ more
  image_after = ap (drop sector_size) begins ∙ ap (λ (n : ℕ). drop n (first_sector start ++ more)) (sym (sector_long start)) ∙ drop-append_seam (first_sector start) more

-- ---- by the part

-- the start address leads to its place
start_leads : (unit place : ℕ) → (unit ≡ 1) ⊎ (unit ≡ 256) → place % sector_size ≡ 0 → place ≤ flash_limit → start_address unit (place / unit) ≡ place
start_leads unit place (inl e) whole l = ap (λ (u : ℕ). start_address u (place / u)) e ∙ omega (arith, whole, l)
start_leads unit place (inr e) whole l = ap (λ (u : ℕ). start_address u (place / u)) e ∙ omega (arith, whole, l)

leads_itself : (unit place : ℕ) → unit ≡ 1 → place ≤ 134217728 → start_address unit place ≡ place
leads_itself unit place e l = ap (λ (u : ℕ). start_address u place) e ∙ omega (arith, l)

place_small : (flash : List ℕ) → IsUpdatable flash → update_place flash ≤ 134217728
place_small flash l = omega (arith, l.slots.place.most, l.size.most)

pub open_is_opened : (part : PartData) (flash : List ℕ) (number : ℕ) → HasUpdatableSlot part flash number → IsOpenFlash (slot_of_flash part flash number (update_place flash))
open_is_opened part flash number s =
    let small : update_place flash ≤ 134217728 = place_small flash s.updatable in
    record { has = updatable_opened flash number s.updatable s.within s.is_open s.fits; small = omega (arith, small); leads = leads_itself part.start_unit (update_place flash) s.unit small }

pub after_is_opened : (part : PartData) (stream flash found : List ℕ) → (u : WasUpdated part stream flash found) → IsOpenFlash (slot_of_flash part found u.after.next (update_place flash))
after_is_opened part stream flash found u =
    let small : update_place flash ≤ 134217728 = place_small flash u.updatable in
    record { has = after_opened stream flash found u.updatable u.after u.fits; small = omega (arith, small); leads = leads_itself part.start_unit (update_place flash) u.unit small }

pub image_is_opened : (part : PartData) (flash : List ℕ) (place : ℕ) → IsPart part → BeginsAsImage part flash place → IsOpenFlash (image_of_flash part flash place)
image_is_opened part flash place is b =
    let start : ℕ = place / part.start_unit in
    let whole : start % 256 ≡ 0 = start_whole part.start_unit place is.start_unit b.whole in
    let low : start ≤ flash_limit = start_small part.start_unit place is.start_unit b.within in
    record { has = image_opened start flash b.more whole (omega (arith, low)) b.begins; small = omega (arith, low); leads = start_leads part.start_unit place is.start_unit b.whole b.within }

regrouped : (a b c d : List ℕ) → ((a ++ b) ++ c) ++ d ≡ a ++ (b ++ (c ++ d))
regrouped a b c d = simp append_assoc

-- ---- the image of two streams, with anything after it

module _ (part : PartData) (golden update after : List ℕ) (is : IsPart part) (fits : image_size (length golden) (length update) ≤ flash_limit) where
  abbrev place : ℕ
  place = image.place_after_golden (length golden)

  abbrev all : List ℕ
  all = image_of part.start_unit golden update ++ after

  abbrev start : ℕ
  start = place / part.start_unit

  begun : (rest : List ℕ) × (all ≡ first_sector start ++ (golden ++ rest))
  begun =
      let b : (rest : List ℕ) × (image_of part.start_unit golden update ≡ (first_sector start ++ golden) ++ rest) = image_begins part.start_unit golden update in
      (b.0 ++ after, ap (λ (x : List ℕ). x ++ after) b.1 ∙ regrouped (first_sector start) golden b.0 after)

  place_low : place ≤ flash_limit
  place_low = let l : place + length update ≤ image_size (length golden) (length update) = size_after (length golden) (length update) in omega (arith, l, fits)

  pub image_as : BeginsAsImage part all place
  image_as = record { more = golden ++ begun.0; begins = begun.1; whole = place_whole (length golden); within = place_low }

  pub image_golden_stands : (rest : List ℕ) × (drop sector_size all ≡ golden ++ rest)
  image_golden_stands =
      let whole : start % 256 ≡ 0 = start_whole part.start_unit place is.start_unit (place_whole (length golden)) in
      let low : start ≤ flash_limit = start_small part.start_unit place is.start_unit place_low in
      (begun.0, image_after start all (golden ++ begun.0) whole (omega (arith, low)) begun.1)

  pub image_update_stands : (rest : List ℕ) × (drop place all ≡ update ++ rest)
  image_update_stands = image_has part.start_unit golden update after

-- the full stream of a plan
pub image_planned : (part : PartData) (golden : PlanData) (update after : List ℕ) → HasImage part golden update → HasFullGolden (flash_of_image part golden update after) golden
image_planned part golden update after has =
    let s : (rest : List ℕ) × (drop sector_size (golden_image part golden update ++ after) ≡ full_stream part golden ++ rest) = image_golden_stands part (full_stream part golden) update after has.is_part has.fits in
    record { is_part = has.is_part; plan = has.plan; rest = s.0; stands = s.1 }
