-- Lemmas on images for parts whose start address counts bytes: each can be updated.
use Rattle.std.proofs.Common.{◌≡◌, ℕ, zero, suc, ◌+◌, ◌-◌, ◌*◌, ◌/◌, ◌%◌, ◌^◌, ◌<◌, ◌≤◌, List, ◌++◌, length, get_or, replicate, refl, drop, ap, sym, subst, ◌∙◌, arith, length-append, append_assoc}
use Rattle.std.specs.List.{repeat}
use Rattle.std.proofs.lemmas.List.{length-replicate, get_or-drop, get_or_append_left, get_or-append_right}
use Rattle.x7_words.proofs.WordLemmas.{word_whole}
use Rattle.x7_words.specs.Word.{bytes_of_word, word_of_bytes}
use Rattle.std.proofs.Math.Seq.{drop-append_seam}
use Rattle.x7_packets.specs.FlashSlot.{sector_size, flash_slot, flash_slot_size, flash_slot_count}
use Rattle.x7_boot.specs.Image as image
use Rattle.x7_boot.specs.Image.{free_slot, free_slots, filled_to, first_sector, image_of, image_size, open_slot, slot}
use Rattle.x7_recovery.proofs.SlotLemmas.{image_begins, place_whole, sector_long, size_after, slot_long, update_after}
use Rattle.x7_recovery.specs.PlannedImage.{HasImage, golden_image}
use Rattle.x7_part.specs.Part.{PartData}
use Rattle.x7_memory.specs.Plan.{PlanData}
use Rattle.x7_planner.specs.FullStream.{full_stream}
use Rattle.x7_recovery.specs.Recovery.{IsPrepared}
use Rattle.x7_update.specs.Layout.{IsUpdatable, LeadsToUpdate, IsOpen, four_at, first_slot, free_switch, open_switch, switch_of, update_place}

-- the byte of a slot among equal ones
slot_among : (one rest : List ℕ) (n k i : ℕ) → length one ≡ flash_slot_size → k < n → i < flash_slot_size → get_or (repeat n one ++ rest) (flash_slot_size * k + i) 0 ≡ get_or one i 0
slot_among one rest zero k i e h j = absurd (omega arith)
slot_among one rest (suc n) zero i e h j =
    let at : flash_slot_size * 0 + i ≡ i = omega arith in
    ap (λ m. get_or ((one ++ repeat n one) ++ rest) m 0) at
    ∙ ap (λ l. get_or l i 0) (append_assoc one (repeat n one) rest)
    ∙ get_or_append_left one (repeat n one ++ rest) 0 i (omega (arith, e, j))
slot_among one rest (suc n) (suc k) i e h j =
    let at : flash_slot_size * suc k + i - flash_slot_size ≡ flash_slot_size * k + i = omega arith in
    ap (λ l. get_or l (flash_slot_size * suc k + i) 0) (append_assoc one (repeat n one) rest)
    ∙ get_or-append_right one (repeat n one ++ rest) flash_slot_size (flash_slot_size * suc k + i) 0 e (omega arith)
    ∙ ap (λ m. get_or (repeat n one ++ rest) m 0) at
    ∙ slot_among one rest n k i e (omega arith) j

-- an open slot and a free one are the same after the switch word
pub same_after : (start i : ℕ) → 4 ≤ i → get_or (free_slot start) i 0 ≡ get_or (open_slot start) i 0
unfolding slot
same_after start i h =
    let at : 4 + (i - 4) ≡ i = omega arith in
    ap (λ m. get_or (free_slot start) m 0) (sym at)
    ∙ sym (get_or-drop 4 (free_slot start) (i - 4) 0)
    ∙ get_or-drop 4 (open_slot start) (i - 4) 0
    ∙ ap (λ m. get_or (open_slot start) m 0) at

pub open_is : (start : ℕ) → flash_slot open_switch (bytes_of_word start) ≡ open_slot start
unfolding slot
open_is start = refl

free_begins : (start : ℕ) → four_at (free_slot start) 0 ≡ free_switch
unfolding slot
free_begins start = refl

start_at : (start : ℕ) → four_at (open_slot start) 12 ≡ bytes_of_word start
unfolding slot
start_at start = refl

free_repeat : (start : ℕ) → free_slots start ≡ repeat 2047 (free_slot start)
unfolding free_slots
free_repeat start = refl

module _ (start : ℕ) (all rest : List ℕ) (begins : all ≡ first_sector start ++ rest) where
  is : all ≡ open_slot start ++ (free_slots start ++ rest)
  is = begins ∙ append_assoc (open_slot start) (free_slots start) rest

  open_byte : (i : ℕ) → i < flash_slot_size → get_or all i 0 ≡ get_or (open_slot start) i 0
  open_byte i h = ap (λ l. get_or l i 0) is ∙ get_or_append_left (open_slot start) (free_slots start ++ rest) 0 i (omega (arith, h, slot_long 0xAA995566 start))

  pub free_byte : (k i : ℕ) → k < flash_slot_count - 1 → i < flash_slot_size → get_or all (flash_slot_size * suc k + i) 0 ≡ get_or (free_slot start) i 0
  free_byte k i h j =
      let at : flash_slot_size * suc k + i - flash_slot_size ≡ flash_slot_size * k + i = omega arith in
      ap (λ l. get_or l (flash_slot_size * suc k + i) 0) is
      ∙ get_or-append_right (open_slot start) (free_slots start ++ rest) flash_slot_size (flash_slot_size * suc k + i) 0 (slot_long 0xAA995566 start) (omega arith)
      ∙ ap (λ m. get_or (free_slots start ++ rest) m 0) at
      ∙ ap (λ l. get_or (l ++ rest) (flash_slot_size * k + i) 0) (free_repeat start)
      ∙ slot_among (free_slot start) rest 2047 k i (slot_long 0xFFFFFFFF start) h j

  start_is : four_at all 12 ≡ bytes_of_word start
  start_is = rw (open_byte 12 (omega arith), open_byte 13 (omega arith), open_byte 14 (omega arith), open_byte 15 (omega arith)) (start_at start)

  first_is : first_slot all ≡ open_slot start
  first_is = ap (flash_slot open_switch) start_is ∙ open_is start

  pub place_is : start < 2 ^ 32 → update_place all ≡ start
  place_is h = ap word_of_bytes start_is ∙ word_whole start h

  pub leads : (k : ℕ) → k < flash_slot_count → LeadsToUpdate all k
  leads zero h = λ i j l.
      let at : flash_slot_size * 0 + i ≡ i = omega arith in
      ap (λ m. get_or all m 0) at ∙ open_byte i l ∙ sym (ap (λ s. get_or s i 0) first_is)
  leads (suc k) h = λ i j l. free_byte k i (omega arith) l ∙ same_after start i j ∙ sym (ap (λ s. get_or s i 0) first_is)

  pub others_free : (k : ℕ) → k < flash_slot_count - 1 → switch_of all (suc k) ≡ free_switch
  others_free k h =
      let at : flash_slot_size * suc k + 0 ≡ flash_slot_size * suc k = omega arith in
      let first : get_or all (flash_slot_size * suc k) 0 ≡ get_or (free_slot start) 0 0 = ap (λ m. get_or all m 0) (sym at) ∙ free_byte k 0 h (omega arith) in
      rw (first, free_byte k 1 h (omega arith), free_byte k 2 h (omega arith), free_byte k 3 h (omega arith)) (free_begins start)

  not_open : (k : ℕ) → suc k < flash_slot_count → IsOpen all (suc k) → ⊥
  not_open k h o =
      let same : open_switch ≡ free_switch = sym o ∙ others_free k (omega arith) in
      let byte : 0xAA ≡ 0xFF = ap (λ l. get_or l 0 0) same in
      absurd (omega (arith, byte))

  pub one_open : (k other : ℕ) → k < flash_slot_count → other < flash_slot_count → IsOpen all k → IsOpen all other → k ≡ other
  one_open zero zero h j o p = refl
  one_open zero (suc other) h j o p = absurd (not_open other j p)
  one_open (suc k) other h j o p = absurd (not_open k h o)

filled_long : (place : ℕ) (bytes : List ℕ) → length bytes ≤ place → length (filled_to place bytes) ≡ place
filled_long place bytes h = length-append bytes (replicate (place - length bytes) 255) ∙ omega (arith, h, length-replicate {A = ℕ} (place - length bytes) 255)

image_long : (golden update : List ℕ) → length (image_of 1 golden update) ≡ image_size (length golden) (length update)
unfolding image_of
image_long golden update =
    let place = image.place_after_golden (length golden) in
    let prefix : List ℕ = first_sector (place / 1) ++ golden in
    let prefix_long : length prefix ≤ place = omega (arith, length-append (first_sector (place / 1)) golden, sector_long (place / 1), update_after (length golden)) in
    let whole : List ℕ = filled_to place prefix ++ update in
    let whole_long : length whole ≤ image_size (length golden) (length update) = omega (arith, length-append (filled_to place prefix) update, filled_long place prefix prefix_long, size_after (length golden) (length update)) in
    filled_long (image_size (length golden) (length update)) whole whole_long

-- an image for a part that counts in bytes can be updated
pub image_updatable : (golden update : List ℕ) → image_size (length golden) (length update) ≤ 134217728 → IsUpdatable (image_of 1 golden update)
image_updatable golden update limit =
    let all : List ℕ = image_of 1 golden update in
    let place = image.place_after_golden (length golden) in
    let b = image_begins 1 golden update in
    let begins : all ≡ first_sector (place / 1) ++ (golden ++ b.0) = b.1 ∙ append_assoc (first_sector (place / 1)) golden b.0 in
    let same : place / 1 ≡ place = omega arith in
    let long = image_long golden update in
    let within : place + length update ≤ length all = omega (arith, long, size_after (length golden) (length update)) in
    let least : 131072 ≤ place = omega arith in
    let whole : image_size (length golden) (length update) % sector_size ≡ 0 = omega arith in
    let is : update_place all ≡ place = place_is (place / 1) all (golden ++ b.0) begins (omega (arith, same, within, long, limit)) ∙ same in
    record {
      size = record { whole = ap (λ n. n % sector_size) long ∙ whole; least = omega (arith, within, least); most = omega (arith, long, limit) };
      slots = record {
        place = record { whole = ap (λ n. n % sector_size) is ∙ place_whole (length golden); least = omega (arith, is, least); most = omega (arith, is, within) };
        leads = leads (place / 1) all (golden ++ b.0) begins;
        one_open = one_open (place / 1) all (golden ++ b.0) begins;
        last_free = others_free (place / 1) all (golden ++ b.0) begins 2046 (omega arith);
      };
    }

-- where the update of an image stands, by its first slot
image_place : (golden update : List ℕ) → image_size (length golden) (length update) ≤ 134217728 → update_place (image_of 1 golden update) ≡ image.place_after_golden (length golden)
image_place golden update limit =
    let place = image.place_after_golden (length golden) in
    let b = image_begins 1 golden update in
    let begins : image_of 1 golden update ≡ first_sector (place / 1) ++ (golden ++ b.0) = b.1 ∙ append_assoc (first_sector (place / 1)) golden b.0 in
    let same : place / 1 ≡ place = omega arith in
    place_is (place / 1) (image_of 1 golden update) (golden ++ b.0) begins (omega (arith, same, limit, size_after (length golden) (length update))) ∙ same

-- after the first sector stands the golden stream
image_golden : (golden update : List ℕ) → (rest : List ℕ) × (drop sector_size (image_of 1 golden update) ≡ golden ++ rest)
image_golden golden update =
    let place = image.place_after_golden (length golden) in
    let b = image_begins 1 golden update in
    let begins : image_of 1 golden update ≡ first_sector (place / 1) ++ (golden ++ b.0) = b.1 ∙ append_assoc (first_sector (place / 1)) golden b.0 in
    (b.0, ap (drop sector_size) begins ∙ ap (λ n. drop n (first_sector (place / 1) ++ (golden ++ b.0))) (sym (sector_long (place / 1))) ∙ drop-append_seam (first_sector (place / 1)) (golden ++ b.0))

-- such an image of the full stream of a plan is prepared
pub image_prepared : (part : PartData) (golden : PlanData) (update stream : List ℕ) → HasImage part golden update → part.start_unit ≡ 1 → IsPrepared (record { part = part; golden = golden; flash = golden_image part golden update; stream = stream })
image_prepared part golden update stream has unit =
    let full : List ℕ = full_stream part golden in
    let same : golden_image part golden update ≡ image_of 1 full update = ap (λ n. image_of n full update) unit in
    let stands = image_golden full update in
    record {
      is_part = has.is_part;
      plan = has.plan;
      updatable = subst IsUpdatable (sym same) (image_updatable full update has.fits);
      golden = record {
        rest = stands.0;
        stands = ap (drop sector_size) same ∙ stands.1;
        ends = omega (arith, update_after (length full), ap update_place same, image_place full update has.fits);
      };
    }
