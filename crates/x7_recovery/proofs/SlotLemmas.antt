-- The slots of an image's first sector: where their sync word stands, and where they lead.
use Rattle.std.proofs.Common.{◌≡◌, ◌==◌, ◌+◌, ◌-◌, ◌*◌, ◌/◌, ◌%◌, ◌^◌, ◌<◌, ◌≤◌, ◌⊎◌, inl, inr, ℕ, zero, suc, false, List, [], ◌∷◌, ◌++◌, drop, length, length-append, replicate, refl, ap, sym, subst, ◌∙◌, append_assoc, arith}
use Rattle.std.proofs.lemmas.Bool.Decides.{nat_tests}
use Rattle.std.proofs.Math.Nat.{le-max_right, max-eq_left, max-eq_right}
use Rattle.std.proofs.lemmas.Bool.{cases_lt}
use Rattle.std.proofs.lemmas.List.{length-replicate}
use Rattle.std.proofs.Math.Seq.{drop-append_seam}
use Rattle.std.specs.List.{repeat}
use Rattle.x7_packets.specs.FlashSlot.{sector_size}
use Rattle.x7_words.specs.Word.{AreBytes}
use Rattle.x7_words.proofs.ListLemmas.{all_append}
use Rattle.x7_packets.specs.Appended.{LacksFirst}
use Rattle.x7_packets.specs.PacketWords.{command, no_op, write_one}
use Rattle.x7_packets.specs.SyncWord.{HasNoSync, sync_bytes}
use Rattle.x7_regs.specs.declared.command.Command.TheVariants.{Desync, Iprog}
use Rattle.x7_regs.specs.declared.register.Reg.TheVariants.{Wbstar}
use Rattle.x7_packets.proofs.SyncLemmas.{none_empty}
use Rattle.x7_effects.proofs.StreamLemmas.{bytes_fit}
use Rattle.x7_boot.specs.Image.{free_slot, free_slots, filled_to, first_sector, image_of, image_size, flash_limit, open_slot, sector_from, slot, place_after_golden}

-- ---- no sync word in the free slots

-- a byte more before bytes without a sync word, where none begins at it
none_at : (x : ℕ) (bytes : List ℕ) → ((back : List ℕ) → x ∷ bytes ≡ sync_bytes ++ back → ⊥) → HasNoSync bytes → HasNoSync (x ∷ bytes)
none_at x bytes here none = record { none = by }
  where
    by : (prefix back : List ℕ) → x ∷ bytes ≡ prefix ++ sync_bytes ++ back → ⊥
    by [] back e = here back e
    by (y ∷ prefix) back e = none.none prefix back (let rest : bytes ≡ prefix ++ sync_bytes ++ back = cc in rest)

-- a byte that isn't the first one of the sync word
other_first : (x : ℕ) (bytes : List ℕ) → (x == 0xAA) ≡ false → HasNoSync bytes → HasNoSync (x ∷ bytes)
other_first x bytes other = none_at x bytes (λ back e. let same : x ≡ 0xAA = cc in grind (arith, nat_tests, same, other))

-- the byte after isn't the second one, or the next isn't the third
other_second : (x y : ℕ) (bytes : List ℕ) → y < 0x99 → HasNoSync (y ∷ bytes) → HasNoSync (x ∷ y ∷ bytes)
other_second x y bytes l = none_at x (y ∷ bytes) (λ back e. let same : y ≡ 0x99 = cc in omega (arith, l, same))

other_third : (x y z : ℕ) (bytes : List ℕ) → z < 0x55 → HasNoSync (y ∷ z ∷ bytes) → HasNoSync (x ∷ y ∷ z ∷ bytes)
other_third x y z bytes l = none_at x (y ∷ z ∷ bytes) (λ back e. let same : z ≡ 0x55 = cc in omega (arith, l, same))

-- bytes without its first byte before bytes without a sync word
none_after : (bytes rest : List ℕ) → LacksFirst bytes → HasNoSync rest → HasNoSync (bytes ++ rest)
none_after [] rest l none = none
none_after (x ∷ bytes) rest l none = other_first x (bytes ++ rest) l.0 (none_after bytes rest l.1 none)

-- what stands after the first two words of a slot, where the start address is of whole pages of 256, and far below
-- AA000000
abbrev slot_tail : List ℕ
slot_tail = 0x30 ∷ 0 ∷ 0x80 ∷ 1 ∷ 0 ∷ 0 ∷ 0 ∷ 15 ∷ 0x30 ∷ 0 ∷ 0x80 ∷ 1 ∷ 0 ∷ 0 ∷ 0 ∷ 13 ∷ []

start_none : (start : ℕ) (rest : List ℕ) → start % 256 ≡ 0 → start < 0xAA000000 → HasNoSync rest
    → HasNoSync (start / 2 ^ 24 % 256 ∷ start / 2 ^ 16 % 256 ∷ start / 2 ^ 8 % 256 ∷ start % 256 ∷ (slot_tail ++ rest))
start_none start rest whole low none =
    let high : (start / 2 ^ 24 % 256 == 0xAA) ≡ false = grind (arith, nat_tests, low) in
    let end : ℕ = start % 256 in
    let last : (end == 0xAA) ≡ false = grind (arith, nat_tests, whole) in
    let after : HasNoSync (end ∷ (slot_tail ++ rest)) =
    other_first end (slot_tail ++ rest) last (none_after slot_tail rest (refl, (refl, (refl, (refl, (refl, (refl, (refl, (refl, (refl, (refl, (refl, (refl, (refl, (refl, (refl, (refl, tt)))))))))))))))) none) in
    let third : HasNoSync (start / 2 ^ 8 % 256 ∷ end ∷ (slot_tail ++ rest)) = other_second (start / 2 ^ 8 % 256) end (slot_tail ++ rest) (omega (arith, whole)) after in
    let second : HasNoSync (start / 2 ^ 16 % 256 ∷ start / 2 ^ 8 % 256 ∷ end ∷ (slot_tail ++ rest)) = other_third (start / 2 ^ 16 % 256) (start / 2 ^ 8 % 256) end (slot_tail ++ rest) (omega (arith, whole)) third in
    other_first (start / 2 ^ 24 % 256) _ high second

slot_none : (start : ℕ) (rest : List ℕ) → start % 256 ≡ 0 → start < 0xAA000000 → HasNoSync rest → HasNoSync (free_slot start ++ rest)
unfolding slot
slot_none start rest whole low none =
    none_after (255 ∷ 255 ∷ 255 ∷ 255 ∷ 32 ∷ 0 ∷ 0 ∷ 0 ∷ 0x30 ∷ 2 ∷ 0 ∷ 1 ∷ []) _ (refl, (refl, (refl, (refl, (refl, (refl, (refl, (refl, (refl, (refl, (refl, (refl, tt)))))))))))) (start_none start rest whole low none)

-- an open slot but for its first byte
pub open_none : (start : ℕ) (rest : List ℕ) → start % 256 ≡ 0 → start < 0xAA000000 → HasNoSync rest → (tail : List ℕ) × (open_slot start ++ rest ≡ 0xAA ∷ tail) × HasNoSync tail
unfolding slot
open_none start rest whole low none = (
  _,
  refl,
  none_after (0x99 ∷ 0x55 ∷ 0x66 ∷ 32 ∷ 0 ∷ 0 ∷ 0 ∷ 0x30 ∷ 2 ∷ 0 ∷ 1 ∷ []) _ (refl, (refl, (refl, (refl, (refl, (refl, (refl, (refl, (refl, (refl, (refl, tt))))))))))) (start_none start rest whole low none),
)

slots_none : (n start : ℕ) → start % 256 ≡ 0 → start < 0xAA000000 → HasNoSync (repeat n (free_slot start))
slots_none zero start whole low = none_empty
slots_none (suc n) start whole low = slot_none start (repeat n (free_slot start)) whole low (slots_none n start whole low)

pub free_none : (start : ℕ) → start % 256 ≡ 0 → start < 0xAA000000 → HasNoSync (free_slots start)
unfolding free_slots
free_none start whole low = slots_none 2047 start whole low

-- ---- bytes

pub slot_fits : (switch start : ℕ) → AreBytes (slot switch start)
unfolding slot
slot_fits switch start = bytes_fit (switch ∷ no_op ∷ write_one Wbstar start ++ command Iprog ++ command Desync)

repeat_fits : (n : ℕ) (bytes : List ℕ) → AreBytes bytes → AreBytes (repeat n bytes)
repeat_fits zero bytes f = tt
repeat_fits (suc n) bytes f = all_append (λ b. b < 256) bytes (repeat n bytes) f (repeat_fits n bytes f)

free_fits : (start : ℕ) → AreBytes (free_slots start)
unfolding free_slots
free_fits start = repeat_fits 2047 (free_slot start) (slot_fits 0xFFFFFFFF start)

pub sector_fits : (start : ℕ) → AreBytes (first_sector start)
sector_fits start = all_append (λ b. b < 256) (open_slot start) (free_slots start) (slot_fits 0xAA995566 start) (free_fits start)

pub fill_fits : (n : ℕ) → AreBytes (replicate n 255)
fill_fits zero = tt
fill_fits (suc n) = (omega arith, fill_fits n)

-- an image of bytes
pub image_fits : (unit : ℕ) (golden update : List ℕ) → AreBytes golden → AreBytes update → AreBytes (image_of unit golden update)
unfolding image_of
image_fits unit golden update g u =
    let start : ℕ = place_after_golden (length golden) / unit in
    let prefix : List ℕ = first_sector start ++ golden in
    let filled : List ℕ = filled_to (place_after_golden (length golden)) prefix in
    let size : ℕ = image_size (length golden) (length update) in
    let prefix_fits : AreBytes prefix = all_append (λ b. b < 256) (first_sector start) golden (sector_fits start) g in
    let filled_fits : AreBytes filled = all_append (λ b. b < 256) prefix (replicate (place_after_golden (length golden) - length prefix) 255) prefix_fits (fill_fits (place_after_golden (length golden) - length prefix)) in
    all_append (λ b. b < 256) (filled ++ update) (replicate (size - length (filled ++ update)) 255) (all_append (λ b. b < 256) filled update filled_fits u) (fill_fits (size - length (filled ++ update)))

-- ---- places

-- the update begins a sector, after the first sector and the golden stream
pub place_whole : (golden : ℕ) → place_after_golden golden % sector_size ≡ 0
place_whole golden = elim (cases_lt (sector_from (sector_size + golden)) 131072) [
  | inl l ↦ ap (λ (n : ℕ). n % sector_size) (max-eq_left (let m : sector_from (sector_size + golden) ≤ 131072 = omega (arith, l) in m))
  | inr l ↦ ap (λ (n : ℕ). n % sector_size) (max-eq_right l) ∙ omega arith
]

pub update_after : (golden : ℕ) → sector_size + golden ≤ place_after_golden golden
update_after golden = let m : sector_from (sector_size + golden) ≤ place_after_golden golden = le-max_right 131072 (sector_from (sector_size + golden)) in omega (arith, m)

pub size_after : (golden update : ℕ) → place_after_golden golden + update ≤ image_size golden update
size_after golden update = omega arith

-- an update's start address is of whole pages of 256, and small, in either unit
pub start_whole : (unit place : ℕ) → (unit ≡ 1) ⊎ (unit ≡ 256) → place % sector_size ≡ 0 → place / unit % 256 ≡ 0
start_whole unit place (inl e) whole = ap (λ (u : ℕ). place / u % 256) e ∙ omega (arith, whole)
start_whole unit place (inr e) whole = ap (λ (u : ℕ). place / u % 256) e ∙ omega (arith, whole)

pub start_small : (unit place : ℕ) → (unit ≡ 1) ⊎ (unit ≡ 256) → place ≤ flash_limit → place / unit ≤ flash_limit
start_small unit place (inl e) l = subst (λ (u : ℕ). place / u ≤ flash_limit) (sym e) (omega (arith, l))
start_small unit place (inr e) l = subst (λ (u : ℕ). place / u ≤ flash_limit) (sym e) (omega (arith, l))

-- ---- what stands where

repeat_long : (n : ℕ) (bytes : List ℕ) → length (repeat n bytes) ≡ n * length bytes
repeat_long zero bytes = omega arith
repeat_long (suc n) bytes =
    let more : length (repeat n bytes) ≡ n * length bytes = repeat_long n bytes in
    length-append bytes (repeat n bytes) ∙ grind (arith, more)

pub slot_long : (switch start : ℕ) → length (slot switch start) ≡ 32
unfolding slot
slot_long switch start = refl

free_long : (start : ℕ) → length (free_slots start) ≡ 65504
unfolding free_slots
free_long start = repeat_long 2047 (free_slot start) ∙ ap (λ (n : ℕ). 2047 * n) (slot_long 0xFFFFFFFF start)

pub sector_long : (start : ℕ) → length (first_sector start) ≡ sector_size
sector_long start = length-append (open_slot start) (free_slots start) ∙ omega (arith, slot_long 0xAA995566 start, free_long start)

-- an image begins with its first sector and the golden stream
pub image_begins : (unit : ℕ) (golden update : List ℕ) → (more : List ℕ) × (image_of unit golden update ≡ (first_sector (place_after_golden (length golden) / unit) ++ golden) ++ more)
unfolding image_of
image_begins unit golden update =
    let prefix : List ℕ = first_sector (place_after_golden (length golden) / unit) ++ golden in
    let gap : List ℕ = replicate (place_after_golden (length golden) - length prefix) 255 in
    let size : ℕ = image_size (length golden) (length update) in
    let end : List ℕ = replicate (size - length (filled_to (place_after_golden (length golden)) prefix ++ update)) 255 in
    (gap ++ (update ++ end), append_assoc (prefix ++ gap) update end ∙ append_assoc prefix gap (update ++ end))

-- an image has the update at its place, whatever stands after the image
pub image_has : (unit : ℕ) (golden update more : List ℕ) → (rest : List ℕ) × (drop (place_after_golden (length golden)) (image_of unit golden update ++ more) ≡ update ++ rest)
unfolding image_of
image_has unit golden update more =
    let place : ℕ = place_after_golden (length golden) in
    let prefix : List ℕ = first_sector (place / unit) ++ golden in
    let placed : List ℕ = filled_to place prefix in
    let size : ℕ = image_size (length golden) (length update) in
    let end : List ℕ = replicate (size - length (placed ++ update)) 255 in
    let long : length prefix ≡ sector_size + length golden = length-append (first_sector (place / unit)) golden ∙ ap (λ (n : ℕ). n + length golden) (sector_long (place / unit)) in
    let filled : length placed ≡ place = length-append prefix (replicate (place - length prefix) 255) ∙ omega (arith, length-replicate {A = ℕ} (place - length prefix) 255, long, update_after (length golden)) in (
      end ++ more,
      ap (drop place) (append_assoc (placed ++ update) end more ∙ append_assoc placed update (end ++ more))
          ∙ ap (λ (n : ℕ). drop n (placed ++ (update ++ (end ++ more)))) (sym filled)
          ∙ drop-append_seam placed (update ++ (end ++ more)),
    )
