-- That the premises hold of something: a part, a plan, an image, and an update that fails.
use Rattle.std.proofs.Common.{◌≡◌, ◌≢◌, ◌+◌, ◌*◌, ◌/◌, ◌%◌, ◌<◌, ◌≤◌, get_or, append_assoc, inl, inr, ℕ, zero, suc, true, false, None, List, [], ◌∷◌, ◌++◌, drop, take, length, replicate, ◌-◌, length-append, refl, ap, sym, subst, ◌∙◌, arith}
use Rattle.std.proofs.lemmas.List.{append-nil, get_or-take, length-replicate}
use Rattle.std.proofs.Math.Seq.{drop-append_seam, take-append_seam}
use Rattle.x7_packets.specs.FlashSlot.{sector_size, flash_slot_size}
use Rattle.x7_words.specs.Word.{AreBytes}
use Rattle.x7_words.proofs.FlashLemmas.{bytes_replaced}
use Rattle.x7_part.specs.Part.{PartData}
use Rattle.x7_part.specs.Ranges.{IsPart}
use Rattle.x7_regs.specs.declared.boot_status.Cause.TheVariants.{Wrap}
use Rattle.x7_memory.specs.Plan.{IsPlanFor, PlanData}
use Rattle.x7_planner.specs.FullStream.{full_stream}
use Rattle.x7_recovery.specs.Example.{tiny, nothing_planned}
use Rattle.std.specs.Prelude.{Contains}
use Rattle.std.proofs.lemmas.List.Elements.{All-nil, All-cons}
use Rattle.x7_part.specs.Address.{IsRow, row, no_row}
use Rattle.x7_part.specs.AddressOrder.{addresses, addresses_in}
use Rattle.x7_memory.specs.Plan.{IsPlanRow, PlanRow}
use Rattle.x7_boot.specs.Attempt.{RunsOut, BootAttempt, ending_at}
use Rattle.x7_part.specs.Slot.{slots, slots_in}
use Rattle.x7_effects.proofs.FormLemmas.{full_length}
use Rattle.x7_effects.proofs.PlannerLemmas.{full_same}
use Rattle.x7_boot.specs.Image.{free_slots, filled_to, first_sector, flash_limit, image_of, image_size, open_slot, slot, place_after_golden}
use Rattle.x7_update.specs.After.{IsBetweenSlots, MayBeLeft, between, spends, with_switch_word}
use Rattle.x7_update.specs.Layout.{IsUpdatable, IsOpen, four_at, open_switch, spent_switch, switch_of}
use Rattle.x7_update.proofs.CaseLemmas.{between_spent}
use Rattle.x7_recovery.specs.Recovery.{IsPrepared, updating_image}
use Rattle.x7_recovery.proofs.UpdatableLemmas.{image_prepared}
use Rattle.x7_recovery.proofs.FullAttemptLemmas.{full_stream_fits}
use Rattle.x7_recovery.proofs.SlotLemmas.{image_begins, image_fits, place_whole, sector_long, slot_long, update_after}
use Rattle.x7_recovery.specs.OpenBoot.{UpdateFails, kept_at_update}
use Rattle.x7_recovery.specs.OpenSlot.{image_of_flash}
use Rattle.x7_recovery.specs.PlannedImage.{HasImage, golden_image, place_after}
use Rattle.x7_boot.specs.declared.attempt.Ending.TheVariants as ending

-- the attempt at an update of no bytes: it has none, and fails by the flash's end
abbrev pub empty_attempt : PartData → PlanData → BootAttempt
empty_attempt part golden = record { kept = kept_at_update (place_after part golden / part.start_unit); address = place_after part golden; bytes = []; wrapped = true; ending = ending.Failed Wrap }

nothing_ends : (part : PartData) (start k : ℕ) → ending_at part (kept_at_update start) (take k []) ≡ None
nothing_ends part start zero = refl
nothing_ends part start (suc k) = refl

pub empty_fails : (part : PartData) (golden : PlanData) → drop (place_after part golden) (golden_image part golden []) ≡ [] → UpdateFails (image_of_flash part (golden_image part golden []) (place_after part golden)) (empty_attempt part golden) Wrap false
empty_fails part golden none =
    let start : ℕ = place_after part golden / part.start_unit in
    let t : BootAttempt = empty_attempt part golden in
    let out : RunsOut part [] t = record { none = λ k l. nothing_ends part start k; taken = refl; failed = refl; past_end = refl } in
    record {
      ended = record {
        is = inr (subst (λ (from : List ℕ). RunsOut part from t) (sym none) out);
        kept = refl;
        address = refl;
        ends = refl;
      };
      forbids = refl;
    }

-- the image with an update of no bytes ends where the update begins
drop_all : (n : ℕ) (xs : List ℕ) → length xs ≡ n → drop n xs ≡ []
drop_all n xs e = ap (λ (m : ℕ). drop m xs) (sym e) ∙ ap (drop (length xs)) (sym (append-nil xs)) ∙ drop-append_seam xs []

empty_ends : (unit : ℕ) (golden : List ℕ) → drop (place_after_golden (length golden)) (image_of unit golden []) ≡ []
unfolding image_of
empty_ends unit golden =
    let place : ℕ = place_after_golden (length golden) in
    let prefix : List ℕ = first_sector (place / unit) ++ golden in
    let filled : List ℕ = filled_to place prefix in
    let size : ℕ = image_size (length golden) 0 in
    let long : length prefix ≡ sector_size + length golden = length-append (first_sector (place / unit)) golden ∙ ap (λ (n : ℕ). n + length golden) (sector_long (place / unit)) in
    let count : length filled ≡ place = length-append prefix (replicate (place - length prefix) 255) ∙ omega (arith, length-replicate {A = ℕ} (place - length prefix) 255, long, update_after (length golden)) in
    let whole : place % sector_size ≡ 0 = place_whole (length golden) in
    let more : length (filled ++ []) ≡ place = ap length (append-nil filled) ∙ count in
    drop_all place (filled_to size (filled ++ []))
    (length-append (filled ++ []) (replicate (size - length (filled ++ [])) 255) ∙ omega (arith, length-replicate {A = ℕ} (size - length (filled ++ [])) 255, more, whole))

-- for every part and plan there is an update that fails, and forbids no fallback
pub some_update_fails : (part : PartData) (golden : PlanData) → UpdateFails (image_of_flash part (golden_image part golden []) (place_after part golden)) (empty_attempt part golden) Wrap false
some_update_fails part golden = empty_fails part golden (empty_ends part.start_unit (full_stream part golden))

is_row : (half : ℕ) → half ≤ 1 → IsRow (record { block = 0; half = half; row = 0; minors = 2 ∷ [] })
is_row half l = record { block = omega arith; half = l; row = omega arith; some = omega arith; columns = omega arith; minors = All-cons (λ n. (1 ≤ n) × (n ≤ 128)) 2 [] (omega arith, omega arith) (All-nil (λ n. (1 ≤ n) × (n ≤ 128))) }

frames_are : length (addresses_in tiny) ≡ 4
unfolding addresses
frames_are = refl

pub tiny_is : IsPart tiny
tiny_is = record {
  named = omega arith;
  short = omega arith;
  printed = All-cons (λ b. (0x21 ≤ b) × (b ≤ 0x7E)) 0x74 [] (omega arith, omega arith) (All-nil (λ b. (0x21 ≤ b) × (b ≤ 0x7E)));
  idcode = omega arith;
  odd = refl;
  mode = omega arith;
  bus_width = omega arith;
  lock = omega arith;
  matched = omega arith;
  words = (omega arith, omega arith);
  field_widths = record { minor = (omega arith, omega arith); column = (omega arith, omega arith); row = (omega arith, omega arith); half = refl; block = (omega arith, omega arith); sum = omega arith };
  start_unit = inl refl;
  some = omega arith;
  few = omega arith;
  rows = row tiny.field_widths 0 _ _ (omega arith) (is_row 0 (omega arith)) (row tiny.field_widths _ _ _ (omega arith) (is_row 1 (omega arith)) (no_row tiny.field_widths _));
  frames = omega (arith, frames_are);
  slots = omega (arith, frames_are);
}

pub plan_is : IsPlanFor tiny nothing_planned
plan_is = record { is_plan = record { order = λ i j d l k. absurd (omega (arith, k)); width = All-nil (λ (r : PlanRow). length r.words ≡ 101); each = All-nil IsPlanRow }; width = refl; addressed = All-nil (λ (r : PlanRow). Contains (addresses_in tiny) r.far) }

-- ---- an image of that part, prepared for an update, and one that a power loss leaves

slots_are : length (slots_in tiny) ≡ 8
unfolding slots addresses
slots_are = refl

full_long : (part : PartData) (plan : PlanData) → IsPart part → IsPlanFor part plan → length (full_stream part plan) ≡ 4 * (55 + part.frame_words * length (slots_in part))
full_long part plan is for = ap length (full_same part plan is for.is_plan for.width) ∙ full_length part plan for.is_plan for.width

pub tiny_image : HasImage tiny nothing_planned []
tiny_image =
    let whole : length (full_stream tiny nothing_planned) ≡ 4 * (55 + 101 * length (slots_in tiny)) = full_long tiny nothing_planned tiny_is plan_is in
    let long : length (full_stream tiny nothing_planned) ≡ 3452 = whole ∙ ap (λ (n : ℕ). 4 * (55 + 101 * n)) slots_are in
    record { is_part = tiny_is; plan = plan_is; fits = subst (λ (n : ℕ). image_size n 0 ≤ flash_limit) (sym long) (omega arith) }

pub tiny_prepared : (stream : List ℕ) → IsPrepared (updating_image tiny nothing_planned [] stream)
tiny_prepared stream = image_prepared tiny nothing_planned [] stream tiny_image refl

slot_begins : (start : ℕ) → four_at (open_slot start) 0 ≡ open_switch
unfolding slot
slot_begins start = refl

begins_open : (flash : List ℕ) (start : ℕ) → take flash_slot_size (drop 0 flash) ≡ open_slot start → four_at flash 0 ≡ open_switch
begins_open flash start e =
    let byte : (i : ℕ) → i < flash_slot_size → get_or flash i 0 ≡ get_or (open_slot start) i 0 = λ i h. sym (get_or-take flash_slot_size flash i 0 h) ∙ ap (λ (x : List ℕ). get_or x i 0) e in
    rw (byte 0 (omega arith), byte 1 (omega arith), byte 2 (omega arith), byte 3 (omega arith)) (slot_begins start)

pub left_torn : (part : PartData) (golden : PlanData) (update stream : List ℕ) → HasImage part golden update → AreBytes update → IsUpdatable (golden_image part golden update)
    → (found : List ℕ) × MayBeLeft stream (golden_image part golden update) found × (found ≢ golden_image part golden update)
left_torn part golden update stream image bytes l =
    let flash : List ℕ = golden_image part golden update in
    let place : ℕ = place_after part golden in
    let start : ℕ = place / part.start_unit in
    let b : (rest : List ℕ) × (flash ≡ (first_sector start ++ full_stream part golden) ++ rest) = image_begins part.start_unit (full_stream part golden) update in
    let begins : flash ≡ open_slot start ++ (free_slots start ++ (full_stream part golden ++ b.0)) = b.1 ∙ append_assoc (first_sector start) (full_stream part golden) b.0 ∙ append_assoc (open_slot start) (free_slots start) (full_stream part golden ++ b.0) in
    let stands : take flash_slot_size (drop 0 flash) ≡ open_slot start =
    ap (take flash_slot_size) begins ∙ ap (λ (n : ℕ). take n (open_slot start ++ (free_slots start ++ (full_stream part golden ++ b.0)))) (sym (slot_long 0xAA995566 start)) ∙ take-append_seam (open_slot start) (free_slots start ++ (full_stream part golden ++ b.0)) in
    let is : IsOpen flash 0 = begins_open flash start stands in
    let found : List ℕ = with_switch_word 0 spent_switch flash in
    let left : IsBetweenSlots flash found = between_spent flash found l.slots (spends 0 (omega arith) is refl) in
    let fits : AreBytes flash = image_fits part.start_unit (full_stream part golden) update (full_stream_fits part golden image.is_part image.plan) bytes in
    let spent : AreBytes spent_switch = (omega arith, (omega arith, (omega arith, (omega arith, tt)))) in
    (found, between l (bytes_replaced (flash_slot_size * 0) spent_switch flash spent fits) left, λ same. left.none_open 0 (omega arith) (ap (λ (x : List ℕ). switch_of x 0) same ∙ is))
