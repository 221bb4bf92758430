-- The words of slots, one slot more.
use Rattle.std.proofs.Common.{◌≡◌, ℕ, ◌+◌, ◌*◌, ◌^◌, ◌<◌, ◌≤◌, List, [], ◌∷◌, ◌++◌, length, take, drop, get_or, sym, ap, ap₂, ◌∙◌, arith, append_assoc, append-nil, length-append, length-take-le}
use Rattle.std.proofs.Math.Nat.{mul-le-mul_left}
use Rattle.std.proofs.Math.ListN.{drop_of_length-le}
use Rattle.std.proofs.lemmas.List.{drop-append-le, length-take, take_more}
use Rattle.std.proofs.lemmas.Grind.{flat_map-append}
use Rattle.std.specs.List.{flat_map}
use Rattle.x7_words.proofs.ListLemmas.{flat_map_last}
use Rattle.x7_words.specs.Word.{bytes_of_word}
use Rattle.x7_part.specs.AddressOrder.{addresses_in}
use Rattle.x7_part.specs.Limits.{most_frame_words, most_words}
use Rattle.x7_part.specs.Part.{PartData, frame_words}
use Rattle.x7_part.specs.Ranges.{IsPart}
use Rattle.x7_part.specs.Slot.{slots_in, from_address, pads_after_row}
use Rattle.x7_part.specs.declared.slot.Slot.{Slot}
use Rattle.x7_part.specs.declared.slot.Slot.TheVariants.{End}
use Rattle.std.specs.Prelude.{Contains}
use Rattle.x7_part.proofs.SlotLemmas.{slots_all, slots_number, slots_split}
use Rattle.x7_memory.specs.Plan.{PlanData}
use Rattle.x7_planner.specs.FullStream.{frame_at_slot, most_slots, words_of_slots}
use Rattle.x7_planner.specs.Writer.{bytes_of_words}

-- words written in two parts
pub written_on : (old mid new xs ys : List ℕ) → mid ≡ old ++ bytes_of_words xs → new ≡ mid ++ bytes_of_words ys → new ≡ old ++ bytes_of_words (xs ++ ys)
written_on old mid new xs ys e f = f ∙ ap (λ t. t ++ bytes_of_words ys) e ∙ append_assoc old (bytes_of_words xs) (bytes_of_words ys) ∙ ap (λ t. old ++ t) (sym (flat_map-append bytes_of_word xs ys))

-- the last packet by its words, and a packet before others
pub last_packet : {p q : List ℕ} → p ≡ q → p ∷ [] ≡ q ∷ []
last_packet e = ap (λ (p : List ℕ). p ∷ []) e

pub and_packet : {p q : List ℕ} {ps qs : List (List ℕ)} → p ≡ q → ps ≡ qs → p ∷ ps ≡ q ∷ qs
and_packet e f = ap₂ (λ (p : List ℕ) (ps : List (List ℕ)). p ∷ ps) e f

-- packets written, by their words
pub packets_written : (old new : List ℕ) {packets named : List (List ℕ)} → packets ≡ named → new ≡ old ++ bytes_of_words (flat_map (λ packet. packet) packets) → new ≡ old ++ bytes_of_words (flat_map (λ packet. packet) named)
packets_written old new e h = h ∙ ap (λ (t : List (List ℕ)). old ++ bytes_of_words (flat_map (λ packet. packet) t)) e

pub all_slots : (part : PartData) (first n : ℕ) → IsPart part → first ≡ get_or (addresses_in part) 0 0 → from_address first (slots_in part) ≡ slots_in part
all_slots part first n is e = ap (λ (a : ℕ). from_address a (slots_in part)) e ∙ slots_all part is

pub slot_more : (part : PartData) (plan : PlanData) (old mid new : List ℕ) (start n : ℕ) (s : Slot) → start ≤ n → n < length (slots_in part) → s ≡ get_or (slots_in part) n End
    → mid ≡ old ++ bytes_of_words (words_of_slots part plan (drop start (take n (slots_in part)))) → new ≡ mid ++ bytes_of_words (frame_at_slot part plan s)
    → new ≡ old ++ bytes_of_words (words_of_slots part plan (drop start (take (n + 1) (slots_in part))))
slot_more part plan old mid new start n s le h e f g =
    let places = slots_in part in
    let long : length (take n places) ≡ n = length-take-le n places (omega (arith, h)) in
    let one : drop start (take (n + 1) places) ≡ drop start (take n places) ++ s ∷ [] =
    ap (drop start) (take_more places n End h) ∙ ap (λ (x : Slot). drop start (take n places ++ x ∷ [])) (sym e) ∙ drop-append-le start (take n places) (s ∷ []) (omega (arith, long, le)) in
    written_on old mid new (words_of_slots part plan (drop start (take n places))) (frame_at_slot part plan s) f g
    ∙ ap (λ t. old ++ bytes_of_words t) (sym (flat_map_last (frame_at_slot part plan) (drop start (take n places)) s) ∙ ap (words_of_slots part plan) (sym one))

-- the words of no slot add nothing
pub slots_none : (part : PartData) (plan : PlanData) (old : List ℕ) (start : ℕ) → old ≡ old ++ bytes_of_words (words_of_slots part plan (drop start (take start (slots_in part))))
slots_none part plan old start =
    sym (ap (λ (t : List Slot). old ++ bytes_of_words (words_of_slots part plan t)) (drop_of_length-le (take start (slots_in part)) (omega (arith, length-take start (slots_in part)))) ∙ append-nil old)

-- n is the number of a part's slots, `most_slots` at most, of `w` words each, `most_words` together at most
pub record IsFew (part : PartData) (w n : ℕ) : Type 0 where
  pub words : w * n ≤ most_words
  pub count : n ≡ length (slots_in part)
  pub most : n ≤ most_slots

pub few_slots : (part : PartData) (first w n : ℕ) → IsPart part → get_or (addresses_in part) 0 0 ≡ first → w ≡ frame_words part → n ≡ length (from_address first (slots_in part)) → IsFew part w n
few_slots part first w n is f e g =
    let count : n ≡ length (slots_in part) = g ∙ ap length (all_slots part first n is (sym f)) in
    let same : w * n ≡ frame_words part * (length (addresses_in part) + pads_after_row * length part.rows) = ap (λ (k : ℕ). k * n) e ∙ ap (λ (k : ℕ). frame_words part * k) (count ∙ slots_number part) in
    record { words = omega (arith, same, is.slots); count = count; most = omega (arith, count, slots_number part, is.frames, is.few) }

-- a readback of n slots has fewer than 2^27 words, its frame of zeros too
pub read_fits : (part : PartData) (address w n : ℕ) → IsPart part → Contains (addresses_in part) address → w ≤ most_frame_words → n ≤ length (from_address address (slots_in part)) → (n ≤ most_slots) × (w * (n + 1) < 2 ^ 27)
read_fits part address w n is has narrow within =
    let split = slots_split part address has in
    let long : length (slots_in part) ≡ length split.0 + length (from_address address (slots_in part)) = ap length split.1 ∙ length-append split.0 (from_address address (slots_in part)) in
    let few : n ≤ most_slots = omega (arith, long, slots_number part, is.frames, is.few, within) in
    let turned : (n + 1) * w ≤ (n + 1) * most_frame_words = mul-le-mul_left (n + 1) narrow in
    let most : w * (n + 1) ≤ most_frame_words * (n + 1) = omega (arith, turned) in
    (few, omega (arith, most, few))
