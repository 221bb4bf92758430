-- The laws of runs, FAR, readback and faults.
use Rattle.std.proofs.Common.{◌↔◌, ◌≡◌, ℕ, zero, suc, ◌+◌, ◌-◌, ◌*◌, ◌/◌, ◌%◌, ◌<◌, ◌≤◌, ◌==◌, ◌&&◌, nat_le, inl, inr, Bool, true, false, List, [], ◌∷◌, ◌++◌, length, get_or, drop, map, min, max, reverse, Option, Some, None, unwrap_or, is_some, refl, sym, ap, ◌∙◌, arith, length-append, append_assoc, append-nil, if◌then◌else◌, eq-eqb, ne_eqb}
use Rattle.std.specs.List.{flat_map, zip, filter_map}
use Rattle.std.proofs.lemmas.Bool.{cases_eq, cases_lt, ltb-true, leb-true, eqb-true, and_parts, le-leb, and_right}
use Rattle.std.proofs.lemmas.Grind.{reverse_onto}
use Rattle.std.proofs.lemmas.Option.{none-some, same_Some}
use Rattle.std.proofs.lemmas.List.{length-reverse, drop_all, drop_more, get_or_past}
use Rattle.std.proofs.lemmas.List.Elements.{All-nil, All-cons}
use Rattle.std.proofs.Math.Nat.{le-div_iff_mul-le, zero-div}
use Rattle.std.proofs.lemmas.Nat.{div-mul-add, mod-mul-add}
use Rattle.x7_words.proofs.ListLemmas.{flat_map_last}
use Rattle.x7_part.specs.Part.{FieldWidths, RowData, PartData, frame_words}
use Rattle.x7_part.specs.AddressOrder.{addresses_of}
use Rattle.x7_part.specs.Slot.{slots, slots_in, from_address, slots_from}
use Rattle.x7_part.specs.declared.slot.Slot.{Slot}
use Rattle.x7_part.specs.declared.slot.Slot.TheVariants.{Frame, Pad, End}
use Rattle.x7_memory.specs.FrameMap.{FrameMap, HaveSameFrames, override}
use Rattle.x7_memory.specs.Plan.{PlanRow, planned}
use Rattle.x7_memory.proofs.MapLemmas.{override_twice, override_same, planned_joined}
use Rattle.x7_regs.specs.declared.command.Command.{Command}
use Rattle.x7_pipeline.specs.declared.fault.RunFault.{RunFault}
use Rattle.x7_pipeline.specs.declared.fault.RunFault.TheVariants.{Address, Overrun, Multi}
use Rattle.x7_pipeline.specs.Runs.{rest_of, frames_of, at_slot, in_slots, older_frames, written_frames, put_over, Lands}
use Rattle.x7_pipeline.specs.RunsInWords.{AreCutFrom, FarStandsAt, pair_of, place_in}
use Rattle.x7_pipeline.specs.FarAsRead.{is_frame_address, first_address, last_address, far_at, far_of}
use Rattle.x7_regs.specs.declared.command.Command.TheVariants.{Wcfg, Mfw}
use Rattle.x7_pipeline.specs.Copies.{is_wcfg, is_mfw, newest_of, source_after}
use Rattle.x7_pipeline.specs.Readback.{word_at, readback_at, readback_end, given_stored}
use Rattle.x7_pipeline.specs.Fault.{address_fault, completes, has_filled, write_fault, copy_fault, readback_fault}
use Rattle.x7_pipeline.specs.Pipeline.{PipelineData}
use Rattle.x7_pipeline.specs.Flow.{Flow, HoldsFlow}
use Rattle.x7_pipeline.proofs.RunLemmas.{rest_goes_on, rest_completes, frames_completes, length_run}
use Rattle.x7_pipeline.proofs.SlotLemmas.{no_slots}
use Rattle.x7_pipeline.proofs.FarLemmas.{far_at_none, far_at_some, far_stands}
use Rattle.x7_pipeline.proofs.ReadLemmas.{read_slot_pad, read_slot_frame, commute}

-- ---- a run is its whole frames and a rest

pub reverse_cons : {X : Type 0} → (x : X) (xs : List X) → reverse (x ∷ xs) ≡ reverse xs ++ x ∷ []
reverse_cons x xs = reverse_onto xs x []

pub cut : (width : ℕ) (run : List ℕ) → 0 < width → AreCutFrom width run (frames_of width run) (rest_of width run)
unfolding rest_of frames_of
cut width [] some = record { joined = refl; each = All-nil (λ (frame : List ℕ). length frame ≡ width); short = some }
cut width (w ∷ run) some =
    let ih : AreCutFrom width run (frames_of width run) (rest_of width run) = cut width run some in
    let joined : reverse (w ∷ run) ≡ flat_map (λ (frame : List ℕ). frame) (reverse (frames_of width run)) ++ (rest_of width run ++ w ∷ []) =
    reverse_cons w run ∙ ap (λ t. t ++ w ∷ []) ih.joined ∙ append_assoc (flat_map (λ (frame : List ℕ). frame) (reverse (frames_of width run))) (rest_of width run) (w ∷ []) in
    let long = length-append (rest_of width run) (w ∷ []) in
    let short = ih.short in
    elim (cases_eq (length (rest_of width run) + 1) width) [
      | inl e ↦ rw (eq-eqb (length (rest_of width run) + 1) width e) (record {
        joined = joined ∙ sym (append-nil _ ∙ ap (flat_map (λ (frame : List ℕ). frame)) (reverse_cons (rest_of width run ++ w ∷ []) (frames_of width run))
            ∙ flat_map_last (λ (frame : List ℕ). frame) (reverse (frames_of width run)) (rest_of width run ++ w ∷ []));
        each = All-cons (λ (frame : List ℕ). length frame ≡ width) (rest_of width run ++ w ∷ []) (frames_of width run) (omega arith) ih.each;
        short = some;
      })
      | inr n ↦ rw (ne_eqb (length (rest_of width run) + 1) width n) (record { joined = joined; each = ih.each; short = omega arith })
    ]

-- ---- the written pairs are frames with slots, those at pads left out

pub zip_nil : (places : List Slot) → zip {K = Slot} {X = List ℕ} places [] ≡ []
zip_nil [] = refl
zip_nil (p ∷ places) = refl

paired_more : (places : List Slot) (frames : List (List ℕ)) (frame : List ℕ) →
    filter_map pair_of (zip places (frames ++ frame ∷ [])) ≡ filter_map pair_of (zip places frames) ++ at_slot (get_or places (length frames) End) frame []
paired_more [] [] frame = refl
paired_more [] (f ∷ frames) frame = refl
paired_more (Frame far ∷ places) [] frame = ap (λ t. record { far = far; words = frame } ∷ filter_map pair_of t) (zip_nil places)
paired_more (Pad ∷ places) [] frame = ap (filter_map pair_of) (zip_nil places)
paired_more (End ∷ places) [] frame = ap (filter_map pair_of) (zip_nil places)
paired_more (Frame far ∷ places) (f ∷ frames) frame = ap (λ t. record { far = far; words = f } ∷ t) (paired_more places frames frame)
paired_more (Pad ∷ places) (f ∷ frames) frame = paired_more places frames frame
paired_more (End ∷ places) (f ∷ frames) frame = paired_more places frames frame

reverse_at : (slot : Slot) (frame : List ℕ) (pairs : List PlanRow) → reverse (at_slot slot frame pairs) ≡ reverse pairs ++ at_slot slot frame []
reverse_at (Frame far) frame pairs = reverse_cons (record { far = far; words = frame }) pairs
reverse_at Pad frame pairs = sym (append-nil (reverse pairs))
reverse_at End frame pairs = sym (append-nil (reverse pairs))

in_order : (places : List Slot) (frames : List (List ℕ)) → reverse (in_slots places frames) ≡ filter_map pair_of (zip places (reverse frames))
unfolding in_slots
in_order [] [] = refl
in_order (p ∷ places) [] = refl
in_order places (frame ∷ older) =
    reverse_at (get_or places (length older) End) frame (in_slots places older)
    ∙ ap (λ t. t ++ at_slot (get_or places (length older) End) frame []) (in_order places older)
    ∙ ap (λ n. filter_map pair_of (zip places (reverse older)) ++ at_slot (get_or places n End) frame []) (sym (length-reverse older))
    ∙ sym (paired_more places (reverse older) frame)
    ∙ ap (λ t. filter_map pair_of (zip places t)) (sym (reverse_cons frame older))

pub landed_in_order : (part : PartData) (base : ℕ) (run : List ℕ) →
    reverse (written_frames part base run) ≡ filter_map pair_of (zip (slots_from part base) (reverse (older_frames (frames_of (frame_words part) run))))
unfolding written_frames
landed_in_order part base run = in_order (slots_from part base) (older_frames (frames_of (frame_words part) run))

pub landed_empty : (part : PartData) (base : ℕ) → written_frames part base [] ≡ []
unfolding written_frames frames_of in_slots
landed_empty part base = refl

nothing_lands : (places : List Slot) (frames : List (List ℕ)) → length places ≡ 0 → in_slots places frames ≡ []
unfolding in_slots
nothing_lands places [] none = refl
nothing_lands places (frame ∷ older) none =
    ap (λ slot. at_slot slot frame (in_slots places older)) (get_or_past places (length older) End (omega arith)) ∙ nothing_lands places older none

pub landed_nowhere : (part : PartData) (base : ℕ) (run : List ℕ) → is_frame_address part base ≡ false → written_frames part base run ≡ []
unfolding written_frames
landed_nowhere part base run f = nothing_lands (slots_from part base) (older_frames (frames_of (frame_words part) run)) (no_slots part base f)

-- ---- what a memory gets

pub lands_none : (part : PartData) (base : ℕ) (run : List ℕ) (old new : FrameMap) → HaveSameFrames new old → Lands part base run run old new
unfolding planned
lands_none part base run old new same = record { added = []; grows = refl; memory = same }

pub put_twice : (first second : List PlanRow) (old middle new : FrameMap) → HaveSameFrames middle (put_over first old) → HaveSameFrames new (put_over second middle) → HaveSameFrames new (put_over (second ++ first) old)
put_twice first second old middle new m n far =
    n far
    ∙ override_same middle (put_over first old) (planned second) (planned second) m (λ a. refl) far
    ∙ override_twice old (planned first) (planned second) far
    ∙ override_same old old (override (planned first) (planned second)) (planned (second ++ first)) (λ a. refl) (λ a. sym (planned_joined second first a)) far

pub lands_more : (part : PartData) (base : ℕ) (run longer longest : List ℕ) (old middle new : FrameMap) → Lands part base run longer old middle → Lands part base longer longest middle new → Lands part base run longest old new
lands_more part base run longer longest old middle new first second = record {
  added = second.added ++ first.added;
  grows = second.grows ∙ ap (λ t. second.added ++ t) first.grows ∙ sym (append_assoc second.added first.added (written_frames part base run));
  memory = put_twice first.added second.added old middle new first.memory second.memory;
}

pub lands_over : (part : PartData) (base : ℕ) (run longer : List ℕ) (under old new : FrameMap) → Lands part base run longer old new → HaveSameFrames old (put_over (written_frames part base run) under) → HaveSameFrames new (put_over (written_frames part base longer) under)
lands_over part base run longer under old new l m = rw l.grows (put_twice (written_frames part base run) l.added under old new m l.memory)

-- ---- FAR as read

first_from : (far : ℕ) (places : List Slot) → 0 < length (from_address far places) → first_address (from_address far places) ≡ Some far
first_from far [] h = absurd (omega arith)
first_from far (Frame a ∷ places) h =
    elim (cases_eq a far) [
      | inl y ↦ rw (eq-eqb a far y) (ap Some y)
      | inr x ↦ rw (ne_eqb a far x) (first_from far places (rw (ne_eqb a far x) at h))
    ]
first_from far (Pad ∷ places) h = first_from far places h
first_from far (End ∷ places) h = first_from far places h

loaded_at : (part : PartData) (base : ℕ) (b : Bool) → is_frame_address part base ≡ b → far_at part base 0 ≡ base
loaded_at part base true t =
    far_at_some part base 0 t ∙ ap (λ o. unwrap_or o (last_address part)) (first_from base (slots_in part) (ltb-true 0 (length (slots_from part base)) t))
loaded_at part base false f = sym (far_at_none part base 0 f)

pub far_loaded : (part : PartData) (base : ℕ) → far_of part base [] 0 ≡ base
unfolding far_of frames_of
far_loaded part base = ap (far_at part base) (let z = nothing_divided (frame_words part) in let e : max 0 (0 / frame_words part) - 1 ≡ 0 = omega arith in e) ∙ loaded_at part base (is_frame_address part base) refl
  where
    nothing_divided : (w : ℕ) → 0 / w ≡ 0
    nothing_divided w = zero-div w

pub far_nowhere : (part : PartData) (base : ℕ) (run : List ℕ) (given : ℕ) → is_frame_address part base ≡ false → far_of part base run given ≡ base
unfolding far_of
far_nowhere part base run given f = sym (far_at_none part base (max (length (frames_of (frame_words part) run)) (given / frame_words part) - 1) f)

-- this many whole frames are in this many words
whole_count : (width count rest : ℕ) → rest < width → (width * count + rest) / width ≡ count
whole_count width count rest h = ap (λ x. x / width) (let e : width * count + rest ≡ count * width + rest = grind (arith) in e) ∙ div-mul-add count width rest h

frames_cut : (width count rest : ℕ) (run : List ℕ) → length run ≡ width * count + rest → rest < width → length (frames_of width run) ≡ count
frames_cut width count rest run e h =
    let short : length (rest_of width run) < width = (cut width run (omega arith)).short in
    sym (whole_count width (length (frames_of width run)) (length (rest_of width run)) short) ∙ ap (λ x. x / width) (sym (length_run width run) ∙ e) ∙ whole_count width count rest h

pub far_written : (part : PartData) (base count rest : ℕ) (run : List ℕ) → is_frame_address part base ≡ true → length run ≡ place_in part count rest → rest < frame_words part → FarStandsAt part base count (far_of part base run 0)
unfolding far_of
far_written part base count rest run t e h =
    let frames : length (frames_of (frame_words part) run) ≡ 1 + count = frames_cut (frame_words part) (1 + count) rest run e h in
    let none : 0 / frame_words part ≡ 0 = zero-div (frame_words part) in
    let at : max (length (frames_of (frame_words part) run)) (0 / frame_words part) - 1 ≡ count = omega arith in
    rw at (far_stands part base count t)

pub far_given : (part : PartData) (base count rest : ℕ) → is_frame_address part base ≡ true → rest < frame_words part → FarStandsAt part base count (far_of part base [] (place_in part count rest))
unfolding far_of frames_of
far_given part base count rest t h =
    let given : place_in part count rest / frame_words part ≡ 1 + count = whole_count (frame_words part) (1 + count) rest h in
    let at : max 0 (place_in part count rest / frame_words part) - 1 ≡ count = omega arith in
    rw at (far_stands part base count t)

none_whole : (width n : ℕ) → n < width → n ≡ width * 0 + n
none_whole width n h = grind (arith)

pub far_begun : (part : PartData) (base given : ℕ) (run : List ℕ) → length run < frame_words part → given < frame_words part → far_of part base run given ≡ base
unfolding far_of
far_begun part base given run r g =
    let width : ℕ = frame_words part in
    let frames : length (frames_of width run) ≡ 0 = frames_cut width 0 (length run) run (none_whole width (length run) r) r in
    let pads : given / width ≡ 0 = ap (λ x. x / width) (none_whole width given g) ∙ whole_count width 0 given g in
    let at : max (length (frames_of width run)) (given / width) - 1 ≡ 0 = omega arith in
    ap (far_at part base) at ∙ loaded_at part base (is_frame_address part base) refl

many_frames : (part : PartData) (base given : ℕ) → 0 < frame_words part → readback_end part base ≤ given → 1 + length (slots_from part base) ≤ given / frame_words part
unfolding readback_end
many_frames part base given some h =
    (le-div_iff_mul-le {k = frame_words part} {x = 1 + length (slots_from part base)} {y = given} some).1
    (commute (frame_words part) (1 + length (slots_from part base)) given h)

pub far_last : (part : PartData) (base : ℕ) (run : List ℕ) (given : ℕ) → 0 < frame_words part → is_frame_address part base ≡ true → readback_end part base ≤ given → far_of part base run given ≡ last_address part
unfolding far_of
far_last part base run given some t h =
    let many = many_frames part base given some h in
    let place = max (length (frames_of (frame_words part) run)) (given / frame_words part) - 1 in
    far_at_some part base place t
    ∙ ap (λ places. unwrap_or (first_address places) (last_address part)) (drop_all place (slots_from part base) (omega arith))

-- ---- readback

pub read_pad_frame : (part : PartData) (base : ℕ) (memory : FrameMap) (i : ℕ) → i < frame_words part → readback_at part base memory i ≡ 0
unfolding readback_at
read_pad_frame part base memory i h = ap (λ slot. word_at slot memory (i % frame_words part)) (read_slot_pad part base i h)

divided : (w n i : ℕ) → i < w → ((w * (1 + n) + i) / w ≡ 1 + n) × ((w * (1 + n) + i) % w ≡ i)
divided w n i h =
    let e : w * (1 + n) + i ≡ (1 + n) * w + i = grind (arith) in
    (ap (λ x. x / w) e ∙ div-mul-add (1 + n) w i h, ap (λ x. x % w) e ∙ mod-mul-add (1 + n) w i h)

pub read_frames : (part : PartData) (base : ℕ) (memory : FrameMap) (n i : ℕ) → i < frame_words part →
    readback_at part base memory (frame_words part * (1 + n) + i) ≡ word_at (get_or (slots_from part base) n End) memory i
unfolding readback_at
read_frames part base memory n i h =
    let d = divided (frame_words part) n i h in
    let place : (frame_words part * (1 + n) + i) / frame_words part - 1 ≡ n = omega (arith, d.0) in
    ap (λ slot. word_at slot memory ((frame_words part * (1 + n) + i) % frame_words part)) (read_slot_frame part base (frame_words part * (1 + n) + i) (λ z. omega (arith, d.0)))
    ∙ ap (λ k. word_at (get_or (slots_from part base) k End) memory ((frame_words part * (1 + n) + i) % frame_words part)) place
    ∙ ap (word_at (get_or (slots_from part base) n End) memory) d.1

pub stored_more : (part : PartData) (base given n : ℕ) → given_stored part base (given + n) ≡ min (given_stored part base given + n) (readback_end part base)
stored_more part base given n = lesser given n (readback_end part base)
  where
    lesser : (g n limit : ℕ) → min (g + n) limit ≡ min (min g limit + n) limit
    lesser g n limit = omega arith

-- ---- the slots end with a pad

EndsInPad : List Slot → Type 0
EndsInPad places = (i far : ℕ) → length places ≤ i + 1 → get_or places i End ≡ Frame far → ⊥

ends_appended : (prefix back : List Slot) → 0 < length back → EndsInPad back → EndsInPad (prefix ++ back)
unfolding EndsInPad
ends_appended [] back some ends i far h e = ends i far h e
ends_appended (p ∷ prefix) back some ends zero far h e = let long = length-append prefix back in omega arith
ends_appended (p ∷ prefix) back some ends (suc i) far h e = ends_appended prefix back some ends i far (omega arith) e

two_pads : (tail : List Slot) → EndsInPad tail → EndsInPad (Pad ∷ Pad ∷ tail)
unfolding EndsInPad
two_pads tail ends zero far h e = cc
two_pads tail ends (suc zero) far h e = cc
two_pads tail ends (suc (suc i)) far h e = ends i far (omega arith) e

slots_end : (widths : FieldWidths) (rows : List RowData) → EndsInPad (slots widths rows)
unfolding EndsInPad slots
slots_end widths [] i far h e = cc
slots_end widths (r ∷ rows) i far h e =
    let tail : List Slot = slots widths rows in
    let same : map Frame (addresses_of widths r) ++ (Pad ∷ Pad ∷ tail) ≡ slots widths (r ∷ rows) = sym (append_assoc (map Frame (addresses_of widths r)) (Pad ∷ Pad ∷ []) tail) in
    ends_appended (map Frame (addresses_of widths r)) (Pad ∷ Pad ∷ tail) (omega arith) (two_pads tail (slots_end widths rows)) i far (rw same h) (rw same e)

from_end : (base : ℕ) (places : List Slot) → EndsInPad places → EndsInPad (from_address base places)
unfolding EndsInPad
from_end base [] ends = ends
from_end base (Frame a ∷ places) ends =
    elim (cases_eq a base) [
      | inl y ↦ rw (eq-eqb a base y) ends
      | inr x ↦ rw (ne_eqb a base x) (from_end base places (λ i far h e. ends (suc i) far (omega arith) e))
    ]
from_end base (Pad ∷ places) ends = from_end base places (λ i far h e. ends (suc i) far (omega arith) e)
from_end base (End ∷ places) ends = from_end base places (λ i far h e. ends (suc i) far (omega arith) e)

last_slot : (part : PartData) (base i far : ℕ) → length (slots_from part base) ≤ i + 1 → get_or (slots_from part base) i End ≡ Frame far → ⊥
unfolding EndsInPad
last_slot part base = from_end base (slots_in part) (slots_end part.field_widths part.rows)

-- ---- faults

at_no_frame : (slot : Slot) (words : List ℕ) (pairs : List PlanRow) → ((far : ℕ) → slot ≡ Frame far → ⊥) → at_slot slot words pairs ≡ pairs
at_no_frame (Frame far) words pairs none = absurd (none far refl)
at_no_frame Pad words pairs none = refl
at_no_frame End words pairs none = refl

no_address : (part : PartData) (base : ℕ) (fault : RunFault) → address_fault part base ≡ Some fault → (is_frame_address part base ≡ false) × (fault ≡ Address base)
unfolding address_fault
no_address part base fault e = by (is_frame_address part base) e
  where
    by : (b : Bool) → (if b then None else Some (Address base)) ≡ Some fault → (b ≡ false) × (fault ≡ Address base)
    by true e = absurd (none-some fault e)
    by false e = (refl, sym (same_Some _ _ e))

past_slots : (part : PartData) (base v : ℕ) (run : List ℕ) (fault : RunFault) → write_fault part base (v ∷ run) ≡ Some fault →
    (length (rest_of (frame_words part) (v ∷ run)) + 1 ≡ frame_words part) × (length (slots_from part base) ≤ length (frames_of (frame_words part) (v ∷ run))) × (fault ≡ Overrun)
unfolding write_fault
past_slots part base v run fault e = by (length (rest_of (frame_words part) (v ∷ run)) + 1) (frame_words part) (length (slots_from part base)) (length (frames_of (frame_words part) (v ∷ run))) e
  where
    test : (b : Bool) → (if b then Some Overrun else None) ≡ Some fault → (b ≡ true) × (fault ≡ Overrun)
    test true e = (refl, sym (same_Some _ _ e))
    test false e = absurd (none-some fault e)

    by : (a b m n : ℕ) → (if (a == b) && nat_le m n then Some Overrun else None) ≡ Some fault → (a ≡ b) × (m ≤ n) × (fault ≡ Overrun)
    by a b m n e = let t = test ((a == b) && nat_le m n) e in let parts = and_parts (a == b) (nat_le m n) t.0 in (eqb-true a b parts.0, leb-true m n parts.1, t.1)

at_newest : (places : List Slot) (frames : List (List ℕ)) → length places ≤ length frames → ((i far : ℕ) → length places ≤ i + 1 → get_or places i End ≡ Frame far → ⊥) → in_slots places frames ≡ in_slots places (older_frames frames)
unfolding in_slots
at_newest places [] h ends = refl
at_newest places (frame ∷ older) h ends = at_no_frame (get_or places (length older) End) frame (in_slots places older) (λ far. ends (length older) far (omega arith))

-- a refused word would land nothing
pub refused_landed : (part : PartData) (base : ℕ) (run : List ℕ) (word : ℕ) (fault : RunFault) → write_fault part base run ≡ Some fault → written_frames part base (word ∷ run) ≡ written_frames part base run
unfolding write_fault written_frames
refused_landed part base [] word fault e =
    let f = (no_address part base fault e).0 in landed_nowhere part base (word ∷ []) f ∙ sym (landed_nowhere part base [] f)
refused_landed part base (v ∷ run) word fault e =
    let p = past_slots part base v run fault e in
    ap (λ frames. in_slots (slots_from part base) (older_frames frames)) (frames_completes (frame_words part) word (v ∷ run) p.0)
    ∙ at_newest (slots_from part base) (frames_of (frame_words part) (v ∷ run)) p.1 (last_slot part base)

none_after : (places : List Slot) (i : ℕ) → length places ≤ i + 1 → ((i far : ℕ) → length places ≤ i + 1 → get_or places i End ≡ Frame far → ⊥) → first_address (drop i places) ≡ None
none_after places i h ends =
    elim (cases_lt i (length places)) [
      | inl low ↦ ap first_address (drop_more places i End low ∙ ap (λ t. get_or places i End ∷ t) (drop_all (i + 1) places h)) ∙ no_frame (get_or places i End) (λ far. ends i far h)
      | inr past ↦ ap first_address (drop_all i places past)
    ]
  where
    no_frame : (slot : Slot) → ((far : ℕ) → slot ≡ Frame far → ⊥) → first_address (slot ∷ []) ≡ None
    no_frame (Frame far) none = absurd (none far refl)
    no_frame Pad none = refl
    no_frame End none = refl

far_at_end : (part : PartData) (base i j : ℕ) (b : Bool) → is_frame_address part base ≡ b → length (slots_from part base) ≤ i + 1 → length (slots_from part base) ≤ j + 1 → far_at part base i ≡ far_at part base j
far_at_end part base i j false f h k = sym (far_at_none part base i f) ∙ far_at_none part base j f
far_at_end part base i j true t h k =
    far_at_some part base i t ∙ ap (λ o. unwrap_or o (last_address part)) (none_after (slots_from part base) i h (last_slot part base) ∙ sym (none_after (slots_from part base) j k (last_slot part base)))
    ∙ sym (far_at_some part base j t)

-- a refused word would leave FAR as it is
pub refused_far : (part : PartData) (base : ℕ) (run : List ℕ) (word given : ℕ) (fault : RunFault) → write_fault part base run ≡ Some fault → far_of part base (word ∷ run) given ≡ far_of part base run given
unfolding write_fault far_of
refused_far part base [] word given fault e =
    let f = (no_address part base fault e).0 in far_nowhere part base (word ∷ []) given f ∙ sym (far_nowhere part base [] given f)
refused_far part base (v ∷ run) word given fault e =
    let p = past_slots part base v run fault e in
    let more = ap length (frames_completes (frame_words part) word (v ∷ run) p.0) in
    let enough = p.1 in
    far_at_end part base (max (length (frames_of (frame_words part) (word ∷ v ∷ run))) (given / frame_words part) - 1) (max (length (frames_of (frame_words part) (v ∷ run))) (given / frame_words part) - 1)
    (is_frame_address part base) refl (omega arith) (omega arith)

-- Overrun is the completion of a frame that has no slot
pub overrun_is : (part : PartData) (base word v : ℕ) (run : List ℕ) → (write_fault part base (v ∷ run) ≡ Some Overrun)
    ↔ ((rest_of (frame_words part) (word ∷ v ∷ run) ≡ []) × (length (slots_from part base) < length (frames_of (frame_words part) (word ∷ v ∷ run))))
unfolding write_fault
overrun_is part base word v run = (over, back)
  where
    over : write_fault part base (v ∷ run) ≡ Some Overrun → (rest_of (frame_words part) (word ∷ v ∷ run) ≡ []) × (length (slots_from part base) < length (frames_of (frame_words part) (word ∷ v ∷ run)))
    over e =
        let p = past_slots part base v run Overrun e in
        let more = ap length (frames_completes (frame_words part) word (v ∷ run) p.0) in
        let enough = p.1 in
        (rest_completes (frame_words part) word (v ∷ run) p.0, omega arith)

    back : (rest_of (frame_words part) (word ∷ v ∷ run) ≡ []) × (length (slots_from part base) < length (frames_of (frame_words part) (word ∷ v ∷ run))) → write_fault part base (v ∷ run) ≡ Some Overrun
    back h =
        elim (cases_eq (length (rest_of (frame_words part) (v ∷ run)) + 1) (frame_words part)) [
          | inl full ↦
              let more = ap length (frames_completes (frame_words part) word (v ∷ run) full) in
              let past = h.1 in
              let whole : completes part (v ∷ run) ≡ true = eq-eqb (length (rest_of (frame_words part) (v ∷ run)) + 1) (frame_words part) full in
              let filled : has_filled part base (v ∷ run) ≡ true = le-leb (length (slots_from part base)) (length (frames_of (frame_words part) (v ∷ run))) (omega arith) in
              rw (whole, filled) refl
          | inr n ↦
              let none = ap length (sym (rest_goes_on (frame_words part) word (v ∷ run) n) ∙ h.0) in
              let long = length-append (rest_of (frame_words part) (v ∷ run)) (word ∷ []) in absurd (omega arith)
        ]

pub write_no_multi : (part : PartData) (base : ℕ) (run : List ℕ) → write_fault part base run ≡ Some Multi → ⊥
unfolding write_fault
write_no_multi part base [] e = let f = (no_address part base Multi e).1 in cc
write_no_multi part base (v ∷ run) e = let f = (past_slots part base v run Multi e).2 in cc

pub copy_no_overrun : (part : PartData) (command : Command) (base : ℕ) (source : Option (List ℕ)) → copy_fault part command base source ≡ Some Overrun → ⊥
unfolding copy_fault
copy_no_overrun part command base source e = by (is_mfw command && is_some source) e
  where
    by : (b : Bool) → (if b then address_fault part base else Some Multi) ≡ Some Overrun → ⊥
    by true e = let f = (no_address part base Overrun e).1 in cc
    by false e = let f = same_Some _ _ e in cc

pub read_address : (part : PartData) (base given : ℕ) (fault : RunFault) → readback_fault part base given ≡ Some fault → fault ≡ Address base
unfolding readback_fault
read_address part base given fault e = by (given == 0) e
  where
    by : (b : Bool) → (if b then address_fault part base else None) ≡ Some fault → fault ≡ Address base
    by true e = (no_address part base fault e).1
    by false e = absurd (none-some fault e)

-- ---- the source of copies

-- only MFW leaves a source
pub no_source : (part : PartData) (old new : Command) (run : List ℕ) → is_mfw new ≡ false → source_after part old new run ≡ None
unfolding source_after
no_source part old new run f = rw (and_right (is_wcfg old) (is_mfw new) f) refl

pub taken_source : (part : PartData) (run : List ℕ) → source_after part Wcfg Mfw run ≡ newest_of (frames_of (frame_words part) run)
unfolding source_after
taken_source part run = refl

pub other_source : (part : PartData) (old new : Command) (run : List ℕ) → is_wcfg old ≡ false → source_after part old new run ≡ None
unfolding source_after
other_source part old new run f = rw f refl

-- ---- one pipeline

same_fields : (p q : PipelineData) → p.width ≡ q.width → p.far_width ≡ q.far_width → p.command ≡ q.command → p.base ≡ q.base → p.rest ≡ q.rest → p.newest ≡ q.newest → p.frame_count ≡ q.frame_count → p.source ≡ q.source → p.given ≡ q.given → p.slot ≡ q.slot → p ≡ q
same_fields p q w v c b r n f s g t =
    ap (λ x. record p { width = x }) w
    ∙ ap (λ x. record p { width = q.width; far_width = x }) v
    ∙ ap (λ x. record p { width = q.width; far_width = q.far_width; command = x }) c
    ∙ ap (λ x. record p { width = q.width; far_width = q.far_width; command = q.command; base = x }) b
    ∙ ap (λ x. record p { width = q.width; far_width = q.far_width; command = q.command; base = q.base; rest = x }) r
    ∙ ap (λ x. record p { width = q.width; far_width = q.far_width; command = q.command; base = q.base; rest = q.rest; newest = x }) n
    ∙ ap (λ x. record p { width = q.width; far_width = q.far_width; command = q.command; base = q.base; rest = q.rest; newest = q.newest; frame_count = x }) f
    ∙ ap (λ x. record q { source = x; given = p.given; slot = p.slot }) s
    ∙ ap (λ x. record q { given = x; slot = p.slot }) g
    ∙ ap (λ x. record q { slot = x }) t

pub one_state : (part : PartData) (p q : PipelineData) (f : Flow) → HoldsFlow part p f → HoldsFlow part q f → p ≡ q
one_state part p q f s t =
    same_fields p q (s.width_is ∙ sym t.width_is) (s.far_width_is ∙ sym t.far_width_is) (s.command_is ∙ sym t.command_is) (s.base_is ∙ sym t.base_is) (s.rest_is ∙ sym t.rest_is)
    (s.newest_is ∙ sym t.newest_is) (s.count_is ∙ sym t.count_is) (s.source_is ∙ sym t.source_is) (s.given_is ∙ sym t.given_is) (s.slot_is ∙ sym t.slot_is)
