-- Where the frames land that a planner writes.
use Rattle.std.proofs.Common.{◌≡◌, ℕ, zero, suc, ◌+◌, ◌*◌, ◌^◌, ◌<◌, ◌≤◌, inl, inr, List, [], ◌∷◌, ◌++◌, length, map, reverse, get_or, Option, Some, None, unwrap_or, refl, ap, sym, subst, ◌∙◌, append_assoc, append-nil, arith}
use Rattle.std.specs.Prelude.{Contains, All}
use Rattle.std.specs.List.{zip, filter_map, AllByRecursion}
use Rattle.std.proofs.lemmas.Grind.{reverse_onto}
use Rattle.std.proofs.lemmas.List.{reverse-reverse}
use Rattle.std.proofs.lemmas.List.Elements.{All-head, All-tail, Contains-push, Contains-append_left}
use Rattle.std.proofs.lemmas.Bool.Decides.{eqb_tells}
use Rattle.std.proofs.lemmas.Nat.{pow_pos}
use Rattle.std.proofs.Math.Nat.{pow-le-pow_right}
use Rattle.std.proofs.lemmas.List.{length-replicate}
use Rattle.std.specs.Option.{option_or}
use Rattle.x7_pipeline.proofs.LawLemmas.{zip_nil}
use Rattle.x7_part.specs.Part.{FieldWidths, RowData, PartData, frame_words}
use Rattle.x7_part.specs.Ranges.{IsPart}
use Rattle.x7_part.specs.Address.{AreRows, AreWidths, no_row, row, row_address, row_low, column_low, address_width, far_width}
use Rattle.x7_part.proofs.SlotLemmas.{slots_all, among_slots}
use Rattle.x7_part.proofs.WidthLemmas.{columns_fit, pitch_least, row_within}
use Rattle.x7_part.specs.AddressOrder.{addresses_of, addresses, addresses_in, row_addresses, count_from}
use Rattle.x7_words.proofs.ListLemmas.{all_append}
use Rattle.x7_part.specs.Slot.{addresses_among, slots, slots_in, slots_from}
use Rattle.x7_part.specs.declared.slot.Slot.{Slot}
use Rattle.x7_part.specs.declared.slot.Slot.TheVariants.{Frame, Pad, End}
use Rattle.x7_memory.specs.FrameMap.{FrameMap, HaveSameFrames}
use Rattle.x7_memory.specs.PartFrames.{zeros, zero_frames}
use Rattle.x7_memory.specs.Plan.{PlanRow, PlanData, planned, planned_addresses, IsPlan, total}
use Rattle.x7_memory.proofs.FrameLemmas.{among_none}
use Rattle.x7_memory.proofs.MapLemmas.{zeros_at, unnamed_none}
use Rattle.x7_memory.proofs.PlanLemmas.{planned_here, planned_after}
use Rattle.x7_pipeline.specs.Runs.{onto, written_frames, put_over}
use Rattle.x7_pipeline.specs.RunsInWords.{pair_of}
use Rattle.x7_flow.proofs.InsideLemmas.{contains_or_not}
use Rattle.x7_flow.proofs.StreamLemmas.{frames_land}
use Rattle.x7_effects.proofs.Frames.{joined, AreWide, frames_at, row_of, row_frames, row_slots}
use Rattle.x7_planner.specs.FullStream.{zero_frame, frame_at_slot}

-- ---- lists

map_of_reverse : {X Y : Type 0} → (f : X → Y) (xs : List X) → map f (reverse xs) ≡ reverse (map f xs)
map_of_reverse f [] = refl
map_of_reverse f (x ∷ xs) = ap (map f) (reverse_onto xs x []) ∙ map_append f (reverse xs) (x ∷ []) ∙ ap (λ t. t ++ f x ∷ []) (map_of_reverse f xs) ∙ sym (reverse_onto (map f xs) (f x) [])
  where
    map_append : {X Y : Type 0} → (f : X → Y) (xs ys : List X) → map f (xs ++ ys) ≡ map f xs ++ map f ys
    map_append f [] ys = refl
    map_append f (x ∷ xs) ys = ap (λ t. f x ∷ t) (map_append f xs ys)

in_reverse : (xs : List ℕ) (x : ℕ) → Contains xs x → Contains (reverse xs) x
in_reverse [] x (k, low, e) = absurd (omega arith)
in_reverse (y ∷ xs) x (zero, low, e) = rw (reverse_onto xs y [], e) (Contains-push (reverse xs) x)
in_reverse (y ∷ xs) x (suc k, low, e) = rw (reverse_onto xs y []) (Contains-append_left (reverse xs) (y ∷ []) x (in_reverse xs x (k, omega arith, e)))

out_of_reverse : (xs : List ℕ) (x : ℕ) → Contains (reverse xs) x → Contains xs x
out_of_reverse xs x h = rw (reverse-reverse xs) at (in_reverse (reverse xs) x h)

-- ---- a plan's rows at slots that follow each other

rows_paired : (rows : List PlanRow) (more : List Slot) → filter_map pair_of (zip (row_slots rows ++ more) (row_frames rows)) ≡ rows
rows_paired [] more = ap (filter_map pair_of) (zip_nil more)
rows_paired (r ∷ rows) more = ap (λ t. r ∷ t) (rows_paired rows more)

pub rows_land : (part : PartData) (base : ℕ) (rows : List PlanRow) (more : List Slot) (last : List ℕ) → 0 < frame_words part → AreWide (frame_words part) (row_frames rows ++ last ∷ [])
    → slots_from part base ≡ row_slots rows ++ more → written_frames part base (onto (joined (row_frames rows ++ last ∷ [])) []) ≡ reverse rows
rows_land part base rows more last some a e =
    frames_land part base (row_frames rows) last some a
    ∙ ap (λ t. reverse (filter_map pair_of (zip t (row_frames rows)))) e
    ∙ ap reverse (rows_paired rows more)

-- ---- a whole write of a plan

frame_wide : (part : PartData) (plan : PlanData) (s : Slot) → ((far : ℕ) → length (frame_at_slot part plan (Frame far)) ≡ frame_words part) → length (frame_at_slot part plan s) ≡ frame_words part
frame_wide part plan (Frame far) w = w far
frame_wide part plan Pad w = length-replicate (frame_words part) 0
frame_wide part plan End w = length-replicate (frame_words part) 0

-- a plan's frames have its width
planned_wide : (width : ℕ) (rows : List PlanRow) (far : ℕ) (z : List ℕ) → All (λ row. length row.words ≡ width) rows → length z ≡ width → length (unwrap_or (planned rows far) z) ≡ width
unfolding planned
planned_wide width [] far z a l = l
planned_wide width (r ∷ rows) far z a l =
    elim (eqb_tells far r.far) [
      | inl y ↦ ap (λ t. length (unwrap_or t z)) (planned_here r rows far y.1) ∙ All-head (λ row. length row.words ≡ width) r rows a
      | inr n ↦ ap (λ t. length (unwrap_or t z)) (planned_after r rows far n.1) ∙ planned_wide width rows far z (All-tail (λ row. length row.words ≡ width) r rows a) l
    ]

pub plan_wide : (part : PartData) (plan : PlanData) → IsPlan plan → plan.width ≡ frame_words part → (far : ℕ) → length (frame_at_slot part plan (Frame far)) ≡ frame_words part
plan_wide part plan is e far = planned_wide (frame_words part) plan.rows far (zero_frame part) (subst (λ (w : ℕ). All (λ row. length row.words ≡ w) plan.rows) e is.width) (length-replicate (frame_words part) 0)

pub all_wide : (part : PartData) (plan : PlanData) (places : List Slot) → ((far : ℕ) → length (frame_at_slot part plan (Frame far)) ≡ frame_words part) → AreWide (frame_words part) (frames_at part plan places)
all_wide part plan [] w = tt
all_wide part plan (s ∷ places) w = (frame_wide part plan s w, all_wide part plan places w)

frames_paired : (part : PartData) (plan : PlanData) (places more : List Slot) → filter_map pair_of (zip (places ++ more) (frames_at part plan places)) ≡ map (row_of part plan) (addresses_among places)
frames_paired part plan [] more = ap (filter_map pair_of) (zip_nil more)
frames_paired part plan (Frame far ∷ places) more = ap (λ t. row_of part plan far ∷ t) (frames_paired part plan places more)
frames_paired part plan (Pad ∷ places) more = frames_paired part plan places more
frames_paired part plan (End ∷ places) more = frames_paired part plan places more

-- slots end in a pad
pub record EndsInPad (places : List Slot) : Type 0 where
  pub prefix : List Slot
  pub split : places ≡ prefix ++ Pad ∷ []

pub slots_end : (far : FieldWidths) (rows : List RowData) → 1 ≤ length rows → EndsInPad (slots far rows)
unfolding slots
slots_end far [] h = absurd (omega arith)
slots_end far (r ∷ []) h = record { prefix = map Frame (addresses_of far r) ++ Pad ∷ []; split = append-nil (map Frame (addresses_of far r) ++ Pad ∷ Pad ∷ []) ∙ sym (append_assoc (map Frame (addresses_of far r)) (Pad ∷ []) (Pad ∷ [])) }
slots_end far (r ∷ s ∷ rows) h =
    let e : EndsInPad (slots far (s ∷ rows)) = slots_end far (s ∷ rows) (omega arith) in
    let first : List Slot = map Frame (addresses_of far r) ++ Pad ∷ Pad ∷ [] in
    record { prefix = first ++ e.prefix; split = ap (λ t. first ++ t) e.split ∙ sym (append_assoc first e.prefix (Pad ∷ [])) }

addresses_before_pad : (places : List Slot) → addresses_among (places ++ Pad ∷ []) ≡ addresses_among places
addresses_before_pad [] = refl
addresses_before_pad (Frame far ∷ places) = ap (λ t. far ∷ t) (addresses_before_pad places)
addresses_before_pad (Pad ∷ places) = addresses_before_pad places
addresses_before_pad (End ∷ places) = addresses_before_pad places

frames_at_append : (part : PartData) (plan : PlanData) (xs ys : List Slot) → frames_at part plan (xs ++ ys) ≡ frames_at part plan xs ++ frames_at part plan ys
frames_at_append part plan [] ys = refl
frames_at_append part plan (x ∷ xs) ys = ap (λ t. frame_at_slot part plan x ∷ t) (frames_at_append part plan xs ys)

-- the frames of all slots land at all addresses in order
pub slots_land : (part : PartData) (plan : PlanData) → IsPart part → IsPlan plan → plan.width ≡ frame_words part
    → written_frames part (get_or (addresses_in part) 0 0) (onto (joined (frames_at part plan (slots_in part))) []) ≡ reverse (map (row_of part plan) (addresses_in part))
slots_land part plan is p same_width =
    let first : ℕ = get_or (addresses_in part) 0 0 in
    let e : EndsInPad (slots_in part) = slots_end part.field_widths part.rows is.some in
    let frames : List (List ℕ) = frames_at part plan e.prefix in
    let last : List ℕ = zero_frame part in
    let split : frames_at part plan (slots_in part) ≡ frames ++ last ∷ [] = ap (frames_at part plan) e.split ∙ frames_at_append part plan e.prefix (Pad ∷ []) in
    let wide : AreWide (frame_words part) (frames ++ last ∷ []) = rw split at (all_wide part plan (slots_in part) (plan_wide part plan p same_width)) in
    let fars : addresses_in part ≡ addresses_among e.prefix = sym (among_slots part.field_widths part.rows) ∙ ap addresses_among e.split ∙ addresses_before_pad e.prefix in
    ap (λ t. written_frames part first (onto (joined t) [])) split
    ∙ frames_land part first frames last (omega (arith, is.words)) wide
    ∙ ap (λ t. reverse (filter_map pair_of (zip t frames))) (slots_all part is ∙ e.split)
    ∙ ap reverse (frames_paired part plan e.prefix (Pad ∷ []) ∙ ap (map (row_of part plan)) (sym fars))

-- of the rows of addresses that of an address has its frame in a whole write
row_here : (part : PartData) (plan : PlanData) (fars : List ℕ) (far : ℕ) → Contains fars far → planned (map (row_of part plan) fars) far ≡ Some (frame_at_slot part plan (Frame far))
unfolding planned
row_here part plan [] far (k, low, e) = absurd (omega arith)
row_here part plan (a ∷ fars) far (k, low, e) =
    elim (eqb_tells far a) [
      | inl y ↦ planned_here (row_of part plan a) (map (row_of part plan) fars) far y.1 ∙ ap (λ x. Some (frame_at_slot part plan (Frame x))) (sym y.1)
      | inr n ↦ planned_after (row_of part plan a) (map (row_of part plan) fars) far n.1 ∙ row_here part plan fars far (later k low e n.1)
    ]
  where
    later : (k : ℕ) → k < length (a ∷ fars) → get_or (a ∷ fars) k far ≡ far → (far ≡ a → ⊥) → Contains fars far
    later zero low e n = absurd (n (sym e))
    later (suc k) low e n = (k, omega arith, e)

rows_named : (part : PartData) (plan : PlanData) (fars : List ℕ) → planned_addresses (map (row_of part plan) fars) ≡ fars
rows_named part plan [] = refl
rows_named part plan (a ∷ fars) = ap (λ t. a ∷ t) (rows_named part plan fars)

some_or : (a : Option (List ℕ)) (z : List ℕ) → Some (unwrap_or a z) ≡ option_or a (Some z)
some_or None z = refl
some_or (Some x) z = refl

-- the frames of all addresses, over any memory with frames at the part's addresses alone, leave the plan over zeros
pub whole_over : (part : PartData) (plan : PlanData) (memory : FrameMap) → IsPart part → IsPlan plan → plan.width ≡ frame_words part
    → ((far : ℕ) → Contains (planned_addresses plan.rows) far → Contains (addresses_in part) far) → ((far : ℕ) → (Contains (addresses_in part) far → ⊥) → memory far ≡ None)
    → HaveSameFrames (put_over (written_frames part (get_or (addresses_in part) 0 0) (onto (joined (frames_at part plan (slots_in part))) [])) memory) (total part plan)
whole_over part plan memory is p e within outside far =
    let fars : List ℕ = addresses_in part in
    let same : written_frames part (get_or fars 0 0) (onto (joined (frames_at part plan (slots_in part))) []) ≡ map (row_of part plan) (reverse fars) = slots_land part plan is p e ∙ sym (map_of_reverse (row_of part plan) fars) in
    ap (λ t. option_or (planned t far) (memory far)) same
    ∙ elim (contains_or_not fars far) [
      | inl h ↦ ap (λ t. option_or t (memory far)) (row_here part plan (reverse fars) far (in_reverse fars far h)) ∙ some_or (planned plan.rows far) (zero_frame part) ∙ ap (option_or (planned plan.rows far)) (sym (zeros_at part far h))
      | inr n ↦ (let none : planned (map (row_of part plan) (reverse fars)) far ≡ None = unnamed_none (map (row_of part plan) (reverse fars)) far (λ h. n (out_of_reverse fars far (rw (rows_named part plan (reverse fars)) at h))) in
          let unplanned : planned plan.rows far ≡ None = unnamed_none plan.rows far (λ h. n (within far h)) in
          ap (λ t. option_or t (memory far)) none ∙ outside far n ∙ sym (among_none far fars (zero_frames part) n) ∙ ap (λ t. option_or t (zeros part far)) (sym unplanned))
    ]

-- ---- an address has the part's width

count_low : (first n top : ℕ) → first + n ≤ top → AllByRecursion (λ a. a < top) (count_from first n)
count_low first zero top h = tt
count_low first (suc n) top h = (omega arith, count_low (first + 1) n top (omega arith))

columns_low : (base column pitch : ℕ) (minors : List ℕ) (top : ℕ) → 128 ≤ pitch → All (λ n. (1 ≤ n) × (n ≤ 128)) minors → base + (column + length minors) * pitch ≤ top → AllByRecursion (λ a. a < top) (row_addresses pitch base column minors)
columns_low base column pitch [] top p a h = tt
columns_low base column pitch (n ∷ minors) top p a h =
    let few : n ≤ 128 = (All-head (λ k. (1 ≤ k) × (k ≤ 128)) n minors a).1 in
    let all : (column + (length minors + 1)) * pitch ≡ column * pitch + length minors * pitch + pitch = grind arith in
    let later : (column + 1 + length minors) * pitch ≡ column * pitch + length minors * pitch + pitch = grind arith in
    all_append (λ x. x < top) (count_from (base + column * pitch) n) (row_addresses pitch base (column + 1) minors)
    (count_low (base + column * pitch) n top (omega arith))
    (columns_low base (column + 1) pitch minors top p (All-tail (λ k. (1 ≤ k) × (k ≤ 128)) n minors a) (omega arith))

addresses_low : (far : FieldWidths) (least : ℕ) (rows : List RowData) → AreWidths far → AreRows far least rows → AllByRecursion (λ a. a < 2 ^ address_width far) (addresses far rows)
unfolding addresses
addresses_low far _ _ w (no_row f least) = tt
addresses_low far _ _ w (row f least r rows le is rest) =
    all_append (λ x. x < 2 ^ address_width far) (addresses_of far r) (addresses far rows)
    (columns_low (row_address far r) 0 (2 ^ column_low far) r.minors (2 ^ address_width far) (pitch_least far w) is.minors
    (let top : row_address far r + 2 ^ row_low far ≤ 2 ^ address_width far = row_within far r w is in let few : (0 + length r.minors) * 2 ^ column_low far ≤ 2 ^ row_low far = columns_fit far (length r.minors) w is.columns in omega arith))
    (addresses_low far _ rows w rest)

of_contained : (P : ℕ → Type 0) (xs : List ℕ) (x : ℕ) → AllByRecursion P xs → Contains xs x → P x
of_contained P [] x a (k, low, e) = absurd (omega arith)
of_contained P (y ∷ xs) x a (zero, low, e) = subst P e a.0
of_contained P (y ∷ xs) x a (suc k, low, e) = of_contained P xs x a.1 (k, omega arith, e)

pub address_low : (part : PartData) (far : ℕ) → IsPart part → Contains (addresses_in part) far → far < 2 ^ far_width part
address_low part far is h = of_contained (λ a. a < 2 ^ far_width part) (addresses_in part) far (addresses_low part.field_widths 0 part.rows is.field_widths is.rows) h

first_of : (top : ℕ) (xs : List ℕ) → 0 < top → AllByRecursion (λ a. a < top) xs → get_or xs 0 0 < top
first_of top [] s a = s
first_of top (x ∷ xs) s a = a.0

pub first_low : (part : PartData) → IsPart part → get_or (addresses_in part) 0 0 < 2 ^ far_width part
first_low part is = first_of (2 ^ far_width part) (addresses_in part) (pow_pos (far_width part)) (addresses_low part.field_widths 0 part.rows is.field_widths is.rows)

most_width : (part : PartData) → IsPart part → 2 ^ far_width part ≤ 2 ^ 32
most_width part is = pow-le-pow_right (omega arith) is.field_widths.sum

pub address_small : (part : PartData) (far : ℕ) → IsPart part → Contains (addresses_in part) far → far < 2 ^ 32
address_small part far is h = omega (arith, address_low part far is h, most_width part is)

pub first_small : (part : PartData) → IsPart part → get_or (addresses_in part) 0 0 < 2 ^ 32
first_small part is = omega (arith, first_low part is, most_width part is)
