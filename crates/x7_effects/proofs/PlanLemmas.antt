-- The sections of a plan stand at addresses of the part, with slots for all their words.
use Rattle.std.proofs.Common.{◌≡◌, ◌==◌, ◌&&◌, ◌+◌, ◌*◌, ◌≤◌, ◌<◌, ℕ, Bool, true, false, if◌then◌else◌, List, [], ◌∷◌, ◌++◌, length, map, get_or, inl, inr, refl, sym, ap, subst, ◌∙◌, arith, append-nil, eq-eqb, ne_eqb, length-append}
use Rattle.std.specs.Prelude.{All, Contains, nat_le}
use Rattle.std.specs.List.{AllByRecursion}
use Rattle.std.proofs.lemmas.Bool.{cases_eq}
use Rattle.std.proofs.lemmas.Bool.Decides.{nat_tests}
use Rattle.std.proofs.Math.Nat.{mod-eq_of_lt, mul-le-mul_left}
use Rattle.std.proofs.lemmas.List.{length-replicate}
use Rattle.x7_planner.proofs.FewLemmas.{by_rows}
use Rattle.x7_words.proofs.ListLemmas.{all_append}
use Rattle.x7_part.specs.AddressOrder.{addresses_in}
use Rattle.x7_part.specs.Part.{PartData, frame_words}
use Rattle.x7_part.specs.Ranges.{IsPart}
use Rattle.x7_part.specs.Slot.{from_address, slots_in, slots_from}
use Rattle.x7_part.specs.declared.slot.Slot.{Slot}
use Rattle.x7_part.specs.declared.slot.Slot.TheVariants.{Frame, Pad, End}
use Rattle.x7_memory.specs.Plan.{PlanRow, planned_addresses}
use Rattle.x7_pipeline.specs.FarAsRead.{is_frame_address}
use Rattle.x7_pipeline.proofs.SlotLemmas.{address_has}
use Rattle.x7_effects.proofs.Frames.{joined, row_frames, row_slots}
use Rattle.x7_planner.specs.FullStream.{zero_frame}
use Rattle.x7_planner.specs.PartialStream.{Rows}
use Rattle.x7_planner.specs.PartialStream as section
use Rattle.x7_planner.specs.PartialStream.{groups_led, is_shared, is_first_of_group, rows_not_shared, bursts_of, sections_of, with_content}
use Rattle.x7_effects.proofs.Groups.{IsPlaced}
use Rattle.x7_effects.proofs.FormLemmas.{joined_length}
use Rattle.x7_effects.proofs.FrameLemmas.{EndsInPad, address_low, slots_end}
use Rattle.x7_effects.proofs.PlacedLemmas.{of_content, of_runs, plan_placed, rows_wide}
use Rattle.x7_effects.proofs.SectionLemmas.{IsTarget, Stands}

-- ---- an address of the part is a target

pub target : (part : PartData) (far : ℕ) → IsPart part → Contains (addresses_in part) far → IsTarget part far
target part far is h = (mod-eq_of_lt (address_low part far is h), address_has part far h)

pub targets : (part : PartData) (rows : List PlanRow) → IsPart part → AllByRecursion (λ row. Contains (addresses_in part) row.far) rows → AllByRecursion (IsTarget part) (planned_addresses rows)
targets part [] is a = tt
targets part (r ∷ rows) is a = (target part r.far is a.0, targets part rows is a.1)

-- ---- slots after a run

-- from an address on the slots end in a pad
from_pad : (far : ℕ) (places : List Slot) → 0 < length (from_address far (places ++ Pad ∷ [])) → EndsInPad (from_address far (places ++ Pad ∷ []))
from_pad far [] l = absurd (omega arith)
from_pad far (Frame a ∷ places) l =
    elim (cases_eq a far) [
      | inl y ↦ rw (eq-eqb a far y) (record { prefix = Frame a ∷ places; split = refl })
      | inr n ↦ rw (ne_eqb a far n) (from_pad far places (rw (ne_eqb a far n) at l))
    ]
from_pad far (Pad ∷ places) l = from_pad far places l
from_pad far (End ∷ places) l = from_pad far places l

no_pad : (rows : List PlanRow) (prefix : List Slot) → row_slots rows ≡ prefix ++ Pad ∷ [] → ⊥
no_pad [] [] e = cc
no_pad [] (s ∷ prefix) e = cc
no_pad (r ∷ rows) [] e = cc
no_pad (r ∷ rows) (s ∷ prefix) e = no_pad rows prefix (let t : row_slots rows ≡ prefix ++ Pad ∷ [] = cc in t)

-- a run's rows leave one slot more at least
one_more : (part : PartData) (far : ℕ) (rows : List PlanRow) (more : List Slot) → IsPart part → is_frame_address part far ≡ true → slots_from part far ≡ row_slots rows ++ more → length rows + 1 ≤ length (slots_from part far)
one_more part far rows [] is a e =
    let some : 0 < length (slots_from part far) = grind (arith, nat_tests, a) in
    let pads : EndsInPad (slots_in part) = slots_end part.field_widths part.rows is.some in
    let whole : slots_from part far ≡ from_address far (pads.prefix ++ Pad ∷ []) = ap (from_address far) pads.split in
    let ends : EndsInPad (from_address far (pads.prefix ++ Pad ∷ [])) = from_pad far pads.prefix (subst (λ (t : List Slot). 0 < length t) whole some) in
    absurd (no_pad rows ends.prefix (sym (append-nil (row_slots rows)) ∙ sym e ∙ whole ∙ ends.split))
one_more part far rows (s ∷ more) is a e =
    let count : length (slots_from part far) ≡ length (row_slots rows) + length (s ∷ more) = ap length e ∙ length-append (row_slots rows) (s ∷ more) in
    omega (arith, count, slots_count rows)
  where
    slots_count : (rows : List PlanRow) → length (row_slots rows) ≡ length rows
    slots_count [] = refl
    slots_count (r ∷ rows) = omega (arith, slots_count rows)

-- ---- sections

pub frames_count : (rows : List PlanRow) → length (row_frames rows) ≡ length rows
frames_count [] = refl
frames_count (r ∷ rows) = omega (arith, frames_count rows)

run_stands : (part : PartData) (run : List PlanRow) → IsPart part → IsPlaced part run → AllByRecursion (λ row. Contains (addresses_in part) row.far) run → AllByRecursion (λ row. length row.words ≡ frame_words part) run → Stands part (Rows run)
run_stands part [] is p h w = absurd p
run_stands part (r ∷ run) is p h w =
    let t : IsTarget part r.far = target part r.far is h.0 in
    let words : length (joined (row_frames (r ∷ run) ++ zero_frame part ∷ [])) ≡ frame_words part * length (row_frames (r ∷ run) ++ zero_frame part ∷ []) =
    joined_length (frame_words part) (row_frames (r ∷ run) ++ zero_frame part ∷ []) (rows_wide (frame_words part) (r ∷ run) (zero_frame part) w (length-replicate (frame_words part) 0)) in
    let count : length (row_frames (r ∷ run) ++ zero_frame part ∷ []) ≡ length (r ∷ run) + 1 = length-append (row_frames (r ∷ run)) (zero_frame part ∷ []) ∙ ap (λ x. x + 1) (frames_count (r ∷ run)) in
    let room : length (r ∷ run) + 1 ≤ length (slots_from part r.far) = one_more part r.far (r ∷ run) p.0 is t.1 p.1 in
    let most : frame_words part * length (row_frames (r ∷ run) ++ zero_frame part ∷ []) ≤ frame_words part * length (slots_from part r.far) = mul-le-mul_left (frame_words part) (omega (arith, count, room)) in
    record { targets = tt; begins = t; few = omega (arith, words, most) }

runs_stand : (part : PartData) (runs : List (List PlanRow)) → IsPart part → AllByRecursion (IsPlaced part) runs → AllByRecursion (AllByRecursion (λ row. Contains (addresses_in part) row.far)) runs → AllByRecursion (AllByRecursion (λ row. length row.words ≡ frame_words part)) runs
    → AllByRecursion (Stands part) (map Rows runs)
runs_stand part [] is p h w = tt
runs_stand part (run ∷ runs) is p h w = (run_stands part run is p.0 h.0 w.0, runs_stand part runs is p.1 h.1 w.1)

one_frame : (width slots : ℕ) → 0 < slots → width ≤ width * slots
one_frame width slots l = let more : width * 1 ≤ width * slots = mul-le-mul_left width (omega (arith, l)) in omega (arith, more)

group_stands : (part : PartData) (words : List ℕ) (rows : List PlanRow) → IsPart part → length words ≡ frame_words part → 1 ≤ length rows → AllByRecursion (λ row. Contains (addresses_in part) row.far) rows → Stands part (section.Copies words (planned_addresses rows))
group_stands part words [] is w l h = absurd (omega (arith, l))
group_stands part words (r ∷ rows) is w l h =
    let t : IsTarget part r.far = target part r.far is h.0 in
    let some : 0 < length (slots_from part r.far) = grind (arith, nat_tests, t.1) in
    (record { targets = targets part (r ∷ rows) is h; begins = t; few = omega (arith, w, one_frame (frame_words part) (length (slots_from part r.far)) some) }, w)

shared_some : (a b : Bool) (n : ℕ) → (a && b) ≡ true → a ≡ nat_le 3 n → 1 ≤ n
shared_some true b n e f = let three : 3 ≤ n = grind (arith, nat_tests, sym f) in omega (arith, three)
shared_some false b n e f = absurd (cc)

groups_stand : (part : PartData) (all qs : List PlanRow) → IsPart part → AllByRecursion (λ row. Contains (addresses_in part) row.far) all → AllByRecursion (λ row. length row.words ≡ frame_words part) qs → AllByRecursion (Stands part) (groups_led all qs)
groups_stand part all [] is h w = tt
groups_stand part all (r ∷ qs) is h w = by (is_first_of_group all r) refl (groups_stand part all qs is h w.1)
  where
    by : (b : Bool) → is_first_of_group all r ≡ b → AllByRecursion (Stands part) (groups_led all qs) → AllByRecursion (Stands part) (if b then section.Copies r.words (planned_addresses (with_content r.words all)) ∷ groups_led all qs else groups_led all qs)
    by true e ih = (
      group_stands part r.words (with_content r.words all) is w.0 (shared_some (is_shared all r) (get_or (planned_addresses (with_content r.words all)) 0 0 == r.far) (length (with_content r.words all)) e refl)
          (of_content (λ row. Contains (addresses_in part) row.far) r.words all h),
      ih,
    )
    by false e ih = ih

pub sections_stand : (part : PartData) (rows : List PlanRow) → IsPart part → All (λ row. length row.words ≡ frame_words part) rows → All (λ row. Contains (addresses_in part) row.far) rows → AllByRecursion (Stands part) (sections_of part rows)
sections_stand part rows is w h =
    let wide : AllByRecursion (λ row. length row.words ≡ frame_words part) rows = by_rows (λ row. length row.words ≡ frame_words part) rows w in
    let here : AllByRecursion (λ row. Contains (addresses_in part) row.far) rows = by_rows (λ row. Contains (addresses_in part) row.far) rows h in
    all_append (Stands part) (groups_led rows rows) (map Rows (bursts_of part (rows_not_shared rows rows)))
    (groups_stand part rows rows is here wide)
    (runs_stand part (bursts_of part (rows_not_shared rows rows)) is (plan_placed part rows is h)
    (of_runs (λ row. Contains (addresses_in part) row.far) part rows here) (of_runs (λ row. length row.words ≡ frame_words part) part rows wide))
