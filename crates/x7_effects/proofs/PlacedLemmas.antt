-- The runs of a plan stand at slots that follow one another, and land as they are.
use Rattle.std.proofs.Common.{◌≡◌, ℕ, zero, suc, ◌+◌, ◌*◌, ◌^◌, ◌<◌, ◌≤◌, inl, inr, Bool, true, false, if◌then◌else◌, List, [], ◌∷◌, ◌++◌, length, map, get_or, refl, ap, sym, subst, ◌∙◌, append-nil, arith, eq-eqb, ne_eqb, length-append}
use Rattle.std.specs.Prelude.{bytes_eq, Contains, All}
use Rattle.std.specs.List.{AllByRecursion}
use Rattle.std.proofs.Math.Nat.{mul-le-mul_left}
use Rattle.std.proofs.lemmas.Bool.{cases_eq, eqb-true}
use Rattle.std.proofs.lemmas.List.{length-replicate}
use Rattle.x7_planner.proofs.BurstLemmas.{all_rows, not_shared_all, not_shared_fewer}
use Rattle.x7_words.specs.Word.{AreWords}
use Rattle.x7_words.proofs.ListLemmas.{all_append, all_prefix, all_back}
use Rattle.x7_part.specs.AddressOrder.{addresses_in, Rises}
use Rattle.x7_part.specs.Part.{PartData, frame_words}
use Rattle.x7_part.specs.Ranges.{IsPart}
use Rattle.x7_part.specs.Slot.{addresses_among, slots_in, from_address, slots_from}
use Rattle.x7_part.specs.declared.slot.Slot.{Slot}
use Rattle.x7_part.specs.declared.slot.Slot.TheVariants.{Frame, Pad, End}
use Rattle.x7_part.proofs.RowLemmas.{part_rises}
use Rattle.x7_part.proofs.SlotLemmas.{among_slots}
use Rattle.x7_memory.specs.Plan.{PlanRow, planned_addresses}
use Rattle.x7_pipeline.specs.Runs.{frames_of, in_slots, written_frames, onto}
use Rattle.x7_pipeline.specs.Copies.{newest_of}
use Rattle.x7_pipeline.proofs.SlotLemmas.{slot_among}
use Rattle.x7_planner.proofs.FewLemmas.{rises_in, rises_rest, by_rows}
use Rattle.x7_effects.proofs.Frames.{joined, AreWide, row_frames}
use Rattle.x7_planner.specs.FullStream.{zero_frame}
use Rattle.x7_planner.specs.PartialStream.{Copies, Rows}
use Rattle.x7_effects.proofs.Streams.{HaveWords, IsSection, AreSections}
use Rattle.x7_planner.specs.PartialStream.{with_content, is_first_of_group, groups_led, rows_not_shared, is_frame, follows, with_row, bursts_of, sections_of}
use Rattle.x7_effects.proofs.Groups.{IsPlaced, LandsAs, plan_pieces}
use Rattle.x7_flow.proofs.StreamLemmas.{whole_cut}
use Rattle.x7_effects.proofs.FrameLemmas.{rows_land}
use Rattle.x7_effects.proofs.FormLemmas.{joined_length, partial_fits}
use Rattle.x7_effects.proofs.Checking.{ArePieces}
use Rattle.x7_effects.proofs.GroupLemmas.{burst_rows, runs_joined}

-- ---- slots that follow one another

-- the first of slots is the frame at the address
record Begins (far : ℕ) (places : List Slot) : Type 0 where
  rest : List Slot
  is : places ≡ Frame far ∷ rest

from_begins : (far : ℕ) (places : List Slot) → Contains (addresses_among places) far → Begins far (from_address far places)
from_begins far [] (k, low, e) = absurd (omega arith)
from_begins far (Frame a ∷ places) (k, low, e) =
    elim (cases_eq a far) [
      | inl y ↦ rw (eq-eqb a far y) (record { rest = places; is = ap (λ (x : ℕ). Frame x ∷ places) y })
      | inr x ↦ rw (ne_eqb a far x) (from_begins far places (later k low e x))
    ]
  where
    later : (k : ℕ) → k < length (a ∷ addresses_among places) → get_or (a ∷ addresses_among places) k far ≡ far → (a ≡ far → ⊥) → Contains (addresses_among places) far
    later zero low e x = absurd (x e)
    later (suc k) low e x = (k, omega arith, e)
from_begins far (Pad ∷ places) has = from_begins far places has
from_begins far (End ∷ places) has = from_begins far places has

from_next : (l a b : ℕ) (places rest : List Slot) → Rises l (addresses_among places) → from_address a places ≡ Frame a ∷ Frame b ∷ rest → from_address b places ≡ Frame b ∷ rest
from_next l a b [] rest r e = absurd (cc)
from_next l a b (Frame x ∷ places) rest r e =
    elim (cases_eq x a) [
      | inl y ↦ (let whole : Frame x ∷ places ≡ Frame a ∷ Frame b ∷ rest = rw (eq-eqb x a y) at e in
          let rest_is : places ≡ Frame b ∷ rest = cc in
          let risen_there : Rises (x + 1) (b ∷ addresses_among rest) = subst (λ t. Rises (x + 1) (addresses_among t)) rest_is (rises_rest l x (addresses_among places) r) in
          let above : x + 1 ≤ b = rises_in (x + 1) (b ∷ addresses_among rest) b risen_there (0, omega arith, refl) in
          rw (ne_eqb x b (λ h. omega (arith, h))) (ap (from_address b) rest_is ∙ rw (eq-eqb b b refl) refl))
      | inr n ↦ (let whole : from_address a places ≡ Frame a ∷ Frame b ∷ rest = rw (ne_eqb x a n) at e in
          let there : Contains (addresses_among places) b = slot_among a 1 b places (ap (λ t. get_or t 1 End) whole) in
          let above : x + 1 ≤ b = rises_in (x + 1) (addresses_among places) b (rises_rest l x (addresses_among places) r) there in
          rw (ne_eqb x b (λ h. omega (arith, h))) (from_next (x + 1) a b places rest (rises_rest l x (addresses_among places) r) whole))
    ]
from_next l a b (Pad ∷ places) rest r e = from_next l a b places rest r e
from_next l a b (End ∷ places) rest r e = from_next l a b places rest r e

-- a slot that `is_frame` finds at an address is the frame there
frame_is : (b : ℕ) (s : Slot) → is_frame b s ≡ true → s ≡ Frame b
frame_is b (Frame x) t = ap (λ (y : ℕ). Frame y) (eqb-true x b t)
frame_is b Pad t = absurd (cc)
frame_is b End t = absurd (cc)

second : (a b : ℕ) (rest : List Slot) → is_frame b (get_or (Frame a ∷ rest) 1 End) ≡ true → Begins b rest
second a b [] t = absurd (cc)
second a b (s ∷ rest) t = record { rest = rest; is = ap (λ (x : Slot). x ∷ rest) (frame_is b s t) }

next_slots : (part : PartData) (a b : ℕ) → Rises 0 (addresses_among (slots_in part)) → Contains (addresses_among (slots_in part)) a → follows part a b ≡ true → slots_from part a ≡ Frame a ∷ slots_from part b
next_slots part a b r h f =
    let here : Begins a (slots_from part a) = from_begins a (slots_in part) h in
    let then_b : Begins b here.rest = second a b here.rest (ap (λ t. is_frame b (get_or t 1 End)) (sym here.is) ∙ f) in
    let whole : slots_from part a ≡ Frame a ∷ Frame b ∷ then_b.rest = here.is ∙ ap (λ t. Frame a ∷ t) then_b.is in
    whole ∙ ap (λ t. Frame a ∷ t) (sym (from_next 0 a b (slots_in part) then_b.rest r whole))

-- ---- the runs of rows

abbrev AreHere : PartData → List PlanRow → Type 0
AreHere part rows = AllByRecursion (λ row. Contains (addresses_among (slots_in part)) row.far) rows

alone : (part : PartData) (r : PlanRow) → Contains (addresses_among (slots_in part)) r.far → IsPlaced part (r ∷ [])
alone part r h = let here : Begins r.far (slots_from part r.far) = from_begins r.far (slots_in part) h in (here.rest, here.is)

row_placed : (part : PartData) (r : PlanRow) (runs : List (List PlanRow)) → Rises 0 (addresses_among (slots_in part)) → Contains (addresses_among (slots_in part)) r.far → AllByRecursion (IsPlaced part) runs → AllByRecursion (IsPlaced part) (with_row part r runs)
row_placed part r [] s h a = (alone part r h, tt)
row_placed part r ([] ∷ runs) s h a = absurd a.0
row_placed part r ((q ∷ run) ∷ runs) s h a = by_test (follows part r.far q.far) refl
  where
    by_test : (b : Bool) → follows part r.far q.far ≡ b → AllByRecursion (IsPlaced part) (if b then (r ∷ q ∷ run) ∷ runs else (r ∷ []) ∷ (q ∷ run) ∷ runs)
    by_test true t = ((a.0.0, next_slots part r.far q.far s h t ∙ ap (λ t. Frame r.far ∷ t) a.0.1), a.1)
    by_test false t = (alone part r h, a)

pub runs_placed : (part : PartData) (rows : List PlanRow) → Rises 0 (addresses_among (slots_in part)) → AreHere part rows → AllByRecursion (IsPlaced part) (bursts_of part rows)
runs_placed part [] s h = tt
runs_placed part (r ∷ rows) s h = row_placed part r (bursts_of part rows) s h.0 (runs_placed part rows s h.1)

-- what holds of each row holds of each row of each run, and of the rows that are not shared
each_run : (P : PlanRow → Type 0) (runs : List (List PlanRow)) → AllByRecursion P (burst_rows runs) → AllByRecursion (AllByRecursion P) runs
each_run P [] a = tt
each_run P (run ∷ runs) a = (all_prefix P run (burst_rows runs) a, each_run P runs (all_back P run (burst_rows runs) a))

pub of_content : (P : PlanRow → Type 0) (words : List ℕ) (qs : List PlanRow) → AllByRecursion P qs → AllByRecursion P (with_content words qs)
of_content P words [] a = tt
of_content P words (r ∷ qs) a = by_test (bytes_eq r.words words) (of_content P words qs a.1)
  where
    by_test : (b : Bool) → AllByRecursion P (with_content words qs) → AllByRecursion P (if b then r ∷ with_content words qs else with_content words qs)
    by_test true ih = (a.0, ih)
    by_test false ih = ih

pub of_runs : (P : PlanRow → Type 0) (part : PartData) (rows : List PlanRow) → AllByRecursion P rows → AllByRecursion (AllByRecursion P) (bursts_of part (rows_not_shared rows rows))
of_runs P part rows a = each_run P (bursts_of part (rows_not_shared rows rows)) (rw (runs_joined part (rows_not_shared rows rows)) (not_shared_all P rows rows a))

-- ---- how sections land

pub rows_wide : (width : ℕ) (rows : List PlanRow) (last : List ℕ) → AllByRecursion (λ row. length row.words ≡ width) rows → length last ≡ width → AreWide width (row_frames rows ++ last ∷ [])
rows_wide width [] last a l = (l, tt)
rows_wide width (r ∷ rows) last a l = (a.0, rows_wide width rows last a.1 l)

run_lands : (part : PartData) (run : List PlanRow) → 0 < frame_words part → IsPlaced part run → AllByRecursion (λ row. length row.words ≡ frame_words part) run → LandsAs part (Rows run)
run_lands part [] some p w = absurd p
run_lands part (r ∷ run) some p w = rows_land part r.far (r ∷ run) p.0 (zero_frame part) some (rows_wide (frame_words part) (r ∷ run) (zero_frame part) w (length-replicate (frame_words part) 0)) p.1

runs_land : (part : PartData) (runs : List (List PlanRow)) → 0 < frame_words part → AllByRecursion (IsPlaced part) runs → AllByRecursion (AllByRecursion (λ row. length row.words ≡ frame_words part)) runs → AllByRecursion (LandsAs part) (map Rows runs)
runs_land part [] some p w = tt
runs_land part (run ∷ runs) some p w = (run_lands part run some p.0 w.0, runs_land part runs some p.1 w.1)

copies_land : (part : PartData) (words fars : List ℕ) → 0 < frame_words part → length words ≡ frame_words part → LandsAs part (Copies words fars)
unfolding written_frames in_slots
copies_land part words fars some w =
    let one : frames_of (frame_words part) (onto words []) ≡ words ∷ [] = ap (λ t. frames_of (frame_words part) (onto t [])) (sym (append-nil words)) ∙ whole_cut part [] words some (w, tt) in
    (rw one refl, ap newest_of one)

groups_land : (part : PartData) (all qs : List PlanRow) → 0 < frame_words part → AllByRecursion (λ row. length row.words ≡ frame_words part) qs → AllByRecursion (LandsAs part) (groups_led all qs)
groups_land part all [] some w = tt
groups_land part all (r ∷ qs) some w = by_test (is_first_of_group all r) (groups_land part all qs some w.1)
  where
    by_test : (b : Bool) → AllByRecursion (LandsAs part) (groups_led all qs) → AllByRecursion (LandsAs part) (if b then Copies r.words (planned_addresses (with_content r.words all)) ∷ groups_led all qs else groups_led all qs)
    by_test true ih = (copies_land part r.words (planned_addresses (with_content r.words all)) some w.0, ih)
    by_test false ih = ih

here_of : (part : PartData) (rows : List PlanRow) → All (λ row. Contains (addresses_in part) row.far) rows → AreHere part rows
here_of part rows a = rw (among_slots part.field_widths part.rows) (by_rows (λ row. Contains (addresses_in part) row.far) rows a)

-- the runs of a plan's other rows stand at slots that follow one another
pub plan_placed : (part : PartData) (rows : List PlanRow) → IsPart part → All (λ row. Contains (addresses_in part) row.far) rows → AllByRecursion (IsPlaced part) (bursts_of part (rows_not_shared rows rows))
plan_placed part rows is h =
    let rises : Rises 0 (addresses_among (slots_in part)) = rw (among_slots part.field_widths part.rows) (part_rises part.field_widths part.rows is.field_widths is.rows) in
    runs_placed part (rows_not_shared rows rows) rises (not_shared_all (λ row. Contains (addresses_among (slots_in part)) row.far) rows rows (here_of part rows h))

pub sections_land : (part : PartData) (rows : List PlanRow) → IsPart part → All (λ row. length row.words ≡ frame_words part) rows → All (λ row. Contains (addresses_in part) row.far) rows → AllByRecursion (LandsAs part) (sections_of part rows)
sections_land part rows is w h =
    let wide : AllByRecursion (λ row. length row.words ≡ frame_words part) rows = by_rows (λ row. length row.words ≡ frame_words part) rows w in
    all_append (LandsAs part) (groups_led rows rows) (map Rows (bursts_of part (rows_not_shared rows rows)))
    (groups_land part rows rows (omega (arith, is.words)) wide)
    (runs_land part (bursts_of part (rows_not_shared rows rows)) (omega (arith, is.words))
    (plan_placed part rows is h)
    (of_runs (λ row. length row.words ≡ frame_words part) part rows wide))

-- ---- they can be written

addresses_words : (rows : List PlanRow) → AllByRecursion (λ row. row.far < 2 ^ 32) rows → AreWords (planned_addresses rows)
addresses_words [] a = tt
addresses_words (r ∷ rows) a = (a.0, addresses_words rows a.1)

groups_fit : (part : PartData) (all qs : List PlanRow) → frame_words part < 2 ^ 27 → AllByRecursion (λ row. row.far < 2 ^ 32) all → AllByRecursion (λ row. AreWords row.words) qs → AllByRecursion (λ row. length row.words ≡ frame_words part) qs → AreSections part (groups_led all qs)
groups_fit part all [] n f a w = tt
groups_fit part all (r ∷ qs) n f a w = by_test (is_first_of_group all r) (groups_fit part all qs n f a.1 w.1)
  where
    by_test : (b : Bool) → AreSections part (groups_led all qs) → AreSections part (if b then Copies r.words (planned_addresses (with_content r.words all)) ∷ groups_led all qs else groups_led all qs)
    by_test true ih = ((omega (arith, w.0), a.0, addresses_words (with_content r.words all) (of_content (λ row. row.far < 2 ^ 32) r.words all f)), ih)
    by_test false ih = ih

run_fits : (part : PartData) (k : ℕ) (run : List PlanRow) → length run ≤ k → frame_words part * (k + 1) < 2 ^ 27 → AllByRecursion (λ row. row.far < 2 ^ 32) run
    → AllByRecursion (λ row. AreWords row.words) run → AllByRecursion (λ row. length row.words ≡ frame_words part) run → IsSection part (Rows run)
run_fits part k run l n f a w =
    let count : length (row_frames run ++ zero_frame part ∷ []) ≡ length run + 1 = length-append (row_frames run) (zero_frame part ∷ []) ∙ ap (λ x. x + 1) (length_map run) in
    let long : length (joined (row_frames run ++ zero_frame part ∷ [])) ≡ frame_words part * (length run + 1) = joined_length (frame_words part) (row_frames run ++ zero_frame part ∷ [])
    (rows_wide (frame_words part) run (zero_frame part) w (length-replicate (frame_words part) 0)) ∙ ap (λ x. frame_words part * x) count in
    let most : frame_words part * (length run + 1) ≤ frame_words part * (k + 1) = mul-le-mul_left (frame_words part) (omega (arith, l)) in
    (omega (arith, long, most, n), all_rows (λ row. AreWords row.words) run a, addresses_words run f)
  where
    length_map : (rows : List PlanRow) → length (row_frames rows) ≡ length rows
    length_map [] = refl
    length_map (r ∷ rows) = omega (arith, length_map rows)

runs_fit : (part : PartData) (k : ℕ) (runs : List (List PlanRow)) → length (burst_rows runs) ≤ k → frame_words part * (k + 1) < 2 ^ 27
    → AllByRecursion (AllByRecursion (λ row. row.far < 2 ^ 32)) runs → AllByRecursion (AllByRecursion (λ row. AreWords row.words)) runs
    → AllByRecursion (AllByRecursion (λ row. length row.words ≡ frame_words part)) runs → AreSections part (map Rows runs)
runs_fit part k [] l n f a w = tt
runs_fit part k (run ∷ runs) l n f a w =
    let both : length (run ++ burst_rows runs) ≡ length run + length (burst_rows runs) = length-append run (burst_rows runs) in
    (run_fits part k run (omega arith) n f.0 a.0 w.0, runs_fit part k runs (omega arith) n f.1 a.1 w.1)

pub sections_are : (part : PartData) (rows : List PlanRow) → frame_words part * (length rows + 1) < 2 ^ 27 → All (λ row. row.far < 2 ^ 32) rows → HaveWords rows → All (λ row. length row.words ≡ frame_words part) rows → AreSections part (sections_of part rows)
sections_are part rows n f a w =
    let ff : AllByRecursion (λ row. row.far < 2 ^ 32) rows = by_rows (λ row. row.far < 2 ^ 32) rows f in
    let aa : AllByRecursion (λ row. AreWords row.words) rows = by_rows (λ row. AreWords row.words) rows a in
    let ww : AllByRecursion (λ row. length row.words ≡ frame_words part) rows = by_rows (λ row. length row.words ≡ frame_words part) rows w in
    let few : length (burst_rows (bursts_of part (rows_not_shared rows rows))) ≤ length rows = rw (runs_joined part (rows_not_shared rows rows)) (not_shared_fewer rows rows) in
    all_append (IsSection part) (groups_led rows rows) (map Rows (bursts_of part (rows_not_shared rows rows)))
    (groups_fit part rows rows (omega arith) ff aa ww)
    (runs_fit part (length rows) (bursts_of part (rows_not_shared rows rows)) few n (of_runs (λ row. row.far < 2 ^ 32) part rows ff) (of_runs (λ row. AreWords row.words) part rows aa) (of_runs (λ row. length row.words ≡ frame_words part) part rows ww))

pub plan_fits : (part : PartData) (rows : List PlanRow) → part.idcode < 2 ^ 32 → frame_words part * (length rows + 1) < 2 ^ 27 → All (λ row. row.far < 2 ^ 32) rows → HaveWords rows → All (λ row. length row.words ≡ frame_words part) rows → ArePieces (plan_pieces part rows)
plan_fits part rows i n f a w = partial_fits part (sections_of part rows) i (sections_are part rows n f a w)
