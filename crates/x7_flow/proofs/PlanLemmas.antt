-- What a write of whole frames leaves, as a plan; and the source that it leaves for copies.
use Rattle.std.proofs.Common.{◌≡◌, ℕ, ◌+◌, ◌%◌, ◌^◌, ◌<◌, ◌≤◌, ◌==◌, ◌&&◌, Bool, true, false, if◌then◌else◌, List, [], ◌∷◌, ◌++◌, length, reverse, Option, None, Some, inl, inr, refl, sym, ap, ◌∙◌, arith, eq-eqb, ne_eqb}
use Rattle.std.specs.List.{flat_map, filter_map, zip, AllByRecursion}
use Rattle.std.proofs.lemmas.Grind.{reverse_onto}
use Rattle.std.proofs.lemmas.Bool.{cases_eq}
use Rattle.std.proofs.lemmas.Bool.Decides.{eqb_tells}
use Rattle.std.specs.Option.{option_or}
use Rattle.x7_packets.specs.History.{Write, History, command_held, entered_all, entry}
use Rattle.x7_packets.specs.Packet.{payload_steps}
use Rattle.x7_part.specs.AddressOrder.{addresses_in, Rises, risen, rise}
use Rattle.x7_part.specs.Part.{PartData, frame_words}
use Rattle.x7_part.specs.Slot.{addresses_among, from_address, slots_in, slots_from}
use Rattle.x7_part.specs.declared.slot.Slot.{Slot}
use Rattle.x7_part.specs.declared.slot.Slot.TheVariants.{Frame, Pad, End}
use Rattle.x7_part.proofs.SlotLemmas.{among_slots}
use Rattle.x7_part.proofs.RowLemmas.{rises_lower}
use Rattle.x7_memory.specs.FrameMap.{HaveSameFrames, override}
use Rattle.x7_memory.specs.Plan.{PlanRow, planned, planned_addresses}
use Rattle.x7_memory.proofs.MapLemmas.{override_same, planned_joined}
use Rattle.x7_memory.proofs.PlanLemmas.{planned_after, planned_here}
use Rattle.x7_pipeline.specs.RunsInWords.{pair_of}
use Rattle.x7_pipeline.specs.Runs.{frames_of, onto}
use Rattle.x7_pipeline.specs.Copies.{newest_of}
use Rattle.x7_pipeline.specs.FarAsRead.{loaded_base}
use Rattle.x7_flow.specs.Settings.{settings_of, takes_copies, takes_frames}
use Rattle.x7_flow.specs.Asking.{CopiesSource, NothingAsked}
use Rattle.x7_flow.specs.HistoryFlow.{Flow, flow_by, flow_of, run_of, source_of}
use Rattle.x7_flow.specs.FlowInWords.{frame_taken, words_written}
use Rattle.x7_flow.proofs.FlowLemmas.{flow_more}
use Rattle.x7_flow.proofs.WordLemmas.{run_is, source_is}
use Rattle.x7_flow.specs.FrameMemory.{memory_of}
use Rattle.x7_flow.proofs.StreamLemmas.{whole_cut, write_puts}

-- ---- addresses that rise

after_first : (least x : ℕ) (xs : List ℕ) → Rises least (x ∷ xs) → (least ≤ x) × Rises (x + 1) xs
after_first least x xs (rise a y ys l r) = (l, r)

rises_from : (least base : ℕ) (places : List Slot) → Rises least (addresses_among places) → Rises least (addresses_among (from_address base places))
rises_from least base [] r = r
rises_from least base (Frame a ∷ places) r =
    elim (cases_eq a base) [
      | inl y ↦ rw (eq-eqb a base y) r
      | inr n ↦ rw (ne_eqb a base n) (let p = after_first least a (addresses_among places) r in rises_from least base places (rises_lower least (a + 1) (addresses_among places) (let l = p.0 in omega arith) p.1))
    ]
rises_from least base (Pad ∷ places) r = rises_from least base places r
rises_from least base (End ∷ places) r = rises_from least base places r

rows_rise : (least : ℕ) (places : List Slot) (frames : List (List ℕ)) → Rises least (addresses_among places) → Rises least (planned_addresses (filter_map pair_of (zip places frames)))
rows_rise least [] frames r = risen least
rows_rise least (p ∷ places) [] r = risen least
rows_rise least (Frame a ∷ places) (f ∷ frames) r = let p = after_first least a (addresses_among places) r in rise least a _ p.0 (rows_rise (a + 1) places frames p.1)
rows_rise least (Pad ∷ places) (f ∷ frames) r = rows_rise least places frames r
rows_rise least (End ∷ places) (f ∷ frames) r = rows_rise least places frames r

-- ---- rows with rising addresses, from either end

none_below : (least far : ℕ) (rows : List PlanRow) → Rises least (planned_addresses rows) → far < least → planned rows far ≡ None
unfolding planned
none_below least far [] r l = refl
none_below least far (row ∷ rows) r l =
    let p = after_first least row.far (planned_addresses rows) r in
    let low = p.0 in
    planned_after row rows far (λ e. absurd (omega arith)) ∙ none_below (row.far + 1) far rows p.1 (omega arith)

or_else_none : (a : Option (List ℕ)) → option_or a None ≡ a
or_else_none None = refl
or_else_none (Some words) = refl

pub planned_reversed : (least : ℕ) (rows : List PlanRow) → Rises least (planned_addresses rows) → HaveSameFrames (planned (reverse rows)) (planned rows)
unfolding planned
planned_reversed least [] r far = refl
planned_reversed least (row ∷ rows) r far =
    let p = after_first least row.far (planned_addresses rows) r in
    let back : reverse (row ∷ rows) ≡ reverse rows ++ row ∷ [] = reverse_onto rows row [] in
    let joined : planned (reverse (row ∷ rows)) far ≡ option_or (planned rows far) (planned (row ∷ []) far) =
    ap (λ (rs : List PlanRow). planned rs far) back ∙ planned_joined (reverse rows) (row ∷ []) far ∙ ap (λ (o : Option (List ℕ)). option_or o (planned (row ∷ []) far)) (planned_reversed (row.far + 1) rows p.1 far) in
    elim (eqb_tells far row.far) [
      | inl y ↦
          let e = y.1 in
          joined ∙ ap (λ (o : Option (List ℕ)). option_or o (planned (row ∷ []) far)) (none_below (row.far + 1) far rows p.1 (omega arith))
          ∙ planned_here row [] far y.1 ∙ sym (planned_here row rows far y.1)
      | inr n ↦
          joined ∙ ap (option_or (planned rows far)) (planned_after row [] far n.1) ∙ or_else_none (planned rows far) ∙ sym (planned_after row rows far n.1)
    ]

-- whole frames and one more leave the memory overridden by the frames at the slots in order
pub write_plans : (part : PartData) (earlier : History) (w place n : ℕ) (frames : List (List ℕ)) (last : List ℕ) → 0 < frame_words part → Rises 0 (addresses_in part) → takes_frames (settings_of part.idcode earlier) ≡ true →
    AllByRecursion (λ frame. length frame ≡ frame_words part) (frames ++ last ∷ []) →
    HaveSameFrames (memory_of part (entered_all n (payload_steps 2 (flat_map (λ frame. frame) (frames ++ last ∷ []))) (entry (Write 1 w) place ∷ earlier)))
    (override (memory_of part earlier) (planned (filter_map pair_of (zip (slots_from part (loaded_base part w)) frames))))
write_plans part earlier w place n frames last some rises t all far =
    let rows : List PlanRow = filter_map pair_of (zip (slots_from part (loaded_base part w)) frames) in
    let up : Rises 0 (planned_addresses rows) =
    rows_rise 0 (slots_from part (loaded_base part w)) frames (rises_from 0 (loaded_base part w) (slots_in part) (rw (among_slots part.field_widths part.rows) rises)) in
    write_puts part earlier w place n frames last some t all far
    ∙ override_same (memory_of part earlier) (memory_of part earlier) (planned (reverse rows)) (planned rows) (λ a. refl) (planned_reversed 0 rows up) far

-- ---- the source of copies

-- MFW right after a write of whole frames takes the last of them, which was held back
pub source_left : (part : PartData) (h : History) (c place : ℕ) (frames : List (List ℕ)) (last : List ℕ) → 0 < frame_words part → command_held h ≡ 1 → c % 2 ^ 5 ≡ 2 →
    run_of part h ≡ onto (flat_map (λ frame. frame) (frames ++ last ∷ [])) [] → AllByRecursion (λ frame. length frame ≡ frame_words part) (frames ++ last ∷ []) →
    source_of part (entry (Write 4 c) place ∷ h) ≡ Some last
unfolding frame_taken
source_left part h c place frames last some held now run all =
    source_is part (entry (Write 4 c) place ∷ h)
    ∙ ap (λ (n : ℕ). if n == 2 && command_held h == 1 then newest_of (frames_of (frame_words part) (words_written part.idcode h)) else None) now
    ∙ ap (λ (n : ℕ). if n == 1 then newest_of (frames_of (frame_words part) (words_written part.idcode h)) else None) held
    ∙ ap (λ (ws : List ℕ). newest_of (frames_of (frame_words part) ws)) (sym (run_is part h) ∙ run)
    ∙ ap newest_of (whole_cut part frames last some all)

copy_word_flow : (part : PartData) (h : History) (w place : ℕ) → flow_of part (entry (Write 10 w) place ∷ h) ≡ flow_of part h
copy_word_flow part h w place = flow_more part (entry (Write 10 w) place) h ∙ by (takes_copies (settings_of part.idcode h))
  where
    by : (b : Bool) → flow_by part (if b then CopiesSource else NothingAsked) (flow_of part h) ≡ flow_of part h
    by true = refl
    by false = refl

copies_flow : (part : PartData) (n : ℕ) (ws : List ℕ) (h : History) → flow_of part (entered_all n (payload_steps 10 ws) h) ≡ flow_of part h
copies_flow part n [] h = refl
copies_flow part n (w ∷ ws) h = copies_flow part (n + 4) ws (entry (Write 10 w) (n + 4) ∷ h) ∙ copy_word_flow part h w (n + 4)

copies_settings : (idcode n : ℕ) (ws : List ℕ) (h : History) → settings_of idcode (entered_all n (payload_steps 10 ws) h) ≡ settings_of idcode h
copies_settings idcode n [] h = refl
copies_settings idcode n (w ∷ ws) h = copies_settings idcode (n + 4) ws (entry (Write 10 w) (n + 4) ∷ h)

load_source : (part : PartData) (h : History) (w place : ℕ) → source_of part (entry (Write 1 w) place ∷ h) ≡ source_of part h
load_source part h w place = ap (λ (f : Flow). f.source) (flow_more part (entry (Write 1 w) place) h)

-- a FAR load and words of MFWR keep the source and the settings for the next
pub copies_keep : (part : PartData) (earlier : History) (w place n : ℕ) (ws : List ℕ) →
    (source_of part (entered_all n (payload_steps 10 ws) (entry (Write 1 w) place ∷ earlier)) ≡ source_of part earlier)
    × (settings_of part.idcode (entered_all n (payload_steps 10 ws) (entry (Write 1 w) place ∷ earlier)) ≡ settings_of part.idcode earlier)
copies_keep part earlier w place n ws = (
  ap (λ (f : Flow). f.source) (copies_flow part n ws (entry (Write 1 w) place ∷ earlier)) ∙ load_source part earlier w place,
  copies_settings part.idcode n ws (entry (Write 1 w) place ∷ earlier),
)
