-- The first burst of rows, and the others.
use Rattle.std.proofs.Common.{◌≡◌, ℕ, zero, suc, ◌+◌, ◌-◌, ◌*◌, ◌<◌, ◌≤◌, Bool, not, true, false, if◌then◌else◌, List, [], ◌∷◌, ◌++◌, length, map, take, drop, replicate, get_or, refl, ap, sym, subst, ◌∙◌, arith, append_assoc, inl, inr}
use Rattle.std.specs.Prelude.{All, Contains}
use Rattle.std.specs.List.{AllByRecursion, flat_map}
use Rattle.std.proofs.lemmas.List.Elements.{All-cons, All-drop, All-nil}
use Rattle.x7_words.specs.Word.{bytes_of_word}
use Rattle.x7_part.specs.AddressOrder.{addresses_in}
use Rattle.x7_part.specs.Limits.{most_frames}
use Rattle.x7_part.specs.Ranges.{IsPart}
use Rattle.x7_planner.proofs.FewLemmas.{by_rows, rows_few}
use Rattle.std.proofs.lemmas.Bool.{cases_eq}
use Rattle.std.proofs.lemmas.Grind.{flat_map-append}
use Rattle.std.proofs.lemmas.List.{length-drop, take_rest, drop-drop, length-map, take-map}
use Rattle.x7_memory.specs.Plan.{AreInOrder, PlanRow, planned_addresses}
use Rattle.x7_part.specs.Part.{PartData, frame_words}
use Rattle.x7_regs.specs.declared.command.Command.TheVariants.{Wcfg}
use Rattle.x7_regs.specs.declared.register.Reg.TheVariants.{Far}
use Rattle.x7_packets.specs.PacketWords.{command, frame_data_headers, write_one}
use Rattle.x7_planner.specs.Content.{planned_row, planned_rows}
use Rattle.x7_planner.specs.PartialStream.{IsBurstLength, Rows, follows, frames_words, groups_led, is_shared, rows_not_shared, partial_ending, partial_opening, partial_stream, sections_of, bursts_of, bursts_words, section_words, with_row}
use Rattle.x7_planner.specs.Writer.{Check, Words, bytes_of_words, with_piece}
use Rattle.x7_planner.specs.declared.content.PlannedFrame.{PlannedFrame}
use Rattle.x7_planner.proofs.ContentLemmas.{row_at}
use Rattle.x7_planner.proofs.SlotLemmas.{written_on}

-- the bursts of rows begin with the first row
record Begins (part : PartData) (s : PlanRow) (rows : List PlanRow) : Type 0 where
  burst : List PlanRow
  bursts : List (List PlanRow)
  is : bursts_of part (s ∷ rows) ≡ (s ∷ burst) ∷ bursts

begins : (part : PartData) (s : PlanRow) (rows : List PlanRow) → Begins part s rows
begins part s rows = by (bursts_of part rows) refl
  where
    test : (r : PlanRow) (burst : List PlanRow) (bursts : List (List PlanRow)) (b : Bool) → follows part s.far r.far ≡ b → bursts_of part rows ≡ (r ∷ burst) ∷ bursts → Begins part s rows
    test r burst bursts true e h = record { burst = r ∷ burst; bursts = bursts; is = ap (with_row part s) h ∙ rw e refl }
    test r burst bursts false e h = record { burst = []; bursts = (r ∷ burst) ∷ bursts; is = ap (with_row part s) h ∙ rw e refl }

    by : (bursts : List (List PlanRow)) → bursts_of part rows ≡ bursts → Begins part s rows
    by [] h = record { burst = []; bursts = []; is = ap (with_row part s) h }
    by ([] ∷ bursts) h = record { burst = []; bursts = bursts; is = ap (with_row part s) h }
    by ((r ∷ burst) ∷ bursts) h = test r burst bursts (follows part s.far r.far) refl h

pub first_burst : (part : PartData) (rows : List PlanRow) (count : ℕ) → IsBurstLength part rows count → bursts_of part rows ≡ take count rows ∷ bursts_of part (drop count rows)
first_burst part [] count l = absurd (let a = l.at_least_one in let b = l.inside in omega (arith, a, b))
first_burst part (r ∷ rows) zero l = absurd (let a = l.at_least_one in omega (arith, a))
first_burst part (r ∷ []) (suc zero) l = refl
first_burst part (r ∷ []) (suc (suc k)) l = absurd (let b = l.inside in omega (arith, b))
first_burst part (r ∷ s ∷ rows) (suc zero) l =
    let b = begins part s rows in
    let apart : follows part r.far s.far ≡ false = l.ends r (omega arith) in
    ap (with_row part r) b.is ∙ rw apart refl ∙ ap (λ t. (r ∷ []) ∷ t) (sym b.is)
first_burst part (r ∷ s ∷ rows) (suc (suc k)) l =
    let inside : suc (suc k) ≤ length (r ∷ s ∷ rows) = l.inside in
    let rest : IsBurstLength part (s ∷ rows) (suc k) = record {
      at_least_one = omega arith;
      inside = omega (arith, inside);
      joined = (λ j d h. let next : suc (j + 1) ≡ suc j + 1 = omega arith in ap (λ (i : ℕ). follows part (get_or (s ∷ rows) j d).far (get_or (r ∷ s ∷ rows) i d).far) next ∙ l.joined (suc j) d (omega (arith, h)));
      ends = (λ d h. let back : suc (suc k - 1) ≡ suc (suc k) - 1 = omega arith in ap (λ (i : ℕ). follows part (get_or (r ∷ s ∷ rows) i d).far (get_or (s ∷ rows) (suc k) d).far) back ∙ l.ends d (omega (arith, h)));
    } in
    let joined : follows part r.far s.far ≡ true = l.joined 0 r (omega arith) in
    ap (with_row part r) (first_burst part (s ∷ rows) (suc k) rest) ∙ rw joined refl

pub burst_found : (part : PartData) (frames : List PlannedFrame) (k : ℕ) (e : PlannedFrame) (b : Bool) → 1 ≤ k → k < length frames
    → ((j : ℕ) (d : PlanRow) → j + 1 < k → follows part (get_or (planned_rows frames) j d).far (get_or (planned_rows frames) (j + 1) d).far ≡ true)
    → b ≡ follows part (get_or frames (k - 1) e).far (get_or frames k e).far → b ≡ false → IsBurstLength part (planned_rows frames) k
burst_found part frames k e b l h j s y = record {
  at_least_one = omega (arith, l);
  inside = omega (arith, h, length-map frames planned_row);
  joined = j;
  ends = (λ d m. ap (λ (r : PlanRow). follows part r.far (get_or (planned_rows frames) k d).far) (row_at frames (k - 1) d e (omega (arith, h)))
      ∙ ap (λ (r : PlanRow). follows part (get_or frames (k - 1) e).far r.far) (row_at frames k d e h) ∙ sym s ∙ y);
}

pub burst_more : (part : PartData) (frames : List PlannedFrame) (k : ℕ) (e : PlannedFrame) (b : Bool) → 1 ≤ k → k < length frames
    → ((j : ℕ) (d : PlanRow) → j + 1 < k → follows part (get_or (planned_rows frames) j d).far (get_or (planned_rows frames) (j + 1) d).far ≡ true)
    → b ≡ follows part (get_or frames (k - 1) e).far (get_or frames k e).far → b ≡ true
    → ((j : ℕ) (d : PlanRow) → j + 1 < k + 1 → follows part (get_or (planned_rows frames) j d).far (get_or (planned_rows frames) (j + 1) d).far ≡ true)
burst_more part frames k e b l h p s y j d m = elim (cases_eq (j + 1) k) [
  | inl same ↦ (let at : follows part (get_or (planned_rows frames) (k - 1) d).far (get_or (planned_rows frames) k d).far ≡ true =
      ap (λ (r : PlanRow). follows part r.far (get_or (planned_rows frames) k d).far) (row_at frames (k - 1) d e (omega (arith, h)))
      ∙ ap (λ (r : PlanRow). follows part (get_or frames (k - 1) e).far r.far) (row_at frames k d e h) ∙ sym s ∙ y in
      let back : k - 1 ≡ j = omega (arith, same) in
      ap (λ (i : ℕ). follows part (get_or (planned_rows frames) j d).far (get_or (planned_rows frames) i d).far) same ∙ ap (λ (i : ℕ). follows part (get_or (planned_rows frames) i d).far (get_or (planned_rows frames) k d).far) (sym back) ∙ at)
  | inr other ↦ p j d (omega (arith, m, other))
]

pub burst_whole : (part : PartData) (frames : List PlannedFrame) (k : ℕ) → 0 < length frames → length frames ≤ k → k ≤ length frames
    → ((j : ℕ) (d : PlanRow) → j + 1 < k → follows part (get_or (planned_rows frames) j d).far (get_or (planned_rows frames) (j + 1) d).far ≡ true) → IsBurstLength part (planned_rows frames) (length frames)
burst_whole part frames k l h m p = record {
  at_least_one = l;
  inside = omega (arith, length-map frames planned_row);
  joined = (λ j d n. p j d (omega (arith, n, h)));
  ends = (λ d n. absurd (omega (arith, n, length-map frames planned_row)));
}

pub burst_written : (part : PartData) (old one two new : List ℕ) (rows : List PlanRow) (first width count : ℕ) → width ≡ frame_words part → get_or (planned_addresses rows) 0 0 ≡ first → count ≡ length rows
    → one ≡ old ++ bytes_of_words (command Wcfg ++ (write_one Far first ++ frame_data_headers (width * (count + 1)))) → two ≡ one ++ bytes_of_words (frames_words rows) → new ≡ two ++ bytes_of_words (replicate width 0)
    → new ≡ old ++ bytes_of_words (section_words part (Rows rows))
burst_written part old one two new rows first width count w f n a b c =
    let opening : List ℕ = command Wcfg ++ (write_one Far first ++ frame_data_headers (width * (count + 1))) in
    written_on old two new (opening ++ frames_words rows) (replicate width 0) (written_on old one two opening (frames_words rows) a b) c
    ∙ ap (λ t. old ++ bytes_of_words t)
    (append_assoc opening (frames_words rows) (replicate width 0)
    ∙ ap (λ (x : ℕ). command Wcfg ++ (write_one Far x ++ (frame_data_headers (width * (count + 1)) ++ (frames_words rows ++ replicate width 0)))) (sym f)
    ∙ ap (λ (x : ℕ). command Wcfg ++ (write_one Far (get_or (planned_addresses rows) 0 0) ++ (frame_data_headers (width * (x + 1)) ++ (frames_words rows ++ replicate width 0)))) n
    ∙ ap (λ (x : ℕ). command Wcfg ++ (write_one Far (get_or (planned_addresses rows) 0 0) ++ (frame_data_headers (x * (length rows + 1)) ++ (frames_words rows ++ replicate x 0)))) w)

pub address_at : (part : PartData) (frames : List PlannedFrame) (k : ℕ) (e : PlannedFrame) → All (λ row. Contains (addresses_in part) row.far) (planned_rows frames) → k < length frames → Contains (addresses_in part) (get_or frames k e).far
address_at part frames k e a l = subst (λ (r : PlanRow). Contains (addresses_in part) r.far) (row_at frames k (planned_row e) e l) (a k (planned_row e) (omega (arith, l, length-map frames planned_row)))

pub first_address : (frames : List PlannedFrame) (e : PlannedFrame) → 0 < length frames → get_or (planned_addresses (planned_rows frames)) 0 0 ≡ (get_or frames 0 e).far
first_address [] e l = absurd (omega (arith, l))
first_address (c ∷ frames) e l = refl

rows_drop : (n : ℕ) (frames : List PlannedFrame) → planned_rows (drop n frames) ≡ drop n (planned_rows frames)
rows_drop zero frames = refl
rows_drop (suc n) [] = refl
rows_drop (suc n) (c ∷ frames) = rows_drop n frames

pub addresses_drop : (part : PartData) (n : ℕ) (frames : List PlannedFrame) → All (λ row. Contains (addresses_in part) row.far) (planned_rows frames) → All (λ row. Contains (addresses_in part) row.far) (planned_rows (drop n frames))
addresses_drop part n frames a = subst (All (λ (row : PlanRow). Contains (addresses_in part) row.far)) (sym (rows_drop n frames)) (All-drop (λ (row : PlanRow). Contains (addresses_in part) row.far) n (planned_rows frames) a)

pub bursts_step : (part : PartData) (frames : List PlannedFrame) (all mid new : List ℕ) (at count : ℕ) → IsBurstLength part (planned_rows (drop at frames)) count → mid ++ bytes_of_words (bursts_words part (planned_rows (drop at frames))) ≡ all
    → new ≡ mid ++ bytes_of_words (section_words part (Rows (planned_rows (take count (drop at frames))))) → new ++ bytes_of_words (bursts_words part (planned_rows (drop (at + count) frames))) ≡ all
bursts_step part frames all mid new at count l e h =
    let rest : List PlanRow = planned_rows (drop at frames) in
    let cut : bursts_words part rest ≡ section_words part (Rows (planned_rows (take count (drop at frames)))) ++ bursts_words part (planned_rows (drop (at + count) frames)) =
    ap (λ t. flat_map (section_words part) (map Rows t)) (first_burst part rest count l)
    ∙ ap (λ t. section_words part (Rows t) ++ bursts_words part (drop count rest)) (take-map planned_row count (drop at frames))
    ∙ ap (λ t. section_words part (Rows (planned_rows (take count (drop at frames)))) ++ bursts_words part t) (sym (rows_drop count (drop at frames)) ∙ ap planned_rows (drop-drop count at frames)) in
    ap (λ t. t ++ bytes_of_words (bursts_words part (planned_rows (drop (at + count) frames)))) h
    ∙ append_assoc mid (bytes_of_words (section_words part (Rows (planned_rows (take count (drop at frames)))))) (bytes_of_words (bursts_words part (planned_rows (drop (at + count) frames))))
    ∙ ap (λ t. mid ++ t) (sym (flat_map-append bytes_of_word (section_words part (Rows (planned_rows (take count (drop at frames))))) (bursts_words part (planned_rows (drop (at + count) frames)))) ∙ ap bytes_of_words (sym cut))
    ∙ e

pub bursts_stepped : (part : PartData) (frames : List PlannedFrame) (all mid new : List ℕ) (at count : ℕ) → at ≤ length frames → IsBurstLength part (planned_rows (take (length frames - at) (drop at frames))) count
    → mid ++ bytes_of_words (bursts_words part (planned_rows (drop at frames))) ≡ all → new ≡ mid ++ bytes_of_words (section_words part (Rows (planned_rows (take (at + count - at) (drop at frames)))))
    → (at + count ≤ length frames) × (new ++ bytes_of_words (bursts_words part (planned_rows (drop (at + count) frames))) ≡ all)
bursts_stepped part frames all mid new at count i l e h =
    let burst : IsBurstLength part (planned_rows (drop at frames)) count = subst (λ t. IsBurstLength part (planned_rows t) count) (take_rest frames at) l in
    let inside : count ≤ length (planned_rows (drop at frames)) = burst.inside in
    let same : at + count - at ≡ count = omega arith in (
      omega (arith, i, inside, length-map (drop at frames) planned_row, length-drop at frames),
      bursts_step part frames all mid new at count burst e (h ∙ ap (λ (n : ℕ). mid ++ bytes_of_words (section_words part (Rows (planned_rows (take n (drop at frames)))))) same),
    )

-- ---- the other rows are some of the rows

pub not_shared_all : (P : PlanRow → Type 0) (all rows : List PlanRow) → AllByRecursion P rows → AllByRecursion P (rows_not_shared all rows)
not_shared_all P all [] h = tt
not_shared_all P all (r ∷ rows) h = by (is_shared all r) (not_shared_all P all rows h.1)
  where
    by : (b : Bool) → AllByRecursion P (rows_not_shared all rows) → AllByRecursion P (if not b then r ∷ rows_not_shared all rows else rows_not_shared all rows)
    by true ih = ih
    by false ih = (h.0, ih)

pub not_shared_fewer : (all rows : List PlanRow) → length (rows_not_shared all rows) ≤ length rows
not_shared_fewer all [] = omega arith
not_shared_fewer all (r ∷ rows) = by (is_shared all r) (not_shared_fewer all rows)
  where
    by : (b : Bool) → length (rows_not_shared all rows) ≤ length rows → length (if not b then r ∷ rows_not_shared all rows else rows_not_shared all rows) ≤ suc (length rows)
    by true ih = omega (arith, ih)
    by false ih = omega (arith, ih)

pub all_rows : (P : PlanRow → Type 0) (rows : List PlanRow) → AllByRecursion P rows → All P rows
all_rows P [] a = All-nil P
all_rows P (r ∷ rows) a = All-cons P r rows a.0 (all_rows P rows a.1)

pub alone_addressed : (part : PartData) (rows : List PlanRow) (alone : List PlannedFrame) → All (λ row. Contains (addresses_in part) row.far) rows → planned_rows alone ≡ rows_not_shared rows rows → All (λ row. Contains (addresses_in part) row.far) (planned_rows alone)
alone_addressed part rows alone a e =
    subst (All (λ (row : PlanRow). Contains (addresses_in part) row.far)) (sym e)
    (all_rows (λ (row : PlanRow). Contains (addresses_in part) row.far) (rows_not_shared rows rows) (not_shared_all (λ (row : PlanRow). Contains (addresses_in part) row.far) rows rows (by_rows (λ (row : PlanRow). Contains (addresses_in part) row.far) rows a)))

pub alone_few : (part : PartData) (rows : List PlanRow) (alone : List PlannedFrame) → IsPart part → AreInOrder rows → All (λ row. Contains (addresses_in part) row.far) rows → planned_rows alone ≡ rows_not_shared rows rows → length alone ≤ most_frames
alone_few part rows alone is o a e = omega (arith, rows_few part rows is o a, is.few, not_shared_fewer rows rows, ap length e, length-map alone planned_row)

pub sections_written : (part : PartData) (rows : List PlanRow) (old mid new : List ℕ) → mid ≡ old ++ bytes_of_words (flat_map (section_words part) (groups_led rows rows))
    → new ≡ mid ++ bytes_of_words (bursts_words part (rows_not_shared rows rows)) → new ≡ old ++ bytes_of_words (flat_map (section_words part) (sections_of part rows))
sections_written part rows old mid new g h =
    written_on old mid new (flat_map (section_words part) (groups_led rows rows)) (bursts_words part (rows_not_shared rows rows)) g h
    ∙ ap (λ t. old ++ bytes_of_words t) (sym (flat_map-append (section_words part) (groups_led rows rows) (map Rows (bursts_of part (rows_not_shared rows rows)))))

pub stream_written : (part : PartData) (rows : List PlanRow) (none one two three new : List ℕ) → none ≡ [] → one ≡ none ++ bytes_of_words (partial_opening part)
    → two ≡ one ++ bytes_of_words (flat_map (section_words part) (sections_of part rows)) → three ≡ with_piece two Check → new ≡ with_piece three (Words partial_ending) → new ≡ partial_stream part rows
stream_written part rows none one two three new z a b c d =
    let words : List ℕ = flat_map (section_words part) (sections_of part rows) in
    d ∙ ap (λ t. with_piece t (Words partial_ending))
    (c ∙ ap (λ t. with_piece t Check) (written_on none one two (partial_opening part) words a b ∙ ap (λ t. t ++ bytes_of_words (partial_opening part ++ words)) z))
