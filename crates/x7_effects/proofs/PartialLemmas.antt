-- A partial stream on a device at rest.
use Rattle.std.proofs.Common.{◌≡◌, ◌+◌, ◌*◌, ◌^◌, ◌≤◌, ◌<◌, ℕ, List, [], ◌∷◌, length, sym, ap, subst, ◌∙◌, arith}
use Rattle.std.specs.Prelude.{All, Contains}
use Rattle.std.specs.List.{AllByRecursion}
use Rattle.std.proofs.Math.Nat.{mul-le-mul_left}
use Rattle.x7_planner.proofs.BurstLemmas.{all_rows}
use Rattle.x7_planner.proofs.FewLemmas.{by_rows}
use Rattle.x7_regs.specs.declared.command.Command.TheVariants.{Rcrc}
use Rattle.x7_regs.specs.declared.register.Reg.TheVariants.{Idcode}
use Rattle.x7_words.specs.Word.{AreBytes, AreWords}
use Rattle.x7_packets.specs.History.{History, history_of}
use Rattle.x7_part.specs.AddressOrder.{addresses_in}
use Rattle.x7_part.specs.Part.{PartData, frame_words}
use Rattle.x7_startup.specs.Startup.{StartupProgress}
use Rattle.x7_part.specs.Ranges.{IsPart}
use Rattle.x7_part.specs.Slot.{pads_after_row}
use Rattle.x7_memory.specs.FrameMap.{FrameMap, override}
use Rattle.x7_memory.specs.Plan.{AreInOrder, IsPlan, IsPlanRow, PlanData, PlanRow, planned}
use Rattle.x7_flow.specs.FrameMemory.{memory_of}
use Rattle.x7_engine.specs.declared.kept.Kept.{Kept}
use Rattle.x7_engine.specs.Rest.{AtRest}
use Rattle.x7_engine.specs.Startup.{startup_progress}
use Rattle.x7_engine.proofs.UntilLemmas.{phase_going}
use Rattle.x7_effects.proofs.Items as item
use Rattle.x7_effects.proofs.Checking.{ArePieces, Check, Piece, Put, pieces_length}
use Rattle.x7_planner.specs.PartialStream.{sections_of}
use Rattle.x7_effects.proofs.Groups.{plan_pieces, put_sections}
use Rattle.x7_effects.specs.Played.{PlaysPartial, device_after}
use Rattle.x7_planner.specs.PartialStream.{Section}
use Rattle.x7_planner.proofs.FewLemmas as few
use Rattle.x7_effects.proofs.Streams.{HaveWords, command, one, stream_of, sections_pieces}
use Rattle.x7_effects.proofs.EndLemmas.{HasPlayed, lines_going, memory_all, played, ready_begin, ready_check}
use Rattle.x7_effects.proofs.FormLemmas.{partial_clears}
use Rattle.x7_effects.proofs.FrameLemmas.{address_small}
use Rattle.x7_effects.proofs.GoingLemmas.{IsGoing, going_bytes, written, written_append}
use Rattle.x7_effects.proofs.GroupLemmas.{plan_put}
use Rattle.x7_effects.proofs.KeptLemmas.{partial_apart, control_words_stay}
use Rattle.x7_effects.proofs.PlacedLemmas.{plan_fits, sections_land}
use Rattle.x7_effects.proofs.PlanLemmas.{sections_stand}
use Rattle.x7_effects.proofs.RestingLemmas.{going_at_rest, going_closed}
use Rattle.x7_effects.proofs.SilentLemmas.{stream_silent, sections_silent}
use Rattle.x7_effects.proofs.SectionLemmas.{pieces_sum, sections_ready}
use Rattle.x7_effects.proofs.WalkLemmas.{IsReady}

-- ---- how many words a plan's rows have

rows_few : (part : PartData) (rows : List PlanRow) → IsPart part → AreInOrder rows → All (λ row. Contains (addresses_in part) row.far) rows → frame_words part * (length rows + 1) < 2 ^ 27
rows_few part rows is o h =
    let named : length rows ≤ length (addresses_in part) = few.rows_few part rows is o h in
    let more : frame_words part * (length rows + 1) ≤ frame_words part * (length (addresses_in part) + pads_after_row * length part.rows) = mul-le-mul_left (frame_words part) (omega (arith, named, is.some)) in
    omega (arith, more, is.slots)

-- ---- played

small_rows : (part : PartData) (rows : List PlanRow) → IsPart part → All (λ row. Contains (addresses_in part) row.far) rows → All (λ row. row.far < 2 ^ 32) rows
small_rows part rows is h = all_rows (λ row. row.far < 2 ^ 32) rows (each rows (by_rows (λ row. Contains (addresses_in part) row.far) rows h))
  where
    each : (rows : List PlanRow) → AllByRecursion (λ row. Contains (addresses_in part) row.far) rows → AllByRecursion (λ row. row.far < 2 ^ 32) rows
    each [] a = tt
    each (r ∷ rows) a = (address_small part r.far is a.0, each rows a.1)

pub have_words : (rows : List PlanRow) → All IsPlanRow rows → HaveWords rows
have_words rows a = all_rows (λ row. AreWords row.words) rows (each rows (by_rows IsPlanRow rows a))
  where
    each : (rows : List PlanRow) → AllByRecursion IsPlanRow rows → AllByRecursion (λ row. AreWords row.words) rows
    each [] a = tt
    each (r ∷ rows) a = (a.0.words, each rows a.1)

pub partial_fits_plan : (part : PartData) (plan : PlanData) → IsPart part → IsPlan plan → plan.width ≡ frame_words part → All (λ row. Contains (addresses_in part) row.far) plan.rows → ArePieces (plan_pieces part plan.rows)
partial_fits_plan part plan is p e within =
    plan_fits part plan.rows is.idcode (rows_few part plan.rows is p.order within) (small_rows part plan.rows is within) (have_words plan.rows p.each)
    (subst (λ (w : ℕ). All (λ row. length row.words ≡ w) plan.rows) e p.width)

pub partial_plays : (part : PartData) (kept : Kept) (bytes : List ℕ) (plan : PlanData) → AreBytes bytes → AtRest part kept bytes → IsPart part → IsPlan plan → plan.width ≡ frame_words part
    → All (λ row. Contains (addresses_in part) row.far) plan.rows → PlaysPartial (device_after part kept bytes) (stream_of (plan_pieces part plan.rows) 4) plan
partial_plays part kept bytes plan f r is p e within =
    let rows : List PlanRow = plan.rows in
    let h : History = history_of bytes in
    let n : ℕ = length bytes + 36 in
    let startup : StartupProgress = startup_progress h (length bytes) in
    let wide : All (λ row. length row.words ≡ frame_words part) rows = subst (λ (w : ℕ). All (λ row. length row.words ≡ w) rows) e p.width in
    let sections : List Section = sections_of part rows in
    let middle : List Piece = sections_pieces part sections in
    let some : 0 < frame_words part = omega (arith, is.words) in
    let going : IsGoing part kept startup h n = going_bytes part kept startup h (length bytes) n (omega arith) (going_at_rest part kept bytes f r) in
    let k : ℕ = n + 4 + 8 + 4 + 8 in
    let first : History = written n (Put item.Noop ∷ command Rcrc ∷ Put item.Noop ∷ one Idcode part.idcode ∷ []) h in
    let begun : IsReady part kept startup first k (memory_of part h) = ready_begin part kept startup h n going r.sbits in
    let sectioned : IsReady part kept startup (written k middle first) (k + 4 * pieces_length middle) (put_sections (memory_of part h) sections) =
    sections_ready part kept startup sections first k (memory_of part h) some begun (sections_land part rows is wide within) (sections_stand part rows is wide within) in
    let checked = ready_check part kept startup (written k middle first) (k + 4 * pieces_length middle) (put_sections (memory_of part h) sections) sectioned in
    let last : k + 4 * pieces_length middle + 8 ≡ n + 4 * pieces_length (plan_pieces part rows) = omega (arith, pieces_sum middle (Check ∷ [])) in
    let whole : IsReady part kept startup (written n (plan_pieces part rows) h) (n + 4 * pieces_length (plan_pieces part rows)) (put_sections (memory_of part h) sections) =
    subst (λ (x : History). IsReady part kept startup x (n + 4 * pieces_length (plan_pieces part rows)) (put_sections (memory_of part h) sections)) (sym (written_append k middle (Check ∷ []) first))
    (subst (λ (x : ℕ). IsReady part kept startup (written (k + 4 * pieces_length middle) (Check ∷ []) (written k middle first)) x (put_sections (memory_of part h) sections)) last checked) in
    let all : HasPlayed part kept startup bytes (stream_of (plan_pieces part rows) 4) (put_sections (memory_of part h) sections) =
    played part kept startup bytes (plan_pieces part rows) 4 (put_sections (memory_of part h) sections) f r.searching
    (partial_fits_plan part plan is p e within) (partial_clears part sections)
    (going_closed part kept startup (written n (plan_pieces part rows) h) (n + 4 * pieces_length (plan_pieces part rows)) 4 whole.going) whole.allows whole.memory in
    record {
      memory = λ far. all.memory far ∙ plan_put part rows (memory_of part h) p.order far ∙ ap (λ (x : FrameMap). override x (planned rows) far) (sym (memory_all part kept bytes r.no_stop));
      phase = λ wrapped. all.phase_is wrapped ∙ sym (phase_going part kept wrapped bytes r.no_stop);
      lines = λ wrapped. all.lines_are wrapped ∙ sym (lines_going part kept wrapped bytes r.no_stop);
      registers = control_words_stay part kept bytes (plan_pieces part rows) 4 f r.searching (partial_fits_plan part plan is p e within) (partial_clears part sections) r.no_stop all.rests_again.no_stop (partial_apart part rows);
      reads = stream_silent part kept bytes (plan_pieces part rows) 4 f r.searching (partial_fits_plan part plan is p e within) (partial_clears part sections)
          (tt, (tt, (tt, (tt, sections_silent part sections (Check ∷ []) (tt, tt))))) r.no_stop all.rests_again.no_stop;
      rests = all.rests_again;
    }
