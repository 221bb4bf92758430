-- An attempt in which a full stream comes to a device at rest: it starts, with the memory of the plan.
use Rattle.std.proofs.Common.{◌≡◌, ◌==◌, ◌&&◌, ◌+◌, ◌*◌, ◌<◌, ◌≤◌, inl, ℕ, Bool, true, false, if◌then◌else◌, Option, None, List, [], ◌∷◌, ◌++◌, drop, take, length, refl, ap, sym, subst, ◌∙◌, take-append-drop, length-take-le, append_assoc, arith}
use Rattle.std.specs.Prelude.{nat_lt}
use Rattle.std.proofs.Math.Seq.{take-length}
use Rattle.std.proofs.lemmas.Bool.{or_right}
use Rattle.std.proofs.lemmas.List.{take-append-le}
use Rattle.x7_words.specs.Word.{AreBytes}
use Rattle.x7_words.proofs.ListLemmas.{all_append, all_take}
use Rattle.x7_packets.specs.ByHand.{reading_of}
use Rattle.x7_packets.specs.History as access
use Rattle.x7_packets.specs.History.{History, entry, history_of, until}
use Rattle.x7_packets.specs.Reading.{is_synced}
use Rattle.x7_packets.proofs.GrowthLemmas.{newer_of}
use Rattle.x7_part.specs.Part.{PartData}
use Rattle.x7_part.specs.Ranges.{IsPart}
use Rattle.x7_part.specs.Slot.{slots_in}
use Rattle.x7_regs.specs.BootStatus.{boot_status_of}
use Rattle.x7_memory.specs.FrameMap.{HaveSameFrames, FrameMap}
use Rattle.x7_memory.specs.Plan.{IsPlanFor, PlanData, total}
use Rattle.x7_planner.specs.FullStream.{full_stream}
use Rattle.x7_flow.specs.FrameMemory.{memory_of}
use Rattle.x7_regs.specs.declared.register.Reg.TheVariants.{Bootsts}
use Rattle.x7_engine.specs.Kept.{is_fallback}
use Rattle.x7_engine.specs.Registers.{wrote_iprog}
use Rattle.x7_engine.specs.Rest.{AtRest}
use Rattle.x7_engine.specs.State.{bootsts_of, history_by, memory_of_bytes, state_of, first_stop_of_bytes, why_stopped}
use Rattle.x7_engine.specs.Stop.{Stopped, fault_of_stop}
use Rattle.x7_engine.specs.Value.{attempt_of}
use Rattle.x7_engine.specs.declared.kept.Kept.{Kept}
use Rattle.x7_effects.specs.Played.{PlaysFull, device_after}
use Rattle.x7_effects.proofs.Items.{bus_width_head, closed, writes_entered}
use Rattle.x7_effects.proofs.Checking.{at_first, pieces_length, with_checks}
use Rattle.x7_effects.proofs.EndLemmas.{memory_all}
use Rattle.x7_effects.proofs.FormLemmas.{full_clears, full_fits}
use Rattle.x7_effects.proofs.Frames.{frames_at, joined}
use Rattle.x7_effects.proofs.GoingLemmas.{written}
use Rattle.x7_effects.proofs.LawLemmas.{full_law}
use Rattle.x7_effects.proofs.PartialLemmas.{have_words}
use Rattle.x7_effects.proofs.PlannerLemmas.{full_same}
use Rattle.x7_effects.proofs.RestingLemmas.{stream_history}
use Rattle.x7_effects.proofs.StreamLemmas.{bytes_fit}
use Rattle.x7_effects.proofs.Streams as items
use Rattle.x7_boot.specs.Attempt.{IsFlashAttempt, NoneBefore, BootAttempt, ending_at}
use Rattle.x7_boot.specs.Boot.{end_value}
use Rattle.x7_boot.specs.declared.attempt.Ending.TheVariants.{Started}
use Rattle.x7_boot.proofs.LeastLemmas.{IsLeast, least_of}
use Rattle.x7_boot.proofs.StartLemmas.{NoDesyncAfterStart, prefix_goes, prefix_history, goes_on, never_seven, never_until}
use Rattle.x7_boot.proofs.TookLemmas.{ends_started}

-- ---- the history of a full stream

words_never : (place : ℕ) (ws : List ℕ) (h : History) → NoDesyncAfterStart h → NoDesyncAfterStart (writes_entered place 2 ws h)
words_never place [] h never = never
words_never place (w ∷ ws) h never = words_never (place + 4) ws (entry (access.Write 2 w) (place + 4) ∷ h) (inl refl, never)

-- the pieces of a full stream execute no DESYNC
pieces_never : (part : PartData) (plan : PlanData) (place : ℕ) (h : History) → NoDesyncAfterStart h → NoDesyncAfterStart (written place (items.full_pieces part plan) h)
pieces_never part plan place h never =
    let ws : List ℕ = joined (frames_at part plan (slots_in part)) in
    (inl refl, (inl refl, (inl refl, (inl refl, words_never _ ws _ (inl refl, (inl refl, (inl refl, (inl refl, (inl refl, (inl refl, (inl refl, (inl refl, never))))))))))))

-- the history with a full stream: a DESYNC, and before it accesses of which none is a DESYNC after a START
pub record EndsInDesync (bytes stream : List ℕ) : Type 0 where
  place : ℕ
  before : History
  is : history_of (bytes ++ stream) ≡ entry (access.Write 4 13) place ∷ before
  never : NoDesyncAfterStart before

pub full_ends : (part : PartData) (plan : PlanData) (bytes : List ℕ) → AreBytes bytes → is_synced (reading_of bytes).place ≡ false → IsPart part → IsPlanFor part plan → NoDesyncAfterStart (history_of bytes) → EndsInDesync bytes (full_stream part plan)
full_ends part plan bytes fits e is for never =
    let start : ℕ = length bytes + 36 in record {
      place = start + 4 * pieces_length (items.full_pieces part plan) + 8;
      before = written start (items.full_pieces part plan) (history_of bytes);
      is = ap (λ (s : List ℕ). history_of (bytes ++ s)) (full_same part plan is for.is_plan for.width)
          ∙ stream_history bytes (items.full_pieces part plan) 16 fits e (full_fits part plan is for.is_plan for.width (have_words plan.rows for.is_plan.each)) (full_clears part plan);
      never = pieces_never part plan start (history_of bytes) never;
    }

pub full_stream_fits : (part : PartData) (plan : PlanData) → IsPart part → IsPlanFor part plan → AreBytes (full_stream part plan)
full_stream_fits part plan is for = subst AreBytes (sym (full_same part plan is for.is_plan for.width)) (bytes_fit (closed bus_width_head (with_checks at_first (items.full_pieces part plan)) 16))

-- ---- where the phase comes to 7, all accesses have ended

not_less : (n m : ℕ) (rest : History) (access : access.Access) → (NoDesyncAfterStart (until n (entry access m ∷ rest)) → ⊥) → NoDesyncAfterStart rest → until n (entry access m ∷ rest) ≡ entry access m ∷ rest
not_less n m rest access late never = by (nat_lt n m) refl late
  where
    by : (b : Bool) → nat_lt n m ≡ b → (NoDesyncAfterStart (if b then until n rest else entry access m ∷ rest) → ⊥) → (if b then until n rest else entry access m ∷ rest) ≡ entry access m ∷ rest
    by true e late' = absurd (late' (never_until n rest never))
    by false e late' = refl

pub seven_whole : (part : PartData) (kept : Kept) (bytes stream : List ℕ) (k : ℕ) → AreBytes (bytes ++ stream) → EndsInDesync bytes stream → ((state_of part kept false (take k (bytes ++ stream))).phase == 7) ≡ true
    → history_of (take k (bytes ++ stream)) ≡ history_of (bytes ++ stream)
seven_whole part kept bytes stream k fits d seven =
    let all : List ℕ = bytes ++ stream in
    let prefix : List ℕ = take k all in
    let history : history_of prefix ≡ until (length prefix) (history_of all) = prefix_history k all fits in
    let cut : history_of prefix ≡ until (length prefix) (entry (access.Write 4 13) d.place ∷ d.before) = history ∙ ap (until (length prefix)) d.is in
    cut ∙ not_less (length prefix) d.place d.before (access.Write 4 13) (λ never.
    let early : ((state_of part kept false prefix).phase == 7) ≡ false = never_seven part kept prefix (all_take (λ b. b < 256) k all fits) (subst NoDesyncAfterStart (sym cut) never) in
    let both : true ≡ false = sym seven ∙ early in absurd (cc)) d.never ∙ sym d.is

-- ---- the attempt

-- the attempt with this kept at this address starts, with the memory of a plan;
-- the attempt has ignored an IPROG, or not
pub record StartsWith (part : PartData) (kept : Kept) (address : ℕ) (flash : List ℕ) (plan : PlanData) (ignored : Bool) : Type 0 where
  pub attempt : BootAttempt
  pub is : IsFlashAttempt part flash attempt
  pub kept_is : attempt.kept ≡ kept
  pub address_is : attempt.address ≡ address
  pub ending_is : attempt.ending ≡ Started
  pub memory : HaveSameFrames (memory_of_bytes part attempt.kept attempt.bytes) (total part plan)
  pub bootsts : end_value part attempt Bootsts ≡ boot_status_of (record { kind = kept.kind; cause = None; ignored = ignored }) kept.before

pub bootsts_is : (part : PartData) (kept : Kept) (bytes : List ℕ) (ignored : Bool) → first_stop_of_bytes part kept bytes ≡ None → (is_fallback kept.kind && wrote_iprog (history_of bytes)) ≡ ignored
    → bootsts_of part kept false bytes ≡ boot_status_of (record { kind = kept.kind; cause = None; ignored = ignored }) kept.before
bootsts_is part kept bytes ignored none e =
    ap (λ (o : Option Stopped). boot_status_of (attempt_of kept false (fault_of_stop (why_stopped o)) (history_by o (history_of bytes))) kept.before) none
    ∙ ap (λ (b : Bool). boot_status_of (record { kind = kept.kind; cause = None; ignored = b }) kept.before) e

pub full_starts : (part : PartData) (kept : Kept) (bytes : List ℕ) (plan : PlanData) (address : ℕ) (flash more : List ℕ) (ignored : Bool) → AreBytes bytes → AtRest part kept bytes → NoDesyncAfterStart (history_of bytes)
    → IsPart part → IsPlanFor part plan → drop address flash ≡ (bytes ++ full_stream part plan) ++ more → (is_fallback kept.kind && wrote_iprog (history_of (bytes ++ full_stream part plan))) ≡ ignored
    → StartsWith part kept address flash plan ignored
full_starts part kept bytes plan address flash more ignored fits rest never is for split e =
    let stream : List ℕ = full_stream part plan in
    let all : List ℕ = bytes ++ stream in
    let all_fit : AreBytes all = all_append (λ b. b < 256) bytes stream fits (full_stream_fits part plan is for) in
    let plays : PlaysFull (device_after part kept bytes) stream plan = full_law part kept bytes plan fits rest is for.is_plan for.width for.addressed in
    let none : first_stop_of_bytes part kept all ≡ None = plays.rests.no_stop in
    let seven_at : ℕ → Bool = λ k. (state_of part kept false (take k all)).phase == 7 in
    let seven : seven_at (length all) ≡ true = ap (λ (b : List ℕ). (state_of part kept false b).phase == 7) (take-length all) ∙ ap (λ (p : ℕ). p == 7) (plays.phase false) in
    let l : IsLeast seven_at (length all) = least_of seven_at (length all) seven in
    let taken : List ℕ = take l.least all in
    let count : length taken ≡ l.least = length-take-le l.least all l.within in
    let going : first_stop_of_bytes part kept taken ≡ None = prefix_goes part kept l.least all all_fit none in
    let same : history_of taken ≡ history_of all = seven_whole part kept bytes stream l.least all_fit (full_ends part plan bytes fits rest.searching is for never) l.here in
    let first : NoneBefore part kept (all ++ more) (length taken) = λ k few.
    let less : k < l.least = omega (arith, few, count) in
    let within : k ≤ length all = omega (arith, less, l.within) in
    ap (ending_at part kept) (take-append-le k all more within) ∙ goes_on part kept (take k all) (l.none_before k less) (prefix_goes part kept k all all_fit none) in
    record {
      attempt = record { kept = kept; address = address; bytes = taken; wrapped = false; ending = Started };
      is = inl (record {
        rest = drop l.least all ++ more;
        taken = split ∙ ap (λ (b : List ℕ). b ++ more) (sym (take-append-drop l.least all)) ∙ append_assoc taken (drop l.least all) more;
        ends = ends_started part kept taken l.here;
        first = subst (λ (b : List ℕ). NoneBefore part kept b (length taken)) (sym split) first;
        in_flash = refl;
      });
      kept_is = refl;
      address_is = refl;
      ending_is = refl;
      memory = λ far. ap (λ (m : FrameMap). m far) (memory_all part kept taken going ∙ ap (memory_of part) same ∙ sym (memory_all part kept all none)) ∙ plays.memory far;
      bootsts = bootsts_is part kept taken ignored going (ap (λ (h : History). is_fallback kept.kind && wrote_iprog h) same ∙ e);
    }

-- ---- IPROG once written stays so

pub iprog_stays : (newer h : History) → wrote_iprog h ≡ true → wrote_iprog (newer ++ h) ≡ true
iprog_stays [] h e = e
iprog_stays (x ∷ newer) h e = or_right _ (wrote_iprog (newer ++ h)) (iprog_stays newer h e)

pub iprog_later : (bytes more : List ℕ) → AreBytes (bytes ++ more) → wrote_iprog (history_of bytes) ≡ true → wrote_iprog (history_of (bytes ++ more)) ≡ true
iprog_later bytes more fits e =
    let n = newer_of bytes more fits in
    ap wrote_iprog n.1 ∙ iprog_stays n.0 (history_of bytes) e
