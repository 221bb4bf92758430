-- The full stream of a plan begins clean: after an erased first sector it starts, and nothing has stopped the device by
-- then.
use Rattle.std.proofs.Common.{◌≡◌, ◌==◌, ◌+◌, ◌-◌, ◌*◌, ◌<◌, ◌≤◌, ◌⊎◌, inl, inr, ℕ, true, false, None, Some, List, [], ◌∷◌, ◌++◌, drop, take, length, length-append, refl, ap, sym, subst, ◌∙◌, append_assoc, arith}
use Rattle.x7_packets.specs.FlashSlot.{sector_size}
use Rattle.x7_words.specs.Flash.{erased_sector}
use Rattle.x7_words.proofs.FlashLemmas.{length_erased_sector, bytes_erased_sector}
use Rattle.std.proofs.lemmas.Bool.{cases_lt}
use Rattle.std.proofs.lemmas.List.{take-append-le}
use Rattle.std.proofs.Math.Seq.{drop-append_seam, take-append-add, take-append_seam}
use Rattle.x7_words.specs.Word.{AreBytes}
use Rattle.x7_words.proofs.ListLemmas.{all_append, all_take}
use Rattle.x7_packets.specs.History as access
use Rattle.x7_packets.specs.History.{History, entry, history_of}
use Rattle.x7_packets.proofs.MovedLemmas.{moved_same}
use Rattle.x7_part.specs.Part.{PartData}
use Rattle.x7_part.specs.Ranges.{IsPart}
use Rattle.x7_part.specs.Slot.{slots_in}
use Rattle.x7_memory.specs.Plan.{IsPlanFor, PlanData}
use Rattle.x7_planner.specs.FullStream.{full_stream}
use Rattle.x7_engine.specs.State.{state_of, first_stop_of_bytes, why_stopped}
use Rattle.x7_engine.specs.declared.kept.Kept.{Kept}
use Rattle.x7_effects.specs.Played.{PlaysFull, device_after}
use Rattle.x7_effects.proofs.Items.{writes_entered}
use Rattle.x7_effects.proofs.Checking.{pieces_length}
use Rattle.x7_effects.proofs.FormLemmas.{full_clears, full_fits}
use Rattle.x7_effects.proofs.Frames.{frames_at, joined}
use Rattle.x7_effects.proofs.GoingLemmas.{written}
use Rattle.x7_effects.proofs.LawLemmas.{full_law}
use Rattle.x7_effects.proofs.PartialLemmas.{have_words}
use Rattle.x7_effects.proofs.PlannerLemmas.{full_same}
use Rattle.x7_effects.proofs.RestingLemmas.{stream_history}
use Rattle.x7_effects.proofs.Streams as items
use Rattle.x7_boot.specs.Attempt.{EndsFirst, BootAttempt}
use Rattle.x7_boot.specs.Boot.{at_power}
use Rattle.x7_boot.proofs.CheckedLemmas.{starts_by}
use Rattle.x7_boot.proofs.StartLemmas.{prefix_goes}
use Rattle.x7_recovery.specs.Clean.{BeginsClean, StartsClean, clear, later, next, nothing, shutdown}
use Rattle.x7_recovery.specs.Golden.{StartsAsPlanned, with_first_sector_erased}
use Rattle.x7_recovery.specs.Recovery.{IsPrepared, Updating}
use Rattle.x7_recovery.proofs.CleanStopLemmas.{not_empty}
use Rattle.x7_recovery.proofs.FullAttemptLemmas.{full_ends, full_stream_fits, seven_whole}
use Rattle.x7_recovery.proofs.GoldenLemmas.{ended, erased_prefix, erased_history, never_erased, rest_erased}

-- ---- the history of a full stream begins clean

words_clean : (place : ℕ) (ws : List ℕ) (h : History) → BeginsClean h → BeginsClean (writes_entered place 2 ws h)
words_clean place [] h b = b
words_clean place (w ∷ ws) h b = words_clean (place + 4) ws (entry (access.Write 2 w) (place + 4) ∷ h) (later (entry (access.Write 2 w) (place + 4)) h b)

pieces_clean : (part : PartData) (plan : PlanData) (place : ℕ) → BeginsClean (written place (items.full_pieces part plan) [])
pieces_clean part plan place =
    let ws : List ℕ = joined (frames_at part plan (slots_in part)) in
    later _ _ (later _ _ (later _ _ (later _ _ (words_clean _ ws _ (later _ _ (later _ _ (later _ _ (later _ _ (later _ _ (later _ _ (clear _ _ (next _ _ [] shutdown nothing))))))))))))

stream_clean : (part : PartData) (plan : PlanData) → IsPart part → IsPlanFor part plan → BeginsClean (history_of (full_stream part plan))
stream_clean part plan is for =
    let is_history : history_of ([] ++ full_stream part plan) ≡ entry (access.Write 4 13) (0 + 36 + 4 * pieces_length (items.full_pieces part plan) + 8) ∷ written (0 + 36) (items.full_pieces part plan) [] =
    ap (λ (s : List ℕ). history_of ([] ++ s)) (full_same part plan is for.is_plan for.width)
    ∙ stream_history [] (items.full_pieces part plan) 16 tt refl (full_fits part plan is for.is_plan for.width (have_words plan.rows for.is_plan.each)) (full_clears part plan) in
    subst BeginsClean (sym is_history) (later _ _ (pieces_clean part plan (0 + 36)))

-- ---- the attempt

module _ (u : Updating) (p : IsPrepared u) (t : BootAttempt) (s : StartsAsPlanned u t) where
  abbrev stream : List ℕ
  stream = full_stream u.part u.golden

  abbrev short : List ℕ
  short = erased_sector ++ stream

  stream_fits : AreBytes stream
  stream_fits = full_stream_fits u.part u.golden p.is_part p.plan

  short_fits : AreBytes short
  short_fits = all_append (λ b. b < 256) erased_sector stream bytes_erased_sector stream_fits

  short_long : length short ≡ sector_size + length stream
  short_long = length-append erased_sector stream ∙ ap (λ (n : ℕ). n + length stream) length_erased_sector

  x : EndsFirst u.part (with_first_sector_erased u.flash) t
  x = ended u.part (with_first_sector_erased u.flash) t s.golden.starts

  whole : with_first_sector_erased u.flash ≡ short ++ p.golden.rest
  whole = ap (λ (y : List ℕ). erased_sector ++ y) p.golden.stands ∙ sym (append_assoc erased_sector stream p.golden.rest)

  taken : t.bytes ≡ take (length t.bytes) short
  taken =
      sym (take-append_seam t.bytes x.rest) ∙ ap (take (length t.bytes)) (sym x.taken ∙ whole) ∙ take-append-le (length t.bytes) short p.golden.rest (let l : length t.bytes ≤ length short = omega (arith, s.within, short_long) in l)

  none : first_stop_of_bytes u.part at_power short ≡ None
  none =
      let plays : PlaysFull (device_after u.part at_power erased_sector) stream u.golden = full_law u.part at_power erased_sector u.golden bytes_erased_sector (rest_erased u.part) p.is_part p.plan.is_plan p.plan.width p.plan.addressed in
      plays.rests.no_stop

  at_seven : ((state_of u.part at_power false (take (length t.bytes) short)).phase == 7) ≡ true
  at_seven =
      let here : ((state_of u.part t.kept false t.bytes).phase == 7) ≡ true = starts_by ((state_of u.part t.kept false t.bytes).phase == 7) (why_stopped (first_stop_of_bytes u.part t.kept t.bytes)) (x.ends ∙ ap Some s.golden.starts.started) in
      ap (λ (y : List ℕ). (state_of u.part at_power false y).phase == 7) (sym taken) ∙ ap (λ (k : Kept). (state_of u.part k false t.bytes).phase == 7) (sym s.golden.starts.kept) ∙ here

  same_history : history_of (take (length t.bytes) short) ≡ history_of short
  same_history = seven_whole u.part at_power erased_sector stream (length t.bytes) short_fits (full_ends u.part u.golden erased_sector bytes_erased_sector (rest_erased u.part).searching p.is_part p.plan never_erased) at_seven

  abbrev part_of : List ℕ
  part_of = take (length t.bytes - length erased_sector) stream

  -- the attempt took the erased sector, and a part of the stream
  split : length erased_sector ≤ length t.bytes → t.bytes ≡ erased_sector ++ part_of
  split l = (let sum : length erased_sector + (length t.bytes - length erased_sector) ≡ length t.bytes = omega (arith, l) in
      taken ∙ ap (λ (n : ℕ). take n short) (sym sum) ∙ take-append-add erased_sector stream (length t.bytes - length erased_sector))

  -- fewer bytes ask nothing
  not_fewer : length t.bytes < length erased_sector → ⊥
  not_fewer few =
      let l : length t.bytes ≤ length erased_sector = omega (arith, few) in
      let cut : take (length t.bytes) short ≡ take (length t.bytes) erased_sector = take-append-le (length t.bytes) erased_sector stream l in
      let empty : history_of (take (length t.bytes) short) ≡ [] = ap history_of cut ∙ erased_prefix (length t.bytes) (omega (arith, l, length_erased_sector)) in
      not_empty (history_of stream) (moved_same sector_size (history_of stream) [] (sym (erased_history stream stream_fits) ∙ sym same_history ∙ empty)) (stream_clean u.part u.golden p.is_part p.plan)

  pub full_clean : StartsClean u.part u.flash t
  full_clean = by (cases_lt (length t.bytes) (length erased_sector))
    where
      fits : AreBytes t.bytes
      fits = subst AreBytes (sym taken) (all_take (λ b. b < 256) (length t.bytes) short short_fits)

      going : first_stop_of_bytes u.part t.kept t.bytes ≡ None
      going = ap (λ (k : Kept). first_stop_of_bytes u.part k t.bytes) s.golden.starts.kept ∙ ap (first_stop_of_bytes u.part at_power) taken ∙ prefix_goes u.part at_power (length t.bytes) short short_fits none

      by : (length t.bytes < length erased_sector) ⊎ (length erased_sector ≤ length t.bytes) → StartsClean u.part u.flash t
      by (inl few) = absurd (not_fewer few)
      by (inr l) =
          let part_fits : AreBytes part_of = all_take (λ b. b < 256) (length t.bytes - length erased_sector) stream stream_fits in
          let same : history_of part_of ≡ history_of stream =
          moved_same sector_size (history_of part_of) (history_of stream) (sym (erased_history part_of part_fits) ∙ ap history_of (sym (split l) ∙ taken) ∙ same_history ∙ erased_history stream stream_fits) in
          let dropped : drop sector_size t.bytes ≡ part_of = ap (drop sector_size) (split l) ∙ ap (λ (n : ℕ). drop n (erased_sector ++ part_of)) (sym length_erased_sector) ∙ drop-append_seam erased_sector part_of in
          record { starts = s.golden.starts; going = going; clean = subst BeginsClean (sym (ap history_of dropped ∙ same)) (stream_clean u.part u.golden p.is_part p.plan); fits = fits }
