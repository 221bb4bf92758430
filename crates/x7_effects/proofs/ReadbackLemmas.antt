-- A read stream on a device at rest.
use Rattle.std.proofs.Common.{◌≡◌, ◌==◌, ◌+◌, ◌*◌, ◌^◌, ◌≤◌, ◌<◌, ℕ, Bool, true, false, if◌then◌else◌, None, Some, List, [], ◌∷◌, ◌++◌, length, replicate, take, unwrap_or, is_some, refl, sym, ap, subst, ◌∙◌, append-nil, arith, length-append}
use Rattle.std.specs.Prelude.{Contains}
use Rattle.std.specs.List.{flat_map}
use Rattle.std.proofs.lemmas.Bool.Decides.{nat_tests}
use Rattle.std.proofs.Math.Nat.{mul-le-mul_left}
use Rattle.x7_words.specs.Word.{AreBytes}
use Rattle.x7_packets.specs.History as access
use Rattle.x7_packets.specs.History.{History, entry, history_of}
use Rattle.x7_part.specs.AddressOrder.{addresses_in}
use Rattle.x7_part.specs.Part.{PartData, frame_words}
use Rattle.x7_startup.specs.Startup.{StartupProgress}
use Rattle.x7_part.specs.Ranges.{IsPart}
use Rattle.x7_part.specs.Slot.{slots_in, slots_from, pads_after_row}
use Rattle.x7_part.specs.declared.slot.Slot.{Slot}
use Rattle.x7_part.specs.declared.slot.Slot.TheVariants.{Frame, Pad, End}
use Rattle.x7_part.proofs.SlotLemmas.{slots_number, slots_split}
use Rattle.x7_memory.specs.FrameMap.{HaveSameFrames, FrameMap}
use Rattle.x7_pipeline.specs.declared.fault.RunFault.{RunFault}
use Rattle.x7_pipeline.specs.FarAsRead.{is_frame_address}
use Rattle.x7_pipeline.specs.Fault.{address_fault}
use Rattle.x7_flow.specs.Asking.{NothingAsked, Reads}
use Rattle.x7_regs.specs.Control.{forbids_reading}
use Rattle.x7_flow.specs.Controls.{ctl0_held}
use Rattle.x7_flow.specs.HistoryFlow.{Flow, base_of, fault_by, flow_of, frame_fault, count_given}
use Rattle.x7_flow.specs.FrameAccess.{reads_frame_data}
use Rattle.x7_flow.specs.FrameMemory.{memory_of}
use Rattle.x7_flow.specs.Standing.{frames_read, readback_words}
use Rattle.x7_flow.proofs.FlowLemmas.{flow_more}
use Rattle.x7_engine.specs.Course.{course_at}
use Rattle.x7_engine.specs.declared.kept.Kept.{Kept}
use Rattle.x7_engine.specs.Rest.{AtRest}
use Rattle.x7_engine.specs.Startup.{startup_progress}
use Rattle.x7_engine.specs.State.{reads_of}
use Rattle.x7_engine.specs.Stop.{why_at_access}
use Rattle.x7_engine.specs.Value.{words_read_by, read_out, read_value, words_of_read}
use Rattle.x7_engine.proofs.UntilLemmas.{phase_going}
use Rattle.x7_effects.proofs.Checking.{Piece, pieces_length}
use Rattle.x7_effects.specs.Played.{PlaysRead, device_after, slot_words, words_along}
use Rattle.x7_effects.proofs.Streams.{read_pieces, read_stream, stream_of}
use Rattle.x7_effects.proofs.EndLemmas.{HasPlayed, lines_going, memory_all, played}
use Rattle.x7_effects.proofs.FormLemmas.{read_clears, read_fits}
use Rattle.x7_effects.proofs.FrameLemmas.{address_small}
use Rattle.x7_effects.proofs.GoingLemmas.{IsGoing, far_passes, going_access, going_bytes, why_none, quiet_far, quiet_rcrc}
use Rattle.x7_flow.proofs.InsideLemmas.{memory_has}
use Rattle.x7_effects.proofs.KeptLemmas.{read_apart, control_words_stay}
use Rattle.x7_effects.proofs.PlanLemmas.{target}
use Rattle.x7_effects.proofs.ReadLemmas as reading
use Rattle.x7_effects.proofs.RestingLemmas.{going_at_rest, going_closed, stream_history}
use Rattle.x7_effects.proofs.SectionLemmas.{IsTarget}
use Rattle.x7_effects.proofs.WalkLemmas.{going_one, quiet_one}
use Rattle.x7_engine.proofs.UntilReadLemmas.{reads_going}

-- ---- the same words of the same memory

slot_same : (part : PartData) (m k : FrameMap) (s : Slot) → HaveSameFrames m k → slot_words part m s ≡ slot_words part k s
slot_same part m k (Frame far) e = ap (λ o. unwrap_or o (replicate (frame_words part) 0)) (e far)
slot_same part m k Pad e = refl
slot_same part m k End e = refl

slots_same : (part : PartData) (m k : FrameMap) (places : List Slot) → HaveSameFrames m k → flat_map (slot_words part m) places ≡ flat_map (slot_words part k) places
slots_same part m k [] e = refl
slots_same part m k (s ∷ places) e = ap (λ t. t ++ flat_map (slot_words part m) places) (slot_same part m k s e) ∙ ap (λ t. slot_words part k s ++ t) (slots_same part m k places e)

pub along_same : (part : PartData) (m k : FrameMap) (far n : ℕ) → HaveSameFrames m k → words_along part m far n ≡ words_along part k far n
along_same part m k far n e = ap (λ t. replicate (frame_words part) 0 ++ t) (slots_same part m k (take n (slots_from part far)) e)

-- ---- a read that isn't refused

no_fault : (part : PartData) (base count : ℕ) → is_frame_address part base ≡ true → (if count == 0 then None else address_fault part base) ≡ None
unfolding address_fault
no_fault part base count a = by (count == 0)
  where
    by : (b : Bool) → (if b then None else if is_frame_address part base then None else Some (RunFault.Address base)) ≡ None
    by true = refl
    by false = rw a refl

pub gives : (part : PartData) (h : History) (count : ℕ) → 0 < count → access.command_held h ≡ 4 → forbids_reading (ctl0_held h) ≡ false → reads_frame_data h (access.Read 3 count) ≡ true
gives part h count some e f = let none : (count == 0) ≡ false = grind (arith, nat_tests, some) in rw (none, e, f) refl

read_none : (part : PartData) (h : History) (count : ℕ) → reads_frame_data h (access.Read 3 count) ≡ true → is_frame_address part (base_of part h) ≡ true → frame_fault part h (access.Read 3 count) ≡ None
read_none part h count t a = ap (λ (b : Bool). fault_by part (if b then Reads count else NothingAsked) (flow_of part h)) t ∙ no_fault part (base_of part h) count a

read_answer : (part : PartData) (kept : Kept) (h : History) (count place : ℕ) → reads_frame_data h (access.Read 3 count) ≡ true → why_at_access part kept h (access.Read 3 count) ≡ None → words_read_by part kept h (access.Read 3 count) place ≡ frames_read part h count
read_answer part kept h count place t e =
    ap (λ o. if is_some o then [] else words_of_read (course_at part kept h place) 3 count) e
    ∙ ap (λ (b : Bool). if b then frames_read part h count else replicate count (read_value (course_at part kept h place) 3)) t

-- ---- how much can be read

read_room : (part : PartData) (far n : ℕ) → IsPart part → Contains (addresses_in part) far → n ≤ length (slots_from part far) → frame_words part * (n + 1) < 2 ^ 27
read_room part far n is h l =
    let split = slots_split part far h in
    let count : length (slots_in part) ≡ length split.0 + length (slots_from part far) = ap length split.1 ∙ length-append split.0 (slots_from part far) in
    let within : n ≤ length (addresses_in part) + pads_after_row * length part.rows = omega (arith, count, l, slots_number part) in
    let most : frame_words part * n ≤ frame_words part * (length (addresses_in part) + pads_after_row * length part.rows) = mul-le-mul_left (frame_words part) within in
    let product : frame_words part * (n + 1) ≡ frame_words part * n + frame_words part = grind arith in
    omega (arith, most, product, is.slots, is.words)

-- ---- played

pub read_plays : (part : PartData) (kept : Kept) (bytes : List ℕ) (far n : ℕ) → AreBytes bytes → AtRest part kept bytes → IsPart part → Contains (addresses_in part) far → n ≤ length (slots_from part far)
    → PlaysRead (device_after part kept bytes) (read_stream part far n) far n
read_plays part kept bytes far n f r is has l =
    let h : History = history_of bytes in
    let place : ℕ = length bytes + 36 in
    let startup : StartupProgress = startup_progress h (length bytes) in
    let count : ℕ = frame_words part * (n + 1) in
    let product : count ≡ frame_words part * n + frame_words part = grind arith in
    let some : 0 < count = omega (arith, product, is.words) in
    let room : count < 2 ^ 27 = read_room part far n is has l in
    let t : IsTarget part far = target part far is has in
    let going : IsGoing part kept startup h (place + 4) = going_bytes part kept startup h (length bytes) (place + 4) (omega arith) (going_at_rest part kept bytes f r) in
    let a : History = entry (access.Write 4 7) (place + 4 + 4 + 4) ∷ h in
    let cleared : IsGoing part kept startup a (place + 4 + 8) = going_one part kept startup h (place + 4) 4 7 (quiet_rcrc h) refl refl going.calm.off going in
    let b : History = entry (access.Write 4 4) (place + 4 + 8 + 4 + 4 + 4) ∷ a in
    let ordered : IsGoing part kept startup b (place + 4 + 8 + 4 + 8) =
    going_one part kept startup a (place + 4 + 8 + 4) 4 4 (record { start = refl; shutdown = refl; desync = refl }) refl refl cleared.calm.off (going_bytes part kept startup a (place + 4 + 8) (place + 4 + 8 + 4) (omega arith) cleared) in
    let at : ℕ = place + 4 + 8 + 4 + 8 + 8 in
    let c : History = entry (access.Write 1 far) (place + 4 + 8 + 4 + 8 + 4 + 4) ∷ b in
    let loaded : IsGoing part kept startup c at = going_one part kept startup b (place + 4 + 8 + 4 + 8) 1 far (quiet_far b far 4 refl refl refl refl refl) (far_passes part kept b far 4 refl refl refl refl) refl ordered.calm.off ordered in
    let flow = flow_more part (entry (access.Write 1 far) (place + 4 + 8 + 4 + 8 + 4 + 4)) b in
    let base : base_of part c ≡ far = ap (λ (x : Flow). x.base) flow ∙ t.0 in
    let given : count_given part c ≡ 0 = ap (λ (x : Flow). x.given) flow in
    let asks : reads_frame_data c (access.Read 3 count) ≡ true = gives part c count some refl r.sbits in
    let none : why_at_access part kept c (access.Read 3 count) ≡ None = why_none part kept c (access.Read 3 count) refl (read_none part c count asks (ap (is_frame_address part) base ∙ t.1)) in
    let d : History = entry (access.Read 3 count) (at + 8) ∷ c in
    let read : IsGoing part kept startup d (at + 8) = going_access part kept startup c (access.Read 3 count) at (at + 8) (omega arith) loaded (record { start = refl; shutdown = refl; desync = refl }) none loaded.calm.off in
    let same : HaveSameFrames (memory_of part c) (memory_of part h) =
    quiet_one part b (access.Write 1 far) _ (memory_of part h) refl (quiet_one part a (access.Write 4 4) _ (memory_of part h) refl (quiet_one part h (access.Write 4 7) _ (memory_of part h) refl (λ x. refl))) in
    let memory : HaveSameFrames (memory_of part d) (memory_of part h) = quiet_one part c (access.Read 3 count) (at + 8) (memory_of part h) refl same in
    let pieces : List Piece = read_pieces part far n in
    let fits = read_fits part far n (omega (arith, is.words)) (address_small part far is has) room in
    let last : at + 8 ≡ place + 4 * pieces_length pieces = omega arith in
    let all : HasPlayed part kept startup bytes (stream_of pieces 4) (memory_of part h) =
    played part kept startup bytes pieces 4 (memory_of part h) f r.searching fits (read_clears part far n)
    (going_closed part kept startup d (place + 4 * pieces_length pieces) 4 (subst (λ (k : ℕ). IsGoing part kept startup d k) last read)) r.sbits memory in
    let words : frames_read part c count ≡ words_along part (memory_of part h) far n =
    ap (λ (x : ℕ). readback_words part x (memory_of part c) (count_given part c) count) base
    ∙ ap (λ (x : ℕ). readback_words part far (memory_of part c) x count) given
    ∙ reading.words_read part far (memory_of part c) n (memory_has part c (omega (arith, is.words))) l
    ∙ along_same part (memory_of part c) (memory_of part h) far n same in
    let out : read_out part kept d ≡ read_out part kept h ++ words_along part (memory_of part h) far n =
    ap (λ x. x ++ words_read_by part kept c (access.Read 3 count) (at + 8)) (append-nil ((read_out part kept h ++ []) ++ []) ∙ append-nil (read_out part kept h ++ []) ∙ append-nil (read_out part kept h))
    ∙ ap (λ x. read_out part kept h ++ x) (read_answer part kept c count (at + 8) asks none ∙ words) in
    record {
      reads = reads_going part kept (bytes ++ stream_of pieces 4) all.rests_again.no_stop
          ∙ ap (read_out part kept) (stream_history bytes pieces 4 f r.searching fits (read_clears part far n))
          ∙ append-nil (read_out part kept d) ∙ out
          ∙ ap (λ x. x ++ words_along part (memory_of part h) far n) (sym (reads_going part kept bytes r.no_stop))
          ∙ ap (λ (m : FrameMap). reads_of part kept bytes ++ words_along part m far n) (sym (memory_all part kept bytes r.no_stop));
      memory = λ x. all.memory x ∙ ap (λ (m : FrameMap). m x) (sym (memory_all part kept bytes r.no_stop));
      registers = control_words_stay part kept bytes pieces 4 f r.searching fits (read_clears part far n) r.no_stop all.rests_again.no_stop (read_apart far count);
      phase = λ wrapped. all.phase_is wrapped ∙ sym (phase_going part kept wrapped bytes r.no_stop);
      lines = λ wrapped. all.lines_are wrapped ∙ sym (lines_going part kept wrapped bytes r.no_stop);
      rests = all.rests_again;
    }
