-- A full stream on a device at rest.
use Rattle.std.proofs.Common.{◌≡◌, ◌==◌, ◌&&◌, ◌||◌, ◌+◌, ◌*◌, ◌-◌, ◌/◌, ◌%◌, ◌^◌, ◌≤◌, ◌<◌, inl, inr, ℕ, Bool, true, false, not, if◌then◌else◌, Option, None, Some, List, [], ◌∷◌, length, get_or, refl, ap, subst, ◌∙◌, arith, bit_and, bit_or}
use Rattle.std.specs.Prelude.{Contains}
use Rattle.std.specs.Int.{bit_at}
use Rattle.x7_regs.specs.declared.command.Command.TheVariants.{Lfrm, Rcrc, Shutdown, Start, Wcfg}
use Rattle.x7_regs.specs.declared.register.Reg.TheVariants.{Cor0, Ctl0, Far, Idcode, Mask}
use Rattle.x7_words.specs.Word.{AreBytes}
use Rattle.x7_packets.specs.History as access
use Rattle.x7_packets.specs.History.{Access, History, entry, history_of, last_word}
use Rattle.x7_crc.specs.RunningCheck.{running_check}
use Rattle.x7_part.specs.AddressOrder.{addresses_in}
use Rattle.x7_part.specs.Part.{PartData, frame_words}
use Rattle.x7_part.specs.Ranges.{IsPart}
use Rattle.x7_part.specs.Slot.{slots_in, slots_from}
use Rattle.x7_part.proofs.PartLemmas.{some_address}
use Rattle.x7_part.proofs.SlotLemmas.{slots_all}
use Rattle.x7_memory.specs.FrameMap.{HaveSameFrames, FrameMap}
use Rattle.x7_memory.specs.Plan.{IsPlan, PlanData, planned_addresses}
use Rattle.x7_pipeline.specs.Runs.{written_frames, onto, put_over}
use Rattle.x7_startup.specs.Startup.{Begun, NotBegun, StartupProgress, cor0_of}
use Rattle.x7_startup.proofs.CallLemmas.{further}
use Rattle.x7_regs.specs.Control.{forbids_reading, has_dec}
use Rattle.x7_flow.specs.Controls.{ctl0_held, has_idcode, mask_held, masked_word}
use Rattle.x7_flow.specs.FrameMemory.{memory_of}
use Rattle.x7_engine.specs.declared.kept.Kept.{Kept}
use Rattle.x7_engine.specs.Registers.{is_pending}
use Rattle.x7_engine.specs.Rest.{AtRest}
use Rattle.x7_engine.specs.Startup.{phase_by, phase_of, startup_progress}
use Rattle.x7_engine.specs.Stop.{why_besides_frames, asks_decryption, why_at_access, first_stop_of_history}
use Rattle.x7_engine.proofs.MaskLemmas.{bit_step}
use Rattle.x7_engine.proofs.PassesLemmas.{went_past}
use Rattle.x7_engine.proofs.StateLemmas.{parts_none}
use Rattle.x7_effects.proofs.Items as item
use Rattle.x7_effects.proofs.Items.{WriteLong, Write, writes_entered}
use Rattle.x7_effects.proofs.Checking.{Check, Piece, Put, piece_length, pieces_length}
use Rattle.x7_effects.proofs.Frames.{frames_at, joined}
use Rattle.x7_effects.specs.Played.{PlaysFull, device_after}
use Rattle.x7_effects.proofs.Streams.{command, full_pieces, full_stream, one, stream_of}
use Rattle.x7_effects.proofs.CalmLemmas.{IsCalm, calm_access, calm_bytes}
use Rattle.x7_effects.proofs.EndLemmas.{HasPlayed, played, ready_check}
use Rattle.x7_effects.proofs.FormLemmas.{frames_long, full_clears, full_fits}
use Rattle.x7_effects.proofs.FrameLemmas.{whole_over}
use Rattle.x7_effects.proofs.GoingLemmas.{IsGoing, IsQuiet, check_passes, ctl0_passes, eq_itself, going_bytes, idcode_passes, why_none, quiet_call, start_passes, still_none_pending, written}
use Rattle.x7_flow.proofs.InsideLemmas.{memory_has}
use Rattle.x7_effects.proofs.KeptLemmas.{full_apart, unwritten_stay}
use Rattle.x7_effects.proofs.PartialLemmas.{have_words}
use Rattle.x7_effects.proofs.PlanLemmas.{target}
use Rattle.x7_effects.proofs.RestingLemmas.{going_at_rest}
use Rattle.x7_effects.proofs.SilentLemmas.{stream_silent}
use Rattle.x7_effects.proofs.StillLemmas.{HasStartup, IsStill, ends_in_seven, lines_at, startup_armed, startup_bytes, startup_desynced, startup_dropped, startup_none}
use Rattle.x7_effects.proofs.SectionLemmas.{IsTarget}
use Rattle.x7_effects.proofs.WalkLemmas.{HasWritten, IsLoaded, IsReady, going_one, loaded_words, quiet_one, ready_load}

-- ---- CTL0 never has DEC where there is no stop

second_test : {A : Type 0} (a b : Bool) (s t : A) (x : Option A) → (if a then Some s else if b then Some t else x) ≡ None → b ≡ false
second_test true b s t x e = absurd (cc)
second_test false true s t x e = absurd (cc)
second_test false false s t x e = refl

asks_none : (part : PartData) (kept : Kept) (h : History) (r w : ℕ) → why_besides_frames part kept h (access.Write r w) ≡ None → asks_decryption h r w ≡ false
asks_none part kept h r w e = second_test (r == 0 && not (w == running_check h)) (asks_decryption h r w) _ _ _ e

either_none : (a b c : Bool) → (a || (b && c)) ≡ false → b ≡ true → c ≡ false
either_none true b c e f = absurd (cc)
either_none false true c e f = e
either_none false false c e f = absurd (cc)

dec_step : (part : PartData) (kept : Kept) (h : History) (a : Access) → has_dec (ctl0_held h) ≡ false → why_besides_frames part kept h a ≡ None → has_dec (masked_word 5 (mask_held h) a (ctl0_held h)) ≡ false
dec_step part kept h (access.Read r n) d e = d
dec_step part kept h (access.Bad w) d e = d
dec_step part kept h (access.Write r w) d e = by (r == 5) refl
  where
    by : (b : Bool) → (r == 5) ≡ b → has_dec (masked_word 5 (mask_held h) (access.Write r w) (ctl0_held h)) ≡ false
    by true f = either_none (r == 11) (r == 5) (has_dec (masked_word 5 (mask_held h) (access.Write r w) (ctl0_held h))) (asks_none part kept h r w e) f
    by false f = rw f d

no_dec : (part : PartData) (kept : Kept) (h : History) (n : ℕ) → first_stop_of_history part kept h n ≡ None → has_dec (ctl0_held h) ≡ false
no_dec part kept [] n s = refl
no_dec part kept (e ∷ h) n s =
    let past : (first_stop_of_history part kept h e.place ≡ None) × (why_at_access part kept h e.access ≡ None) = went_past part kept h e n s in
    dec_step part kept h e.access (no_dec part kept h e.place past.0) (parts_none (why_besides_frames part kept h e.access) _ past.1).0

-- ---- the bits of CTL0 that a full stream leaves as they were

-- the word of CTL0 once 101 was written to it where MASK is 501, both hexadecimal
abbrev written_ctl0 : ℕ → ℕ
written_ctl0 old = bit_or (bit_and old (2 ^ 32 - 1 - 0x501)) (bit_and 0x101 0x501)

fourth : (old : ℕ) → bit_at (written_ctl0 old) 4 ≡ bit_at old 4
fourth old = bit_step 0x501 0x101 old 4 (omega arith) (omega arith)

fifth : (old : ℕ) → bit_at (written_ctl0 old) 5 ≡ bit_at old 5
fifth old = bit_step 0x501 0x101 old 5 (omega arith) (omega arith)

sixth : (old : ℕ) → bit_at (written_ctl0 old) 6 ≡ bit_at old 6
sixth old = bit_step 0x501 0x101 old 6 (omega arith) (omega arith)

same_bits : (x y : ℕ) → bit_at x 4 ≡ bit_at y 4 → bit_at x 5 ≡ bit_at y 5 → x / 2 ^ 4 % 2 ^ 2 ≡ y / 2 ^ 4 % 2 ^ 2
same_bits x y a b =
    let c : x / 16 % 2 ≡ y / 16 % 2 = a in
    let d : x / 32 % 2 ≡ y / 32 % 2 = b in
    omega (arith, c, d)

sbits_stay : (old : ℕ) → forbids_reading old ≡ false → forbids_reading (written_ctl0 old) ≡ false
sbits_stay old e = ap (λ (x : ℕ). not (x == 0)) (same_bits (written_ctl0 old) old (fourth old) (fifth old)) ∙ e

dec_stays : (old : ℕ) → has_dec old ≡ false → has_dec (written_ctl0 old) ≡ false
dec_stays old e = ap (λ (x : ℕ). x == 1) (sixth old) ∙ e

-- ---- words of FDRI leave other registers alone

words_leave : (r kept place : ℕ) (ws : List ℕ) (h : History) → (2 == r) ≡ false → last_word r kept (writes_entered place 2 ws h) ≡ last_word r kept h
words_leave r kept place [] h e = refl
words_leave r kept place (w ∷ ws) h e = words_leave r kept (place + 4) ws (entry (access.Write 2 w) (place + 4) ∷ h) e ∙ ap (λ (b : Bool). if b then w else last_word r kept h) e

-- ---- the shutdown, and RCRC, which takes it

pub shut_down : (part : PartData) (kept : Kept) (startup : StartupProgress) (h : History) (n : ℕ) → IsGoing part kept startup h n → IsGoing part kept NotBegun (written n (Put item.Noop ∷ command Shutdown ∷ command Rcrc ∷ []) h) (n + 4 + 8 + 8)
shut_down part kept startup h n g =
    let a : History = entry (access.Write 4 11) (n + 4 + 4 + 4) ∷ h in
    let b : History = entry (access.Write 4 7) (n + 4 + 8 + 4 + 4) ∷ a in
    let first : IsCalm part kept a (n + 4 + 4 + 4) = calm_access part kept h (access.Write 4 11) n (n + 4 + 4 + 4) (omega arith) g.calm (why_none part kept h (access.Write 4 11) refl refl) g.calm.off in
    let second : IsCalm part kept b (n + 4 + 8 + 4 + 4) = calm_access part kept a (access.Write 4 7) (n + 4 + 4 + 4) (n + 4 + 8 + 4 + 4) (omega arith) first (why_none part kept a (access.Write 4 7) refl refl) g.calm.off in
    going_bytes part kept NotBegun b (n + 4 + 8 + 4 + 4) (n + 4 + 8 + 8) (omega arith) (record {
      calm = second;
      still = inl (startup_dropped a (access.Write 4 7) (n + 4 + 8 + 4 + 4) refl, refl);
      pending = refl;
    })

-- ---- IDCODE and the control words

quiet : (h : History) (r w : ℕ) → (r == 1) ≡ false → (r == 4) ≡ false → IsQuiet h (access.Write r w)
quiet h r w a b = record { start = rw (b, a) refl; shutdown = rw (b, a) refl; desync = rw (b, a) refl }

pub control_words_ready : (part : PartData) (kept : Kept) (startup : StartupProgress) (h : History) (n : ℕ) (m : FrameMap) → IsGoing part kept startup h n → HaveSameFrames (memory_of part h) m → forbids_reading (ctl0_held h) ≡ false → has_dec (ctl0_held h) ≡ false
    → IsReady part kept startup (written n (Put item.Noop ∷ one Idcode part.idcode ∷ one Cor0 0x02003FE5 ∷ one Mask 0x501 ∷ one Ctl0 0x101 ∷ []) h) (n + 4 + 8 + 8 + 8 + 8) m
control_words_ready part kept startup h n m g same s d =
    let a : History = entry (access.Write 12 part.idcode) (n + 4 + 4 + 4) ∷ h in
    let b : History = entry (access.Write 9 0x02003FE5) (n + 4 + 8 + 4 + 4) ∷ a in
    let c : History = entry (access.Write 6 0x501) (n + 4 + 8 + 8 + 4 + 4) ∷ b in
    let e : History = entry (access.Write 5 0x101) (n + 4 + 8 + 8 + 8 + 4 + 4) ∷ c in
    let one_a : IsGoing part kept startup a (n + 4 + 8) = going_one part kept startup h (n + 4) 12 part.idcode (quiet h 12 part.idcode refl refl) (idcode_passes part kept h) refl g.calm.off (going_bytes part kept startup h n (n + 4) (omega arith) g) in
    let one_b : IsGoing part kept startup b (n + 4 + 8 + 8) = going_one part kept startup a (n + 4 + 8) 9 0x02003FE5 (quiet a 9 0x02003FE5 refl refl) refl refl one_a.calm.off one_a in
    let one_c : IsGoing part kept startup c (n + 4 + 8 + 8 + 8) = going_one part kept startup b (n + 4 + 8 + 8) 6 0x501 (quiet b 6 0x501 refl refl) refl refl one_b.calm.off one_b in
    let one_e : IsGoing part kept startup e (n + 4 + 8 + 8 + 8 + 8) = going_one part kept startup c (n + 4 + 8 + 8 + 8) 5 0x101 (quiet c 5 0x101 refl refl) (ctl0_passes part kept c 0x101 (dec_stays (ctl0_held h) d)) refl one_c.calm.off one_c in
    record {
      going = one_e;
      matched = rw (eq_itself (part.idcode % 2 ^ 28)) refl;
      allows = sbits_stay (ctl0_held h) s;
      memory = quiet_one part c (access.Write 5 0x101) _ m refl (quiet_one part b (access.Write 6 0x501) _ m refl (quiet_one part a (access.Write 9 0x02003FE5) _ m refl (quiet_one part h (access.Write 12 part.idcode) _ m refl same)));
    }

-- ---- LFRM, START, the check, DESYNC and the no-ops

-- startup after a full stream: it began with the stream's COR0, 28 bytes ago at least
abbrev full_startup : StartupProgress
full_startup = Begun 0x02003FE5 28

idle_startup : (part : PartData) (h : History) (n : ℕ) → IsStill part NotBegun h n → HasStartup h n false NotBegun
idle_startup part h n (inl s) = s.0
idle_startup part h n (inr s) = absurd (let no : 0 ≡ 7 = s.before in omega (arith, no))

pub starts : (part : PartData) (kept : Kept) (h : History) (n noops : ℕ) → IsGoing part kept NotBegun h n → has_idcode part.idcode h ≡ true → last_word 9 0 h ≡ 0x02003FE5 → 7 ≤ noops
    → (let g : History = written n (command Lfrm ∷ command Start ∷ Check ∷ []) h in IsGoing part kept full_startup (entry (access.Write 4 13) (n + 8 + 8 + 8 + 8) ∷ g) (n + 8 + 8 + 8 + 8 + 4 * noops))
starts part kept h n noops g m o few =
    let a : History = entry (access.Write 4 3) (n + 4 + 4) ∷ h in
    let b : History = entry (access.Write 4 5) (n + 8 + 4 + 4) ∷ a in
    let check : ℕ = running_check b in
    let c : History = entry (access.Write 0 check) (n + 8 + 8 + 4 + 4) ∷ b in
    let d : History = entry (access.Write 4 13) (n + 8 + 8 + 8 + 8) ∷ c in
    let lfrm : IsGoing part kept NotBegun a (n + 8) = going_one part kept NotBegun h n 4 3 (record { start = refl; shutdown = refl; desync = refl }) refl refl g.calm.off g in
    let at_b : ℕ = n + 8 + 4 + 4 in
    let before : IsGoing part kept NotBegun a at_b = going_bytes part kept NotBegun a (n + 8) at_b (omega arith) lfrm in
    let calm_b : IsCalm part kept b at_b = calm_access part kept a (access.Write 4 5) at_b at_b (omega arith) before.calm (why_none part kept a (access.Write 4 5) (start_passes part kept a m) refl) before.calm.off in
    let armed : HasStartup b at_b true NotBegun = startup_armed a (access.Write 4 5) at_b false NotBegun refl (idle_startup part a at_b before.still) in
    let pending_b : is_pending b ≡ false = still_none_pending a (access.Write 4 5) at_b before.pending refl in
    let at_c : ℕ = n + 8 + 8 + 4 + 4 in
    let calm_c : IsCalm part kept c at_c = calm_access part kept b (access.Write 0 check) at_b at_c (omega arith) calm_b (why_none part kept b (access.Write 0 check) (check_passes part kept b) refl) calm_b.off in
    let armed_c : HasStartup c at_c true NotBegun = startup_none b (access.Write 0 check) at_c true NotBegun (quiet_call b (access.Write 0 check) pending_b (quiet b 0 check refl refl)) (startup_bytes b at_b at_c true NotBegun calm_b.newest (omega arith) armed) in
    let pending_c : is_pending c ≡ false = still_none_pending b (access.Write 0 check) at_c pending_b refl in
    let at_d : ℕ = n + 8 + 8 + 8 + 8 in
    let calm_d : IsCalm part kept d at_d = calm_access part kept c (access.Write 4 13) at_c at_d (omega arith) calm_c (why_none part kept c (access.Write 4 13) refl refl) calm_c.off in
    let begun : HasStartup d at_d false (Begun (last_word 9 0 c) 0) = startup_desynced c (access.Write 4 13) at_d (last_word 9 0 c) true NotBegun refl (startup_bytes c at_c at_d true NotBegun calm_c.newest (omega arith) armed_c) in
    let end : ℕ = at_d + 4 * noops in
    let later : HasStartup d end false (further (end - at_d) (Begun (last_word 9 0 c) 0)) = startup_bytes d at_d end false (Begun (last_word 9 0 c) 0) calm_d.newest (omega arith) begun in
    let cor0 : phase_by part (Begun (last_word 9 0 h) (0 + (end - at_d))) ≡ phase_by part (Begun 0x02003FE5 (0 + (end - at_d))) = ap (λ (x : ℕ). phase_by part (Begun x (0 + (end - at_d)))) o in
    let phase : phase_of part d end ≡ 7 = ap (phase_by part) later.progress_is ∙ cor0 ∙ ends_in_seven part (0 + (end - at_d)) (omega (arith, few)) in
    record {
      calm = calm_bytes part kept d at_d end (omega arith) calm_d;
      still = inr (record { seven = phase; before = ends_in_seven part 28 (omega arith); same = ap cor0_of later.progress_is ∙ ap (λ (x : ℕ). Some x) o });
      pending = still_none_pending c (access.Write 4 13) at_d pending_c refl;
    }

-- ---- played

first_in : (fars : List ℕ) → 0 < length fars → Contains fars (get_or fars 0 0)
first_in [] l = absurd (omega arith)
first_in (far ∷ fars) l = (0, omega arith, refl)

pub full_plays : (part : PartData) (kept : Kept) (bytes : List ℕ) (plan : PlanData) → AreBytes bytes → AtRest part kept bytes → IsPart part → IsPlan plan → plan.width ≡ frame_words part
    → ((far : ℕ) → Contains (planned_addresses plan.rows) far → Contains (addresses_in part) far) → PlaysFull (device_after part kept bytes) (full_stream part plan) plan
full_plays part kept bytes plan f r is p e within =
    let h : History = history_of bytes in
    let n : ℕ = length bytes + 36 in
    let startup : StartupProgress = startup_progress h (length bytes) in
    let m : FrameMap = memory_of part h in
    let first : ℕ = get_or (addresses_in part) 0 0 in
    let ws : List ℕ = joined (frames_at part plan (slots_in part)) in
    let there : Contains (addresses_in part) first = first_in (addresses_in part) (some_address part.field_widths 0 part.rows is.rows is.some) in
    let t : IsTarget part first = target part first is there in
    let going : IsGoing part kept startup h n = going_bytes part kept startup h (length bytes) n (omega arith) (going_at_rest part kept bytes f r) in
    let down : History = written n (Put item.Noop ∷ command Shutdown ∷ command Rcrc ∷ []) h in
    let k : ℕ = n + 4 + 8 + 8 in
    let shut : IsGoing part kept NotBegun down k = shut_down part kept startup h n going in
    let same : HaveSameFrames (memory_of part down) m = quiet_one part _ (access.Write 4 7) _ m refl (quiet_one part h (access.Write 4 11) _ m refl (λ x. refl)) in
    let set : History = written k (Put item.Noop ∷ one Idcode part.idcode ∷ one Cor0 0x02003FE5 ∷ one Mask 0x501 ∷ one Ctl0 0x101 ∷ []) down in
    let ready : IsReady part kept NotBegun set (k + 4 + 8 + 8 + 8 + 8) m = control_words_ready part kept NotBegun down k m shut same r.sbits (no_dec part kept h (length bytes) r.no_stop) in
    let at : ℕ = k + 4 + 8 + 8 + 8 + 8 in
    let load : History = written at (command Wcfg ∷ one Far first ∷ []) set in
    let loaded : IsLoaded part kept NotBegun 1 first load (at + 8 + 8) m = ready_load part kept NotBegun first set at m ready t.0 in
    let slots : slots_from part first ≡ slots_in part = slots_all part is in
    let room : length ws ≤ frame_words part * length (slots_from part first) = omega (arith, frames_long part plan (slots_in part) p e, ap (λ x. frame_words part * length x) slots) in
    let data_at : ℕ = at + 8 + 8 + 4 * piece_length (Put (WriteLong 2 ws)) in
    let data_in : History = written (at + 8 + 8) (Put (WriteLong 2 ws) ∷ []) load in
    let put : HasWritten part kept NotBegun first ws data_in data_at m = loaded_words part kept NotBegun first load (at + 8 + 8) m ws loaded t.1 room in
    let checked : History = written data_at (Check ∷ []) data_in in
    let check : IsReady part kept NotBegun checked (data_at + 8) (put_over (written_frames part first (onto ws [])) m) = ready_check part kept NotBegun data_in data_at (put_over (written_frames part first (onto ws [])) m) put.ready in
    let cor0 : last_word 9 0 checked ≡ 0x02003FE5 = words_leave 9 0 (at + 8 + 8 + 8) ws load refl in
    let whole : History = written (data_at + 8) (command Lfrm ∷ command Start ∷ Check ∷ []) checked in
    let ended : IsGoing part kept full_startup (entry (access.Write 4 13) (data_at + 8 + 8 + 8 + 8 + 8) ∷ whole) (data_at + 8 + 8 + 8 + 8 + 8 + 4 * 16) = starts part kept checked (data_at + 8) 16 check.going check.matched cor0 (omega arith) in
    let pieces : List Piece = full_pieces part plan in
    let last : data_at + 8 + 8 + 8 + 8 ≡ n + 4 * pieces_length pieces = omega arith in
    let memory : HaveSameFrames (memory_of part whole) (put_over (written_frames part first (onto ws [])) m) =
    quiet_one part _ (access.Write 0 _) _ _ refl (quiet_one part _ (access.Write 4 5) _ _ refl (quiet_one part checked (access.Write 4 3) _ _ refl check.memory)) in
    let all : HasPlayed part kept full_startup bytes (stream_of pieces 16) (put_over (written_frames part first (onto ws [])) m) =
    played part kept full_startup bytes pieces 16 (put_over (written_frames part first (onto ws [])) m) f r.searching (full_fits part plan is p e (have_words plan.rows p.each)) (full_clears part plan)
    (subst (λ (x : ℕ). IsGoing part kept full_startup (entry (access.Write 4 13) (x + 8) ∷ whole) (x + 8 + 4 * 16)) last ended) check.allows memory in
    record {
      memory = λ far. all.memory far ∙ whole_over part plan m is p e within (memory_has part h (omega (arith, is.words))).inside far;
      phase = λ wrapped. all.phase_is wrapped ∙ ends_in_seven part 28 (omega arith);
      lines = λ wrapped. all.lines_are wrapped ∙ ap (lines_at (Some 0x02003FE5)) (ends_in_seven part 28 (omega arith));
      registers = unwritten_stay part kept bytes pieces 16 f r.searching (full_fits part plan is p e (have_words plan.rows p.each)) (full_clears part plan) r.no_stop all.rests_again.no_stop (full_apart part.idcode first ws);
      reads = stream_silent part kept bytes pieces 16 f r.searching (full_fits part plan is p e (have_words plan.rows p.each)) (full_clears part plan)
          (tt, (tt, (tt, (tt, (tt, (tt, (tt, (tt, (tt, (tt, (tt, (tt, (tt, (tt, (tt, tt))))))))))))))) r.no_stop all.rests_again.no_stop;
      rests = all.rests_again;
    }
