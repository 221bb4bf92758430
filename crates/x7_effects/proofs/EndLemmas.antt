-- A device that goes on through a stream, and what it has at the end.
use Rattle.std.proofs.Common.{◌≡◌, ◌+◌, ◌*◌, ◌%◌, ◌^◌, ℕ, Bool, false, Option, None, List, [], ◌∷◌, ◌++◌, length, refl, ap, ◌∙◌, arith}
use Rattle.x7_regs.specs.declared.command.Command.TheVariants.{Rcrc}
use Rattle.x7_regs.specs.declared.register.Reg.TheVariants.{Idcode}
use Rattle.x7_words.specs.Word.{AreBytes}
use Rattle.x7_packets.specs.ByHand.{reading_of}
use Rattle.x7_packets.specs.History as access
use Rattle.x7_packets.specs.History.{History, entry, history_of}
use Rattle.x7_packets.specs.Reading.{is_synced}
use Rattle.x7_part.specs.Part.{PartData}
use Rattle.x7_startup.specs.Startup.{StartupProgress}
use Rattle.x7_memory.specs.FrameMap.{HaveSameFrames, FrameMap}
use Rattle.x7_regs.specs.Control.{forbids_reading}
use Rattle.x7_flow.specs.Controls.{ctl0_held}
use Rattle.x7_flow.specs.FrameMemory.{memory_of}
use Rattle.x7_engine.specs.declared.kept.Kept.{Kept}
use Rattle.x7_engine.specs.Rest.{AtRest}
use Rattle.x7_engine.specs.Startup.{phase_by, phase_of, startup_progress}
use Rattle.x7_engine.specs.State.{history_by, memory_of_bytes, state_of, first_stop_of_bytes, taken_by}
use Rattle.x7_engine.specs.Stop.{Stopped}
use Rattle.x7_engine.specs.Value.{lines_by}
use Rattle.x7_engine.proofs.UntilLemmas.{phase_going}
use Rattle.x7_effects.proofs.Items.{Write, item_entered}
use Rattle.x7_effects.proofs.Checking.{ArePieces, Check, ClearFirst, Piece, Put, pieces_length}
use Rattle.x7_effects.proofs.Items as item
use Rattle.x7_effects.proofs.Streams.{command, one, stream_of}
use Rattle.x7_effects.proofs.FormLemmas.{stream_ends}
use Rattle.x7_effects.proofs.GoingLemmas.{IsGoing, check_passes, eq_itself, going_bytes, idcode_passes, quiet_rcrc, written}
use Rattle.x7_effects.proofs.RestingLemmas.{rests, stream_count, stream_history}
use Rattle.x7_effects.proofs.StillLemmas.{still_lines, still_phase}
use Rattle.x7_effects.proofs.WalkLemmas.{IsReady, going_one, quiet_one}

-- ---- where there is no stop, all of the history counts

pub memory_all : (part : PartData) (kept : Kept) (bytes : List ℕ) → first_stop_of_bytes part kept bytes ≡ None → memory_of_bytes part kept bytes ≡ memory_of part (history_of bytes)
memory_all part kept bytes e = ap (λ o. memory_of part (history_by o (history_of bytes))) e

pub lines_going : (part : PartData) (kept : Kept) (wrapped : Bool) (bytes : List ℕ) → first_stop_of_bytes part kept bytes ≡ None → (state_of part kept wrapped bytes).lines ≡ lines_by part (startup_progress (history_of bytes) (length bytes))
lines_going part kept wrapped bytes none = ap (λ (o : Option Stopped). lines_by part (startup_progress (history_by o (history_of bytes)) (taken_by o (length bytes)))) none

-- ---- the beginning of a partial stream: RCRC, and IDCODE

pub ready_begin : (part : PartData) (kept : Kept) (startup : StartupProgress) (h : History) (n : ℕ) → IsGoing part kept startup h n → forbids_reading (ctl0_held h) ≡ false
    → IsReady part kept startup (written n (Put item.Noop ∷ command Rcrc ∷ Put item.Noop ∷ one Idcode part.idcode ∷ []) h) (n + 4 + 8 + 4 + 8) (memory_of part h)
ready_begin part kept startup h n g c =
    let first : History = entry (access.Write 4 7) (n + 4 + 4 + 4) ∷ h in
    let rcrc : IsGoing part kept startup first (n + 4 + 8) = going_one part kept startup h (n + 4) 4 7 (quiet_rcrc h) refl refl g.calm.off (going_bytes part kept startup h n (n + 4) (omega arith) g) in
    let second : IsGoing part kept startup (item_entered (n + 4 + 8 + 4) (Write 12 (part.idcode ∷ [])) first) (n + 4 + 8 + 4 + 8) =
    going_one part kept startup first (n + 4 + 8 + 4) 12 part.idcode (record { start = refl; shutdown = refl; desync = refl }) (idcode_passes part kept first) refl rcrc.calm.off
    (going_bytes part kept startup first (n + 4 + 8) (n + 4 + 8 + 4) (omega arith) rcrc) in
    record {
      going = second;
      matched = rw (eq_itself (part.idcode % 2 ^ 28)) refl;
      allows = c;
      memory = quiet_one part first (access.Write 12 part.idcode) (n + 4 + 8 + 4 + 4 + 4) (memory_of part h) refl (quiet_one part h (access.Write 4 7) (n + 4 + 4 + 4) (memory_of part h) refl (λ a. refl));
    }

-- a check that is written leaves a device ready as it was
pub ready_check : (part : PartData) (kept : Kept) (startup : StartupProgress) (h : History) (n : ℕ) (m : FrameMap) → IsReady part kept startup h n m → IsReady part kept startup (written n (Check ∷ []) h) (n + 8) m
ready_check part kept startup h n m r = record {
  going = going_one part kept startup h n 0 _ (record { start = refl; shutdown = refl; desync = refl }) (check_passes part kept h) refl r.going.calm.off r.going;
  matched = r.matched;
  allows = r.allows;
  memory = quiet_one part h (access.Write 0 _) (n + 4 + 4) m refl r.memory;
}

-- ---- the end

-- pieces through which the device goes on: what it has after them, DESYNC and the no-ops
pub record HasPlayed (part : PartData) (kept : Kept) (startup : StartupProgress) (bytes stream : List ℕ) (m : FrameMap) : Type 0 where
  pub memory : HaveSameFrames (memory_of_bytes part kept (bytes ++ stream)) m
  pub phase_is : (wrapped : Bool) → (state_of part kept wrapped (bytes ++ stream)).phase ≡ phase_by part startup
  pub lines_are : (wrapped : Bool) → (state_of part kept wrapped (bytes ++ stream)).lines ≡ lines_by part startup
  pub rests_again : AtRest part kept (bytes ++ stream)

pub played : (part : PartData) (kept : Kept) (startup : StartupProgress) (bytes : List ℕ) (pieces : List Piece) (noops : ℕ) (m : FrameMap) → AreBytes bytes → is_synced (reading_of bytes).place ≡ false → ArePieces pieces → ClearFirst pieces
    → (let n : ℕ = length bytes + 36 + 4 * pieces_length pieces in
    let h : History = written (length bytes + 36) pieces (history_of bytes) in
    IsGoing part kept startup (entry (access.Write 4 13) (n + 8) ∷ h) (n + 8 + 4 * noops) → forbids_reading (ctl0_held h) ≡ false → HaveSameFrames (memory_of part h) m → HasPlayed part kept startup bytes (stream_of pieces noops) m)
played part kept startup bytes pieces noops m f s a c g r e =
    let all : List ℕ = bytes ++ stream_of pieces noops in
    let n : ℕ = length bytes + 36 + 4 * pieces_length pieces in
    let h : History = written (length bytes + 36) pieces (history_of bytes) in
    let whole : History = entry (access.Write 4 13) (n + 8) ∷ h in
    let history : history_of all ≡ whole = stream_history bytes pieces noops f s a c in
    let count : length all ≡ n + 8 + 4 * noops = stream_count bytes pieces noops in
    let again : AtRest part kept all = rests part kept startup all whole (n + 8 + 4 * noops) history count (stream_ends bytes pieces noops f s a) g r in
    record {
      memory = λ far. ap (λ (x : FrameMap). x far) (memory_all part kept all again.no_stop) ∙ ap (λ (x : History). memory_of part x far) history ∙ quiet_one part h (access.Write 4 13) (n + 8) m refl e far;
      phase_is = λ wrapped. phase_going part kept wrapped all again.no_stop ∙ ap (λ (x : History). phase_of part x (length all)) history ∙ ap (phase_of part whole) count ∙ still_phase part startup whole (n + 8 + 4 * noops) g.still;
      lines_are = λ wrapped. lines_going part kept wrapped all again.no_stop ∙ ap (λ (x : History). lines_by part (startup_progress x (length all))) history ∙ ap (λ (k : ℕ). lines_by part (startup_progress whole k)) count
          ∙ still_lines part startup whole (n + 8 + 4 * noops) g.still;
      rests_again = again;
    }
