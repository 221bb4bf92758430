-- Bytes that ask the same at the same places bring a device to the same stop, state and memory.
use Rattle.std.proofs.Common.{◌≡◌, ℕ, Bool, Option, List, length, ap, ◌∙◌}
use Rattle.x7_packets.specs.ByHand.{reading_of}
use Rattle.x7_packets.specs.Gap.{AreAlike}
use Rattle.x7_packets.specs.History.{History, history_of}
use Rattle.x7_packets.specs.Reading.{is_synced}
use Rattle.x7_part.specs.Part.{PartData}
use Rattle.x7_flow.specs.FrameMemory.{memory_of}
use Rattle.x7_engine.specs.Course.{course_at}
use Rattle.x7_engine.specs.State.{history_by, memory_of_bytes, state_by, state_of, first_stop_of_bytes, taken_by, why_stopped}
use Rattle.x7_engine.specs.Stop.{Stopped, first_stop_of_history}
use Rattle.x7_engine.specs.declared.kept.Kept.{Kept}
use Rattle.x7_engine.specs.declared.snapshot.Snapshot.{Snapshot}

module _ (part : PartData) (kept : Kept) (one other : List ℕ) (a : AreAlike one other) where
  pub alike_stop : first_stop_of_bytes part kept one ≡ first_stop_of_bytes part kept other
  alike_stop = ap (λ (h : History). first_stop_of_history part kept h (length one)) a.history ∙ ap (first_stop_of_history part kept (history_of other)) a.count

  pub alike_memory : memory_of_bytes part kept one ≡ memory_of_bytes part kept other
  alike_memory = ap (λ (o : Option Stopped). memory_of part (history_by o (history_of one))) alike_stop ∙ ap (λ (h : History). memory_of part (history_by (first_stop_of_bytes part kept other) h)) a.history

  abbrev state_from : History → ℕ → Option Stopped → Bool → Bool → Snapshot
  state_from h n stop wrapped synced = state_by (course_at part kept (history_by stop h) (taken_by stop n)) wrapped (why_stopped stop) synced

  pub alike_state : (wrapped : Bool) → state_of part kept wrapped one ≡ state_of part kept wrapped other
  alike_state wrapped =
      ap (λ (o : Option Stopped). state_from (history_of one) (length one) o wrapped (is_synced (reading_of one).place)) alike_stop
      ∙ ap (λ (h : History). state_from h (length one) (first_stop_of_bytes part kept other) wrapped (is_synced (reading_of one).place)) a.history
      ∙ ap (λ (n : ℕ). state_from (history_of other) n (first_stop_of_bytes part kept other) wrapped (is_synced (reading_of one).place)) a.count
      ∙ ap (state_from (history_of other) (length other) (first_stop_of_bytes part kept other) wrapped) a.synced
