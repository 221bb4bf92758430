-- The registers that a state shows: as they are filled in with their values, and where no word is due.
use Rattle.std.proofs.Common.{◌≡◌, ◌<◌, ◌≤◌, ◌+◌, ℕ, List, [], ◌∷◌, ◌++◌, length, take, get_or, set, refl, ap, sym, ◌∙◌, arith, Bool, Option}
use Rattle.std.proofs.lemmas.List.{get_or-map, take_all, take_more, take_more_set}
use Rattle.x7_regs.specs.declared.register.Reg.{Reg}
use Rattle.x7_regs.specs.declared.register.Reg.TheVariants as reg
use Rattle.x7_packets.specs.History.{History}
use Rattle.x7_part.specs.Part.{PartData}
use Rattle.x7_flow.specs.HistoryFlow.{far_in, flow_of}
use Rattle.x7_flow.proofs.StandingLemmas.{no_less}
use Rattle.x7_engine.specs.Course.{course_at}
use Rattle.x7_engine.specs.declared.fault.Fault.{Fault}
use Rattle.x7_engine.specs.declared.kept.Kept.{Kept}
use Rattle.x7_engine.specs.Past.{past_of, state_owing_at}
use Rattle.x7_engine.specs.Shown.{shown_count, shown_registers, with_values}
use Rattle.x7_engine.specs.State.{first_stop_of_bytes, history_taken, state_of, taken_of, why_stopped}
use Rattle.x7_engine.specs.Stop.{fault_of_stop}
use Rattle.x7_engine.specs.Value.{register_value, value_owing}

-- one row more is filled in
pub row_more : (value : Reg → ℕ) (rows : List (Reg × ℕ)) (row : Reg × ℕ) (i : ℕ) (d : Reg) → i < length rows → i < shown_count → take i rows ≡ take i (with_values value)
    → row ≡ (get_or shown_registers i d, value (get_or shown_registers i d)) → take (i + 1) (set rows i row) ≡ take (i + 1) (with_values value)
unfolding with_values
row_more value rows row i d within few e f =
    take_more_set rows i row within ∙ ap (λ (t : List (Reg × ℕ)). t ++ row ∷ []) e
    ∙ ap (λ (x : Reg × ℕ). take i (with_values value) ++ x ∷ []) (f ∙ sym (get_or-map (λ reg. (reg, value reg)) shown_registers i d row few)) ∙ sym (take_more (with_values value) i row few)

-- all rows are filled in
pub rows_all : (value : Reg → ℕ) (rows : List (Reg × ℕ)) (i : ℕ) → length rows ≡ shown_count → shown_count ≤ i → take i rows ≡ take i (with_values value) → rows ≡ with_values value
unfolding with_values
rows_all value rows i long past e = sym (take_all i rows (omega (arith, long, past))) ∙ e ∙ take_all i (with_values value) past

-- where no word is due, a value is that of the history
pub value_now : (part : PartData) (kept : Kept) (wrapped : Bool) (f : Option Fault) (h : History) (n : ℕ) (r : Reg) → value_owing (course_at part kept h n) wrapped f 0 r ≡ register_value (course_at part kept h n) wrapped f r
value_now part kept wrapped f h n reg.Far = ap (far_in part) (sym (no_less (flow_of part h)))
value_now part kept wrapped f h n r = refl

-- where no word of frame data is due, FAR is that of all words
pub state_now : (part : PartData) (kept : Kept) (wrapped : Bool) (bytes : List ℕ) → state_owing_at (past_of part kept wrapped bytes) 0 ≡ state_of part kept wrapped bytes
state_now part kept wrapped bytes = λ i. record (state_of part kept wrapped bytes) {
  registers = with_values (λ reg. value_now part kept wrapped (fault_of_stop (why_stopped (first_stop_of_bytes part kept bytes))) (history_taken part kept bytes) (taken_of part kept bytes) reg i);
}
