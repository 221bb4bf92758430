use Rattle.std.proofs.Common.{ap, sym, ◌∙◌, ◌++◌, List, ℕ}
use Rattle.x7_engine.specs.Standing.{words_still_due}
use Rattle.x7_engine.specs.State.{history_taken}
use Rattle.x7_engine.proofs.DeviceLemmas.{given_by}
use Rattle.x7_engine.proofs.FrameLemmas.{none_left}
use Rattle.x7_engine.proofs.laws.reads_are_given_or_due.Goals as goal

pub returns-clause-all : goal.returns-clause-all
returns-clause-all c = λ d part kept wrapped bytes s.
    ap (λ (ws : List ℕ). ws ++ words_still_due part (history_taken part kept bytes) d.registers.values.due) (given_by part kept d bytes s.due_are.given (history_taken part kept bytes) s.due_are.all) ∙ sym s.due_are.all

pub returns-clause-none_due : goal.returns-clause-none_due
returns-clause-none_due c = λ d p none. none_left p.part (history_taken p.part p.kept p.bytes) d.registers.values.due none
