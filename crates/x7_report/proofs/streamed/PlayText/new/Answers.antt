use Rattle.std.proofs.Common.{◌++◌, List, ℕ, Bool, ap, ◌∙◌}
use Rattle.x7_engine.specs.declared.snapshot.Snapshot.{Snapshot}
use Rattle.x7_engine.specs.State.{memory_of_bytes}
use Rattle.x7_report.specs.Reports.{PlayTextState, report_text}
use Rattle.x7_report.proofs.LinesLemmas.{owing_none}
use Rattle.x7_report.proofs.streamed.PlayText.new.Goals as goal

abbrev answer_with : Bool → List ℕ → PlayTextState
answer_with stopped text = record { stopped = stopped; text = text }

pub returns-clause-owing : goal.returns-clause-owing
returns-clause-owing c = λ part kept wrapped bytes s. ap (answer_with c.args.stopped) (c.in_ok-ranks.ensures part kept wrapped bytes s)

pub returns-clause-value : goal.returns-clause-value
returns-clause-value c = λ part kept wrapped bytes s none.
    returns-clause-owing c part kept wrapped bytes s
    ∙ ap (λ (x : Snapshot). answer_with c.args.stopped (c.args.head.items ++ report_text part x c.args.reads.now (memory_of_bytes part kept bytes))) (owing_none part kept wrapped bytes c.args.device none)
