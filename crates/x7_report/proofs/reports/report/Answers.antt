use Rattle.std.proofs.Common.{◌++◌, ap, List, ℕ, ◌∙◌}
use Rattle.x7_engine.specs.declared.snapshot.Snapshot.{Snapshot}
use Rattle.x7_engine.specs.Past.{past_of}
use Rattle.x7_engine.specs.State.{memory_of_bytes}
use Rattle.x7_report.specs.Reports.{report_text, state_reported}
use Rattle.x7_report.proofs.LinesLemmas.{joined, owing_none}
use Rattle.x7_report.proofs.reports.report.Goals as goal

pub returns-clause-owing : goal.returns-clause-owing
returns-clause-owing c = λ part kept wrapped bytes s.
    let d = c.args.device.now in
    let text = c.begin_report.new.text.items in
    let ranks = c.in_ok-ranks.ranks.items in
    c.put_lines.ensures.appends.items ∙ joined c.part.result.now d.part c.memory.result.now d.registers.frames.memory c.make_room.new.text.items text c.deref.result.now ranks c.part.ensures.stored c.memory.ensures.stored c.in_ok-make_room.ensures.items c.deref.ensures.value
    ∙ c.in_ok-ranks.ensures part kept wrapped bytes s ∙ ap (λ (t : List ℕ). t ++ report_text part (state_reported d (past_of part kept wrapped bytes)) c.args.reads.now (memory_of_bytes part kept bytes)) c.new-text.ensures.items

pub returns-clause-value : goal.returns-clause-value
returns-clause-value c = λ part kept wrapped bytes s none.
    returns-clause-owing c part kept wrapped bytes s ∙ ap (λ (x : Snapshot). report_text part x c.args.reads.now (memory_of_bytes part kept bytes)) (owing_none part kept wrapped bytes c.args.device.now none)
