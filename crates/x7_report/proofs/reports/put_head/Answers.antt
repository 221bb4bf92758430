use Rattle.std.proofs.Common.{ap, ◌∙◌}
use Rattle.std.proofs.lemmas.Result.{on_ok_weaker}
use Rattle.x7_part.specs.Part.{PartData}
use Rattle.x7_engine.specs.Past.{past_of, state_owing_at}
use Rattle.x7_engine.specs.Standing.{frames_due}
use Rattle.x7_report.proofs.LinesLemmas.{head_is}
use Rattle.x7_report.proofs.reports.put_head.Goals as goal

pub returns : goal.returns
returns c = on_ok_weaker c.put_frame_count.result (λ counted part kept wrapped bytes s.
    head_is c.name.result.now part.name c.state.result (state_owing_at (past_of part kept wrapped bytes) (frames_due c.args.device.now.registers.values.due)) c.args.reads.now c.args.text.now.items c.put_state.new.text.items c.put_reads.new.text.items c.put_frame_count.new.text.items c.args.count
    (c.name.ensures ∙ ap (λ (p : PartData). p.name) (c.part.ensures.value part kept wrapped bytes s)) (c.state.ensures.owing part kept wrapped bytes s) c.in_ok-put_state.ensures c.in_ok-put_reads.ensures counted) c.put_frame_count.ensures
