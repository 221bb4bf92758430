use Rattle.std.proofs.Common.{◌∙◌, ap}
use Rattle.x7_part.specs.declared.fault.PartFault.TheVariants.{TooMany}
use Rattle.x7_part.specs.PartChecks.{unless}
use Rattle.x7_part.proofs.PassLemmas.{rows_checked}
use Rattle.x7_part.proofs.part_file.check_rows.Goals as goal

pub returns : goal.returns
returns c part words rows =
    rows_checked part c.args.width c.frame_count-count.result c.args.rows.now c.require.result words rows c.frame_count-count.ensures (c.in_ok-check_same_rows.ensures)
    (c.require.ensures ∙ ap (λ b. unless b (TooMany c.frame_count-count.result)) c.has_few_frames.ensures)
