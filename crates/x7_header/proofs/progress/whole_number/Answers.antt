use Rattle.std.proofs.Common.{Err, length, ap, arith, ◌∙◌}
use Rattle.x7_header.proofs.WaitLemmas.{number_waits}
use Rattle.x7_header.proofs.progress.whole_number.Goals as goal

pub returns-in-Err-Cut-clause-waits : goal.returns-in-Err-Cut-clause-waits
returns-in-Err-Cut-clause-waits c = λ total more h.
    number_waits c.args.letter (length c.args.bytes.now) c.in-Err-Cut.field-0-0 c.args.bytes.now (c.in-Err-Cut.ensures.value ∙ ap Err c.in-Err-Cut.field-0-is) total more (omega (arith, h, c.number_lacks.ensures))
