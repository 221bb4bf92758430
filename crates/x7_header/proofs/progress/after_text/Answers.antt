use Rattle.std.proofs.Common.{Err, length, ap, arith, ◌∙◌}
use Rattle.x7_header.proofs.WaitLemmas.{text_waits}
use Rattle.x7_header.proofs.progress.after_text.Goals as goal

pub returns-in-Ok-clause-whole : goal.returns-in-Ok-clause-whole
returns-in-Ok-clause-whole c = (c.in-Ok.field-0-0.now, c.in-Ok.ensures.whole)

pub returns-in-Err-Cut-clause-waits : goal.returns-in-Err-Cut-clause-waits
returns-in-Err-Cut-clause-waits c = λ total more h.
    text_waits c.args.letter (length c.args.bytes.now) c.in-Err-Cut.field-0-0 c.args.bytes.now (c.in-Err-Cut.ensures.value ∙ ap Err c.in-Err-Cut.field-0-is) total more (omega (arith, h, c.text_lacks.ensures))
