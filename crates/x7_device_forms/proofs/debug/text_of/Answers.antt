use Rattle.std.proofs.Common.{inl}
use Rattle.x7_forms.proofs.ResultLemmas.{err_weaker, handed_on, ok_weaker}
use Rattle.x7_device_forms.proofs.debug.text_of.Goals as goal

pub returns-clause-text : goal.returns-clause-text
returns-clause-text c = ok_weaker c.shown_of.result (λ text h. (c.in_ok-script.script, (c.in_ok-script.ensures.script, h))) c.shown_of.ensures.text

pub returns-clause-refused : goal.returns-clause-refused
returns-clause-refused c = err_weaker c.shown_of.result (λ r e. inl e) c.shown_of.ensures.refused

pub returns-in_err-script-clause-refused : goal.returns-in_err-script-clause-refused
returns-in_err-script-clause-refused c = rw (handed_on c.from_residual.result c.in_err-script.field-0.0 c.from_residual.ensures) c.in_err-script.ensures.refused
