use Rattle.std.proofs.Common.{sym, ◌∙◌, arith}
use Rattle.x7_forms.proofs.FormLemmas.{number_some}
use Rattle.x7_forms.proofs.form.number_in.Goals as goal

pub returns-in-Some : goal.returns-in-Some
returns-in-Some c = number_some c.args.digits.now c.in-Some.number (omega (arith, c.in-Some.ensures.0)) (sym c.as_bytes.ensures.value ∙ c.in-Some.ensures.1)
