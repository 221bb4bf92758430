use Rattle.std.proofs.Common.{sym, ◌∙◌, arith}
use Rattle.x7_forms.proofs.FormLemmas.{word_some, word_none}
use Rattle.x7_forms.proofs.form.word_in.Goals as goal

pub returns-in-Some : goal.returns-in-Some
returns-in-Some c = word_some c.args.digits.now c.in-Some.word (omega arith) (sym c.as_bytes.ensures.value ∙ c.in-Some.ensures)

pub returns-in-None : goal.returns-in-None
returns-in-None c = word_none c.args.digits.now (λ w h e. c.in-None.ensures w h (c.as_bytes.ensures.value ∙ e))
