use Rattle.std.proofs.Common.{ap}
use Rattle.x7_report.specs.Reports.{PlayTextState}
use Rattle.x7_outcome.specs.Play.{play_answer}
use Rattle.x7_device_forms.proofs.BootTextLemmas.{boots_as}
use Rattle.x7_device_forms.proofs.boot.text_of.Goals as goal

pub returns-clause-text : goal.returns-clause-text
returns-clause-text c = λ part flash is due.
    let whole = c.in_ok-ready_text.ensures part is.last is.device due in
    boots_as part flash c.args.booted (play_answer c.in_ok-ready_text.field-0) is (ap (λ (a : PlayTextState). a.stopped) whole) (ap (λ (a : PlayTextState). a.text) whole)
