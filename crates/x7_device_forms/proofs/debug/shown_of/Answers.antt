use Rattle.x7_forms.proofs.ResultLemmas.{ok_weaker}
use Rattle.x7_outcome.specs.Ready.{text_answer}
use Rattle.x7_device_forms.proofs.DebugLemmas.{shown_as}
use Rattle.x7_device_forms.proofs.debug.shown_of.Goals as goal

pub returns-clause-text : goal.returns-clause-text
returns-clause-text c =
    let session = c.in-Ok.session in
    let new = c.in-Ok.ensures in
    ok_weaker c.shown.result (λ text h. shown_as c.args.part.now session.part c.args.stream.items session.stream c.args.script.now (text_answer text) new.part_is new.stream_is h) c.shown.ensures.text

pub returns-clause-refused : goal.returns-clause-refused
returns-clause-refused c = c.shown.ensures.refused
