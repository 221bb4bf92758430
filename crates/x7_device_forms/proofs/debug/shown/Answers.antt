use Rattle.std.proofs.Common.{take, false, refl}
use Rattle.x7_engine.specs.Kept.{on_the_bench}
use Rattle.x7_device_forms.proofs.DebugLemmas.{shown_is}
use Rattle.x7_device_forms.proofs.debug.shown.Goals as goal

pub returns-clause-text : goal.returns-clause-text
returns-clause-text c =
    let begin = c.args.session.now in
    let now = c.transcript.new.session in
    shown_is begin.part begin.stream c.args.script.now begin now c.in_ok-text.text.items c.fault.result c.is_some.result refl refl c.in_ok-text.ensures.text c.in_ok-text.ensures.all_orders
    (c.fault.ensures now.part on_the_bench false (take now.at now.stream) c.device.ensures.at_position.stands) c.is_some.ensures
