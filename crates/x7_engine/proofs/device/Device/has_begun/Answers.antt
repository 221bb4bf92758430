use Rattle.std.proofs.Common.{◌∙◌, ap, sym}
use Rattle.std.specs.Option.{is_some}
use Rattle.x7_engine.specs.Standing.{DeviceState}
use Rattle.x7_engine.proofs.UntilLemmas.{unbegun}
use Rattle.x7_engine.proofs.device.Device.has_begun.Goals as goal

pub returns-clause-not_begun : goal.returns-clause-not_begun
returns-clause-not_begun c = λ part kept wrapped bytes s no.
    unbegun part kept wrapped c.args.self.now bytes s (sym (ap (λ (d : DeviceState). is_some d.registers.values.clock.startup.begun_with) c.self.view_is) ∙ sym c.has_begun.ensures ∙ no)
