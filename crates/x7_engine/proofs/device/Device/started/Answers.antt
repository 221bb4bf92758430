use Rattle.std.proofs.Common.{length, sym, ap, subst, ◌∙◌}
use Rattle.x7_engine.specs.Standing.{DeviceStandsFor, DeviceState, registers_in}
use Rattle.x7_engine.specs.Startup.{startup_ended}
use Rattle.x7_engine.specs.State.{history_taken}
use Rattle.x7_engine.proofs.StateLemmas.{taken_is}
use Rattle.x7_engine.proofs.device.Device.started.Goals as goal

pub returns : goal.returns
returns c = λ part kept wrapped bytes s.
    let fields : DeviceState = record { part = c.self.inside.part; cutter = c.self.inside.cutter; registers = registers_in c.self.inside.registers; wrapped = c.self.inside.wrapped; taken = c.self.inside.taken; fed = c.self.inside.fed } in
    let stands : DeviceStandsFor part kept wrapped fields bytes = subst (λ (d : DeviceState). DeviceStandsFor part kept wrapped d bytes) (sym c.self.view_is) s in
    c.startup_ended.ensures.value part (history_taken part kept bytes) (length bytes) stands.registers_are.clock.startup
    ∙ ap (startup_ended part (history_taken part kept bytes)) (sym (taken_is part kept wrapped fields bytes stands))
