use Rattle.std.proofs.Common.{◌≡◌, ℕ, length, sym, ap, subst, ◌∙◌}
use Rattle.x7_packets.specs.History.{History}
use Rattle.x7_engine.specs.Past.{past_of, state_owing_at}
use Rattle.x7_engine.specs.Standing.{DeviceStandsFor, DeviceState, RegistersStandFor, registers_in}
use Rattle.x7_engine.specs.State.{history_taken, taken_of}
use Rattle.x7_engine.proofs.FrameLemmas.{none_frames}
use Rattle.x7_engine.proofs.ShownLemmas.{state_now}
use Rattle.x7_engine.proofs.StateLemmas.{taken_is}
use Rattle.x7_engine.proofs.device.Device.state.Goals as goal

pub returns-clause-owing : goal.returns-clause-owing
returns-clause-owing c = λ part kept wrapped bytes s.
    let stands = subst (λ (d : DeviceState). DeviceStandsFor part kept wrapped d bytes) (sym c.self.view_is) s in
    let h : History = history_taken part kept bytes in
    let n : ℕ = taken_of part kept bytes in
    let all_taken : length bytes ≡ n = sym (taken_is part kept wrapped _ bytes stands) in
    let regs = subst (RegistersStandFor part kept (registers_in c.self.inside.registers) h) all_taken stands.registers_are in
    λ i. record {
      taken = (stands.taken_is ∙ all_taken) i;
      end = c.end.ensures part kept wrapped bytes s i;
      phase = c.phase.ensures.value part h n regs.clock.startup i;
      lines = c.lines.ensures part h n regs.clock.startup i;
      registers = c.rows.ensures part kept wrapped bytes s i;
    }

pub returns-clause-value : goal.returns-clause-value
returns-clause-value c = λ part kept wrapped bytes s none.
    returns-clause-owing c part kept wrapped bytes s
    ∙ ap (state_owing_at (past_of part kept wrapped bytes)) (none_frames c.args.self.now.registers.values.due none)
    ∙ state_now part kept wrapped bytes
