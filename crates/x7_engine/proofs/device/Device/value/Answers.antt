use Rattle.std.proofs.Common.{◌≡◌, ℕ, Bool, length, Option, sym, ap, subst, ◌∙◌}
use Rattle.x7_part.specs.Part.{PartData}
use Rattle.x7_engine.specs.Course.{Course, course_at}
use Rattle.x7_engine.specs.declared.stop.StopCause.{StopCause}
use Rattle.x7_engine.specs.Entering.{ForEachHistory}
use Rattle.x7_engine.specs.Past.{past_of, value_owing_at}
use Rattle.x7_engine.specs.Standing.{DeviceStandsFor, DeviceState, frames_due, registers_in}
use Rattle.x7_engine.specs.State.{course_taken, first_stop_of_bytes, history_taken, why_stopped}
use Rattle.x7_engine.specs.Stop.{fault_of_stop}
use Rattle.x7_engine.specs.Value.{value_owing}
use Rattle.x7_engine.proofs.FrameLemmas.{none_frames}
use Rattle.x7_engine.proofs.ShownLemmas.{value_now}
use Rattle.x7_engine.proofs.StateLemmas.{taken_is, why_is}
use Rattle.x7_engine.proofs.device.Device.value.Goals as goal

pub returns-clause-owing : goal.returns-clause-owing
returns-clause-owing c = λ part kept wrapped bytes s.
    let stands = subst (λ (d : DeviceState). DeviceStandsFor part kept wrapped d bytes) (sym c.self.view_is) s in
    let inside = c.self.inside.registers in
    let shown : Course → Bool → Option StopCause → ℕ = λ course w why. value_owing course w (fault_of_stop why) (frames_due inside.values.due) c.args.reg in
    subst (λ (p : PartData). ForEachHistory p (registers_in inside) (λ k h n. c.value.result ≡ shown (course_at p k h n) c.self.inside.wrapped inside.values.stop)) stands.part_is c.value.ensures
    kept (history_taken part kept bytes) (length bytes) stands.registers_are
    ∙ ap (λ (n : ℕ). shown (course_at part kept (history_taken part kept bytes) n) c.self.inside.wrapped inside.values.stop) (sym (taken_is part kept wrapped _ bytes stands))
    ∙ ap (λ (w : Bool). shown (course_taken part kept bytes) w inside.values.stop) stands.wrapped_is
    ∙ ap (shown (course_taken part kept bytes) wrapped) (sym (why_is part kept wrapped _ bytes stands))
    ∙ ap (λ (d : DeviceState). value_owing_at (past_of part kept wrapped bytes) (frames_due d.registers.values.due) c.args.reg) c.self.view_is

pub returns-clause-value : goal.returns-clause-value
returns-clause-value c = λ part kept wrapped bytes s none.
    let course = course_taken part kept bytes in
    returns-clause-owing c part kept wrapped bytes s
    ∙ ap (λ (n : ℕ). value_owing_at (past_of part kept wrapped bytes) n c.args.reg) (none_frames c.args.self.now.registers.values.due none)
    ∙ value_now part kept wrapped (fault_of_stop (why_stopped (first_stop_of_bytes part kept bytes))) course.history course.taken c.args.reg
