use Rattle.std.proofs.Common.{ℕ, Option, false, ap, ◌∙◌}
use Rattle.x7_regs.specs.declared.register.Reg.{Reg}
use Rattle.x7_engine.specs.Course.{course_at}
use Rattle.x7_engine.specs.declared.stop.StopCause.{StopCause}
use Rattle.x7_engine.specs.Stop.{fault_of_stop}
use Rattle.x7_engine.specs.Value.{register_value, value_or_zero, value_owing}
use Rattle.x7_engine.proofs.FrameLemmas.{none_frames}
use Rattle.x7_engine.proofs.ShownLemmas.{value_now}
use Rattle.x7_engine.proofs.registers.Registers.read_value.Goals as goal

pub returns-in-Some : goal.returns-in-Some
returns-in-Some c = λ e z kept h n s.
    c.value.ensures kept h n s
    ∙ ap (λ (k : ℕ). value_owing (course_at c.args.part.now kept h n) false (fault_of_stop c.args.self.now.values.stop) k c.in-Some.reg) (none_frames c.args.self.now.values.due z)
    ∙ value_now c.args.part.now kept false (fault_of_stop c.args.self.now.values.stop) h n c.in-Some.reg
    ∙ ap (λ (o : Option StopCause). register_value (course_at c.args.part.now kept h n) false (fault_of_stop o) c.in-Some.reg) e
    ∙ ap (λ (o : Option Reg). value_or_zero (course_at c.args.part.now kept h n) o) c.in-Some.ensures.value
