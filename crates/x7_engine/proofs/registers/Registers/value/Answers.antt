use Rattle.std.proofs.Common.{ap, ◌∙◌}
use Rattle.x7_regs.specs.BootStatus.{boot_status_of}
use Rattle.x7_regs.specs.declared.boot_status.Attempt.{Attempt}
use Rattle.x7_engine.specs.Stop.{fault_of_stop}
use Rattle.x7_engine.specs.Value.{attempt_of}
use Rattle.x7_engine.proofs.registers.Registers.value.Goals as goal

pub returns-in-Bootsts : goal.returns-in-Bootsts
returns-in-Bootsts c = λ kept h n s. rw c.in-Bootsts.is (c.boot_word.ensures.value ∙ ap (λ (a : Attempt). boot_status_of a c.args.self.now.values.before) (c.attempt.ensures c.args.part.now kept h n s) ∙ ap (boot_status_of (attempt_of kept c.args.wrapped (fault_of_stop c.args.self.now.values.stop) h)) s.before)
