use Rattle.std.proofs.Common.{refl, sym, ap, ◌∙◌}
use Rattle.x7_packets.specs.History.{is_command}
use Rattle.x7_regs.specs.Register.{number_of}
use Rattle.x7_crc.proofs.CheckerLemmas.{check_cleared, check_reset}
use Rattle.x7_crc.proofs.written.check_after_write.Goals as goal

pub returns-in-Crc : goal.returns-in-Crc
returns-in-Crc c = λ h place e f. sym (check_cleared h (number_of c.args.reg) c.args.word place (rw c.in-Crc.is refl))

pub returns-in_default : goal.returns-in_default
returns-in_default c = λ h place e f.
    sym (check_reset h (number_of c.args.reg) c.args.word place (sym (ap (is_command 7) f) ∙ sym c.is_command.ensures ∙ c.if-is_command.true))
