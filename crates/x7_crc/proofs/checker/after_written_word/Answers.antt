use Rattle.std.proofs.Common.{ap, ◌∙◌}
use Rattle.x7_packets.specs.History.{executed_by, Write}
use Rattle.x7_regs.specs.Register.{number_of}
use Rattle.x7_crc.proofs.checker.after_written_word.Goals as goal

pub returns : goal.returns
returns c = λ h place s. record {
  check_is = c.check_after_write.ensures h place s.check_is (c.executed-executed.ensures ∙ ap (λ k. executed_by k (Write (number_of c.args.reg) c.args.word)) s.held_is);
  held_is = c.held_after.ensures h place s.held_is;
}
