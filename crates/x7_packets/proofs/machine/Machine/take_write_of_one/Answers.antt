use Rattle.std.proofs.Common.{[], arith, refl, sym, subst, ap, ◌∙◌}
use Rattle.x7_packets.specs.Machine.{MachineState, MachineStandsFor}
use Rattle.x7_packets.proofs.AtOnceLemmas.{write_closes, write_goes_on, write_opens}
use Rattle.x7_packets.proofs.machine.Machine.take_write_of_one.Goals as goal

pub returns-then-ends_session-clause-head : goal.returns-then-ends_session-clause-head
returns-then-ends_session-clause-head c = λ ps s. write_opens c.args.self.now ps c.args.register 1 c.requires.register (omega arith) (omega arith) c.requires.at_header s

pub returns-then-ends_session-clause-word : goal.returns-then-ends_session-clause-word
returns-then-ends_session-clause-word c = λ ps s. write_closes _ ps c.args.register c.args.word (omega (arith, c.ranges.word)) (sym c.ends_session.ensures ∙ c.if-ends_session.true) (subst (λ (m : MachineState). MachineStandsFor m []) (sym c.self-then-ends_session.view_is) c.new.ensures) s

pub returns-clause-head : goal.returns-clause-head
returns-clause-head c = λ ps s. write_opens c.args.self.now ps c.args.register 1 c.requires.register (omega arith) (omega arith) c.requires.at_header s

pub returns-clause-word : goal.returns-clause-word
returns-clause-word c = λ ps s. write_goes_on _ ps c.args.register c.args.word (omega (arith, c.ranges.word)) (sym c.ends_session.ensures ∙ c.if-ends_session.false) refl refl
    (ap (λ (m : MachineState). m.due) c.self.view_is ∙ c.requires.at_header) s
