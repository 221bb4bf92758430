use Rattle.std.proofs.Common.{refl, ap, ◌∙◌}
use Rattle.x7_packets.specs.Machine.{MachineState}
use Rattle.x7_packets.proofs.AtOnceLemmas.{words_go_on, write_opens}
use Rattle.x7_packets.proofs.machine.Machine.take_write_to_other.Goals as goal

pub returns-clause-head : goal.returns-clause-head
returns-clause-head c = λ count some few ps s. write_opens c.args.self.now ps c.args.register count c.requires.register some few c.requires.at_header s

pub returns-clause-words : goal.returns-clause-words
returns-clause-words c = λ ws fits some ps s. words_go_on _ ps c.args.register ws fits c.requires.not_cmd some refl refl (ap (λ (m : MachineState). m.due) c.self.view_is ∙ c.requires.at_header) s
