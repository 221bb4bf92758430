use Rattle.x7_flow.proofs.QuietLemmas.{all_due_is, due_is, quiet_memory, quiet_pairs}
use Rattle.x7_flow.proofs.laws.quiet_accesses_move_no_frame.Goals as goal

pub returns-clause-pairs : goal.returns-clause-pairs
returns-clause-pairs c = quiet_pairs

pub returns-clause-memory : goal.returns-clause-memory
returns-clause-memory c = quiet_memory

pub returns-clause-some_due : goal.returns-clause-some_due
returns-clause-some_due c = λ part h register count due place m. due_is part h register count due place m.reads m.fewer

pub returns-clause-all_due : goal.returns-clause-all_due
returns-clause-all_due c = all_due_is
