use Rattle.x7_flow.proofs.FaultLemmas.{address_line, multi_line, overrun_line, overrun_word, runs_somewhere, refused_far_read, refused_memory}
use Rattle.x7_flow.proofs.laws.refusals_have_causes.Goals as goal

pub returns-clause-no_address : goal.returns-clause-no_address
returns-clause-no_address c = address_line

pub returns-clause-no_source : goal.returns-clause-no_source
returns-clause-no_source c = multi_line

pub returns-clause-memory : goal.returns-clause-memory
returns-clause-memory c = refused_memory

pub returns-clause-far : goal.returns-clause-far
returns-clause-far c = refused_far_read

pub returns-clause-no_slot : goal.returns-clause-no_slot
returns-clause-no_slot c = λ part h access w a. overrun_line part h access w a.word a.address

pub returns-clause-only_words_overrun : goal.returns-clause-only_words_overrun
returns-clause-only_words_overrun c = overrun_word

pub returns-clause-runs_at_address : goal.returns-clause-runs_at_address
returns-clause-runs_at_address c = runs_somewhere
