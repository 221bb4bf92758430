use Rattle.x7_pipeline.proofs.LawLemmas.{far_begun, far_given, far_last, far_loaded, far_nowhere, far_written}
use Rattle.x7_pipeline.proofs.laws.far_is_read_by_slots.Goals as goal

pub returns-clause-loaded : goal.returns-clause-loaded
returns-clause-loaded c = far_loaded

pub returns-clause-nowhere : goal.returns-clause-nowhere
returns-clause-nowhere c = far_nowhere

pub returns-clause-begun : goal.returns-clause-begun
returns-clause-begun c = far_begun

pub returns-clause-written : goal.returns-clause-written
returns-clause-written c = far_written

pub returns-clause-read : goal.returns-clause-read
returns-clause-read c = far_given

pub returns-clause-last : goal.returns-clause-last
returns-clause-last c = far_last
