use Rattle.x7_pipeline.proofs.LawLemmas.{taken_source, other_source, no_source}
use Rattle.x7_pipeline.proofs.laws.mfw_takes_the_newest_frame.Goals as goal

pub returns-clause-taken : goal.returns-clause-taken
returns-clause-taken c = taken_source

pub returns-clause-not_after : goal.returns-clause-not_after
returns-clause-not_after c = other_source

pub returns-clause-not_under : goal.returns-clause-not_under
returns-clause-not_under c = no_source
