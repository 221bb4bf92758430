use Rattle.x7_pipeline.proofs.LawLemmas.{one_state}
use Rattle.x7_pipeline.proofs.laws.pipelines_of_the_same_are_equal.Goals as goal

pub returns : goal.returns
returns c = record { equal = one_state }
