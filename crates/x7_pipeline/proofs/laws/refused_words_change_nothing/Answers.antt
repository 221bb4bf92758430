use Rattle.x7_pipeline.proofs.LawLemmas.{refused_landed, refused_far}
use Rattle.x7_pipeline.proofs.laws.refused_words_change_nothing.Goals as goal

pub returns-clause-written_frames : goal.returns-clause-written_frames
returns-clause-written_frames c = refused_landed

pub returns-clause-far : goal.returns-clause-far
returns-clause-far c = refused_far
