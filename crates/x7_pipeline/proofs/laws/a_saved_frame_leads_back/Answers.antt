use Rattle.x7_pipeline.proofs.SavedLemmas.{copy_changes, taken_back, word_changes}
use Rattle.x7_pipeline.proofs.laws.a_saved_frame_leads_back.Goals as goal

pub returns : goal.returns
returns c = record {
  back = λ part at old new c. taken_back part at old new c.old_are c.new_are c.changes;
  copy = λ part p f s old new. copy_changes part p f.command f.base f.run f.source f.given old new s;
  word = λ part p f s word old new. word_changes part p f.command f.base f.run f.source f.given word old new s;
}
