use Rattle.x7_flow.proofs.SavedLemmas.{back_one, back_same}
use Rattle.x7_flow.proofs.laws.saved_frames_lead_back.Goals as goal

pub returns : goal.returns
returns c = record {
  unchanged = λ part s old new k. back_same part s old new k.saves k.old_fit k.new_fit;
  one_more = λ part s old new h e k g. back_one part s old new h e k.saves k.old_fit k.new_fit g.stands g.memory;
}
