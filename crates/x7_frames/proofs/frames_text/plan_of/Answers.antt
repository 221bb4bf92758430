use Rattle.x7_frames.proofs.BackLemmas.{read_back}
use Rattle.x7_frames.proofs.frames_text.plan_of.Goals as goal

pub returns-clause-back : goal.returns-clause-back
returns-clause-back c = read_back (λ p. p) c.args.part.now c.args.text.now c.read_text.result c.read_text.ensures
