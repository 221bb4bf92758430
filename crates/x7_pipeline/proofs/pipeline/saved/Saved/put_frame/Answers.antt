use Rattle.std.proofs.Common.{ap}
use Rattle.x7_memory.specs.PartFrames.{frame_at}
use Rattle.x7_pipeline.specs.Saved.{SavedState}
use Rattle.x7_pipeline.proofs.SavedLemmas.{pair_none, pair_put}
use Rattle.x7_pipeline.proofs.pipeline.saved.Saved.put_frame.Goals as goal

pub returns-then-self-clause-put : goal.returns-then-self-clause-put
returns-then-self-clause-put c =
    pair_put c.self.inside.has_frame c.self.inside.far c.self.inside.frame.items c.deref.result.now c.args.self.now.pair (frame_at c.args.part.now c.args.memory.now) (frame_at c.args.part.now c.put.new.self) (ap (λ (v : SavedState). v.pair) c.self.view_is) c.if-self.true
    c.deref.ensures.value c.put.ensures.put

pub returns-else-self-clause-put : goal.returns-else-self-clause-put
returns-else-self-clause-put c = pair_none c.self.inside.has_frame c.self.inside.far c.self.inside.frame.items c.args.self.now.pair (frame_at c.args.part.now c.args.memory.now) (ap (λ (v : SavedState). v.pair) c.self.view_is) c.if-self.false
