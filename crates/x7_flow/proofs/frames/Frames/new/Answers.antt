use Rattle.x7_flow.proofs.StandingLemmas.{begins_so}
use Rattle.x7_flow.proofs.frames.Frames.new.Goals as goal

pub returns-clause-stands : goal.returns-clause-stands
returns-clause-stands c = begins_so c.args.part.now c.in_ok-pipeline.pipeline c.in_ok-memory.memory c.in_ok-pipeline.ensures.stands c.in_ok-memory.ensures.zeros
