use Rattle.x7_frames.proofs.GoodLemmas.{apart_taken}
use Rattle.x7_frames.proofs.frame_lines.FrameLines.take.Goals as goal

pub invariant_of-self : goal.invariant_of-self
invariant_of-self c = record {
  wide = c.take.ensures.width;
  marked = c.take.ensures.marks;
  roomy = c.take.ensures.room;
  apart = apart_taken c.take.result c.self.inside.part.now c.args.line.now c.self.inside.marked.draft.rows c.take.new.self.draft.rows c.self.invariant.apart c.take.ensures.taken c.take.ensures.unchanged;
}
