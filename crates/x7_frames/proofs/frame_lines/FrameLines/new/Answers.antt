use Rattle.std.proofs.Common.{[], refl, subst, sym}
use Rattle.x7_frames.specs.FramesText.{AreGood}
use Rattle.x7_frames.proofs.GoodLemmas.{no_rows_good}
use Rattle.x7_frames.proofs.frame_lines.FrameLines.new.Goals as goal

pub returns-clause-begun : goal.returns-clause-begun
returns-clause-begun c = (refl, subst (λ rows. AreGood c.args.part.now [] rows) (sym c.in_ok-marked.ensures.empty) (no_rows_good c.args.part.now))
