use Rattle.x7_frames.proofs.GoodLemmas.{no_marks}
use Rattle.x7_frames.proofs.frames_text.MarkedDraft.new.Goals as goal

pub returns-clause-marks : goal.returns-clause-marks
returns-clause-marks c = no_marks c.args.part.now _ _ c.frames-frame_count.ensures.order c.frames-frame_count.ensures.value (c.in_ok-vec.ensures.items_if_clones_equal (λ y e. e))
