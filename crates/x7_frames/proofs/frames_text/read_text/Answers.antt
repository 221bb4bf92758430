use Rattle.x7_frames.proofs.FrameLinesLemmas.{whole_read}
use Rattle.x7_frames.proofs.frames_text.read_text.Goals as goal

pub returns : goal.returns
returns c = whole_read (λ plan. plan) c.args.part.now c.in_ok-new.field-0 c.args.text.now c.read_lines.result c.in_ok-new.ensures.part (c.read_lines.ensures.read c.in_ok-new.ensures.begun)
