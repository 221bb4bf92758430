use Rattle.x7_pipeline.proofs.ReadLemmas.{zeros_from}
use Rattle.x7_pipeline.proofs.LawLemmas.{read_pad_frame, read_frames, stored_more}
use Rattle.x7_pipeline.proofs.laws.readbacks_give_frames_along_slots.Goals as goal

pub returns-clause-pad : goal.returns-clause-pad
returns-clause-pad c = read_pad_frame

pub returns-clause-frames : goal.returns-clause-frames
returns-clause-frames c = read_frames

pub returns-clause-zeros : goal.returns-clause-zeros
returns-clause-zeros c = zeros_from

pub returns-clause-stored : goal.returns-clause-stored
returns-clause-stored c = stored_more
