use Rattle.x7_pipeline.proofs.SlotLemmas.{is_base_so}
use Rattle.x7_pipeline.proofs.place.is_frame_address.Goals as goal

pub returns : goal.returns
returns c = is_base_so c.args.part.now c.args.far c.is_address.result c.is_address.ensures.listed
