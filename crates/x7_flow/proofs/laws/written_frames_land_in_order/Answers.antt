use Rattle.x7_flow.proofs.StreamLemmas.{copies_put, write_puts}
use Rattle.x7_flow.proofs.laws.written_frames_land_in_order.Goals as goal

pub returns-clause-write : goal.returns-clause-write
returns-clause-write c = λ part earlier x t. write_puts part earlier x.far x.far_place x.place x.frames x.last t.some t.takes t.whole

pub returns-clause-copies : goal.returns-clause-copies
returns-clause-copies c = λ part earlier x t. copies_put part earlier x.far x.far_place x.place x.first x.words x.frame t.takes t.mfw t.source t.address
