use Rattle.x7_engine.specs.Kept.{on_the_bench}
use Rattle.std.proofs.Common.{false}
use Rattle.x7_jtag.proofs.PortLemmas.{status_is}
use Rattle.x7_jtag.proofs.tap.ir_status.Goals as goal

pub returns : goal.returns
returns c = λ part given bytes s t. status_is part given bytes c.state.result c.value.result _ c.ir_status_with.result t (c.state.ensures.owing part on_the_bench false bytes s) (c.value.ensures.owing part on_the_bench false bytes s) c.ir_status_with.ensures
