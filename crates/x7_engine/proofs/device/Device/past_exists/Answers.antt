use Rattle.std.proofs.Common.{subst}
use Rattle.x7_engine.specs.Past.{HasSomePast}
use Rattle.x7_engine.proofs.device.Device.past_exists.Goals as goal

pub returns : goal.returns
returns c = record { past = subst HasSomePast c.self.view_is c.self.invariant.past }
