use Rattle.std.proofs.Common.{subst}
use Rattle.x7_flow.specs.Standing.{FramesFit}
use Rattle.x7_engine.specs.Standing.{DeviceState}
use Rattle.x7_engine.proofs.device.Device.frames_fit.Goals as goal

pub returns : goal.returns
returns c = subst (λ (d : DeviceState). FramesFit d.part d.registers.frames) c.self.view_is c.self.invariant.frames
