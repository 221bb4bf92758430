use Rattle.std.proofs.Common.{true}
use Rattle.x7_engine.specs.DeviceFields.{device_in}
use Rattle.x7_engine.specs.Past.{Past, past_of}
use Rattle.x7_engine.proofs.PastLemmas.{stands_wrapped}
use Rattle.x7_engine.proofs.device.Device.wrap.Goals as goal

pub invariant_of-self : goal.invariant_of-self
invariant_of-self c =
    let p : Past = c.self.invariant.past.past in
    record {
      frames = c.self.invariant.frames;
      past = record { past = past_of p.part p.kept true p.bytes; has = stands_wrapped p.part p.kept p.wrapped (device_in c.self.inside) p.bytes c.self.invariant.past.has };
    }
