use Rattle.std.proofs.Common.{◌≡◌, sym, ap, subst, ◌∙◌, List, ℕ}
use Rattle.x7_part.specs.Part.{PartData}
use Rattle.x7_memory.specs.PartFrames.{AreFramesOf, frame_at}
use Rattle.x7_engine.specs.Standing.{DeviceState}
use Rattle.x7_engine.proofs.device.Device.memory.Goals as goal

pub returns-clause-frames : goal.returns-clause-frames
returns-clause-frames c =
    let fit : AreFramesOf c.args.self.now.part c.self.inside.registers.frames.memory =
    subst (λ (p : PartData). AreFramesOf p c.self.inside.registers.frames.memory) (ap (λ (d : DeviceState). d.part) c.self.view_is) c.self.invariant.frames.frames_fit in
    subst (λ (m : List (List ℕ)). AreFramesOf c.args.self.now.part m) (sym c.memory.ensures) fit

pub returns-clause-shows : goal.returns-clause-shows
returns-clause-shows c = λ part kept wrapped bytes s far.
    let same : c.memory.result.now ≡ c.args.self.now.registers.frames.memory = c.memory.ensures ∙ ap (λ (d : DeviceState). d.registers.frames.memory) c.self.view_is in
    let are = s.registers_are.frames in
    ap (λ (m : List (List ℕ)). frame_at part m far) same ∙ are.stands.memory far ∙ are.memory_same far
