use Rattle.std.proofs.Common.{ap, subst}
use Rattle.x7_flow.specs.Standing.{FramesFit}
use Rattle.x7_engine.specs.DeviceFields.{device_in}
use Rattle.x7_engine.specs.Standing.{DeviceState, fed_of}
use Rattle.x7_engine.specs.Undo.{UndoLeadsBack}
use Rattle.x7_engine.proofs.PastLemmas.{past_equal, undone}
use Rattle.x7_engine.proofs.UndoLemmas.{leads_back}
use Rattle.x7_engine.proofs.device.Device.undo.Goals as goal

pub invariant_of-self : goal.invariant_of-self
invariant_of-self c =
    let b = c.requires.back in
    let fit : FramesFit c.args.self.now.part c.args.self.now.registers.frames = subst (λ (d : DeviceState). FramesFit d.part d.registers.frames) c.self.view_is c.self.invariant.frames in
    let back : UndoLeadsBack c.args.undo.now c.args.self.now b.old = leads_back b.past.part b.past.kept b.past.wrapped c.args.undo.now b.old c.args.self.now b.past.bytes b.more b.saves fit b.no_word_due b.few b.had b.has in
    record {
      frames = c.restore.ensures.part;
      past = past_equal _ b.old (undone (device_in c.self.inside) c.args.self.now b.old _ c.args.undo.now c.copy-self-inside.result c.restore.new.self c.self.view_is c.undo.view_is c.copy-self-inside.ensures back (c.restore.ensures.back b.old.registers.frames))
          (record { past = b.past; has = b.had });
    }

pub returns-clause-back : goal.returns-clause-back
returns-clause-back c = λ old back.
    undone (device_in c.self.inside) c.args.self.now old _ c.args.undo.now c.copy-self-inside.result c.restore.new.self c.self.view_is c.undo.view_is c.copy-self-inside.ensures back (c.restore.ensures.back old.registers.frames)

pub returns-clause-after_more : goal.returns-clause-after_more
returns-clause-after_more c = λ p more old k none few s t.
    let fit : FramesFit c.args.self.now.part c.args.self.now.registers.frames = subst (λ (d : DeviceState). FramesFit d.part d.registers.frames) c.self.view_is c.self.invariant.frames in
    returns-clause-back c old (leads_back p.part p.kept p.wrapped c.args.undo.now old c.args.self.now p.bytes more k fit none few s t)

pub returns-clause-part : goal.returns-clause-part
returns-clause-part c = ap (λ (d : DeviceState). d.part) c.self.view_is

pub returns-clause-fed : goal.returns-clause-fed
returns-clause-fed c = ap (λ (d : DeviceState). fed_of d) c.self.view_is
