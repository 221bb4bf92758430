use Rattle.std.proofs.Common.{◌≡◌, ◌^◌, ap, ◌∙◌, refl, sym, subst}
use Rattle.x7_jtag.specs.Port.{lowest_bit}
use Rattle.x7_jtag.specs.Tap.{QueueStandsFor, TapState}
use Rattle.x7_jtag.specs.declared.instruction.Instruction.TheVariants as instruction
use Rattle.x7_jtag.proofs.PortLemmas.{shifts_queue, shifts_register, shifts_under, shown_under}
use Rattle.x7_jtag.proofs.tap.Tap.shift.Goals as goal

pub returns-in-CfgIn : goal.returns-in-CfgIn
returns-in-CfgIn c =
    let is : c.args.self.now.instruction ≡ instruction.CfgIn = sym (ap (λ (t : TapState). t.instruction) c.self.view_is) ∙ c.in-CfgIn.is in
    record {
      port = λ part p s. shifts_under part c.args.self.now c.shift_byte.new.self c.args.device.now c.shift_byte.new.device p c.args.tdi instruction.CfgIn s is (c.shift_byte.ensures.port part p s);
      tdo = λ part p s. shown_under part c.args.self.now c.args.device.now p instruction.CfgIn _ s is refl;
    }

pub returns-in-CfgOut : goal.returns-in-CfgOut
returns-in-CfgOut c =
    let is : c.args.self.now.instruction ≡ instruction.CfgOut = sym (ap (λ (t : TapState). t.instruction) c.self.view_is) ∙ c.in-CfgOut.is in
    record {
      port = λ part p s.
          shifts_under part c.args.self.now _ c.args.device.now c.shift.new.device p c.args.tdi instruction.CfgOut s is
          (shifts_queue part c.args.self.now _ c.args.device.now c.shift.new.device p s (ap (λ (t : TapState). record t { queue = c.shift.new.self }) c.self.view_is)
          (c.shift.ensures.queue part p.queue (subst (λ (t : TapState). QueueStandsFor part t.queue c.args.device.now p.queue) (sym c.self.view_is) s.queue_is)));
      tdo = λ part p s.
          shown_under part c.args.self.now c.args.device.now p instruction.CfgOut c.shift.result s is
          (c.shift.ensures.bit part p.queue (subst (λ (t : TapState). QueueStandsFor part t.queue c.args.device.now p.queue) (sym c.self.view_is) s.queue_is));
    }

pub returns-in-Idcode : goal.returns-in-Idcode
returns-in-Idcode c =
    let is : c.args.self.now.instruction ≡ instruction.Idcode = sym (ap (λ (t : TapState). t.instruction) c.self.view_is) ∙ c.in-Idcode.is in
    record {
      port = λ part p s.
          shifts_under part c.args.self.now c.shift_register.new.self c.args.device.now c.args.device.now p c.args.tdi instruction.Idcode s is
          (shifts_register part c.args.self.now c.shift_register.new.self c.args.device.now p (2 ^ 31) c.args.tdi s c.shift_register.ensures.shifted);
      tdo = λ part p s. shown_under part c.args.self.now c.args.device.now p instruction.Idcode c.shift_register.result s is (c.shift_register.ensures.out ∙ ap lowest_bit s.register_is);
    }

pub returns-in-Usercode : goal.returns-in-Usercode
returns-in-Usercode c =
    let is : c.args.self.now.instruction ≡ instruction.Usercode = sym (ap (λ (t : TapState). t.instruction) c.self.view_is) ∙ c.in-Usercode.is in
    record {
      port = λ part p s.
          shifts_under part c.args.self.now c.shift_register-in-Usercode.new.self c.args.device.now c.args.device.now p c.args.tdi instruction.Usercode s is
          (shifts_register part c.args.self.now c.shift_register-in-Usercode.new.self c.args.device.now p (2 ^ 31) c.args.tdi s c.shift_register-in-Usercode.ensures.shifted);
      tdo = λ part p s. shown_under part c.args.self.now c.args.device.now p instruction.Usercode c.shift_register-in-Usercode.result s is (c.shift_register-in-Usercode.ensures.out ∙ ap lowest_bit s.register_is);
    }
