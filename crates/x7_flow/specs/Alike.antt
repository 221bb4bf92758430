-- Settings that are the same but for MASK, and histories that write MASK before CTL0 (this project's choice).
use Rattle.std.specs.Prelude.{◌≡◌, ◌||◌, Bool, true, false, [], ◌∷◌}
use Rattle.x7_packets.specs.History.{History, writes}
use Rattle.x7_regs.specs.declared.register.Reg.TheVariants as reg
use Rattle.x7_regs.specs.Register.{number_of}
use Rattle.x7_flow.specs.Settings.{Settings}

-- two settings are the same but for MASK
pub record AreSameButForMask (s t : Settings) : Type 0 where
  pub has_idcode_same : s.has_idcode ≡ t.has_idcode
  pub ctl0_same : s.ctl0 ≡ t.ctl0
  pub command_code_same : s.command_code ≡ t.command_code

-- MASK was written
abbrev pub sets_mask : History → Bool
sets_mask [] = false
sets_mask (e ∷ h) = writes (number_of reg.Mask) e.access || sets_mask h

-- at each word of CTL0 some earlier access wrote MASK
abbrev pub WritesMaskBeforeCtl0 : History → Type 0
WritesMaskBeforeCtl0 [] = Unit {0}
WritesMaskBeforeCtl0 (e ∷ h) = (writes (number_of reg.Ctl0) e.access ≡ true → sets_mask h ≡ true) × WritesMaskBeforeCtl0 h
