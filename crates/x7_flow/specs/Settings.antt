-- What decides whether an access concerns frames: whether the device's IDCODE was written, MASK, CTL0 and CMD (UG470,
-- configuration registers).
use Rattle.std.specs.Prelude.{◌≡◌, ℕ, ◌==◌, ◌||◌, ◌&&◌, not, Bool, true, if◌then◌else◌, [], ◌∷◌}
use Rattle.x7_part.specs.Part.{PartData}
use Rattle.x7_packets.specs.History.{Access, Write, History, command_held, written}
use Rattle.x7_regs.specs.declared.command.Command.TheVariants as command
use Rattle.x7_regs.specs.declared.register.Reg.TheVariants as reg
use Rattle.x7_regs.specs.Command.{code_of, command_code_of}
use Rattle.x7_regs.specs.Register.{number_of}
use Rattle.x7_flow.specs.declared.settings.FrameSettings.{FrameSettings}
use Rattle.x7_regs.specs.Control.{forbids_reading, forbids_writing}
use Rattle.x7_flow.specs.Controls.{ctl0_held, has_idcode, mask_held, masked_word, names_part}

-- whether the device's IDCODE was written, the words of MASK and CTL0, and the code of the command that CMD holds
pub record Settings : Type 0 where
  pub has_idcode : Bool
  pub mask : ℕ
  pub ctl0 : ℕ
  pub command_code : ℕ

-- the settings after a history
abbrev pub settings_of : ℕ → History → Settings
settings_of idcode h = record { has_idcode = has_idcode idcode h; mask = mask_held h; ctl0 = ctl0_held h; command_code = command_held h }

-- the three settings that a device stores are those of a history
pub record AreSettingsAfter (idcode : ℕ) (s : FrameSettings) (h : History) : Type 0 where
  pub idcode_agrees : has_idcode idcode h ≡ s.has_idcode
  pub ctl0_is : ctl0_held h ≡ s.ctl0
  pub command_code_is : command_held h ≡ s.command_code

-- the code of the command that CMD holds after an access
abbrev pub command_code_after : Access → ℕ → ℕ
command_code_after (Write register w) old = if register == number_of reg.Cmd then command_code_of w else old
command_code_after _ old = old

-- the settings after one access more
abbrev pub settings_after : ℕ → Access → Settings → Settings
settings_after idcode access s = record {
  has_idcode = names_part idcode access || s.has_idcode;
  mask = written (number_of reg.Mask) access s.mask;
  ctl0 = masked_word (number_of reg.Ctl0) s.mask access s.ctl0;
  command_code = command_code_after access s.command_code;
}

-- the settings after a history that goes on from these settings
unfoldable pub settings_from : ℕ → Settings → History → Settings
settings_from idcode s [] = s
settings_from idcode s (e ∷ h) = settings_after idcode e.access (settings_from idcode s h)

-- words of FDRI go to the memory
abbrev pub takes_frames : Settings → Bool
takes_frames s = s.has_idcode && (s.command_code == code_of command.Wcfg && not (forbids_writing s.ctl0))

-- words of MFWR ask for copies
abbrev pub takes_copies : Settings → Bool
takes_copies s = s.has_idcode && not (forbids_writing s.ctl0)

-- reads of FDRO give words of the memory
abbrev pub gives_frames : Settings → Bool
gives_frames s = s.command_code == code_of command.Rcfg && not (forbids_reading s.ctl0)

-- after a history words of FDRI go to the memory
abbrev pub TakesFrames : PartData → History → Type 0
TakesFrames part h = takes_frames (settings_of part.idcode h) ≡ true
