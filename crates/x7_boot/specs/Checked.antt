-- What a device has been through where the phase of startup is above 0 (UG470, startup): START and DESYNC, and checks
-- that passed.
use Rattle.std.specs.Prelude.{◌≡◌, ℕ, ◌<◌, List, IsTrue}
use Rattle.x7_packets.specs.History.{History, Write}
use Rattle.x7_crc.specs.RunningCheck.{running_check}
use Rattle.x7_part.specs.Part.{PartData}
use Rattle.x7_regs.specs.Register.{number_of}
use Rattle.x7_regs.specs.declared.register.Reg.TheVariants.{Crc, Idcode}
use Rattle.x7_flow.specs.Controls.{same_idcode}
use Rattle.x7_engine.specs.Checked.{HasStartAndDesync, StandsIn}
use Rattle.x7_engine.specs.State.{history_taken, taken_of}
use Rattle.x7_engine.specs.declared.kept.Kept.{Kept}

-- START was executed on a device whose IDCODE was written before, and DESYNC after START; and before the last byte
-- taken every write to CRC had the running check and every write to IDCODE the part's idcode, whatever its version
pub record HasChecked (part : PartData) (kept : Kept) (bytes : List ℕ) : Type 0 where
  pub started : HasStartAndDesync part.idcode (history_taken part kept bytes) (taken_of part kept bytes)
  pub checks : (word place : ℕ) (older : History) → StandsIn (history_taken part kept bytes) (Write (number_of Crc) word) place older
      → place < taken_of part kept bytes → word ≡ running_check older
  pub idcodes : (word place : ℕ) (older : History) → StandsIn (history_taken part kept bytes) (Write (number_of Idcode) word) place older
      → place < taken_of part kept bytes → IsTrue (same_idcode part.idcode word)
