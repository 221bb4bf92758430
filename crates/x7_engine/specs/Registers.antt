-- What a history leaves in the registers and flags of a device (UG470, configuration registers and command register).
-- A history stands with its newest access first.
use Rattle.std.specs.Prelude.{◌≡◌, ◌<◌, ℕ, ◌^◌, ◌==◌, ◌&&◌, ◌||◌, Bool, true, false, if◌then◌else◌, List, [], ◌∷◌, Option}
use Rattle.std.specs.Int.{bit_at}
use Rattle.std.specs.List.{list_any}
use Rattle.x7_packets.specs.History.{Access, Write, History, last_word, command_held, executed_by, is_command}
use Rattle.x7_crc.specs.RunningCheck.{running_check}
use Rattle.x7_regs.specs.declared.command.Command.TheVariants.{Aghigh, Iprog, Lfrm, Rcrc, Shutdown}
use Rattle.x7_regs.specs.declared.register.Reg.{Reg}
use Rattle.x7_regs.specs.declared.register.Reg.TheVariants.{Cbc, Cmd, Cor0, Crc, Ctl0, Ctl1, Far, Fdri, Idcode, Lout, Mfwr, Timer}
use Rattle.x7_regs.specs.Command.{code_of, command_code_of}
use Rattle.x7_regs.specs.Register.{number_of}
use Rattle.x7_flow.specs.Controls.{mask_held}
use Rattle.x7_engine.specs.declared.kept.Kept.{Kept}
use Rattle.x7_engine.specs.Kept.{kept_word}

-- the last word written to a register; where none was, the one kept over the reset, and 0 for one that keeps none
abbrev pub word_held : Kept → ℕ → History → ℕ
word_held kept register h = last_word register (kept_word kept register) h

-- COR0 after a history, and 0 where it was never written
abbrev pub cor0_held : History → ℕ
cor0_held h = last_word (number_of Cor0) 0 h

-- a bit of a register under MASK (CTL0 or CTL1) after an access: that of a word written there, where MASK has the bit,
-- and else the old one
abbrev pub bit_written : ℕ → ℕ → ℕ → Access → ℕ → ℕ
bit_written register i mask (Write r w) old = if r == register && bit_at mask i == 1 then bit_at w i else old
bit_written register i mask _ old = old

-- a bit of a register under MASK after a history: that of the last word written there while MASK had the bit, and 0
-- where none was
abbrev pub masked_bit : ℕ → ℕ → History → ℕ
masked_bit register i [] = 0
masked_bit register i (e ∷ h) = bit_written register i (mask_held h) e.access (masked_bit register i h)

-- a number of 32 bits whose bits are those of a register under MASK
pub record HasMaskedBits (register n : ℕ) (h : History) : Type 0 where
  pub fits : n < 2 ^ 32
  pub bits : (i : ℕ) → i < 32 → bit_at n i ≡ masked_bit register i h

-- the access writes this check to CRC
abbrev pub writes_check : ℕ → Access → Bool
writes_check check (Write register w) = register == number_of Crc && w == check
writes_check check _ = false

-- an access clears the check without a fault, by the command executed and the running check: RCRC is executed, or the
-- running check is written to CRC
abbrev pub clears_check_by : Option ℕ → ℕ → Access → Bool
clears_check_by command check access = is_command (code_of Rcrc) command || writes_check check access

-- an access after a history clears the check without a fault: it executes RCRC, or writes the running check to CRC
abbrev pub clears_check : History → Access → Bool
clears_check h access = clears_check_by (executed_by (command_held h) access) (running_check h) access

-- whether a shutdown is pending after a command, by whether the check was cleared and whether one was pending before
abbrev pub is_pending_after : Option ℕ → Bool → Bool → Bool
is_pending_after command cleared pending = if cleared then false else is_command (code_of Shutdown) command || pending

-- a shutdown is pending: SHUTDOWN was executed since the check was last cleared, or since the reset (UG470, command
-- register)
abbrev pub is_pending : History → Bool
is_pending [] = false
is_pending (e ∷ h) = is_pending_after (executed_by (command_held h) e.access) (clears_check h e.access) (is_pending h)

-- the access takes a pending shutdown, which is then done at once (this project's choice)
abbrev pub takes_shutdown : History → Access → Bool
takes_shutdown h access = clears_check h access && is_pending h

-- GHIGH_B after a command, by whether a shutdown was taken and by what it was before
abbrev pub has_ghigh_after : Option ℕ → Bool → Bool → Bool
has_ghigh_after command taken ghigh = if is_command (code_of Lfrm) command then true else if is_command (code_of Aghigh) command || taken then false else ghigh

-- GHIGH_B: the latest of LFRM, AGHIGH and a taken shutdown is LFRM
abbrev pub has_ghigh : History → Bool
has_ghigh [] = false
has_ghigh (e ∷ h) = has_ghigh_after (executed_by (command_held h) e.access) (takes_shutdown h e.access) (has_ghigh h)

-- the access writes this command to CMD
abbrev pub writes_command : ℕ → Access → Bool
writes_command command (Write register w) = register == number_of Cmd && command_code_of w == command
writes_command command _ = false

-- an IPROG command was written
abbrev pub wrote_iprog : History → Bool
wrote_iprog [] = false
wrote_iprog (e ∷ h) = writes_command (code_of Iprog) e.access || wrote_iprog h

-- the registers to which a written word does more than stay and be folded into the check, but for those of frame data
-- and CBC. CRC, CMD, IDCODE and FAR (which executes the command held) move flags; CTL0 and CTL1 are written under MASK;
-- TIMER sets the watchdog; LOUT isn't folded (this project's choice)
abbrev pub controlling_registers : List Reg
controlling_registers = Crc ∷ Far ∷ Cmd ∷ Ctl0 ∷ Lout ∷ Idcode ∷ Timer ∷ Ctl1 ∷ []

-- a word written to the register of this number moves a flag, a register under MASK or the clock, or isn't just folded
abbrev pub is_controlling : ℕ → Bool
is_controlling register = list_any (λ reg. register == number_of reg) controlling_registers

-- the registers in which a written word does more than stay and be folded into the check: the controlling ones, those
-- of frame data, and CBC, which asks for decryption
abbrev pub effective_registers : List Reg
effective_registers = Fdri ∷ Mfwr ∷ Cbc ∷ controlling_registers

-- a word written to the register of this number does more than stay and be folded
abbrev pub has_effect : ℕ → Bool
has_effect register = list_any (λ reg. register == number_of reg) effective_registers

-- these are the command that a word written after a history executes, whether it takes a shutdown, and COR0 there
pub record AreFactsOfWrite (executed : Option ℕ) (takes : Bool) (cor0 : ℕ) (h : History) (access : Access) : Type 0 where
  pub executed_is : executed ≡ executed_by (command_held h) access
  pub takes_shutdown_is : takes ≡ takes_shutdown h access
  pub cor0_is : cor0 ≡ cor0_held h
