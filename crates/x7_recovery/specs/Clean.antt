-- A golden stream that clears the check before it asks anything that a slot's accesses could change (UG470,
-- configuration registers; what may stand before RCRC is this project's choice). The vendor's streams that README names
-- begin so, which is no promise.
use Rattle.std.specs.Prelude.{◌≡◌, ℕ, List, [], ◌∷◌, None, drop}
use Rattle.x7_words.specs.Word.{AreBytes}
use Rattle.x7_packets.specs.History.{Access, Entry, History, Write, entry, history_of}
use Rattle.x7_packets.specs.FlashSlot.{sector_size}
use Rattle.x7_part.specs.Part.{PartData}
use Rattle.x7_regs.specs.Command.{code_of}
use Rattle.x7_regs.specs.Register.{number_of}
use Rattle.x7_regs.specs.declared.command.Command.TheVariants as command
use Rattle.x7_regs.specs.declared.register.Reg.TheVariants as reg
use Rattle.x7_engine.specs.State.{first_stop_of_bytes}
use Rattle.x7_boot.specs.Attempt.{BootAttempt}
use Rattle.x7_recovery.specs.Golden.{StartsAtPower, with_first_sector_erased}

-- an access that may stand before RCRC: a word for WBSTAR, TIMER or BSPI, or the command NULL, BSPI_READ or SHUTDOWN
pub data MayPrecedeRcrc : Access → Type 0 where
  wbstar : (w : ℕ) → MayPrecedeRcrc (Write (number_of reg.Wbstar) w)
  timer : (w : ℕ) → MayPrecedeRcrc (Write (number_of reg.Timer) w)
  bspi : (w : ℕ) → MayPrecedeRcrc (Write (number_of reg.Bspi) w)
  null : MayPrecedeRcrc (Write (number_of reg.Cmd) (code_of command.Null))
  bspi_read : MayPrecedeRcrc (Write (number_of reg.Cmd) (code_of command.BspiRead))
  shutdown : MayPrecedeRcrc (Write (number_of reg.Cmd) (code_of command.Shutdown))

-- a history of which each access is one that may stand before RCRC
pub data AllPrecedeRcrc : History → Type 0 where
  nothing : AllPrecedeRcrc []
  next : (access : Access) (place : ℕ) (h : History) → MayPrecedeRcrc access → AllPrecedeRcrc h → AllPrecedeRcrc (entry access place ∷ h)

-- a history with a write of RCRC to CMD before which only accesses stand that may precede it
pub data BeginsClean : History → Type 0 where
  clear : (place : ℕ) (h : History) → AllPrecedeRcrc h → BeginsClean (entry (Write (number_of reg.Cmd) (code_of command.Rcrc)) place ∷ h)
  later : (e : Entry) (h : History) → BeginsClean h → BeginsClean (e ∷ h)

-- With the first sector of the flash erased the attempt at power starts, and nothing has stopped the device by then.
-- What the attempt took is bytes, and those after the first sector begin clean.
pub record StartsClean (part : PartData) (flash : List ℕ) (t : BootAttempt) : Type 0 where
  pub starts : StartsAtPower part (with_first_sector_erased flash) t
  pub going : first_stop_of_bytes part t.kept t.bytes ≡ None
  pub clean : BeginsClean (history_of (drop sector_size t.bytes))
  pub fits : AreBytes t.bytes
