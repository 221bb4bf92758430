-- Startup, shutdowns and GHIGH_B in the words of the guide (UG470, startup and command register).
use Rattle.std.specs.Prelude.{◌≡◌, ◌||◌, ℕ, Bool, ◌∷◌, ◌++◌, IsTrue}
use Rattle.x7_packets.specs.History.{Access, Entry, History, executes}
use Rattle.x7_regs.specs.declared.command.Command.TheVariants.{Aghigh, Desync, Lfrm, Shutdown, Start}
use Rattle.x7_regs.specs.Command.{code_of}
use Rattle.x7_engine.specs.Registers.{clears_check, takes_shutdown}
use Rattle.x7_engine.specs.Since.{NoneSince, Since}

-- the access executes this command
abbrev pub Executes : ℕ → History → Access → Type 0
Executes command h access = IsTrue (executes command h access)

-- a shutdown is pending: SHUTDOWN was executed since the check was last cleared, or since the reset; the guide has it
-- wait for the next RCRC or right check (UG470, command register)
abbrev pub IsPending : History → Type 0
IsPending h = Since (Executes (code_of Shutdown)) clears_check h

-- the access makes GHIGH_B 0: AGHIGH, or a shutdown taken
abbrev pub lowers_ghigh : History → Access → Bool
lowers_ghigh h access = executes (code_of Aghigh) h access || takes_shutdown h access

-- GHIGH_B is 1: the latest of LFRM, AGHIGH and a taken shutdown is LFRM
abbrev pub HasGhigh : History → Type 0
HasGhigh h = Since (Executes (code_of Lfrm)) lowers_ghigh h

-- the access ends an armed startup: DESYNC, or a shutdown taken
abbrev pub disarms : History → Access → Bool
disarms h access = executes (code_of Desync) h access || takes_shutdown h access

-- startup is armed: START was executed since the last DESYNC and the last shutdown taken (this project's choice)
abbrev pub IsArmed : History → Type 0
IsArmed h = Since (Executes (code_of Start)) disarms h

-- the access is DESYNC, where startup is armed
abbrev pub IsArmedDesync : History → Access → Type 0
IsArmedDesync h access = Executes (code_of Desync) h access × IsArmed h

-- startup has begun, by the first armed DESYNC since the last shutdown taken
pub record StartupBegins (h : History) : Type 0 where
  pub newer : History
  pub desync : Entry
  pub older : History
  pub split : h ≡ newer ++ desync ∷ older
  pub armed : IsArmedDesync older desync.access
  pub lasts : NoneSince takes_shutdown newer (desync ∷ older)
  pub first : Since IsArmedDesync takes_shutdown older → ⊥
