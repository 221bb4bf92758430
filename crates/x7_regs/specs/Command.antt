-- Command codes and names (UG470, command register).
use Rattle.std.specs.Prelude.{ℕ, ◌%◌, ◌^◌, ◌==◌, if◌then◌else◌, List, codes}
use Rattle.x7_regs.specs.declared.command.Command.{Command}
use Rattle.x7_regs.specs.declared.command.Command.TheVariants.{Null, Wcfg, Mfw, Lfrm, Rcfg, Start, Rcap, Rcrc, Aghigh, Switch, Grestore, Shutdown, Gcapture, Desync, Iprog, Crcc, Ltimer, BspiRead, FallEdge}

-- the code of a command
abbrev pub code_of : Command → ℕ
code_of Null = 0
code_of Wcfg = 1
code_of Mfw = 2
code_of Lfrm = 3
code_of Rcfg = 4
code_of Start = 5
code_of Rcap = 6
code_of Rcrc = 7
code_of Aghigh = 8
code_of Switch = 9
code_of Grestore = 10
code_of Shutdown = 11
code_of Gcapture = 12
code_of Desync = 13
code_of Iprog = 15
code_of Crcc = 16
code_of Ltimer = 17
code_of BspiRead = 18
code_of FallEdge = 19

-- how many command codes there are, with a command or without: a code has five bits
abbrev pub command_code_count : ℕ
command_code_count = 32

-- how many bytes the name of a command has at most
abbrev pub command_name_limit : ℕ
command_name_limit = 9

-- the name of a command
abbrev pub command_name_of : Command → List ℕ
command_name_of Null = codes "NULL"
command_name_of Wcfg = codes "WCFG"
command_name_of Mfw = codes "MFW"
command_name_of Lfrm = codes "LFRM"
command_name_of Rcfg = codes "RCFG"
command_name_of Start = codes "START"
command_name_of Rcap = codes "RCAP"
command_name_of Rcrc = codes "RCRC"
command_name_of Aghigh = codes "AGHIGH"
command_name_of Switch = codes "SWITCH"
command_name_of Grestore = codes "GRESTORE"
command_name_of Shutdown = codes "SHUTDOWN"
command_name_of Gcapture = codes "GCAPTURE"
command_name_of Desync = codes "DESYNC"
command_name_of Iprog = codes "IPROG"
command_name_of Crcc = codes "CRCC"
command_name_of Ltimer = codes "LTIMER"
command_name_of BspiRead = codes "BSPI_READ"
command_name_of FallEdge = codes "FALL_EDGE"

-- the command with this code; Null for a number that is no command's code (this project's choice)
abbrev pub command_with : ℕ → Command
command_with n =
    if n == 1 then Wcfg else
    if n == 2 then Mfw else
    if n == 3 then Lfrm else
    if n == 4 then Rcfg else
    if n == 5 then Start else
    if n == 6 then Rcap else
    if n == 7 then Rcrc else
    if n == 8 then Aghigh else
    if n == 9 then Switch else
    if n == 10 then Grestore else
    if n == 11 then Shutdown else
    if n == 12 then Gcapture else
    if n == 13 then Desync else
    if n == 15 then Iprog else
    if n == 16 then Crcc else
    if n == 17 then Ltimer else
    if n == 18 then BspiRead else
    if n == 19 then FallEdge else Null

-- the code of a command in a word of CMD: bits 4 to 0
abbrev pub command_code_of : ℕ → ℕ
command_code_of w = w % 2 ^ 5

-- the command that a word of the command register calls for, by its low five bits: Null where no command has these
abbrev pub command_by : ℕ → Command
command_by w = command_with (command_code_of w)
