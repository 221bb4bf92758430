-- The command of a code, by the table of codes.
use Rattle.std.proofs.Common.{◌≡◌, ◌≢◌, ℕ, ◌==◌, if◌then◌else◌, refl, ap, ◌∙◌, arith}
use Rattle.std.proofs.lemmas.Grind.{common_steps}
use Rattle.x7_regs.specs.declared.command.Command.{Command}
use Rattle.x7_regs.specs.declared.command.Command.TheVariants.{Null, Wcfg, Mfw, Lfrm, Rcfg, Start, Rcap, Rcrc, Aghigh, Switch, Grestore, Shutdown, Gcapture, Desync, Iprog, Crcc, Ltimer, BspiRead, FallEdge}
use Rattle.x7_regs.specs.Command.{code_of, command_by, command_code_of, command_with}

command_with_code_of : (c : Command) → command_with (code_of c) ≡ c
command_with_code_of Null = refl
command_with_code_of Wcfg = refl
command_with_code_of Mfw = refl
command_with_code_of Lfrm = refl
command_with_code_of Rcfg = refl
command_with_code_of Start = refl
command_with_code_of Rcap = refl
command_with_code_of Rcrc = refl
command_with_code_of Aghigh = refl
command_with_code_of Switch = refl
command_with_code_of Grestore = refl
command_with_code_of Shutdown = refl
command_with_code_of Gcapture = refl
command_with_code_of Desync = refl
command_with_code_of Iprog = refl
command_with_code_of Crcc = refl
command_with_code_of Ltimer = refl
command_with_code_of BspiRead = refl
command_with_code_of FallEdge = refl

pub command_by_named : (c : Command) (w : ℕ) → command_code_of w ≡ code_of c → command_by w ≡ c
command_by_named c w e = ap command_with e ∙ command_with_code_of c

differs : (n k : ℕ) (c d : Command) → k ≢ n → (if n == k then c else d) ≡ d
differs n k c d h = grind (arith, common_steps)

command_with_unnamed : (n : ℕ) → ((c : Command) → code_of c ≢ n) → command_with n ≡ Null
command_with_unnamed n h = differs n 1 Wcfg _ (h Wcfg) ∙ differs n 2 Mfw _ (h Mfw) ∙ differs n 3 Lfrm _ (h Lfrm) ∙ differs n 4 Rcfg _ (h Rcfg)
    ∙ differs n 5 Start _ (h Start) ∙ differs n 6 Rcap _ (h Rcap) ∙ differs n 7 Rcrc _ (h Rcrc) ∙ differs n 8 Aghigh _ (h Aghigh) ∙ differs n 9 Switch _ (h Switch)
    ∙ differs n 10 Grestore _ (h Grestore) ∙ differs n 11 Shutdown _ (h Shutdown) ∙ differs n 12 Gcapture _ (h Gcapture) ∙ differs n 13 Desync _ (h Desync)
    ∙ differs n 15 Iprog _ (h Iprog) ∙ differs n 16 Crcc _ (h Crcc) ∙ differs n 17 Ltimer _ (h Ltimer) ∙ differs n 18 BspiRead _ (h BspiRead)
    ∙ differs n 19 FallEdge _ (h FallEdge)

pub command_by_unnamed : (w : ℕ) → ((c : Command) → code_of c ≢ command_code_of w) → command_by w ≡ Null
command_by_unnamed w h = command_with_unnamed (command_code_of w) h
