use Rattle.std.proofs.Common.{[], ◌∷◌, ◌++◌, Ok, subst, sym}
use Rattle.x7_listing.specs.Assembly.{AreHeadedAsm}
use Rattle.x7_listing.specs.Assembling.{Output}
use Rattle.x7_listing.proofs.asm.AsmLinesLemmas.{handed, handed_on, last_read}
use Rattle.x7_listing.proofs.asm.lines.AsmLinesTakesLines.take_last.Goals as goal

pub returns-clause-read : goal.returns-clause-read
returns-clause-read c = λ first lines gets. subst (λ (o : Output). AreHeadedAsm (lines ++ c.args.line.now ∷ []) (Ok o.out)) (sym c.last.view_is) (last_read c.read_next.new.self lines c.args.line.now (c.in_ok-read_next.ensures.read lines gets).read)

pub returns-in_err-read_next-clause-read : goal.returns-in_err-read_next-clause-read
returns-in_err-read_next-clause-read c = λ first lines gets. handed _ _ c.from_residual.result c.in_err-read_next.field-0.0 c.from_residual.ensures.1 (c.in_err-read_next.ensures.read lines gets [])

pub returns-in_err-read_next-clause-memory : goal.returns-in_err-read_next-clause-memory
returns-in_err-read_next-clause-memory c = λ first lines gets. handed_on _ c.from_residual.result c.in_err-read_next.field-0.0 c.from_residual.ensures.1 (c.in_err-read_next.ensures.memory lines gets)
