use Rattle.std.proofs.Common.{subst, sym}
use Rattle.x7_crc.specs.Checker.{HasTaken}
use Rattle.x7_crc.proofs.checker.PieceChecker.check.Goals as goal

pub returns-clause-value : goal.returns-clause-value
returns-clause-value c = λ bytes h. let taken = subst (λ s. HasTaken s bytes) (sym c.self.view_is) h in taken.state.check_is
