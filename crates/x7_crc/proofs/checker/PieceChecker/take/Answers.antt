use Rattle.std.proofs.Common.{subst, sym}
use Rattle.x7_crc.specs.Checker.{HasTaken}
use Rattle.x7_crc.proofs.checker.PieceChecker.take.Goals as goal

pub returns : goal.returns
returns c = λ bytes h. c.after_piece-self-inside.ensures bytes (subst (λ s. HasTaken s bytes) (sym c.self.view_is) h)
