use Rattle.std.proofs.lemmas.Result.{err_from_is_err_and}
use Rattle.x7_mcs.proofs.mcs_lines.McsLines.take_row.Goals as goal

pub returns-in_err-self : goal.returns-in_err-self
returns-in_err-self c =
    let p = err_from_is_err_and c.from_residual.result c.from_residual.ensures.1 in
    rw (p.1, p.2) (λ xs h. rw c.from-address.ensures at (c.in_err-self.ensures xs h))

pub returns : goal.returns
returns c = λ xs h. rw c.from-address.ensures at (c.in_ok-self.ensures xs h)
