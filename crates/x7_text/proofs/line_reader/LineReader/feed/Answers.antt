use Rattle.std.proofs.lemmas.Result.{err_from_is_err_and}
use Rattle.x7_text.proofs.line_reader.LineReader.feed.Goals as goal

pub returns-in_err-take-clause-read : goal.returns-in_err-take-clause-read
returns-in_err-take-clause-read g c = let p = err_from_is_err_and c.from_residual.result c.from_residual.ensures.1 in rw (p.1, p.2) (λ first. c.in_err-take.ensures.read first)

pub returns-in_err-take-clause-memory : goal.returns-in_err-take-clause-memory
returns-in_err-take-clause-memory g c = let p = err_from_is_err_and c.from_residual.result c.from_residual.ensures.1 in rw (p.1, p.2) (λ first. c.in_err-take.ensures.memory first)

pub returns-clause-read : goal.returns-clause-read
returns-clause-read g c = λ first. c.in_ok-take.ensures.read first

pub returns-clause-memory : goal.returns-clause-memory
returns-clause-memory g c = λ first. c.in_ok-take.ensures.memory first
