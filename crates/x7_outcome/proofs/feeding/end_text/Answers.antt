use Rattle.x7_outcome.proofs.FeedLemmas.{fed_fault, fed_ok}
use Rattle.x7_outcome.proofs.feeding.end_text.Goals as goal

pub returns-in-Ok : goal.returns-in-Ok
returns-in-Ok g c = λ first text fits h. c.finish.ensures.read first text fits (fed_ok (g.T.TakesLines.took first) (g.T.TakesLines.fails first) c.args.read c.in-Ok.reader text c.in-Ok.is h)

pub returns-in-Err : goal.returns-in-Err
returns-in-Err g c = λ first text fits h. fed_fault (g.T.TakesLines.took first) (g.T.TakesLines.fails first) c.args.read c.in-Err.fault text c.in-Err.is h
