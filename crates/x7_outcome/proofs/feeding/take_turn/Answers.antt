use Rattle.x7_outcome.proofs.FeedLemmas.{fed_ok, fed_on}
use Rattle.x7_outcome.proofs.feeding.take_turn.Goals as goal

pub returns-in-Ok : goal.returns-in-Ok
returns-in-Ok g c = λ first text fits h. c.feed.ensures.read first text fits (fed_ok (g.T.TakesLines.took first) (g.T.TakesLines.fails first) c.args.read c.in-Ok.reader text c.in-Ok.is h)

pub returns-in-Err : goal.returns-in-Err
returns-in-Err g c = λ first text fits h. fed_on (g.T.TakesLines.took first) (g.T.TakesLines.fails first) c.args.read c.in-Err.fault text c.args.piece.now c.in-Err.is h
