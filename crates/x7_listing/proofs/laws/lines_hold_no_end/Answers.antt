use Rattle.x7_listing.proofs.line.LineTextLemmas.{line_free}
use Rattle.x7_listing.proofs.laws.lines_hold_no_end.Goals as goal

pub returns : goal.returns
returns c = line_free
