use Rattle.x7_listing.proofs.line.LineTextLemmas.{head_is_of_word}
use Rattle.x7_listing.proofs.laws.head_line_leads_back.Goals as goal

pub returns : goal.returns
returns c = λ step w h. (head_is_of_word step w h).0
