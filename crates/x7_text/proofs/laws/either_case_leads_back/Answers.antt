use Rattle.x7_text.proofs.CaseLemmas.{digit_is, digit_upper, pairs_back}
use Rattle.x7_text.proofs.laws.either_case_leads_back.Goals as goal

pub returns-clause-upper : goal.returns-clause-upper
returns-clause-upper c = digit_upper

pub returns-clause-digit : goal.returns-clause-digit
returns-clause-digit c = digit_is

pub returns-clause-bytes : goal.returns-clause-bytes
returns-clause-bytes c = pairs_back
