use Rattle.std.proofs.lemmas.Fmt.{decimal_injective}
use Rattle.x7_text.proofs.ValueLemmas.{bytes_back, word_back}
use Rattle.x7_text.proofs.laws.digits_lead_back.Goals as goal

pub returns-clause-bytes : goal.returns-clause-bytes
returns-clause-bytes c = bytes_back

pub returns-clause-word : goal.returns-clause-word
returns-clause-word c = word_back

pub returns-clause-decimal : goal.returns-clause-decimal
returns-clause-decimal c = decimal_injective
