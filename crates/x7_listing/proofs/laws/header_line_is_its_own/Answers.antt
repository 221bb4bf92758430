use Rattle.x7_listing.proofs.BitLemmas.{no_line, one_header}
use Rattle.x7_listing.proofs.laws.header_line_is_its_own.Goals as goal

pub returns-clause-no_other_header : goal.returns-clause-no_other_header
returns-clause-no_other_header c = λ x y h k e. one_header x y h k e

pub returns-clause-no_line : goal.returns-clause-no_line
returns-clause-no_line c = λ x line i. no_line x line i
