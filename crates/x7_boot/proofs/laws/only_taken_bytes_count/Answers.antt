use Rattle.x7_boot.proofs.OverLemmas.{attempt_over}
use Rattle.x7_boot.proofs.laws.only_taken_bytes_count.Goals as goal

pub returns : goal.returns
returns c = attempt_over
