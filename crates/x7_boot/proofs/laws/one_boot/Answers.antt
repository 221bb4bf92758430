use Rattle.x7_boot.proofs.OneBootLemmas.{one_attempt, one_attempts, one_end, one_last}
use Rattle.x7_boot.proofs.laws.one_boot.Goals as goal

pub returns-clause-attempt : goal.returns-clause-attempt
returns-clause-attempt c = one_attempt

pub returns-clause-attempts : goal.returns-clause-attempts
returns-clause-attempts c = one_attempts

pub returns-clause-end : goal.returns-clause-end
returns-clause-end c = one_end

pub returns-clause-last : goal.returns-clause-last
returns-clause-last c = one_last
