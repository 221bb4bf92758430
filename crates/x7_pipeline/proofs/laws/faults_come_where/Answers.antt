use Rattle.x7_pipeline.proofs.SlotLemmas.{address_has, has_address}
use Rattle.x7_pipeline.proofs.LawLemmas.{overrun_is, write_no_multi, copy_no_overrun, read_address}
use Rattle.x7_pipeline.proofs.laws.faults_come_where.Goals as goal

pub returns-clause-is_address : goal.returns-clause-is_address
returns-clause-is_address c = λ part far. (has_address part far, address_has part far)

pub returns-clause-overrun : goal.returns-clause-overrun
returns-clause-overrun c = overrun_is

pub returns-clause-no_multi_in_writes : goal.returns-clause-no_multi_in_writes
returns-clause-no_multi_in_writes c = write_no_multi

pub returns-clause-no_overrun_in_copies : goal.returns-clause-no_overrun_in_copies
returns-clause-no_overrun_in_copies c = copy_no_overrun

pub returns-clause-only_address_in_reads : goal.returns-clause-only_address_in_reads
returns-clause-only_address_in_reads c = read_address
