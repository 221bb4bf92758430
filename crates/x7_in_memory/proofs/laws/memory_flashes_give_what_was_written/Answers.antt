use Rattle.x7_in_memory.proofs.HistoryLemmas.{gives_what_was_written}
use Rattle.x7_in_memory.proofs.laws.memory_flashes_give_what_was_written.Goals as goal

pub returns : goal.returns
returns c = λ calls old new are. gives_what_was_written calls old new are
