use Rattle.x7_flow.proofs.RoomLemmas.{words_memory, words_none}
use Rattle.x7_flow.proofs.laws.words_have_room.Goals as goal

pub returns-clause-none_refused : goal.returns-clause-none_refused
returns-clause-none_refused c = words_none

pub returns-clause-memory : goal.returns-clause-memory
returns-clause-memory c = words_memory
