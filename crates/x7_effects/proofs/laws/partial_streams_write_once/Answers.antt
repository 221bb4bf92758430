use Rattle.x7_effects.proofs.GroupLemmas.{runs_joined, bursts_longest}
use Rattle.x7_effects.proofs.OnceLemmas.{written_once}
use Rattle.x7_effects.proofs.laws.partial_streams_write_once.Goals as goal

pub returns-clause-writes_once : goal.returns-clause-writes_once
returns-clause-writes_once c = written_once

pub returns-clause-joined : goal.returns-clause-joined
returns-clause-joined c = runs_joined

pub returns-clause-longest : goal.returns-clause-longest
returns-clause-longest c = bursts_longest
