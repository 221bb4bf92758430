use Rattle.x7_recovery.proofs.HasOpenLemmas.{after_has_golden, after_is_opened, after_stream, image_is_opened, open_is_opened}
use Rattle.x7_recovery.proofs.open_law.flashes_have_an_open_slot.Goals as goal

pub returns-clause-image : goal.returns-clause-image
returns-clause-image c = image_is_opened

pub returns-clause-updatable : goal.returns-clause-updatable
returns-clause-updatable c = open_is_opened

pub returns-clause-after : goal.returns-clause-after
returns-clause-after c = after_is_opened

pub returns-clause-golden : goal.returns-clause-golden
returns-clause-golden c = λ part golden stream flash found l a g. after_has_golden stream flash found l a part golden g

pub returns-clause-stream : goal.returns-clause-stream
returns-clause-stream c = after_stream
