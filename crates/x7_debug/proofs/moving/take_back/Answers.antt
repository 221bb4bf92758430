use Rattle.std.proofs.Common.{refl}
use Rattle.x7_debug.proofs.moving.take_back.Goals as goal

pub returns-clause-at_position : goal.returns-clause-at_position
returns-clause-at_position c = record { on = c.loop-journal.invariant.on; part = c.loop-journal.invariant.part; taken = refl }

pub back-requires-clause-on_stream : goal.back-requires-clause-on_stream
back-requires-clause-on_stream c = (c.args.stream.now, c.loop-journal.invariant.on)
