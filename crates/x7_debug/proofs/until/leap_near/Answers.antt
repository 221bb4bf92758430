use Rattle.std.proofs.Common.{arith}
use Rattle.x7_debug.proofs.JournalLemmas.{comes_here, comes_nowhere}
use Rattle.x7_debug.proofs.until.leap_near.Goals as goal

pub leap-requires : goal.leap-requires
leap-requires c = record { may = record { on = c.requires.on; within = omega (arith, c.requires.within, c.saturating_sub-near.ensures) }; forward = omega (arith, c.if-taken-near.true, c.taken.ensures.stored) }

pub returns-then-taken-near-clause-at_position : goal.returns-then-taken-near-clause-at_position
returns-then-taken-near-clause-at_position c = comes_here c.args.stream.now c.args.device.now c.leap.new.device c.leap.new.journal c.saturating_sub-near.result c.leap.ensures.at_position

pub returns-else-taken-near-clause-at_position : goal.returns-else-taken-near-clause-at_position
returns-else-taken-near-clause-at_position c = comes_nowhere c.args.stream.now c.args.device.now c.args.journal.now c.requires.on
