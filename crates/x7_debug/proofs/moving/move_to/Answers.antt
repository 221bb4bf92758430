use Rattle.std.proofs.Common.{◌<◌, refl, arith}
use Rattle.x7_debug.specs.Journal.{records_of}
use Rattle.x7_debug.specs.SessionFields.{session_of}
use Rattle.x7_debug.proofs.JournalLemmas.{goes_nowhere, goes_recorded, oldest_within}
use Rattle.x7_debug.proofs.moving.move_to.Goals as goal

pub returns-then-to-from-clause-costs : goal.returns-then-to-from-clause-costs
returns-then-to-from-clause-costs c =
    goes_nowhere (session_of c.args.device.now c.args.stream.now c.args.journal.now) (oldest_within c.args.device.now.part c.args.stream.now c.args.device.now.taken (records_of c.args.journal.now) c.requires.on.leads)

pub returns-then-from-to-clause-costs : goal.returns-then-from-to-clause-costs
returns-then-from-to-clause-costs c =
    let there = c.go_forward.ensures.at_position in
    let l : c.args.device.now.taken < c.go_forward.new.device.taken = omega (arith, c.if-from-to.true, c.taken-from.ensures.stored, there.forward.there.taken) in
    goes_recorded c.args.stream.now c.args.device.now c.go_forward.new.device c.args.journal.now c.go_forward.new.journal c.args.to c.requires.on l there

pub returns-then-from-to-clause-at_position : goal.returns-then-from-to-clause-at_position
returns-then-from-to-clause-at_position c = c.go_forward.ensures.at_position.forward.there

pub returns-then-to-from-clause-at_position : goal.returns-then-to-from-clause-at_position
returns-then-to-from-clause-at_position c = record { on = c.requires.on; part = refl; taken = omega (arith, c.if-to-from.true, c.taken-from.ensures.stored) }

pub go_forward-requires : goal.go_forward-requires
go_forward-requires c = record { may = c.requires; forward = omega (arith, c.if-from-to.true, c.taken-from.ensures.stored) }
