use Rattle.std.proofs.Common.{◌≡◌, ◌<◌, arith, subst, sym, OnErr, OnOk}
use Rattle.x7_packets.specs.FlashSlot.{flash_slot_count}
use Rattle.x7_words.specs.FlashHistory.{with_calls, history_of}
use Rattle.x7_update.specs.Slots.{WithinSlots}
use Rattle.x7_update.specs.UpdateCalls.{spending}
use Rattle.x7_update.specs.Made.{Stops, write_failed}
use Rattle.x7_update.proofs.MadeLemmas.{calls_none}
use Rattle.x7_update.proofs.StepLemmas.{write_none}
use Rattle.x7_update.proofs.steps.spend_open_slot.Goals as goal

pub returns-in-None-clause-writes : goal.returns-in-None-clause-writes
returns-in-None-clause-writes g c = write_none (g.F.Flash.state c.args.flash.now)

pub spend_slot-requires : goal.spend_slot-requires
spend_slot-requires g c =
    let among : c.in-Some.slot < flash_slot_count = subst WithinSlots c.in-Some.is c.requires.fits.opens in
    record { attached = c.requires.attached; among = among; within = omega (arith, among, c.requires.fits.sized.least) }

-- ---- calls

pub returns-in-None-clause-spent_calls : goal.returns-in-None-clause-spent_calls
returns-in-None-clause-spent_calls g c =
    let first = history_of (g.F.Flash.state c.args.flash.now) in
    subst (λ o. first ≡ with_calls first (spending o)) (sym c.in-None.is) (calls_none first)

pub returns-in-Some-clause-spent_calls : goal.returns-in-Some-clause-spent_calls
returns-in-Some-clause-spent_calls g c =
    let first = history_of (g.F.Flash.state c.args.flash.now) in
    subst (λ o. OnOk c.spend_slot.result (history_of (g.F.Flash.state c.spend_slot.new.flash) ≡ with_calls first (spending o))) (sym c.in-Some.is) c.spend_slot.ensures.spent_calls

pub returns-in-Some-clause-failed_calls : goal.returns-in-Some-clause-failed_calls
returns-in-Some-clause-failed_calls g c =
    let first = history_of (g.F.Flash.state c.args.flash.now) in
    subst (λ o. OnErr c.spend_slot.result (Stops (spending o) first (history_of (g.F.Flash.state c.spend_slot.new.flash)) write_failed)) (sym c.in-Some.is) c.spend_slot.ensures.failed_calls
