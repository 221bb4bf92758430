use Rattle.std.proofs.Common.{◌≡◌, ◌*◌, ◌≤◌, IfErr, [], ◌∷◌, ◌++◌, ◌∙◌, arith, rules}
use Rattle.x7_packets.specs.FlashSlot.{flash_slot_size}
use Rattle.x7_words.specs.FlashHistory.{history_of}
use Rattle.x7_words.specs.declared.flash_call.FlashCall.TheVariants.{Programmed, Read}
use Rattle.x7_words.proofs.FollowLemmas.{follow_on}
use Rattle.x7_update.specs.Layout.{open_switch}
use Rattle.x7_update.specs.UpdateCalls.{opening, verifying}
use Rattle.x7_update.specs.Made.{Stops, write_failed}
use Rattle.x7_update.specs.Writing.{CountsFault}
use Rattle.x7_update.proofs.MadeLemmas.{if_err_on, ok_on, stops_more, stops_on}
use Rattle.x7_update.proofs.StepLemmas.{counts_before, counts_since, uses_on, uses_read, uses_write}
use Rattle.x7_update.specs.declared.fault.UpdateFault.TheVariants.{Failed}
use Rattle.x7_update.proofs.steps.verify_and_open.Goals as goal

-- ---- the bytes follow the calls

pub returns-in_err-verify_stream-clause-follows : goal.returns-in_err-verify_stream-clause-follows
returns-in_err-verify_stream-clause-follows g c = c.verify_stream.ensures.reads.follows

pub returns-in-Err-clause-follows : goal.returns-in-Err-clause-follows
returns-in-Err-clause-follows g c =
    follow_on (g.F.Flash.state c.args.flash.now) (g.F.Flash.state c.verify_stream.new.flash) (g.F.Flash.state c.open_free_slot.new.flash) c.verify_stream.ensures.reads.follows c.open_free_slot.ensures.writes.follows

pub returns-clause-follows : goal.returns-clause-follows
returns-clause-follows g c =
    let old = g.F.Flash.state c.args.flash.now in
    let mid = g.F.Flash.state c.verify_stream.new.flash in
    let then = g.F.Flash.state c.open_free_slot.new.flash in
    follow_on old then (g.F.Flash.state c.verify_switch.new.flash) (follow_on old mid then c.verify_stream.ensures.reads.follows c.open_free_slot.ensures.writes.follows) c.verify_switch.ensures.reads.follows

-- ---- what is used, and what is counted

pub returns-in_err-verify_stream-clause-only_uses : goal.returns-in_err-verify_stream-clause-only_uses
returns-in_err-verify_stream-clause-only_uses g c = uses_read (g.F.Flash.state c.args.flash.now) (g.F.Flash.state c.verify_stream.new.flash) c.verify_stream.ensures.reads.only

pub returns-in-Err-clause-only_uses : goal.returns-in-Err-clause-only_uses
returns-in-Err-clause-only_uses g c =
    let old = g.F.Flash.state c.args.flash.now in
    let mid = g.F.Flash.state c.verify_stream.new.flash in
    let then = g.F.Flash.state c.open_free_slot.new.flash in
    uses_on old mid then (uses_read old mid c.verify_stream.ensures.reads.only) (uses_write mid then c.open_free_slot.ensures.writes.only)

pub returns-clause-only_uses : goal.returns-clause-only_uses
returns-clause-only_uses g c =
    let old = g.F.Flash.state c.args.flash.now in
    let mid = g.F.Flash.state c.verify_stream.new.flash in
    let then = g.F.Flash.state c.open_free_slot.new.flash in
    let last = g.F.Flash.state c.verify_switch.new.flash in
    uses_on old then last (uses_on old mid then (uses_read old mid c.verify_stream.ensures.reads.only) (uses_write mid then c.open_free_slot.ensures.writes.only)) (uses_read then last c.verify_switch.ensures.reads.only)

pub returns-in-Err-clause-counted : goal.returns-in-Err-clause-counted
returns-in-Err-clause-counted g c =
    let old = g.F.Flash.state c.args.flash.now in
    let mid = g.F.Flash.state c.verify_stream.new.flash in
    counts_before old mid (g.F.Flash.state c.open_free_slot.new.flash) write_failed (uses_read old mid c.verify_stream.ensures.reads.only) c.in-Err.ensures.failed

pub returns-clause-counted : goal.returns-clause-counted
returns-clause-counted g c =
    let old = g.F.Flash.state c.args.flash.now in
    let mid = g.F.Flash.state c.verify_stream.new.flash in
    let then = g.F.Flash.state c.open_free_slot.new.flash in
    counts_since old then (g.F.Flash.state c.verify_switch.new.flash) c.verify_switch.result
    (uses_on old mid then (uses_read old mid c.verify_stream.ensures.reads.only) (uses_write mid then c.open_free_slot.ensures.writes.only)) c.verify_switch.ensures.counted

-- ---- what the steps ask

pub open_free_slot-requires : goal.open_free_slot-requires
open_free_slot-requires g c =
    let read = c.verify_stream.ensures.reads.only in
    record { attached = read.attached ∙ c.requires.written.attached; among = c.requires.next; within = omega (arith, c.requires.next, read.extent, c.requires.written.size.least) }

-- ---- calls

pub returns-in_err-verify_stream-clause-fault_calls : goal.returns-in_err-verify_stream-clause-fault_calls
returns-in_err-verify_stream-clause-fault_calls g c =
    let first = history_of (g.F.Flash.state c.args.flash.now) in
    let last = history_of (g.F.Flash.state c.verify_stream.new.flash) in
    let s : Stops (verifying first.size c.args.stream.now c.args.target ++ opening c.args.target.slots.next) first last c.in_err-verify_stream.field-0.0 =
    stops_more (verifying first.size c.args.stream.now c.args.target) (opening c.args.target.slots.next) first last c.in_err-verify_stream.field-0.0 c.in_err-verify_stream.ensures.fault_calls in
    search rules

pub returns-in-Err-clause-fault_calls : goal.returns-in-Err-clause-fault_calls
returns-in-Err-clause-fault_calls g c =
    let first = history_of (g.F.Flash.state c.args.flash.now) in
    let mid = history_of (g.F.Flash.state c.verify_stream.new.flash) in
    let last = history_of (g.F.Flash.state c.open_free_slot.new.flash) in
    let place = flash_slot_size * c.args.target.slots.next in
    stops_on (verifying first.size c.args.stream.now c.args.target) (opening c.args.target.slots.next) first mid last write_failed c.in_ok-verify_stream.ensures.verified_calls
    (stops_more (Programmed place open_switch ∷ []) (Read place open_switch ∷ []) mid last write_failed c.in-Err.ensures.failed_calls)

pub returns-clause-opened_calls : goal.returns-clause-opened_calls
returns-clause-opened_calls g c =
    let first = history_of (g.F.Flash.state c.args.flash.now) in
    let mid = history_of (g.F.Flash.state c.verify_stream.new.flash) in
    let then = history_of (g.F.Flash.state c.open_free_slot.new.flash) in
    let last = history_of (g.F.Flash.state c.verify_switch.new.flash) in
    let place = flash_slot_size * c.args.target.slots.next in
    ok_on first mid last (verifying first.size c.args.stream.now c.args.target) (opening c.args.target.slots.next) c.in_ok-verify_stream.ensures.verified_calls c.verify_switch.result
    (ok_on mid then last (Programmed place open_switch ∷ []) (Read place open_switch ∷ []) c.in-Ok.ensures.opened_calls c.verify_switch.result c.verify_switch.ensures.verified_calls)

pub returns-clause-fault_calls : goal.returns-clause-fault_calls
returns-clause-fault_calls g c =
    let first = history_of (g.F.Flash.state c.args.flash.now) in
    let mid = history_of (g.F.Flash.state c.verify_stream.new.flash) in
    let then = history_of (g.F.Flash.state c.open_free_slot.new.flash) in
    let last = history_of (g.F.Flash.state c.verify_switch.new.flash) in
    let place = flash_slot_size * c.args.target.slots.next in
    if_err_on first mid last (verifying first.size c.args.stream.now c.args.target) (opening c.args.target.slots.next) c.in_ok-verify_stream.ensures.verified_calls c.verify_switch.result
    (if_err_on mid then last (Programmed place open_switch ∷ []) (Read place open_switch ∷ []) c.in-Ok.ensures.opened_calls c.verify_switch.result c.verify_switch.ensures.fault_calls)
