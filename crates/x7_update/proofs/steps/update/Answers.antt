use Rattle.std.proofs.Common.{◌≡◌, ◌+◌, ◌≤◌, ◌<◌, ◌++◌, ◌∙◌, ℕ, OnOk, IfErr, ap, arith, inl, length, rules, subst, sym}
use Rattle.x7_words.specs.Flash.{FlashState}
use Rattle.x7_words.specs.FlashHistory.{FlashHistory, FollowsCalls, with_calls, history_of}
use Rattle.x7_words.specs.Word.{AreBytes}
use Rattle.x7_words.proofs.FollowLemmas.{follow_on}
use Rattle.x7_words.proofs.ListLemmas.{all_from_places}
use Rattle.x7_update.specs.Fault.{HasCause}
use Rattle.x7_update.specs.Layout.{CanStandAt, IsUpdatableSize}
use Rattle.x7_update.specs.Made.{IsRefused, Stops, write_failed}
use Rattle.x7_update.specs.UpdateCalls.{finishing, opening, replacing, verifying}
use Rattle.x7_update.specs.Writing.{OnlyUses}
use Rattle.x7_update.specs.declared.fault.UpdateFault.TheVariants.{Failed, TooLong}
use Rattle.x7_update.proofs.CauseLemmas.{refused_cause, cause_of, stop_wants_none, updatable_known, updated_known}
use Rattle.x7_update.proofs.ExactLemmas.{if_only_memory, only_memory}
use Rattle.x7_update.proofs.StepLemmas.{counts_before, counts_since, still_found, uses_on, uses_read, uses_write}
use Rattle.x7_update.proofs.WholeLemmas.{all_done, answer_leaves, refused_leaves, replace_stopped}
use Rattle.x7_update.proofs.WholeLemmas as whole
use Rattle.x7_update.proofs.steps.update.Goals as goal

-- ---- the bytes follow the calls, and what is used

pub returns-in_err-target-clause-follows : goal.returns-in_err-target-clause-follows
returns-in_err-target-clause-follows g c = c.find_target.ensures.reads.follows

pub returns-then-stream-size-clause-follows : goal.returns-then-stream-size-clause-follows
returns-then-stream-size-clause-follows g c = c.find_target.ensures.reads.follows

pub returns-in-Err-clause-follows : goal.returns-in-Err-clause-follows
returns-in-Err-clause-follows g c =
    follow_on (g.F.Flash.state c.args.flash.now) (g.F.Flash.state c.find_target.new.flash) (g.F.Flash.state c.replace.new.flash) c.find_target.ensures.reads.follows c.replace.ensures.writes.follows

pub returns-clause-follows : goal.returns-clause-follows
returns-clause-follows g c =
    let first = g.F.Flash.state c.args.flash.now in
    let mid = g.F.Flash.state c.find_target.new.flash in
    let then = g.F.Flash.state c.replace.new.flash in
    follow_on first then (g.F.Flash.state c.verify_and_open.new.flash) (follow_on first mid then c.find_target.ensures.reads.follows c.replace.ensures.writes.follows) c.verify_and_open.ensures.follows

pub returns-in_err-target-clause-only_uses : goal.returns-in_err-target-clause-only_uses
returns-in_err-target-clause-only_uses g c = uses_read (g.F.Flash.state c.args.flash.now) (g.F.Flash.state c.find_target.new.flash) c.find_target.ensures.reads.only

pub returns-then-stream-size-clause-only_uses : goal.returns-then-stream-size-clause-only_uses
returns-then-stream-size-clause-only_uses g c = uses_read (g.F.Flash.state c.args.flash.now) (g.F.Flash.state c.find_target.new.flash) c.find_target.ensures.reads.only

pub returns-in-Err-clause-only_uses : goal.returns-in-Err-clause-only_uses
returns-in-Err-clause-only_uses g c =
    let first = g.F.Flash.state c.args.flash.now in
    let mid = g.F.Flash.state c.find_target.new.flash in
    let then = g.F.Flash.state c.replace.new.flash in
    uses_on first mid then (uses_read first mid c.find_target.ensures.reads.only) (uses_write mid then c.replace.ensures.writes.only)

pub returns-clause-only_uses : goal.returns-clause-only_uses
returns-clause-only_uses g c =
    let first = g.F.Flash.state c.args.flash.now in
    let mid = g.F.Flash.state c.find_target.new.flash in
    let then = g.F.Flash.state c.replace.new.flash in
    uses_on first then (g.F.Flash.state c.verify_and_open.new.flash) (uses_on first mid then (uses_read first mid c.find_target.ensures.reads.only) (uses_write mid then c.replace.ensures.writes.only)) c.verify_and_open.ensures.only_uses

pub returns-in_err-target-clause-unchanged : goal.returns-in_err-target-clause-unchanged
returns-in_err-target-clause-unchanged g c = let only = c.find_target.ensures.reads.only in search rules

pub returns-then-stream-size-clause-unchanged : goal.returns-then-stream-size-clause-unchanged
returns-then-stream-size-clause-unchanged g c = λ early. c.find_target.ensures.reads.only

-- ---- what the steps ask

pub replace-requires-clause-found : goal.replace-requires-clause-found
replace-requires-clause-found g c = still_found (g.F.Flash.state c.args.flash.now) (g.F.Flash.state c.find_target.new.flash) c.in_ok-target.target c.find_target.ensures.reads.only c.in_ok-target.ensures.found

pub replace-requires-clause-stream : goal.replace-requires-clause-stream
replace-requires-clause-stream g c = omega (arith, c.find_target.ensures.reads.only.extent, c.size.ensures.extent, c.in_ok-target.ensures.found.fits.place.most, c.if-stream-size.false)

pub verify_and_open-requires-clause-written : goal.verify_and_open-requires-clause-written
verify_and_open-requires-clause-written g c =
    let target = c.in_ok-target.target in
    let found = c.in_ok-target.ensures.found in
    let read = c.find_target.ensures.reads.only in
    let wrote = c.replace.ensures.writes.only in
    let size : (g.F.Flash.state c.replace.new.flash).extent ≡ (g.F.Flash.state c.args.flash.now).extent = wrote.extent ∙ read.extent in
    record {
      attached = wrote.attached ∙ read.attached ∙ c.requires;
      size = subst IsUpdatableSize (sym size) found.fits.sized;
      place = subst (λ n. CanStandAt n target.place) (sym size) found.fits.place;
      fits = omega (arith, size, read.extent, c.size.ensures.extent, found.fits.place.most, c.if-stream-size.false);
      buffer_is = search rules;
    }

pub verify_and_open-requires-clause-next : goal.verify_and_open-requires-clause-next
verify_and_open-requires-clause-next g c = c.in_ok-target.ensures.found.fits.next

-- ---- calls

pub returns-in_err-target-clause-refused_calls : goal.returns-in_err-target-clause-refused_calls
returns-in_err-target-clause-refused_calls g c =
    let refused : IsRefused c.args.stream.now (history_of (g.F.Flash.state c.args.flash.now)) (history_of (g.F.Flash.state c.find_target.new.flash)) c.in_err-target.field-0.0 = c.in_err-target.ensures.refused_calls c.args.stream.now in
    search rules

pub returns-in-Err-clause-refused_calls : goal.returns-in-Err-clause-refused_calls
returns-in-Err-clause-refused_calls g c =
    let first = history_of (g.F.Flash.state c.args.flash.now) in
    let mid = history_of (g.F.Flash.state c.find_target.new.flash) in
    let last = history_of (g.F.Flash.state c.replace.new.flash) in
    let target = c.in_ok-target.target in
    let size = ap (λ (h : FlashHistory). h.size) c.in_ok-target.ensures.read_calls.made in
    let fits : target.place + length c.args.stream.now ≤ first.size = omega (arith, size, c.size.ensures.extent, c.in_ok-target.ensures.found_in.has.place.most, c.in_ok-target.ensures.found_in.update, c.if-stream-size.false) in
    inl (replace_stopped c.find_target.new.buffer c.args.stream.now target first mid c.in_ok-target.ensures.read_calls c.in_ok-target.ensures.found_in fits last write_failed
    (subst (λ n. Stops (replacing n c.args.stream.now target) mid last write_failed) size c.in-Err.ensures.failed_calls))

pub returns-clause-updated_calls : goal.returns-clause-updated_calls
returns-clause-updated_calls g c =
    let first = history_of (g.F.Flash.state c.args.flash.now) in
    let mid = history_of (g.F.Flash.state c.find_target.new.flash) in
    let then = history_of (g.F.Flash.state c.replace.new.flash) in
    let last = history_of (g.F.Flash.state c.verify_and_open.new.flash) in
    let target = c.in_ok-target.target in
    let stream = c.args.stream.now in
    let size = ap (λ (h : FlashHistory). h.size) c.in_ok-target.ensures.read_calls.made in
    let replaced : then ≡ with_calls mid (replacing first.size stream target) = subst (λ n. then ≡ with_calls mid (replacing n stream target)) size c.in-Ok-replace.ensures.replaced_calls in
    let size_then = ap (λ (h : FlashHistory). h.size) replaced ∙ size in
    let fits : target.place + length stream ≤ first.size = omega (arith, size, c.size.ensures.extent, c.in_ok-target.ensures.found_in.has.place.most, c.in_ok-target.ensures.found_in.update, c.if-stream-size.false) in
    all_done c.find_target.new.buffer stream target first mid c.in_ok-target.ensures.read_calls c.in_ok-target.ensures.found_in fits then replaced last c.verify_and_open.result
    (subst (λ n. OnOk c.verify_and_open.result (last ≡ with_calls then (verifying n stream target ++ opening target.slots.next))) size_then c.verify_and_open.ensures.opened_calls)

pub returns-clause-refused_calls : goal.returns-clause-refused_calls
returns-clause-refused_calls g c =
    let first = history_of (g.F.Flash.state c.args.flash.now) in
    let mid = history_of (g.F.Flash.state c.find_target.new.flash) in
    let then = history_of (g.F.Flash.state c.replace.new.flash) in
    let last = history_of (g.F.Flash.state c.verify_and_open.new.flash) in
    let target = c.in_ok-target.target in
    let stream = c.args.stream.now in
    let size = ap (λ (h : FlashHistory). h.size) c.in_ok-target.ensures.read_calls.made in
    let replaced : then ≡ with_calls mid (replacing first.size stream target) = subst (λ n. then ≡ with_calls mid (replacing n stream target)) size c.in-Ok-replace.ensures.replaced_calls in
    let size_then = ap (λ (h : FlashHistory). h.size) replaced ∙ size in
    let fits : target.place + length stream ≤ first.size = omega (arith, size, c.size.ensures.extent, c.in_ok-target.ensures.found_in.has.place.most, c.in_ok-target.ensures.found_in.update, c.if-stream-size.false) in
    whole.end_refused c.find_target.new.buffer stream target first mid c.in_ok-target.ensures.read_calls c.in_ok-target.ensures.found_in fits then replaced last c.verify_and_open.result
    (subst (λ n. IfErr c.verify_and_open.result (Stops (verifying n stream target ++ opening target.slots.next) then last)) size_then c.verify_and_open.ensures.fault_calls)

-- ---- what may be left

pub returns-in_err-target-clause-left : goal.returns-in_err-target-clause-left
returns-in_err-target-clause-left g c =
    answer_leaves c.args.stream.now (all_from_places (λ b. b < 256) c.args.stream.now (λ k h. omega (arith, c.type_inv.stream k))) (history_of (g.F.Flash.state c.args.flash.now)) (history_of (g.F.Flash.state c.find_target.new.flash))
    c.from_residual.result (search rules) (returns-in_err-target-clause-refused_calls g c)

pub returns-clause-left : goal.returns-clause-left
returns-clause-left g c =
    answer_leaves c.args.stream.now (all_from_places (λ b. b < 256) c.args.stream.now (λ k h. omega (arith, c.type_inv.stream k))) (history_of (g.F.Flash.state c.args.flash.now)) (history_of (g.F.Flash.state c.verify_and_open.new.flash))
    c.verify_and_open.result (returns-clause-updated_calls g c) (returns-clause-refused_calls g c)

pub returns-in-Err-clause-left : goal.returns-in-Err-clause-left
returns-in-Err-clause-left g c =
    refused_leaves c.args.stream.now (all_from_places (λ b. b < 256) c.args.stream.now (λ k h. omega (arith, c.type_inv.stream k))) (history_of (g.F.Flash.state c.args.flash.now)) (history_of (g.F.Flash.state c.replace.new.flash))
    write_failed (returns-in-Err-clause-refused_calls g c)

-- ---- known bytes

pub returns-clause-updated : goal.returns-clause-updated
returns-clause-updated g c =
    updated_known c.args.stream.now (all_from_places (λ b. b < 256) c.args.stream.now (λ k h. omega (arith, c.type_inv.stream k))) (g.F.Flash.state c.args.flash.now) (g.F.Flash.state c.verify_and_open.new.flash)
    (g.met.F.Flash.counted c.args.flash.now) (returns-clause-follows g c) c.verify_and_open.result (returns-clause-updated_calls g c)

pub returns-clause-updatable : goal.returns-clause-updatable
returns-clause-updatable g c =
    updatable_known c.args.stream.now (all_from_places (λ b. b < 256) c.args.stream.now (λ k h. omega (arith, c.type_inv.stream k))) (g.F.Flash.state c.args.flash.now) (g.F.Flash.state c.verify_and_open.new.flash)
    (g.met.F.Flash.counted c.args.flash.now) (returns-clause-follows g c) c.verify_and_open.result (returns-clause-updated_calls g c)

-- ---- why an update is refused

pub returns-in_err-target-clause-refused : goal.returns-in_err-target-clause-refused
returns-in_err-target-clause-refused g c =
    let stream = c.args.stream.now in
    let cause =
    refused_cause stream (all_from_places (λ b. b < 256) stream (λ k h. omega (arith, c.type_inv.stream k))) (g.F.Flash.state c.args.flash.now) (g.F.Flash.state c.find_target.new.flash) (g.met.F.Flash.counted c.args.flash.now)
    c.find_target.ensures.reads.follows c.find_target.result c.find_target.ensures.reads.only.extent (c.find_target.ensures.refused_calls stream) c.find_target.ensures.counted in
    search rules

pub returns-in_err-target-clause-complete : goal.returns-in_err-target-clause-complete
returns-in_err-target-clause-complete g c =
    let first = g.F.Flash.state c.args.flash.now in
    let mid = g.F.Flash.state c.find_target.new.flash in
    let stream = c.args.stream.now in
    let only = if_only_memory stream first mid c.find_target.result
    (refused_cause stream (all_from_places (λ b. b < 256) stream (λ k h. omega (arith, c.type_inv.stream k))) first mid (g.met.F.Flash.counted c.args.flash.now)
    c.find_target.ensures.reads.follows c.find_target.result c.find_target.ensures.reads.only.extent (c.find_target.ensures.refused_calls stream) c.find_target.ensures.counted) in
    search rules

pub returns-then-stream-size-clause-refused_calls : goal.returns-then-stream-size-clause-refused_calls
returns-then-stream-size-clause-refused_calls g c =
    let found = c.in_ok-target.ensures.found_in in
    let size = ap (λ (h : FlashHistory). h.size) c.in_ok-target.ensures.read_calls.made in
    (c.find_target.new.buffer, c.in_ok-target.ensures.read_calls, found.sized, found.has, omega (arith, size, found.update, c.size.ensures.extent, found.has.place.most, c.if-stream-size.true))

pub returns-then-stream-size-clause-refused : goal.returns-then-stream-size-clause-refused
returns-then-stream-size-clause-refused g c =
    let stream = c.args.stream.now in
    cause_of stream (all_from_places (λ b. b < 256) stream (λ k h. omega (arith, c.type_inv.stream k))) (g.F.Flash.state c.args.flash.now) (g.F.Flash.state c.find_target.new.flash) (g.met.F.Flash.counted c.args.flash.now)
    c.find_target.ensures.reads.follows TooLong c.find_target.ensures.reads.only.extent (returns-then-stream-size-clause-refused_calls g c) tt

pub returns-then-stream-size-clause-complete : goal.returns-then-stream-size-clause-complete
returns-then-stream-size-clause-complete g c =
    only_memory c.args.stream.now (g.F.Flash.state c.args.flash.now) (g.F.Flash.state c.find_target.new.flash) TooLong (returns-then-stream-size-clause-refused g c)

pub returns-in-Err-clause-refused : goal.returns-in-Err-clause-refused
returns-in-Err-clause-refused g c =
    let first = g.F.Flash.state c.args.flash.now in
    let mid = g.F.Flash.state c.find_target.new.flash in
    let then = g.F.Flash.state c.replace.new.flash in
    let stream = c.args.stream.now in
    cause_of stream (all_from_places (λ b. b < 256) stream (λ k h. omega (arith, c.type_inv.stream k))) first then (g.met.F.Flash.counted c.args.flash.now)
    (returns-in-Err-clause-follows g c) write_failed (returns-in-Err-clause-only_uses g c).extent (returns-in-Err-clause-refused_calls g c)
    (counts_before first mid then write_failed (uses_read first mid c.find_target.ensures.reads.only) c.in-Err.ensures.failed)

pub returns-in-Err-clause-complete : goal.returns-in-Err-clause-complete
returns-in-Err-clause-complete g c =
    only_memory c.args.stream.now (g.F.Flash.state c.args.flash.now) (g.F.Flash.state c.replace.new.flash) write_failed (returns-in-Err-clause-refused g c)

pub returns-clause-refused : goal.returns-clause-refused
returns-clause-refused g c =
    let first = g.F.Flash.state c.args.flash.now in
    let mid = g.F.Flash.state c.find_target.new.flash in
    let then = g.F.Flash.state c.replace.new.flash in
    let last = g.F.Flash.state c.verify_and_open.new.flash in
    let stream = c.args.stream.now in
    refused_cause stream (all_from_places (λ b. b < 256) stream (λ k h. omega (arith, c.type_inv.stream k))) first last (g.met.F.Flash.counted c.args.flash.now)
    (returns-clause-follows g c) c.verify_and_open.result (returns-clause-only_uses g c).extent (returns-clause-refused_calls g c)
    (counts_since first then last c.verify_and_open.result (uses_on first mid then (uses_read first mid c.find_target.ensures.reads.only) (uses_write mid then c.replace.ensures.writes.only)) c.verify_and_open.ensures.counted)

pub returns-clause-complete : goal.returns-clause-complete
returns-clause-complete g c = if_only_memory c.args.stream.now (g.F.Flash.state c.args.flash.now) (g.F.Flash.state c.verify_and_open.new.flash) c.verify_and_open.result (returns-clause-refused g c)

-- ---- when the flash isn't touched

pub returns-in_err-target-clause-no_memory : goal.returns-in_err-target-clause-no_memory
returns-in_err-target-clause-no_memory g c = let none = c.in_err-target.ensures.memory in search rules

pub returns-in_err-target-clause-bad_size : goal.returns-in_err-target-clause-bad_size
returns-in_err-target-clause-bad_size g c = c.find_target.ensures.bad_size

pub returns-then-stream-size-clause-bad_size : goal.returns-then-stream-size-clause-bad_size
returns-then-stream-size-clause-bad_size g c = λ bad. absurd (bad c.in_ok-target.ensures.found.fits.sized)

pub returns-in-Err-clause-bad_size : goal.returns-in-Err-clause-bad_size
returns-in-Err-clause-bad_size g c = λ bad. absurd (bad c.in_ok-target.ensures.found.fits.sized)

pub returns-clause-bad_size : goal.returns-clause-bad_size
returns-clause-bad_size g c = λ bad. absurd (bad c.in_ok-target.ensures.found.fits.sized)

pub returns-clause-no_memory : goal.returns-clause-no_memory
returns-clause-no_memory g c =
    let f = g.F.Flash in
    stop_wants_none (finishing (f.state c.replace.new.flash).extent c.args.stream.now c.in_ok-target.target) (history_of (f.state c.replace.new.flash)) (history_of (f.state c.verify_and_open.new.flash)) (f.state c.args.flash.now) (f.state c.verify_and_open.new.flash) c.verify_and_open.result c.verify_and_open.ensures.fault_calls
