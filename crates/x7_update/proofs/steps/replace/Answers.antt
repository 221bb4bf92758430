use Rattle.std.proofs.Common.{◌∙◌, arith, ◌≡◌, ℕ, ◌/◌, [], ◌∷◌, ◌++◌, OnOk, OnErr, ap, sym, subst}
use Rattle.x7_packets.specs.FlashSlot.{sector_size}
use Rattle.x7_words.specs.FlashHistory.{FlashHistory, with_calls, history_of}
use Rattle.x7_words.specs.declared.flash_call.FlashCall.TheVariants.{Programmed}
use Rattle.x7_update.specs.Layout.{CanStandAt, IsUpdatableSize}
use Rattle.x7_update.specs.UpdateCalls.{erasing, sectors_from, spending}
use Rattle.x7_update.specs.Made.{Stops, write_failed}
use Rattle.x7_update.proofs.MadeLemmas.{err_on, ok_on, on_err, stops_more}
use Rattle.x7_update.proofs.StepLemmas.{write_on}
use Rattle.x7_update.proofs.steps.replace.Goals as goal

pub returns-clause-writes : goal.returns-clause-writes
returns-clause-writes g c =
    write_on (g.F.Flash.state c.args.flash.now) (g.F.Flash.state c.spend_open_slot.new.flash) (g.F.Flash.state c.write_stream.new.flash) c.spend_open_slot.ensures.writes c.write_stream.ensures.writes

pub write_stream-requires-clause-from : goal.write_stream-requires-clause-from
write_stream-requires-clause-from g c =
    let found = c.requires.found in
    let only = c.spend_open_slot.ensures.writes.only in
    record {
      attached = only.attached ∙ found.attached;
      size = subst IsUpdatableSize (sym only.extent) found.fits.sized;
      stands = subst (λ (n : ℕ). CanStandAt n c.args.target.place) (sym only.extent) found.fits.place;
    }

-- ---- calls

pub write_stream-requires-clause-within : goal.write_stream-requires-clause-within
write_stream-requires-clause-within g c = let same = ap (λ (h : FlashHistory). h.size) c.in_ok-spend_open_slot.ensures.spent_calls in omega (arith, same, c.requires.stream)

pub returns-clause-replaced_calls : goal.returns-clause-replaced_calls
returns-clause-replaced_calls g c =
    let first = history_of (g.F.Flash.state c.args.flash.now) in
    let mid = history_of (g.F.Flash.state c.spend_open_slot.new.flash) in
    let last = history_of (g.F.Flash.state c.write_stream.new.flash) in
    let place = c.args.target.place in
    let stream = c.args.stream.now in
    let size = ap (λ (h : FlashHistory). h.size) c.in_ok-spend_open_slot.ensures.spent_calls in
    ok_on first mid last (spending c.args.target.slots.open_slot) (erasing (place / sector_size) (sectors_from place first.size) ++ Programmed place stream ∷ []) c.in_ok-spend_open_slot.ensures.spent_calls c.write_stream.result
    (subst (λ n. OnOk c.write_stream.result (last ≡ with_calls mid (erasing (place / sector_size) (sectors_from place n) ++ Programmed place stream ∷ []))) size c.write_stream.ensures.written_calls)

pub returns-clause-failed_calls : goal.returns-clause-failed_calls
returns-clause-failed_calls g c =
    let first = history_of (g.F.Flash.state c.args.flash.now) in
    let mid = history_of (g.F.Flash.state c.spend_open_slot.new.flash) in
    let last = history_of (g.F.Flash.state c.write_stream.new.flash) in
    let place = c.args.target.place in
    let stream = c.args.stream.now in
    let size = ap (λ (h : FlashHistory). h.size) c.in_ok-spend_open_slot.ensures.spent_calls in
    err_on first mid last (spending c.args.target.slots.open_slot) (erasing (place / sector_size) (sectors_from place first.size) ++ Programmed place stream ∷ []) c.in_ok-spend_open_slot.ensures.spent_calls write_failed c.write_stream.result
    (subst (λ n. OnErr c.write_stream.result (Stops (erasing (place / sector_size) (sectors_from place n) ++ Programmed place stream ∷ []) mid last write_failed)) size c.write_stream.ensures.failed_calls)

pub returns-in_err-spend_open_slot-clause-failed_calls : goal.returns-in_err-spend_open_slot-clause-failed_calls
returns-in_err-spend_open_slot-clause-failed_calls g c =
    let first = history_of (g.F.Flash.state c.args.flash.now) in
    let place = c.args.target.place in
    on_err _ c.from_residual.result (stops_more (spending c.args.target.slots.open_slot) (erasing (place / sector_size) (sectors_from place first.size) ++ Programmed place c.args.stream.now ∷ [])
    first (history_of (g.F.Flash.state c.spend_open_slot.new.flash)) write_failed c.in_err-spend_open_slot.ensures.failed_calls)
