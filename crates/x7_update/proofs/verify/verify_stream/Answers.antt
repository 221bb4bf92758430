use Rattle.std.proofs.Common.{◌≤◌, ◌+◌, ◌*◌, IfErr, sym, ◌∙◌, arith, rules, ◌≡◌, ◌/◌, ◌-◌, ◌<◌, ◌++◌, ap, subst}
use Rattle.x7_words.specs.Flash.{sector_size}
use Rattle.x7_update.specs.Writing.{CountsFault}
use Rattle.x7_update.proofs.StepLemmas.{can_still_verify, counts_since, read_none, read_on, uses_read}
use Rattle.x7_update.specs.UpdateCalls.{reading, sectors_from}
use Rattle.x7_words.specs.FlashHistory.{FlashHistory, with_calls, history_of}
use Rattle.x7_update.specs.Made.{Stops}
use Rattle.x7_update.proofs.MadeLemmas.{calls_none, calls_on, reading_last, reading_split_at, stops_more, stops_on}
use Rattle.x7_update.proofs.verify.verify_stream.Goals as goal

pub loop-sector-preserved : goal.loop-sector-preserved
loop-sector-preserved g c =
    let first = g.F.Flash.state c.args.flash.now in
    let mid = g.F.Flash.state c.loop-sector.flash in
    let last = g.F.Flash.state c.verify_sector.new.flash in
    let before = history_of first in
    let now = history_of mid in
    let place = c.args.stream_place in
    let start = place / sector_size in
    let sector = c.loop-sector.sector in
    let h : start ≤ sector = omega arith in
    let inv = c.loop-sector.invariant in
    let size = ap (λ (h : FlashHistory). h.size) inv.made in
    record {
      made = calls_on (reading before.size c.args.stream.now place start (sector - start)) (reading before.size c.args.stream.now place sector 1) before now (history_of (g.F.Flash.state c.verify_sector.new.flash)) inv.made
          (subst (λ n. history_of (g.F.Flash.state c.verify_sector.new.flash) ≡ with_calls now (reading n c.args.stream.now place sector 1)) size c.in_ok-verify_sector.ensures.verified_calls)
          ∙ ap (λ l. with_calls before l) (sym (reading_last before.size c.args.stream.now place start sector h));
      reads = read_on first mid last c.loop-sector.invariant.reads c.verify_sector.ensures.reads;
      buffer = c.verify_sector.ensures.length;
    }

pub returns-in_err-verify_sector-clause-counted : goal.returns-in_err-verify_sector-clause-counted
returns-in_err-verify_sector-clause-counted g c =
    let first = g.F.Flash.state c.args.flash.now in
    let mid = g.F.Flash.state c.loop-sector.flash in
    let last = g.F.Flash.state c.verify_sector.new.flash in
    let since : IfErr c.verify_sector.result (CountsFault first last) = counts_since first mid last c.verify_sector.result (uses_read first mid c.loop-sector.invariant.reads.only) c.verify_sector.ensures.counted in
    search rules

pub returns-in_err-verify_sector-clause-reads : goal.returns-in_err-verify_sector-clause-reads
returns-in_err-verify_sector-clause-reads g c =
    read_on (g.F.Flash.state c.args.flash.now) (g.F.Flash.state c.loop-sector.flash) (g.F.Flash.state c.verify_sector.new.flash) c.loop-sector.invariant.reads c.verify_sector.ensures.reads

pub verify_sector-requires-clause-written : goal.verify_sector-requires-clause-written
verify_sector-requires-clause-written g c =
    let i = c.loop-sector.invariant in
    can_still_verify (g.F.Flash.state c.args.flash.now) (g.F.Flash.state c.loop-sector.flash) c.args.stream_place c.args.stream.now c.args.buffer.now c.loop-sector.buffer i.reads.only i.buffer c.requires

-- ---- calls

pub loop-sector-init : goal.loop-sector-init
loop-sector-init g c =
    let first = history_of (g.F.Flash.state c.args.flash.now) in
    let none : c.args.stream_place / sector_size - c.args.stream_place / sector_size ≡ 0 = omega arith in
    let s = g.F.Flash.state c.args.flash.now in
    record {
      made = calls_none first ∙ ap (λ n. with_calls first (reading first.size c.args.stream.now c.args.stream_place (c.args.stream_place / sector_size) n)) (sym none);
      reads = read_none s;
      buffer = c.requires.buffer_is;
    }

pub returns-in_err-verify_sector-clause-fault_calls : goal.returns-in_err-verify_sector-clause-fault_calls
returns-in_err-verify_sector-clause-fault_calls g c =
    let first = history_of (g.F.Flash.state c.args.flash.now) in
    let mid = history_of (g.F.Flash.state c.loop-sector.flash) in
    let last = history_of (g.F.Flash.state c.verify_sector.new.flash) in
    let place = c.args.stream_place in
    let stream = c.args.stream.now in
    let from = place / sector_size in
    let sector = c.loop-sector.sector in
    let end = first.size / sector_size in
    let fault = c.in_err-verify_sector.field-0.0 in
    let h : from ≤ sector = omega arith in
    let k : sector < end = omega (arith, c.size-sector-end.ensures.extent) in
    let size = ap (λ (h : FlashHistory). h.size) c.loop-sector.invariant.made in
    let s : Stops (reading first.size stream place from (end - from)) first last fault =
    subst (λ l. Stops l first last fault) (sym (reading_split_at first.size stream place from sector end h k))
    (stops_on (reading first.size stream place from (sector - from)) (reading first.size stream place sector 1 ++ reading first.size stream place (sector + 1) (end - (sector + 1))) first mid last fault c.loop-sector.invariant.made
    (stops_more (reading first.size stream place sector 1) (reading first.size stream place (sector + 1) (end - (sector + 1))) mid last fault
    (subst (λ n. Stops (reading n stream place sector 1) mid last fault) size c.in_err-verify_sector.ensures.fault_calls))) in
    search rules

pub returns-clause-verified_calls : goal.returns-clause-verified_calls
returns-clause-verified_calls g c =
    let first = history_of (g.F.Flash.state c.args.flash.now) in
    let from = c.args.stream_place / sector_size in
    let stands = c.requires.place in
    let count : c.loop-sector.sector - from ≡ sectors_from c.args.stream_place first.size = omega (arith, c.size-sector-end.ensures.extent, stands.most) in
    c.loop-sector.invariant.made ∙ ap (λ n. with_calls first (reading first.size c.args.stream.now c.args.stream_place from n)) count
