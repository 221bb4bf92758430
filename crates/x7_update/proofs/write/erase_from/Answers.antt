use Rattle.std.proofs.Common.{◌≡◌, ◌*◌, ◌+◌, ◌≤◌, ℕ, refl, subst, sym, arith, ◌/◌, ◌-◌, ◌<◌, suc, [], ◌∷◌, ap, ◌∙◌}
use Rattle.x7_words.specs.Flash.{sector_size}
use Rattle.x7_words.specs.FlashHistory.{with_calls, history_of}
use Rattle.x7_words.specs.declared.flash_call.FlashCall.TheVariants.{Erased, EraseFailed}
use Rattle.x7_words.proofs.FollowLemmas.{follow_erase}
use Rattle.x7_update.specs.UpdateCalls.{erasing, sectors_from}
use Rattle.x7_update.specs.Made.{Stops, write_failed}
use Rattle.x7_update.proofs.MadeLemmas.{calls_none, calls_on, erasing_last, erasing_split_at, on_err, stops_here, stops_on}
use Rattle.x7_update.proofs.StepLemmas.{write_none, write_on}
use Rattle.x7_update.proofs.write.erase_from.Goals as goal

pub loop-sector-preserved : goal.loop-sector-preserved
loop-sector-preserved g c =
    let first = g.F.Flash.state c.args.flash.now in
    let mid = g.F.Flash.state c.loop-sector.flash in
    let last = g.F.Flash.state c.erase.new.self in
    let start = c.args.place / sector_size in
    let sector = c.loop-sector.sector in
    let inv = c.loop-sector.invariant in
    let e = c.erase.ensures in
    let h : start ≤ sector = omega arith in
    record {
      made = calls_on (erasing start (sector - start)) (Erased sector ∷ []) (history_of first) (history_of mid) (history_of last) inv.made c.in_ok-erase.ensures.erase_call
          ∙ ap (λ l. with_calls (history_of first) l) (sym (erasing_last start sector h));
      writes = write_on first mid last inv.writes (record { follows = follow_erase c.erase.result sector mid last e.erased e.torn e.erase_call e.failed_call; only = e.only });
    }

pub returns-in_err-erase-clause-writes : goal.returns-in_err-erase-clause-writes
returns-in_err-erase-clause-writes g c =
    let mid = g.F.Flash.state c.loop-sector.flash in
    let last = g.F.Flash.state c.erase.new.self in
    let e = c.erase.ensures in
    write_on (g.F.Flash.state c.args.flash.now) mid last c.loop-sector.invariant.writes
    (record { follows = follow_erase c.erase.result c.loop-sector.sector mid last e.erased e.torn e.erase_call e.failed_call; only = e.only })

pub loop-sector-init : goal.loop-sector-init
loop-sector-init g c =
    let first = g.F.Flash.state c.args.flash.now in
    let from = c.args.place / sector_size in
    let none : from - from ≡ 0 = omega arith in
    record { made = calls_none (history_of first) ∙ ap (λ n. with_calls (history_of first) (erasing from n)) (sym none); writes = write_none first }

-- ---- calls

pub returns-in_err-erase-clause-failed_calls : goal.returns-in_err-erase-clause-failed_calls
returns-in_err-erase-clause-failed_calls g c =
    let first = history_of (g.F.Flash.state c.args.flash.now) in
    let mid = history_of (g.F.Flash.state c.loop-sector.flash) in
    let last = history_of (g.F.Flash.state c.erase.new.self) in
    let from = c.args.place / sector_size in
    let sector = c.loop-sector.sector in
    let end = first.size / sector_size in
    let h : from ≤ sector = omega arith in
    let k : sector < end = omega (arith, c.size-sector-end.ensures.extent) in
    let s : Stops (erasing from (end - from)) first last write_failed =
    subst (λ l. Stops l first last write_failed) (sym (erasing_split_at from sector end h k))
    (stops_on (erasing from (sector - from)) (Erased sector ∷ erasing (suc sector) (end - suc sector)) first mid last write_failed c.loop-sector.invariant.made
    (stops_here (Erased sector) (EraseFailed sector) (erasing (suc sector) (end - suc sector)) mid last write_failed c.in_err-erase.ensures.failed_call refl)) in
    on_err _ c.from_residual.result s

pub returns-clause-erased_calls : goal.returns-clause-erased_calls
returns-clause-erased_calls g c =
    let first = history_of (g.F.Flash.state c.args.flash.now) in
    let from = c.args.place / sector_size in
    let stands = c.requires.from.stands in
    let count : c.loop-sector.sector - from ≡ sectors_from c.args.place first.size = omega (arith, c.size-sector-end.ensures.extent, stands.most) in
    c.loop-sector.invariant.made ∙ ap (λ n. with_calls first (erasing from n)) count
