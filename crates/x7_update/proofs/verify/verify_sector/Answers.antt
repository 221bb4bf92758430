use Rattle.std.proofs.Common.{◌≡◌, ◌+◌, ◌-◌, ◌*◌, ℕ, length, IfErr, arith, subst, ◌∙◌, [], slice_range, OnOk, refl, ap, sym, false}
use Rattle.x7_words.specs.Flash.{sector_size, sector_place}
use Rattle.x7_words.specs.FlashHistory.{history_of}
use Rattle.x7_words.specs.declared.flash_call.FlashCall.TheVariants.{Read, ReadFailed}
use Rattle.x7_words.proofs.FollowLemmas.{follow_read}
use Rattle.x7_update.specs.Writing.{IsWrong, ReadsWanted}
use Rattle.x7_update.specs.UpdateCalls.{padded}
use Rattle.x7_update.specs.declared.fault.UpdateFault.TheVariants.{Failed}
use Rattle.x7_update.proofs.MadeLemmas.{compared_err, compared_ok, sector_long, sector_wanted, stops_here}
use Rattle.x7_update.proofs.StepLemmas.{wrong_counts}
use Rattle.x7_update.proofs.verify.verify_sector.Goals as goal

pub returns-clause-reads : goal.returns-clause-reads
returns-clause-reads g c =
    let r = c.read_at.ensures in
    record {
      follows = follow_read c.read_at.result (sector_place c.args.sector) (length c.args.buffer.now) c.read_at.new.buf (g.F.Flash.state c.args.flash.now) (g.F.Flash.state c.read_at.new.self) r.length r.only.bytes r.read r.read_call r.failed_call;
      only = r.only;
    }

pub returns-in_default-clause-reads : goal.returns-in_default-clause-reads
returns-in_default-clause-reads g c =
    let r = c.read_at.ensures in
    record {
      follows = follow_read c.read_at.result (sector_place c.args.sector) (length c.args.buffer.now) c.read_at.new.buf (g.F.Flash.state c.args.flash.now) (g.F.Flash.state c.read_at.new.self) r.length r.only.bytes r.read r.read_call r.failed_call;
      only = r.only;
    }

pub returns-clause-counted : goal.returns-clause-counted
returns-clause-counted g c = wrong_counts _ _ _ _ (g.F.Flash.state c.args.flash.now) (g.F.Flash.state c.read_at.new.self) c.compare.result c.compare.ensures.wrong

-- ---- calls

pub returns-in_default-clause-fault_calls : goal.returns-in_default-clause-fault_calls
returns-in_default-clause-fault_calls g c =
    let first = history_of (g.F.Flash.state c.args.flash.now) in
    let last = history_of (g.F.Flash.state c.read_at.new.self) in
    let place = c.args.stream_place in
    let sector = c.args.sector in
    let q = c.requires in
    let wanted = slice_range (padded c.args.stream.now (first.size - place)) (sector_place sector - place) (sector_place sector - place + sector_size) in
    let count : length c.args.buffer.now ≡ length wanted = q.written.buffer_is ∙ sym (sector_long first.size c.args.stream.now place sector q.after q.within q.written.fits) in
    stops_here (Read (sector_place sector) wanted) (ReadFailed (sector_place sector) (length c.args.buffer.now)) [] first last (Failed false) c.in_default.ensures.failed_call
    (record { place = sector_place sector; wanted = wanted; is_next = refl; is = ap (λ n. ReadFailed (sector_place sector) n) count })

pub returns-clause-verified_calls : goal.returns-clause-verified_calls
returns-clause-verified_calls g c =
    let first = history_of (g.F.Flash.state c.args.flash.now) in
    let last = history_of (g.F.Flash.state c.read_at.new.self) in
    let place = c.args.stream_place in
    let sector = c.args.sector in
    let q = c.requires in
    let wanted = slice_range (padded c.args.stream.now (first.size - place)) (sector_place sector - place) (sector_place sector - place + sector_size) in
    let size = sector_long first.size c.args.stream.now place sector q.after q.within q.written.fits in
    let long : length c.read_at.new.buf ≡ length wanted = c.read_at.ensures.length ∙ q.written.buffer_is ∙ sym size in
    let at : place + (sector_place sector - place) ≡ sector_place sector = omega (arith, q.after) in
    compared_ok place c.args.stream.now (sector_place sector) wanted c.read_at.new.buf long
    (λ k h. sector_wanted first.size c.args.stream.now place sector k q.after q.within q.written.fits (omega (arith, size, h))) first last c.in-Ok.ensures.read_call c.compare.result
    (subst (λ (p : ℕ). OnOk c.compare.result (ReadsWanted place c.args.stream.now p c.read_at.new.buf)) at c.compare.ensures.same)

pub returns-clause-fault_calls : goal.returns-clause-fault_calls
returns-clause-fault_calls g c =
    let first = history_of (g.F.Flash.state c.args.flash.now) in
    let last = history_of (g.F.Flash.state c.read_at.new.self) in
    let place = c.args.stream_place in
    let sector = c.args.sector in
    let q = c.requires in
    let wanted = slice_range (padded c.args.stream.now (first.size - place)) (sector_place sector - place) (sector_place sector - place + sector_size) in
    let size = sector_long first.size c.args.stream.now place sector q.after q.within q.written.fits in
    let long : length c.read_at.new.buf ≡ length wanted = c.read_at.ensures.length ∙ q.written.buffer_is ∙ sym size in
    let at : place + (sector_place sector - place) ≡ sector_place sector = omega (arith, q.after) in
    compared_err place c.args.stream.now (sector_place sector) wanted c.read_at.new.buf long
    (λ k h. sector_wanted first.size c.args.stream.now place sector k q.after q.within q.written.fits (omega (arith, size, h))) first last c.in-Ok.ensures.read_call c.compare.result
    (subst (λ (p : ℕ). IfErr c.compare.result (IsWrong place c.args.stream.now p c.read_at.new.buf)) at c.compare.ensures.wrong)
