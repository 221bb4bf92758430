use Rattle.std.proofs.Common.{◌≡◌, ◌+◌, ◌*◌, ℕ, IfErr, arith, subst, ◌-◌, ◌<◌, [], false, get_or, OnOk, refl, ap, ◌∙◌}
use Rattle.x7_packets.specs.FlashSlot.{flash_slot_size}
use Rattle.x7_words.specs.FlashHistory.{history_of}
use Rattle.x7_words.specs.declared.flash_call.FlashCall.TheVariants.{Read, ReadFailed}
use Rattle.x7_words.proofs.FollowLemmas.{follow_read}
use Rattle.x7_update.specs.Layout.{open_switch}
use Rattle.x7_update.specs.Writing.{IsWrong, ReadsWanted, wanted_at}
use Rattle.x7_update.specs.declared.fault.UpdateFault.TheVariants.{Failed}
use Rattle.x7_update.proofs.StreamLemmas.{wanted_inside}
use Rattle.x7_update.proofs.MadeLemmas.{compared_err, compared_ok, stops_here}
use Rattle.x7_update.proofs.StepLemmas.{wrong_counts}
use Rattle.x7_update.proofs.verify.verify_switch.Goals as goal

pub returns-clause-reads : goal.returns-clause-reads
returns-clause-reads g c =
    let r = c.read_at.ensures in
    record {
      follows = follow_read c.read_at.result (flash_slot_size * c.args.slot) 4 c.read_at.new.buf (g.F.Flash.state c.args.flash.now) (g.F.Flash.state c.read_at.new.self) r.length r.only.bytes r.read r.read_call r.failed_call;
      only = r.only;
    }

pub returns-in_default-clause-reads : goal.returns-in_default-clause-reads
returns-in_default-clause-reads g c =
    let r = c.read_at.ensures in
    record {
      follows = follow_read c.read_at.result (flash_slot_size * c.args.slot) 4 c.read_at.new.buf (g.F.Flash.state c.args.flash.now) (g.F.Flash.state c.read_at.new.self) r.length r.only.bytes r.read r.read_call r.failed_call;
      only = r.only;
    }

pub returns-clause-counted : goal.returns-clause-counted
returns-clause-counted g c = wrong_counts (flash_slot_size * c.args.slot) open_switch (flash_slot_size * c.args.slot + 0) c.read_at.new.buf (g.F.Flash.state c.args.flash.now) (g.F.Flash.state c.read_at.new.self) c.compare.result c.compare.ensures.wrong

-- ---- calls

switch_wanted : (place k : ℕ) → k < 4 → wanted_at place open_switch (place + k) ≡ get_or open_switch k 0
switch_wanted place k h = let back : place + k - place ≡ k = omega arith in wanted_inside place open_switch (place + k) (omega arith) ∙ ap (λ n. get_or open_switch n 0) back

pub returns-in_default-clause-fault_calls : goal.returns-in_default-clause-fault_calls
returns-in_default-clause-fault_calls g c =
    let place = flash_slot_size * c.args.slot in
    stops_here (Read place open_switch) (ReadFailed place 4) [] (history_of (g.F.Flash.state c.args.flash.now)) (history_of (g.F.Flash.state c.read_at.new.self)) (Failed false) c.in_default.ensures.failed_call
    (record { place = place; wanted = open_switch; is_next = refl; is = refl })

pub returns-clause-verified_calls : goal.returns-clause-verified_calls
returns-clause-verified_calls g c =
    let place = flash_slot_size * c.args.slot in
    let at : place + 0 ≡ place = omega arith in
    compared_ok place open_switch place open_switch c.read_at.new.buf c.read_at.ensures.length (λ k h. switch_wanted place k h)
    (history_of (g.F.Flash.state c.args.flash.now)) (history_of (g.F.Flash.state c.read_at.new.self)) c.in-Ok.ensures.read_call c.compare.result
    (subst (λ (p : ℕ). OnOk c.compare.result (ReadsWanted place open_switch p c.read_at.new.buf)) at c.compare.ensures.same)

pub returns-clause-fault_calls : goal.returns-clause-fault_calls
returns-clause-fault_calls g c =
    let place = flash_slot_size * c.args.slot in
    let at : place + 0 ≡ place = omega arith in
    compared_err place open_switch place open_switch c.read_at.new.buf c.read_at.ensures.length (λ k h. switch_wanted place k h)
    (history_of (g.F.Flash.state c.args.flash.now)) (history_of (g.F.Flash.state c.read_at.new.self)) c.in-Ok.ensures.read_call c.compare.result
    (subst (λ (p : ℕ). IfErr c.compare.result (IsWrong place open_switch p c.read_at.new.buf)) at c.compare.ensures.wrong)
