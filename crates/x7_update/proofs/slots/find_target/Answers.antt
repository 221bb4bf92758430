use Rattle.std.proofs.Common.{length, subst}
use Rattle.x7_words.proofs.FollowLemmas.{follow_read}
use Rattle.x7_update.specs.Slots.{TargetFits}
use Rattle.x7_update.proofs.SlotLemmas.{target_fits}
use Rattle.x7_update.proofs.StepLemmas.{read_none}
use Rattle.x7_update.proofs.slots.find_target.Goals as goal

pub returns-then-not-has_size-clause-reads : goal.returns-then-not-has_size-clause-reads
returns-then-not-has_size-clause-reads g c = read_none (g.F.Flash.state c.args.flash.now)

pub returns-in-Err-clause-reads : goal.returns-in-Err-clause-reads
returns-in-Err-clause-reads g c =
    let r = c.read_at.ensures in
    record { follows = follow_read c.read_at.result 0 (length c.args.buffer.now) c.read_at.new.buf (g.F.Flash.state c.args.flash.now) (g.F.Flash.state c.read_at.new.self) r.length r.only.bytes r.read r.read_call r.failed_call; only = r.only }

pub returns-in-Ok-target_of-clause-reads : goal.returns-in-Ok-target_of-clause-reads
returns-in-Ok-target_of-clause-reads g c =
    let r = c.read_at.ensures in
    record { follows = follow_read c.read_at.result 0 (length c.args.buffer.now) c.read_at.new.buf (g.F.Flash.state c.args.flash.now) (g.F.Flash.state c.read_at.new.self) r.length r.only.bytes r.read r.read_call r.failed_call; only = r.only }

pub returns-in-Err-target_of-clause-reads : goal.returns-in-Err-target_of-clause-reads
returns-in-Err-target_of-clause-reads g c =
    let r = c.read_at.ensures in
    record { follows = follow_read c.read_at.result 0 (length c.args.buffer.now) c.read_at.new.buf (g.F.Flash.state c.args.flash.now) (g.F.Flash.state c.read_at.new.self) r.length r.only.bytes r.read r.read_call r.failed_call; only = r.only }

pub returns-in-Ok-target_of-clause-found : goal.returns-in-Ok-target_of-clause-found
returns-in-Ok-target_of-clause-found g c =
    let target = c.in-Ok-target_of.target in
    record { attached = c.requires.attached; fits = subst (λ n. TargetFits n target) c.size-size.ensures.extent (target_fits c.size-size.result c.read_at.new.buf target c.in-Ok-target_of.ensures.found) }
