use Rattle.std.proofs.Common.{inl, inr, refl}
use Rattle.x7_outcome.proofs.FlashLemmas.{attach_asks, was_failed, reads_asked, was_missing}
use Rattle.x7_outcome.proofs.flash.attach.Goals as goal

pub returns-in-Ok-clause-asks : goal.returns-in-Ok-clause-asks
returns-in-Ok-clause-asks g c = attach_asks c.args.name.now (g.F.Flash.state c.args.flash.now) (g.F.Flash.state c.attach.new.self) c.attach.result c.attach.ensures.called

pub returns-in-Err-Missing-clause-asks : goal.returns-in-Err-Missing-clause-asks
returns-in-Err-Missing-clause-asks g c = attach_asks c.args.name.now (g.F.Flash.state c.args.flash.now) (g.F.Flash.state c.attach.new.self) c.attach.result c.attach.ensures.called

pub returns-in-Err-Failed-clause-asks : goal.returns-in-Err-Failed-clause-asks
returns-in-Err-Failed-clause-asks g c = attach_asks c.args.name.now (g.F.Flash.state c.args.flash.now) (g.F.Flash.state c.attach.new.self) c.attach.result c.attach.ensures.called

pub returns-in-Ok-clause-reads : goal.returns-in-Ok-clause-reads
returns-in-Ok-clause-reads g c = reads_asked c.args.name.now _ _ c.attach.ensures.stays (returns-in-Ok-clause-asks g c)

pub returns-in-Err-Missing-clause-reads : goal.returns-in-Err-Missing-clause-reads
returns-in-Err-Missing-clause-reads g c = reads_asked c.args.name.now _ _ c.attach.ensures.stays (returns-in-Err-Missing-clause-asks g c)

pub returns-in-Err-Failed-clause-reads : goal.returns-in-Err-Failed-clause-reads
returns-in-Err-Failed-clause-reads g c = reads_asked c.args.name.now _ _ c.attach.ensures.stays (returns-in-Err-Failed-clause-asks g c)

pub returns-in-Err-Missing-clause-refused : goal.returns-in-Err-Missing-clause-refused
returns-in-Err-Missing-clause-refused g c =
    inl (refl, record { among = inl refl; asked = returns-in-Err-Missing-clause-asks g c; risen = was_missing (g.F.Flash.state c.args.flash.now) (g.F.Flash.state c.attach.new.self) c.in-Err-Missing.field-0 c.in-Err-Missing.field-0-is c.in-Err-Missing.ensures.refused })

pub returns-in-Err-Failed-clause-refused : goal.returns-in-Err-Failed-clause-refused
returns-in-Err-Failed-clause-refused g c =
    inr (refl, record { among = inl refl; asked = returns-in-Err-Failed-clause-asks g c; risen = was_failed (g.F.Flash.state c.args.flash.now) (g.F.Flash.state c.attach.new.self) c.in-Err-Failed.field-0 c.in-Err-Failed.field-0-is c.in-Err-Failed.ensures.refused })
