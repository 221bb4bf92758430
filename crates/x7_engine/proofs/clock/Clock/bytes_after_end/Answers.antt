use Rattle.std.proofs.Common.{◌≡◌, ◌+◌, ◌-◌, arith}
use Rattle.x7_engine.specs.Clock.{clock_in}
use Rattle.x7_engine.proofs.ClockLemmas.{ended_alike, ticks_none, ticks_some}
use Rattle.x7_engine.proofs.clock.Clock.bytes_after_end.Goals as goal

pub returns-in-Some-clause-takes : goal.returns-in-Some-clause-takes
returns-in-Some-clause-takes c = λ kept h n b.
    let sum : c.args.taken + (c.args.count - c.args.taken) ≡ c.args.count = omega (arith, c.requires) in
    ticks_some c.args.part.now kept (clock_in c.bytes_alike.new.self) h n c.args.taken (c.args.count - c.args.taken) c.args.count c.in-Some.k sum b.none_fires
    (c.in-Some.ensures.takes kept h (n + c.args.taken) (ended_alike c.args.part.now kept (clock_in c.args.self.now) h n c.args.taken (c.args.count - c.args.taken) b.newest b.ended b.stands))

pub returns-in-None-clause-takes : goal.returns-in-None-clause-takes
returns-in-None-clause-takes c = λ kept h n b.
    let sum : c.args.taken + (c.args.count - c.args.taken) ≡ c.args.count = omega (arith, c.requires) in
    ticks_none c.args.part.now kept (clock_in c.bytes_alike.new.self) h n c.args.taken (c.args.count - c.args.taken) c.args.count sum b.none_fires
    (c.in-None.ensures.takes kept h (n + c.args.taken) (ended_alike c.args.part.now kept (clock_in c.args.self.now) h n c.args.taken (c.args.count - c.args.taken) b.newest b.ended b.stands))
