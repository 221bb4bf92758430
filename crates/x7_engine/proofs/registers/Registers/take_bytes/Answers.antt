use Rattle.std.proofs.Common.{◌+◌, ◌-◌, arith}
use Rattle.x7_engine.specs.Clock.{clock_in}
use Rattle.x7_engine.specs.Standing.{registers_in}
use Rattle.x7_engine.proofs.TurnLemmas.{fired, newest_within, ticked}
use Rattle.x7_engine.proofs.registers.Registers.take_bytes.Goals as goal

pub returns-in_default-clause-enters : goal.returns-in_default-clause-enters
returns-in_default-clause-enters c = λ kept h n s.
    ticked c.args.part.now kept (registers_in c.args.self.now) (clock_in c.bytes.new.self) h n c.args.count (n + (c.args.count - 0)) (omega arith) c.requires.going s (c.in_default.ensures.takes kept h n (newest_within n h s.places) s.clock)

pub returns-clause-enters : goal.returns-clause-enters
returns-clause-enters c = λ kept h n s.
    let t = c.in-Some.ensures.takes kept h n (newest_within n h s.places) s.clock in
    fired c.args.part.now kept (registers_in c.args.self.now) (clock_in c.bytes.new.self) h n c.args.count c.in-Some.taken (n + (c.args.count - (c.args.count - c.in-Some.taken))) (omega (arith, t.1)) c.requires.going s t
