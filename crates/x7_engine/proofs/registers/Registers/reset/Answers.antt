use Rattle.x7_engine.proofs.registers.Registers.reset.Goals as goal

pub returns-clause-stands : goal.returns-clause-stands
returns-clause-stands c = λ part fit. c.new-self.ensures.stands part c.reset.new.self (c.reset.ensures.stands part fit)
