use Rattle.x7_engine.proofs.registers.Registers.new.Goals as goal

pub returns-clause-stands : goal.returns-clause-stands
returns-clause-stands c = λ part are. c.new.ensures.stands part c.args.frames are
