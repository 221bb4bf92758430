use Rattle.x7_engine.proofs.registers.Registers.write_word_to.Goals as goal

pub returns-in-Effective : goal.returns-in-Effective
returns-in-Effective c = rw c.in-Effective.is c.write.ensures

pub returns-in-Plain : goal.returns-in-Plain
returns-in-Plain c = rw c.in-Plain.is (c.pass.ensures c.args.part.now c.requires.may_take)
