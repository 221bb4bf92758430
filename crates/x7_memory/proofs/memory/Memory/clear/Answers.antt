use Rattle.std.proofs.Common.{sym, subst}
use Rattle.x7_memory.specs.PartFrames.{AreFramesOf}
use Rattle.x7_memory.proofs.ZeroLemmas.{cleared, zeros_are}
use Rattle.x7_memory.proofs.memory.Memory.clear.Goals as goal

pub returns-clause-zeros : goal.returns-clause-zeros
returns-clause-zeros c part are = cleared part c.self.inside c.args.self.now c.truncate.new.self.items c.clear_words.new.words.items c.self.invariant c.self.view_is are c.truncate.ensures.items c.clear_words.ensures

pub returns-clause-part : goal.returns-clause-part
returns-clause-part c part are =
    subst (λ frames. AreFramesOf part frames) (sym (cleared part c.self.inside c.args.self.now c.truncate.new.self.items c.clear_words.new.words.items c.self.invariant c.self.view_is are c.truncate.ensures.items c.clear_words.ensures))
    (zeros_are part are.order)
