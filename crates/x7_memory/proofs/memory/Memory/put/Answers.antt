use Rattle.x7_memory.proofs.FrameLemmas.{among_set}
use Rattle.std.proofs.Common.{◌∙◌, ap}
use Rattle.x7_part.specs.AddressOrder.{addresses_in}
use Rattle.x7_memory.specs.PartFrames.{frame_among}
use Rattle.x7_memory.proofs.memory.Memory.put.Goals as goal

pub returns-in-Some-clause-put : goal.returns-in-Some-clause-put
returns-in-Some-clause-put c a =
    ap (λ frames. frame_among (addresses_in c.args.part.now) frames a) c.put_at.ensures
    ∙ among_set 0 c.in-Some.rank c.args.far c.args.words.now a (addresses_in c.args.part.now) c.args.self.now
    c.requires.part.order c.requires.part.count c.in-Some.ensures.found.0 c.in-Some.ensures.found.1
