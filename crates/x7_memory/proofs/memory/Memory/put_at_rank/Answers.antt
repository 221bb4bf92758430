use Rattle.x7_memory.proofs.FrameLemmas.{among_set}
use Rattle.std.proofs.Common.{◌∙◌, ap, refl}
use Rattle.std.specs.Prelude.{slice_index}
use Rattle.x7_part.specs.AddressOrder.{addresses_in}
use Rattle.x7_memory.specs.PartFrames.{frame_among}
use Rattle.x7_memory.proofs.memory.Memory.put_at_rank.Goals as goal

pub returns-clause-put : goal.returns-clause-put
returns-clause-put c a =
    ap (λ frames. frame_among (addresses_in c.args._part.now) frames a) c.put_at.ensures
    ∙ among_set 0 c.args.rank (slice_index (addresses_in c.args._part.now) c.args.rank) c.args.words.now a (addresses_in c.args._part.now) c.args.self.now
    c.requires.part.order c.requires.part.count c.requires.rank refl
