use Rattle.x7_mcs.proofs.PlaceLemmas.{sixteen_marked}
use Rattle.x7_mcs.proofs.image.mark_sixteen.Goals as goal

pub returns-clause-marked : goal.returns-clause-marked
returns-clause-marked c = sixteen_marked c.args.marks.now.items c.args.place c.requires.within c.requires.first
