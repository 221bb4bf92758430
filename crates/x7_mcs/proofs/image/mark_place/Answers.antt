use Rattle.std.proofs.Common.{◌∙◌, ◌/◌}
use Rattle.std.proofs.lemmas.List.{get_or_default}
use Rattle.x7_mcs.proofs.PlaceLemmas.{place_marked}
use Rattle.x7_mcs.proofs.image.mark_place.Goals as goal

pub returns-clause-marked : goal.returns-clause-marked
returns-clause-marked c = place_marked c.args.marks.now.items c.index_mut.result.now c.args.place (c.index_mut.ensures.value ∙ get_or_default c.args.marks.now.items (c.args.place / 16) c.index_mut.result.now 0 c.requires) c.requires
