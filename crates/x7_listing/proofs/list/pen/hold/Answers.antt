use Rattle.std.proofs.Common.{◌≡◌, [], ◌∷◌, arith, refl, length, take}
use Rattle.std.proofs.lemmas.Grind.{common_steps}
use Rattle.x7_listing.proofs.GapLemmas.{held_then, listed_more}
use Rattle.x7_listing.proofs.list.pen.hold.Goals as goal

pub returns-clause-listed : goal.returns-clause-listed
returns-clause-listed c = λ given start gap g.
    let four : length c.args.pen.held ≡ 4 = grind (arith, common_steps) in
    listed_more given _ _ start c.args.pen.in_line _ _ _ gap (c.args.byte ∷ []) (take 1 c.args.pen.held) g (held_then c.args.pen.held c.args.pen.count c.args.byte four (omega arith)) refl c.put_bytes-in_line.ensures.appends.items c.put_bytes-in_line.ensures.count
