use Rattle.x7_listing.proofs.NameLemmas.{cut_at, no_space_at_all}
use Rattle.x7_listing.proofs.asm.header.at_space.Goals as goal

pub returns-in_default : goal.returns-in_default
returns-in_default c = no_space_at_all c.args.text.now c.in_default.ensures

pub returns : goal.returns
returns c = cut_at c.args.text.now c.in-Some.at c.in-Some.ensures.0.before c.in-Some.ensures.0.high c.in-Some.ensures.1
