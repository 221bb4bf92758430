use Rattle.x7_listing.proofs.BitLemmas.{none_of, some_of}
use Rattle.x7_listing.proofs.asm.header.two_fields.Goals as goal

pub returns-in_default : goal.returns-in_default
returns-in_default c = λ a b is_a is_b in_x in_y. none_of _ _ c.in_ok-first.field-0 c.in_default.is c.in_ok-first.ensures a is_a in_x

pub returns-in_default-2 : goal.returns-in_default-2
returns-in_default-2 c = λ a b is_a is_b in_x in_y. none_of _ _ c.in_ok-second.field-0 c.in_default-2.is c.in_ok-second.ensures b is_b in_y

pub returns : goal.returns
returns c = (some_of _ _ c.in_ok-first.field-0 _ c.in-Some.is c.in_ok-first.ensures, some_of _ _ c.in_ok-second.field-0 _ c.in-Some-2.is c.in_ok-second.ensures)
