use Rattle.std.proofs.Common.{sym, ◌∙◌, arith}
use Rattle.x7_packets.proofs.SearchLemmas.{found_in_piece, found_near, none_found, none_near}
use Rattle.x7_packets.proofs.sync.Matcher.search.Goals as goal

pub returns-then-is_some-clause-found : goal.returns-then-is_some-clause-found
returns-then-is_some-clause-found c = λ gap s n. found_near gap c.args.bytes.now 3 _ _ (sym c.is_some.ensures ∙ c.if-is_some.true) c.search_bytewise-near.ensures.within (c.search_bytewise-near.ensures.found gap s n)

pub returns-in-Some-clause-found : goal.returns-in-Some-clause-found
returns-in-Some-clause-found c = λ gap s n.
    let seam = none_near gap c.args.bytes.now 3 _ _ (omega arith) (sym c.is_some.ensures ∙ c.if-is_some.false) (c.search_bytewise-near.ensures.found gap s n) in
    let place = c.in-Some.ensures in
    found_in_piece gap c.args.bytes.now c.in-Some.at seam place.1 place.0.before

pub returns-in-None-clause-found : goal.returns-in-None-clause-found
returns-in-None-clause-found c = λ gap s n.
    let seam = none_near gap c.args.bytes.now 3 _ _ (omega arith) (sym c.is_some.ensures ∙ c.if-is_some.false) (c.search_bytewise-near.ensures.found gap s n) in
    let nowhere = c.in-None.ensures in
    (none_found gap c.args.bytes.now seam (λ k o. nowhere k (omega arith) (omega (arith, o.fits)) o), c.after.ensures gap)
