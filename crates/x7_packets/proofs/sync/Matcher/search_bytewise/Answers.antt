use Rattle.std.proofs.Common.{List, ℕ, ◌++◌, append-nil, arith, subst, take_all}
use Rattle.x7_packets.specs.Matching.{MatcherStandsFor}
use Rattle.x7_packets.specs.SyncWord.{HasNoSync}
use Rattle.x7_packets.proofs.SearchLemmas.{not_yet, found_now}
use Rattle.x7_packets.proofs.sync.Matcher.search_bytewise.Goals as goal

pub loop-i-preserved : goal.loop-i-preserved
loop-i-preserved c = λ gap s n. let now = c.loop-i.invariant gap s n in not_yet gap _ _ _ _ c.loop-i-test.true now.0 (c.feed.ensures.found _ now.1) (c.feed.ensures.stands _ now.1) c.if-feed.false

pub returns-then-feed-clause-found : goal.returns-then-feed-clause-found
returns-then-feed-clause-found c = λ gap s n. let now = c.loop-i.invariant gap s n in found_now gap _ _ _ c.loop-i-test.true now.0 (c.feed.ensures.found _ now.1) c.if-feed.true

pub loop-i-init : goal.loop-i-init
loop-i-init c = λ gap s n. rw append-nil (n, s)

pub returns-clause-found : goal.returns-clause-found
returns-clause-found c = λ gap s n.
    subst (λ (t : List ℕ). HasNoSync (gap ++ t) × MatcherStandsFor c.loop-i.self (gap ++ t)) (take_all c.loop-i.i c.args.bytes.now (omega (arith, c.loop-i-test.false))) (c.loop-i.invariant gap s n)
