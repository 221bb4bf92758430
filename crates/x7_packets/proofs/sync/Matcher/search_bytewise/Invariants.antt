use Rattle.std.proofs.Common.{ℕ, List, ◌++◌, take}
use Rattle.x7_packets.specs.Matching.{MatcherStandsFor}
use Rattle.x7_packets.specs.SyncWord.{HasNoSync}
use Rattle.x7_packets.proofs.sync.Matcher.search_bytewise.Given as goal

abbrev pub invariant-loop-i : goal.invariant-loop-i
invariant-loop-i l = (gap : List ℕ) → MatcherStandsFor l.fn.self gap → HasNoSync gap → HasNoSync (gap ++ take l.i l.bytes) × MatcherStandsFor l.self (gap ++ take l.i l.bytes)
