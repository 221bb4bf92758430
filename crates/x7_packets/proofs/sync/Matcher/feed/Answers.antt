use Rattle.std.proofs.Common.{sym, subst}
use Rattle.x7_packets.specs.Matching.{MatcherStandsFor}
use Rattle.x7_packets.proofs.SyncLemmas.{found, took_one}
use Rattle.x7_packets.proofs.sync.Matcher.feed.Goals.{then-found, else-found}
use Rattle.x7_packets.proofs.sync.Matcher.feed.Goals as goal

pub returns-clause-found : goal.returns-clause-found
returns-clause-found c = λ bytes s. found _ c.args.byte _ c.is_sync-found.ensures bytes (subst (λ m. MatcherStandsFor m bytes) (sym c.self.view_is) s)

pub returns-clause-stands : goal.returns-clause-stands
returns-clause-stands c = λ bytes s.
    let t : MatcherStandsFor (record { first = c.self.inside.first; second = c.self.inside.second; third = c.self.inside.third }) bytes = subst (λ m. MatcherStandsFor m bytes) (sym c.self.view_is) s in
    elim c.if-found.branch [
      | then-found w ↦ rw (c.self-2.view_is, w.if-found.true, w.self-is) w.new.ensures
      | else-found w ↦ rw (c.self-2.view_is, w.if-found.false, w.self-is) (took_one (record { first = c.self.inside.first; second = c.self.inside.second; third = c.self.inside.third }) bytes c.args.byte t)
    ]
