use Rattle.std.proofs.Common.{ap, arith}
use Rattle.x7_debug.specs.Journal.{oldest_by, records_of}
use Rattle.x7_debug.specs.Session.{SessionState}
use Rattle.x7_debug.proofs.JournalLemmas.{oldest_within}
use Rattle.x7_debug.proofs.session.Session.oldest.Goals as goal

pub returns-clause-within : goal.returns-clause-within
returns-clause-within c =
    let d = c.self.inside.device in
    omega (
      arith,
      c.oldest.ensures,
      c.taken.ensures.stored,
      ap (λ (n : _). oldest_by n (records_of c.self.inside.journal)) c.taken.ensures.stored,
      oldest_within d.part c.self.inside.stream.items d.taken (records_of c.self.inside.journal) c.self.invariant.on.leads,
      ap (λ (s : SessionState). s.at) c.self.view_is,
    )
