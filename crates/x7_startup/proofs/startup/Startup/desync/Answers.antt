use Rattle.x7_startup.proofs.CallLemmas.{desync_stands}
use Rattle.x7_startup.proofs.startup.Startup.desync.Goals as goal

pub returns : goal.returns
returns c = record {
  stands = λ lock_ticks match_ticks calls h.
      rw (c.or-self-inside.ensures, c.then_some.ensures) (desync_stands lock_ticks match_ticks _ calls c.args.cor0 (rw (← c.self.view_is) at h));
}
