use Rattle.std.proofs.Common.{sym, ap, ◌∙◌, arith}
use Rattle.x7_startup.specs.Startup.{StartupState}
use Rattle.x7_startup.proofs.CallLemmas.{idle_stands, running_stands}
use Rattle.x7_startup.proofs.startup.Startup.bytes.Goals as goal

pub returns-in_default : goal.returns-in_default
returns-in_default c = record {
  stands = λ calls h. idle_stands _ _ _ calls c.args.count (ap (λ (v : StartupState). v.begun_with) (sym c.self.view_is) ∙ c.in_default.is) h;
}

pub returns : goal.returns
returns c = record {
  stands = λ calls h.
      running_stands _ _ _ calls c.args.count c.in-Some.cor0 _ _ c.pass_ticks-next.result.ticks c.pass_ticks-next.result.phase
      c.in-Some.is (omega arith) (omega arith) c.pass_ticks-next.ensures.passes (rw (← c.self.view_is) at h);
}
