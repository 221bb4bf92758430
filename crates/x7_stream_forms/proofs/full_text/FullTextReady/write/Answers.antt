use Rattle.std.proofs.Common.{OnOk, subst}
use Rattle.x7_words.specs.Sink.{PutsAll, PutsSome}
use Rattle.x7_planner.specs.FullStream.{full_stream}
use Rattle.x7_stream_forms.specs.FullText.{PlanFor}
use Rattle.x7_stream_forms.proofs.full_text.FullTextReady.write.Goals as goal

pub returns-clause-whole : goal.returns-clause-whole
returns-clause-whole g c =
    let s = g.O.Sink in
    subst (λ (t : PlanFor). OnOk c.write_full.result (PutsAll (s.state c.args.out.now) (full_stream t.part t.plan) (s.state c.write_full.new.out))) c.self.view_is c.write_full.ensures.whole

pub returns-clause-prefix : goal.returns-clause-prefix
returns-clause-prefix g c =
    let s = g.O.Sink in
    subst (λ (t : PlanFor). PutsSome (s.state c.args.out.now) (full_stream t.part t.plan) (s.state c.write_full.new.out)) c.self.view_is c.write_full.ensures.prefix
