use Rattle.std.proofs.Common.{◌≡◌, ◌∙◌, List, ℕ, OnOk, ap, subst}
use Rattle.x7_words.specs.Sink.{PutsAll, PutsSome}
use Rattle.x7_planner.specs.FullStream.{full_stream}
use Rattle.x7_outcome.proofs.FullStreamLemmas.{no_fault}
use Rattle.x7_stream_forms.proofs.full_text.write_full.Goals as goal

pub unreachable-requires : goal.unreachable-requires
unreachable-requires g c = no_fault c.args.part.now c.args.plan.now c.in_default.field-0 c.requires.addresses c.in_default.ensures.fault

pub returns-clause-whole : goal.returns-clause-whole
returns-clause-whole g c =
    let s = g.O.Sink in
    let e : full_stream c.in-Ok.stream.part c.in-Ok.stream.plan ≡ full_stream c.args.part.now c.args.plan.now = ap (λ p. full_stream p c.in-Ok.stream.plan) c.in-Ok.ensures.part ∙ ap (full_stream c.args.part.now) c.in-Ok.ensures.plan in
    subst (λ (x : List ℕ). OnOk c.write_stream.result (PutsAll (s.state c.args.out.now) x (s.state c.write_stream.new.out))) e c.write_stream.ensures.whole

pub returns-clause-prefix : goal.returns-clause-prefix
returns-clause-prefix g c =
    let s = g.O.Sink in
    let e : full_stream c.in-Ok.stream.part c.in-Ok.stream.plan ≡ full_stream c.args.part.now c.args.plan.now = ap (λ p. full_stream p c.in-Ok.stream.plan) c.in-Ok.ensures.part ∙ ap (full_stream c.args.part.now) c.in-Ok.ensures.plan in
    subst (λ (x : List ℕ). PutsSome (s.state c.args.out.now) x (s.state c.write_stream.new.out)) e c.write_stream.ensures.prefix
