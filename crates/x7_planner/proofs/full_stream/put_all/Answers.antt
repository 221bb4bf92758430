use Rattle.std.proofs.Common.{◌∙◌, ap}
use Rattle.x7_planner.specs.FullStream.{full_stream}
use Rattle.x7_planner.proofs.full_stream.put_all.Goals as goal

pub returns : goal.returns
returns c =
    let given = c.in_ok-put_next.ensures.end c.loop.out.items c.loop.invariant.given c.if-branch.false in
    c.in_ok-put_next.ensures.appends_nothing c.if-branch.false ∙ given ∙ ap (λ p. full_stream p c.loop.stream.plan) c.loop.invariant.part ∙ ap (full_stream c.args.stream.part) c.loop.invariant.plan
