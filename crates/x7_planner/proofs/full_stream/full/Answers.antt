use Rattle.std.proofs.Common.{◌∙◌, ap}
use Rattle.x7_planner.specs.FullStream.{full_stream}
use Rattle.x7_planner.proofs.full_stream.full.Goals as goal

pub returns-clause-stream : goal.returns-clause-stream
returns-clause-stream c =
    c.in_ok-put_all.ensures ∙ ap (λ p. full_stream p c.in_ok-stream.stream.plan) c.in_ok-stream.ensures.part ∙ ap (full_stream c.args.part.now) c.in_ok-stream.ensures.plan
