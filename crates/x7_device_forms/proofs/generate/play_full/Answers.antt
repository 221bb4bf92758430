use Rattle.std.proofs.Common.{length, ap, subst, ◌∙◌}
use Rattle.std.proofs.lemmas.Result.{on_ok_weaker}
use Rattle.x7_planner.specs.FullStream.{full_stream}
use Rattle.x7_playing.specs.Playing.{HasPlayed}
use Rattle.x7_forms.proofs.ResultLemmas.{ok_weaker}
use Rattle.x7_outcome.proofs.FullStreamLemmas.{no_fault}
use Rattle.x7_device_forms.proofs.generate.play_full.Goals as goal

pub unreachable-requires : goal.unreachable-requires
unreachable-requires c = no_fault c.args.part.now c.args.plan.now c.in_default.field-0 c.requires.addresses c.in_default.ensures.fault

pub returns-clause-played : goal.returns-clause-played
returns-clause-played c =
    on_ok_weaker c.play_all.result (λ h. subst (λ p. HasPlayed p (full_stream p c.args.plan.now) c.play_all.new.player) c.in-Ok.ensures.part
    (subst (λ q. HasPlayed c.in-Ok.stream.part (full_stream c.in-Ok.stream.part q) c.play_all.new.player) c.in-Ok.ensures.plan h)) c.play_all.ensures.played

pub returns-clause-size : goal.returns-clause-size
returns-clause-size c =
    ok_weaker c.play_all.result (λ size h. h ∙ ap length (ap (λ p. full_stream p c.in-Ok.stream.plan) c.in-Ok.ensures.part ∙ ap (full_stream c.args.part.now) c.in-Ok.ensures.plan)) c.play_all.ensures.size
