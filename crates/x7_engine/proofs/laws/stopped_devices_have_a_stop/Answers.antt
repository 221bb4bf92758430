use Rattle.std.proofs.Common.{sym, ◌∙◌}
use Rattle.x7_engine.proofs.FeedLemmas.{same_stop}
use Rattle.x7_engine.proofs.laws.stopped_devices_have_a_stop.Goals as goal

pub returns : goal.returns
returns c = λ d p s. (λ e. same_stop d p s ∙ e, λ e. sym (same_stop d p s) ∙ e)
