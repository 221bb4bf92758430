use Rattle.std.proofs.Common.{◌∙◌}
use Rattle.std.proofs.lemmas.List.{take-replicate}
use Rattle.x7_part.specs.Limits.{most_frame_words}
use Rattle.x7_planner.proofs.full_stream.zeros.Goals as goal

pub returns-clause-words : goal.returns-clause-words
returns-clause-words c = c.first_words.ensures ∙ take-replicate c.args.count most_frame_words 0 c.requires
