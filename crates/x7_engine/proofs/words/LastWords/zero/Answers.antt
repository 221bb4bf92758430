use Rattle.std.proofs.lemmas.List.{get_or-replicate}
use Rattle.x7_engine.proofs.words.LastWords.zero.Goals as goal

pub returns : goal.returns
returns c = λ register l. get_or-replicate 32 register 0 _ l
