use Rattle.std.proofs.Common.{◌∙◌, ap, arith}
use Rattle.std.proofs.lemmas.List.{take_all}
use Rattle.x7_memory.specs.PartFrames.{are_zeros}
use Rattle.x7_memory.proofs.ZeroLemmas.{zeros_more}
use Rattle.x7_memory.proofs.zeros.has_no_bit.Goals as goal

pub loop-word-preserved : goal.loop-word-preserved
loop-word-preserved c = zeros_more c.args.words.now c.loop-word.word-index c.loop-word.any c.loop-word-test.true c.loop-word.invariant

pub returns : goal.returns
returns c = c.loop-word.invariant ∙ ap are_zeros (take_all c.loop-word.word-index c.args.words.now (omega (arith, c.loop-word-test.false)))
