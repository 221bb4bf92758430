use Rattle.std.proofs.Common.{take, codes}
use Rattle.x7_text.specs.Row.{spaced}
use Rattle.x7_text.proofs.OpenLineLemmas.{WrittenSoFar}
use Rattle.x7_report.proofs.reads.put_data.Given as goal

abbrev pub invariant-loop-word : goal.invariant-loop-word
invariant-loop-word l = WrittenSoFar 8 (codes "data") spaced 0 l.fn.text.items (take l.word-index l.words) l.text.items l.in_line
