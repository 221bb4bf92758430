use Rattle.std.proofs.Common.{List, ℕ, length}
use Rattle.x7_text.specs.LineReader.{GetsText}
use Rattle.x7_text.proofs.LineReaderLemmas.{HasTaken}
use Rattle.x7_mcs.specs.McsLines.{HasReadRecords}
use Rattle.x7_mcs.proofs.mcs_lines.McsLinesTakesLines.take_lines.Given as goal

abbrev pub invariant-loop-after : goal.invariant-loop-after
invariant-loop-after l =
    (lines : List (List ℕ)) → GetsText HasReadRecords l.fn.self lines l.fn.line_count l.text → HasTaken HasReadRecords lines l.text l.rest l.self l.count

abbrev pub decreases-loop-after : goal.decreases-loop-after
decreases-loop-after l = length l.rest
