use Rattle.std.proofs.Common.{List, ℕ, length}
use Rattle.x7_text.specs.LineReader.{GetsText}
use Rattle.x7_text.proofs.LineReaderLemmas.{HasTaken}
use Rattle.x7_text.proofs.line_reader.TakesLines.take_lines.Given as goal

abbrev pub invariant-loop-after : goal.invariant-loop-after
invariant-loop-after g l =
    let t = g.Self.TakesLines in
    (first : _) (lines : List (List ℕ)) → GetsText (t.took first) l.fn.self lines l.fn.line_count l.text → HasTaken (t.took first) lines l.text l.rest l.self l.count

abbrev pub decreases-loop-after : goal.decreases-loop-after
decreases-loop-after g l = length l.rest
