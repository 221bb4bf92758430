use Rattle.std.proofs.Common.{◌*◌, take}
use Rattle.std.specs.List.{flat_map}
use Rattle.x7_text.specs.Appends.{Appends}
use Rattle.x7_text.specs.Digits.{hex_word}
use Rattle.x7_report.proofs.frames.put_digits_one_by_one.Given as goal

abbrev pub invariant-loop-word : goal.invariant-loop-word
invariant-loop-word l = Appends l.fn.out l.out (flat_map hex_word (take l.word-index l.words)) (8 * l.word-index)
