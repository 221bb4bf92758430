use Rattle.std.proofs.Common.{◌*◌, codes, take}
use Rattle.std.specs.List.{flat_map}
use Rattle.x7_text.specs.Appends.{Appends}
use Rattle.x7_text.specs.Row.{line, spaced}
use Rattle.x7_words.specs.Word.{words_of_bytes}
use Rattle.x7_text.proofs.row.put_data_lines.Given as goal

abbrev pub invariant-loop-bytes : goal.invariant-loop-bytes
invariant-loop-bytes l =
    Appends l.fn.text l.text (flat_map (λ bytes. line (codes "data") spaced (words_of_bytes bytes)) (take l.bytes-index l.lines)) (77 * l.bytes-index)
