use Rattle.std.proofs.Common.{◌*◌, codes, take}
use Rattle.std.specs.List.{flat_map}
use Rattle.x7_text.specs.Appends.{Appends}
use Rattle.x7_text.specs.Digits.{hex_byte}
use Rattle.x7_text.specs.Row.{line}
use Rattle.x7_text.proofs.row.put_bytes_lines.Given as goal

abbrev pub invariant-loop-bytes : goal.invariant-loop-bytes
invariant-loop-bytes l = Appends l.fn.text l.text (flat_map (line (codes "bytes ") hex_byte) (take l.bytes-index l.lines)) (71 * l.bytes-index)
