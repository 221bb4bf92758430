use Rattle.std.proofs.Common.{◌*◌, ◌+◌, codes, arith}
use Rattle.x7_text.specs.Digits.{hex_byte}
use Rattle.x7_text.specs.Row.{line}
use Rattle.x7_text.proofs.AppendsLemmas.{line_more}
use Rattle.x7_text.proofs.row.put_bytes_lines.Goals as goal

pub loop-bytes-preserved : goal.loop-bytes-preserved
loop-bytes-preserved c =
    let i = c.loop-bytes.bytes-index in
    line_more (line (codes "bytes ") hex_byte) c.args.lines.now i (71 * i) (71 * (i + 1)) c.args.text.now c.loop-bytes.text c.put.new.text c.bytes_line.result c.loop-bytes-test.true c.bytes_line.ensures (omega arith) c.loop-bytes.invariant c.put.ensures.appends
