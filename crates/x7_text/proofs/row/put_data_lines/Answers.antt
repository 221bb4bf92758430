use Rattle.std.proofs.Common.{◌*◌, ◌+◌, codes, arith}
use Rattle.x7_words.specs.Word.{words_of_bytes}
use Rattle.x7_text.specs.Row.{line, spaced}
use Rattle.x7_text.proofs.AppendsLemmas.{line_more}
use Rattle.x7_text.proofs.row.put_data_lines.Goals as goal

pub loop-bytes-preserved : goal.loop-bytes-preserved
loop-bytes-preserved c =
    let i = c.loop-bytes.bytes-index in
    line_more (λ bytes. line (codes "data") spaced (words_of_bytes bytes)) c.args.lines.now i (77 * i) (77 * (i + 1)) c.args.text.now c.loop-bytes.text c.put.new.text c.data_line.result c.loop-bytes-test.true c.data_line.ensures (omega arith) c.loop-bytes.invariant c.put.ensures.appends
