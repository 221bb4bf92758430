use Rattle.std.proofs.Common.{◌/◌, ◌++◌, codes, length, ap, sym, ◌∙◌, arith}
use Rattle.std.specs.List.{flat_map}
use Rattle.x7_text.specs.Digits.{hex_byte}
use Rattle.x7_text.specs.Row.{in_line_after, line, open_text}
use Rattle.x7_text.proofs.WholeLineLemmas.{bytes_in_rows, in_two, lines_count, lines_text}
use Rattle.x7_text.proofs.row.put_new_bytes.Goals as goal

pub returns : goal.returns
returns c =
    let items = in_two _ _ _ _ _ _
    (c.put_bytes_lines.ensures.appends.items ∙ ap (λ rows. c.args.text.now.items ++ flat_map (line (codes "bytes ") hex_byte) rows) c.as_chunks.ensures.front)
    (c.put_bytes_in_line.ensures.appends.items ∙ ap (λ bs. c.put_bytes_lines.new.text.items ++ open_text 32 (codes "bytes ") hex_byte 0 bs) c.as_chunks.ensures.back)
    (lines_text 32 (codes "bytes ") hex_byte (λ bs. bs) bytes_in_rows (length c.args.bytes.now / 32) c.args.bytes.now (omega arith)) in
    record {
      count =
          c.put_bytes_in_line.ensures.count ∙ ap (in_line_after 32 0) c.as_chunks.ensures.back
          ∙ sym (lines_count 32 (λ bs. bs) bytes_in_rows (length c.args.bytes.now / 32) c.args.bytes.now (omega arith));
      below = c.put_bytes_in_line.ensures.below;
      appends = record { items = items; within = omega arith; room = omega arith };
    }
