use Rattle.std.proofs.Common.{◌/◌, ◌++◌, List, ℕ, codes, length, ap, sym, ◌∙◌, arith}
use Rattle.std.specs.List.{flat_map}
use Rattle.x7_text.specs.Row.{in_line_after, line, open_text, spaced}
use Rattle.x7_text.proofs.WholeLineLemmas.{in_two, lines_count, lines_text, words_in_rows}
use Rattle.x7_words.specs.Word.{words_of_bytes}
use Rattle.x7_text.proofs.row.put_new_words.Goals as goal

pub returns : goal.returns
returns c =
    let items = in_two _ _ _ _ _ _
    (c.put_data_lines.ensures.appends.items ∙ ap (λ rows. c.args.text.now.items ++ flat_map (λ (row : List ℕ). line (codes "data") spaced (words_of_bytes row)) rows) c.as_chunks.ensures.front)
    (c.put_each_word.ensures.appends.items ∙ ap (λ bs. c.put_data_lines.new.text.items ++ open_text 8 (codes "data") spaced 0 (words_of_bytes bs)) c.as_chunks.ensures.back)
    (lines_text 8 (codes "data") spaced words_of_bytes words_in_rows (length c.args.bytes.now / 32) c.args.bytes.now (omega arith)) in
    record {
      count =
          c.put_each_word.ensures.count ∙ ap (λ bs. in_line_after 8 0 (words_of_bytes bs)) c.as_chunks.ensures.back
          ∙ sym (lines_count 8 words_of_bytes words_in_rows (length c.args.bytes.now / 32) c.args.bytes.now (omega arith));
      below = c.put_each_word.ensures.below;
      appends = record { items = items; within = omega arith; room = omega arith };
    }
