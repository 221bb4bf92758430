use Rattle.std.proofs.Common.{◌++◌, ap, arith, codes, take, ◌∙◌, List, ℕ}
use Rattle.x7_words.specs.Word.{words_of_bytes}
use Rattle.x7_text.specs.Row.{in_line_after, open_text, spaced}
use Rattle.x7_text.proofs.WindowLemmas.{first_row, in_one_row, second_row, two_rows, two_rows_count}
use Rattle.x7_listing.proofs.list.fast.short_runs.put_words.Goals as goal

pub returns-then-count-le8-clause-shows : goal.returns-then-count-le8-clause-shows
returns-then-count-le8-clause-shows c =
    let same = in_one_row c.args.bytes.now _ c.args.count c.if-count-le8.true (first_row _ c.args.bytes.now c.told-bytes c.as_chunks.ensures.front) in
    record {
      text = c.put_in_row.ensures.shows.text ∙ ap (λ (t : List ℕ). take c.args.len c.args.sheet.now ++ open_text 8 (codes "data") spaced 0 (words_of_bytes t)) same;
      count = c.put_in_row.ensures.shows.count ∙ ap (λ t. in_line_after 8 0 (words_of_bytes t)) same;
    }

pub returns-clause-shows : goal.returns-clause-shows
returns-clause-shows c =
    let first = first_row _ c.args.bytes.now c.told-bytes c.as_chunks.ensures.front in
    let second = second_row _ c.args.bytes.now c.told-bytes c.as_chunks.ensures.front in
    record {
      text = two_rows c.args.bytes.now _ _ (take c.args.len c.args.sheet.now) (take c.put_whole-start.result c.put_whole-start.new.sheet) _ c.data_line.result
          c.args.count c.told-bytes (omega (arith, c.if-count-le8.false)) c.requires.in_two_rows first second c.data_line.ensures c.put_whole-start.ensures.appends
          c.put_in_row-2.ensures.shows.text;
      count = two_rows_count c.args.bytes.now _ _ c.args.count _ c.told-bytes (omega (arith, c.if-count-le8.false)) c.requires.in_two_rows first second c.put_in_row-2.ensures.shows.count;
    }
