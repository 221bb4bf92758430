use Rattle.std.proofs.Common.{◌+◌, ◌*◌, ◌<◌, ◌++◌, [], ◌∙◌, ap, arith, refl, take, List, ℕ}
use Rattle.x7_text.proofs.WindowLemmas.{first_words, first_words_count, whole_count, whole_words}
use Rattle.x7_listing.proofs.list.fast.short_runs.put_in_row.Goals as goal

pub returns-then-count-eq8-clause-shows : goal.returns-then-count-eq8-clause-shows
returns-then-count-eq8-clause-shows c = record {
  text = c.put_whole.ensures.appends ∙ ap (λ (t : List ℕ). take c.args.len c.args.sheet.now ++ t) (c.data_line-line.ensures ∙ whole_words c.args.bytes.now c.args.count c.told-bytes c.if-count-eq8.true);
  count = whole_count c.args.bytes.now c.args.count c.told-bytes c.if-count-eq8.true;
}

pub returns-clause-shows : goal.returns-clause-shows
returns-clause-shows c =
    let few : c.args.count < 8 = omega (arith, c.requires.in_row, c.if-count-eq8.false) in
    record {
      text = c.put_prefix.ensures.appends
          ∙ ap (λ (t : List ℕ). take c.args.len c.args.sheet.now ++ t)
          (first_words [] c.data_line-line.result c.data_line-line.result (take (4 + 9 * c.args.count) c.data_line-line.result) c.args.bytes.now
          (4 + 9 * c.args.count) c.args.count c.requires.at_least_one few c.told-bytes c.data_line-line.ensures (omega arith) refl refl);
      count = first_words_count c.args.bytes.now c.args.count c.told-bytes few;
    }
