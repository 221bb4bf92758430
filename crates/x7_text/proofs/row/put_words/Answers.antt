use Rattle.std.proofs.Common.{◌≡◌, ◌-◌, ◌*◌, ◌++◌, codes, length, ap, sym, ◌∙◌, arith}
use Rattle.x7_text.specs.Row.{in_line_after, open_text, spaced}
use Rattle.x7_text.proofs.WholeLineLemmas.{filled_count, filled_text, in_line_after_full, in_two}
use Rattle.x7_words.proofs.WordLemmas.{length_words, words_of_bytes_append}
use Rattle.x7_words.specs.Word.{words_of_bytes}
use Rattle.x7_text.proofs.row.put_words.Goals as goal

pub returns-clause-count : goal.returns-clause-count
returns-clause-count c =
    let prefix = c.split_at.result.0.now in
    let rest = c.split_at.result.1.now in
    let open_words = 8 - c.args.in_line in
    let whole : length prefix ≡ 4 * open_words = omega arith in
    let parts : words_of_bytes c.args.bytes.now ≡ words_of_bytes prefix ++ words_of_bytes rest = ap words_of_bytes c.split_at.ensures.by_index.0 ∙ words_of_bytes_append open_words prefix rest whole in
    let filled : in_line_after 8 c.args.in_line (words_of_bytes prefix) ≡ 0 = in_line_after_full 8 c.args.in_line (words_of_bytes prefix) c.requires.open (omega (arith, length_words prefix open_words whole)) in
    c.put_new_words-2.ensures.count ∙ sym (ap (in_line_after 8 c.args.in_line) parts ∙ filled_count 8 c.args.in_line (words_of_bytes prefix) (words_of_bytes rest) filled)

pub returns-clause-appends : goal.returns-clause-appends
returns-clause-appends c =
    let prefix = c.split_at.result.0.now in
    let rest = c.split_at.result.1.now in
    let open_words = 8 - c.args.in_line in
    let whole : length prefix ≡ 4 * open_words = omega arith in
    let parts : words_of_bytes c.args.bytes.now ≡ words_of_bytes prefix ++ words_of_bytes rest = ap words_of_bytes c.split_at.ensures.by_index.0 ∙ words_of_bytes_append open_words prefix rest whole in
    let filled : in_line_after 8 c.args.in_line (words_of_bytes prefix) ≡ 0 = in_line_after_full 8 c.args.in_line (words_of_bytes prefix) c.requires.open (omega (arith, length_words prefix open_words whole)) in
    let items = in_two _ _ _ _ _ _ c.put_each_word-2.ensures.appends.items c.put_new_words-2.ensures.appends.items
    (ap (open_text 8 (codes "data") spaced c.args.in_line) parts ∙ filled_text 8 (codes "data") spaced c.args.in_line (words_of_bytes prefix) (words_of_bytes rest) filled) in
    record { items = items; within = omega arith; room = omega arith }
