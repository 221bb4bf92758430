use Rattle.std.proofs.Common.{◌≡◌, codes, ap, sym, ◌∙◌, arith}
use Rattle.x7_text.specs.Digits.{hex_byte}
use Rattle.x7_text.specs.Row.{in_line_after, open_text}
use Rattle.x7_text.proofs.WholeLineLemmas.{filled_count, filled_text, in_line_after_full, in_two}
use Rattle.x7_text.proofs.row.put_bytes.Goals as goal

pub returns-clause-count : goal.returns-clause-count
returns-clause-count c =
    let prefix = c.split_at.result.0.now in
    let rest = c.split_at.result.1.now in
    let filled : in_line_after 32 c.args.in_line prefix ≡ 0 = in_line_after_full 32 c.args.in_line prefix c.requires.open (omega arith) in
    c.put_new_bytes-2.ensures.count ∙ sym (ap (in_line_after 32 c.args.in_line) c.split_at.ensures.by_index.0 ∙ filled_count 32 c.args.in_line prefix rest filled)

pub returns-clause-appends : goal.returns-clause-appends
returns-clause-appends c =
    let prefix = c.split_at.result.0.now in
    let rest = c.split_at.result.1.now in
    let filled : in_line_after 32 c.args.in_line prefix ≡ 0 = in_line_after_full 32 c.args.in_line prefix c.requires.open (omega arith) in
    let items = in_two _ _ _ _ _ _ c.put_each_byte.ensures.appends.items c.put_new_bytes-2.ensures.appends.items
    (ap (open_text 32 (codes "bytes ") hex_byte c.args.in_line) c.split_at.ensures.by_index.0 ∙ filled_text 32 (codes "bytes ") hex_byte c.args.in_line prefix rest filled) in
    record { items = items; within = omega arith; room = omega arith }
