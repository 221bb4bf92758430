use Rattle.std.proofs.Common.{ℕ, ◌∷◌, [], ◌++◌, ◌∙◌, ap, codes, decimal}
use Rattle.std.proofs.lemmas.Result.{on_ok_weaker}
use Rattle.x7_listing.specs.BitLine.{field_text}
use Rattle.x7_listing.proofs.BitLemmas.{line_made}
use Rattle.x7_listing.proofs.line.bit_line.append_header.Goals as goal

pub returns : goal.returns
returns c =
    let head = c.args.head.now in
    on_ok_weaker c.put_number.result (λ e. e ∙ ap (λ (n : ℕ). c.append_field-4.new.text.items ++ decimal n ++ 10 ∷ []) c.from.ensures ∙ ap (λ t. t ++ 10 ∷ [])
    (line_made c.args.text.now.items (codes "bit ") (field_text head.a.now) (field_text head.b.now) (field_text head.c.now) (field_text head.d.now) (decimal head.length)
    c.put_text.new.text.items c.append_field.new.text.items c.append_field-2.new.text.items c.append_field-3.new.text.items c.append_field-4.new.text.items
    c.in_ok-put_text.ensures.appends c.in_ok-append_field.ensures c.in_ok-append_field-2.ensures c.in_ok-append_field-3.ensures c.in_ok-append_field-4.ensures))
    c.put_number.ensures.appends
