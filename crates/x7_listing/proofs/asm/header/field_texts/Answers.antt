use Rattle.std.proofs.Common.{decimal}
use Rattle.x7_listing.specs.BitLine.{field_text}
use Rattle.x7_listing.proofs.BitLemmas.{after_a, after_b, after_c, all_cut, line_fields, parted, rest_a, rest_b, rest_c}
use Rattle.x7_listing.proofs.asm.header.field_texts.Goals as goal

pub returns-in_default-at_space : goal.returns-in_default-at_space
returns-in_default-at_space c = λ x held e. c.in_default-at_space.ensures (field_text x.a) (after_a x) (line_fields c.args.line.now c.in-Some.fields.now x c.in-Some.ensures e)

pub returns-in_default-at_space-2 : goal.returns-in_default-at_space-2
returns-in_default-at_space-2 c = λ x held e. c.in_default-at_space-2.ensures (field_text x.b) (after_b x) (rest_a c.args.line.now c.in-Some.fields.now c.in-Some-at_space.a.now c.in-Some-at_space.rest.now x c.in-Some.ensures e c.in-Some-at_space.ensures)

pub returns-in_default-at_space-3 : goal.returns-in_default-at_space-3
returns-in_default-at_space-3 c = λ x held e. c.in_default-at_space-3.ensures (field_text x.c) (after_c x) (rest_b c.args.line.now c.in-Some.fields.now c.in-Some-at_space.a.now c.in-Some-at_space.rest.now x c.in-Some.ensures e c.in-Some-at_space.ensures c.in-Some-at_space-2.b.now c.in-Some-at_space-2.rest.now c.in-Some-at_space-2.ensures)

pub returns-in_default-at_space-4 : goal.returns-in_default-at_space-4
returns-in_default-at_space-4 c = λ x held e. c.in_default-at_space-4.ensures (field_text x.d) (decimal x.data_length) (rest_c c.args.line.now c.in-Some.fields.now c.in-Some-at_space.a.now c.in-Some-at_space.rest.now x c.in-Some.ensures e c.in-Some-at_space.ensures c.in-Some-at_space-2.b.now c.in-Some-at_space-2.rest.now c.in-Some-at_space-2.ensures
    c.in-Some-at_space-3.c.now c.in-Some-at_space-3.rest.now c.in-Some-at_space-3.ensures)

pub returns-in_default-number_of_decimal : goal.returns-in_default-number_of_decimal
returns-in_default-number_of_decimal c = λ x held e. c.in_default-number_of_decimal.ensures x.data_length held.fields_fit.data_length (all_cut c.args.line.now c.in-Some.fields.now c.in-Some-at_space.a.now c.in-Some-at_space.rest.now x c.in-Some.ensures e c.in-Some-at_space.ensures c.in-Some-at_space-2.b.now c.in-Some-at_space-2.rest.now c.in-Some-at_space-2.ensures
    c.in-Some-at_space-3.c.now c.in-Some-at_space-3.rest.now c.in-Some-at_space-3.ensures c.in-Some-at_space-4.d.now c.in-Some-at_space-4.digits.now c.in-Some-at_space-4.ensures).4

pub returns : goal.returns
returns c = parted c.args.line.now c.in-Some.fields.now _ c.in-Some-at_space.rest.now _ c.in-Some-at_space-2.rest.now _ c.in-Some-at_space-3.rest.now _ _ c.in-Some-number_of_decimal.length c.in-Some.ensures c.in-Some-at_space.ensures c.in-Some-at_space-2.ensures
    c.in-Some-at_space-3.ensures c.in-Some-at_space-4.ensures c.in-Some-number_of_decimal.ensures
