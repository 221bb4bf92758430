use Rattle.std.proofs.Common.{arith}
use Rattle.x7_listing.proofs.BitLemmas.{contents, header_made, header_short, is_field, lent_header, none_of, some_of, texts_are}
use Rattle.x7_listing.proofs.asm.header.header_of_line.Goals as goal

pub returns-in_default-2 : goal.returns-in_default-2
returns-in_default-2 c = record {
  found = λ x held e.
      let cut = texts_are c.args.line.now _ _ _ _ _ x c.in-Some.ensures e in
      none_of _ _ c.in_ok-a.field-0 c.in_default-2.is c.in_ok-a.ensures x.a x.b (is_field x.a held.a held.fields_fit.a) (is_field x.b held.b held.fields_fit.b) cut.0 cut.1;
  most = tt;
}

pub returns-in_default-3 : goal.returns-in_default-3
returns-in_default-3 c = record {
  found = λ x held e.
      let cut = texts_are c.args.line.now _ _ _ _ _ x c.in-Some.ensures e in
      none_of _ _ c.in_ok-c.field-0 c.in_default-3.is c.in_ok-c.ensures x.c x.d (is_field x.c held.c held.fields_fit.c) (is_field x.d held.d held.fields_fit.d) cut.2 cut.3;
  most = tt;
}

pub returns : goal.returns
returns c =
    let ab = some_of _ _ c.in_ok-a.field-0 _ c.in-Some-2.is c.in_ok-a.ensures in
    let cd = some_of _ _ c.in_ok-c.field-0 _ c.in-Some-3.is c.in_ok-c.ensures in
    let is = lent_header c.in-Some-2.a.items c.in-Some-2.b.items c.in-Some-3.c.items c.in-Some-3.d.items c.deref.result.now c.deref-2.result.now c.deref-3.result.now
    c.deref-4.result.now c.in-Some.texts.length c.in_ok-write_header.field-0.items c.deref.ensures.value c.deref-2.ensures.value c.deref-3.ensures.value
    c.deref-4.ensures.value c.in_ok-write_header.ensures.bytes in
    let made = header_made c.args.line.now _ _ _ _ (contents c.in-Some-2.a.items c.in-Some-2.b.items c.in-Some-3.c.items c.in-Some-3.d.items c.in-Some.texts.length)
    c.in_ok-write_header.field-0.items c.in-Some.ensures ab.0 ab.1 cd.0 cd.1 is in
    record { found = made; most = omega (arith, c.in_ok-write_header.field-0.ok.0, header_short c.args.line.now c.in_ok-write_header.field-0.items made) }
