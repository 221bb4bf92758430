use Rattle.std.proofs.Common.{Err, arith, ap, drop, inl, inr, ◌∙◌, length, length-append, refl}
use Rattle.x7_header.specs.Header.{contents_of, header_bytes}
use Rattle.x7_forms.proofs.BeginningLemmas.{cut_refused, few_in_header, headed, other_refused, unheaded}
use Rattle.x7_forms.proofs.beginning.judge.Goals as goal

pub returns-in_ok-header_line-in-Ok-clause-judged : goal.returns-in_ok-header_line-in-Ok-clause-judged
returns-in_ok-header_line-in-Ok-clause-judged c =
    let x = contents_of c.in-Ok.head in
    let found = c.in-Ok.ensures.found in
    record {
      within = omega (arith, found.2, ap length found.1, length-append (header_bytes x) (drop c.in-Ok.head.size c.args.bytes.now));
      begins = headed c.args.bytes.now c.in_ok-header_line-in-Ok.field-0.items x c.in-Ok.head.size c.args.last found.0 found.1 found.2 c.in_ok-header_line-in-Ok.ensures;
      data_begin = inl (x, found.0, found.1, found.2);
    }

pub returns-in-Err-Raw-clause-judged : goal.returns-in-Err-Raw-clause-judged
returns-in-Err-Raw-clause-judged c =
    let raw = c.in-Err-Raw.ensures.raw.0 (ap Err c.in-Err-Raw.field-0-is) in
    record { within = omega arith; begins = unheaded c.args.bytes.now c.new.result.items 0 c.args.last c.requires.long raw c.new.ensures.items refl; data_begin = inr (refl, raw) }

pub returns-in-Err-Field-clause-refused : goal.returns-in-Err-Field-clause-refused
returns-in-Err-Field-clause-refused c =
    let there = (c.in-Err-Field.ensures.field c.in-Err-Field.place).0 (ap Err c.in-Err-Field.field-0-is) in
    inr (c.in-Err-Field.place, c.refused_at.ensures, other_refused c.args.bytes.now c.args.last c.in-Err-Field.place there, inr there)

pub returns-else-last-clause-judged : goal.returns-else-last-clause-judged
returns-else-last-clause-judged c =
    let inside = ((c.in-Err-Cut.ensures.cut c.in-Err-Cut.place).0 (ap Err c.in-Err-Cut.field-0-is)).1 in
    (c.if-last.false, few_in_header c.args.bytes.now inside, inside)

pub returns-then-last-clause-refused : goal.returns-then-last-clause-refused
returns-then-last-clause-refused c =
    let here = (c.in-Err-Cut.ensures.cut c.in-Err-Cut.place).0 (ap Err c.in-Err-Cut.field-0-is) in
    inr (c.in-Err-Cut.place, c.refused_at-then-last.ensures, cut_refused c.args.bytes.now c.args.last c.in-Err-Cut.place c.if-last.true (c.in-Err-Cut.ensures.exact ∙ ap Err c.in-Err-Cut.field-0-is), inl here.0)
