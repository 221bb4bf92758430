use Rattle.std.proofs.Common.{◌∷◌, ◌++◌, ◌∙◌, [], refl, append-nil, arith, ap, subst, sym}
use Rattle.x7_text.proofs.LineReaderLemmas.{prefix_on, wants_here}
use Rattle.x7_text.proofs.PieceLemmas.{at_none, at_some, only_line}
use Rattle.x7_mcs.specs.Flash.{after_line, mcs_reading}
use Rattle.x7_mcs.specs.McsLines.{AreGoodMcsLines, HasMcsFault, LinesCameTo}
use Rattle.x7_mcs.specs.Readings.{FailsAsReading}
use Rattle.x7_mcs.proofs.McsLinesLemmas.{line_fails, line_read, line_wants, row_cut, row_is, row_line}
use Rattle.std.proofs.lemmas.Result.{err_from_is_err_and}
use Rattle.x7_mcs.proofs.mcs_lines.McsLines.take_first_line.Goals as goal

pub returns-clause-read : goal.returns-clause-read
returns-clause-read c = λ lines gets.
    let b = c.args.self.now in
    let d = c.take_row.new.self in
    let row = c.in-Some.row in
    let is = row_is c.args.line_number b.context.base row.address b.context.has_ended gets.took.records row.content c.if-not-self.true c.in-Some.ensures.bytes c.in-Some.ensures.content (omega (arith, c.if-row-le-LAST_ROW_ADDRESS.true)) in
    record {
      line = row_line row.address row.content;
      cut = row_cut c.args.text.now c.in-Some.rest.now row.address row.content c.in-Some.ensures.line;
      read = line_read b lines c.args.line_number gets.number gets.took d (row_line row.address row.content) (subst (λ r. LinesCameTo r d) is (c.in_ok-take_row.ensures gets.took.records gets.took.holds));
    }

pub returns-in_err-take_row-clause-read : goal.returns-in_err-take_row-clause-read
returns-in_err-take_row-clause-read c =
    let p = err_from_is_err_and c.from_residual.result c.from_residual.ensures.1 in
    rw (p.1, p.2) (λ lines gets more.
    let b = c.args.self.now in
    let row = c.in-Some.row in
    let line = row_line row.address row.content in
    let rest = c.in-Some.rest.now in
    let is = row_is c.args.line_number b.context.base row.address b.context.has_ended gets.took.records row.content c.if-not-self.true c.in-Some.ensures.bytes c.in-Some.ensures.content (omega (arith, c.if-row-le-LAST_ROW_ADDRESS.true)) in
    let cut = row_cut c.args.text.now rest row.address row.content c.in-Some.ensures.line in
    subst (λ ls. HasMcsFault c.in_err-take_row.field-0.0 (lines ++ ls)) (sym (prefix_on c.args.text.now rest (line ∷ []) cut more))
    (line_fails b lines c.args.line_number gets.number gets.took c.in_err-take_row.field-0.0 line (rest ++ more) (subst (λ r. FailsAsReading r c.in_err-take_row.field-0.0) is (c.in_err-take_row.ensures gets.took.records gets.took.holds))))

pub returns-in_default-clause-left : goal.returns-in_default-clause-left
returns-in_default-clause-left c =
    let line = c.first_line.result.0.now in
    let alone = at_none c.args.text.now line c.first_line.result.1 c.in_default.is c.first_line.ensures in
    alone ∙ ap (λ t. t ∷ []) (sym (only_line c.args.text.now line alone).0)

pub returns-2-clause-read : goal.returns-2-clause-read
returns-2-clause-read c = λ lines gets.
    let b = c.args.self.now in
    let d = c.take_bare_line.new.self in
    let line = c.first_line.result.0.now in
    record {
      line = line;
      cut = (at_some c.args.text.now line c.first_line.result.1 c.in-Some-more.rest c.in-Some-more.is c.first_line.ensures).0;
      read = line_read b lines c.args.line_number gets.number gets.took d line
          (subst (λ l. LinesCameTo (after_line c.args.line_number (mcs_reading b.context.base b.context.has_ended gets.took.records) l) d) c.without_return.ensures (c.in_ok-take_bare_line.ensures gets.took.records gets.took.holds));
    }

pub returns-in_err-take_bare_line-clause-read : goal.returns-in_err-take_bare_line-clause-read
returns-in_err-take_bare_line-clause-read c =
    let p = err_from_is_err_and c.from_residual-in_err-take_bare_line.result c.from_residual-in_err-take_bare_line.ensures.1 in
    rw (p.1, p.2) (λ lines gets more.
    let b = c.args.self.now in
    let line = c.first_line.result.0.now in
    let rest = c.in-Some-more.rest.now in
    let cut = (at_some c.args.text.now line c.first_line.result.1 c.in-Some-more.rest c.in-Some-more.is c.first_line.ensures).0 in
    subst (λ ls. HasMcsFault c.in_err-take_bare_line.field-0.0 (lines ++ ls)) (sym (prefix_on c.args.text.now rest (line ∷ []) cut more))
    (line_fails b lines c.args.line_number gets.number gets.took c.in_err-take_bare_line.field-0.0 line (rest ++ more)
    (subst (λ l. FailsAsReading (after_line c.args.line_number (mcs_reading b.context.base b.context.has_ended gets.took.records) l) c.in_err-take_bare_line.field-0.0) c.without_return.ensures (c.in_err-take_bare_line.ensures gets.took.records gets.took.holds))))

pub returns-in_err-take_row-clause-memory : goal.returns-in_err-take_row-clause-memory
returns-in_err-take_row-clause-memory c =
    let p = err_from_is_err_and c.from_residual.result c.from_residual.ensures.1 in
    rw (p.1, p.2) (λ lines gets want.
    let b = c.args.self.now in
    let row = c.in-Some.row in
    let line = row_line row.address row.content in
    let rest = c.in-Some.rest.now in
    let is = row_is c.args.line_number b.context.base row.address b.context.has_ended gets.took.records row.content c.if-not-self.true c.in-Some.ensures.bytes c.in-Some.ensures.content (omega (arith, c.if-row-le-LAST_ROW_ADDRESS.true)) in
    let cut = row_cut c.args.text.now rest row.address row.content c.in-Some.ensures.line in
    wants_here AreGoodMcsLines lines [] c.args.text.now c.args.text.now line rest refl cut
    (subst (λ ls. AreGoodMcsLines ls line) (sym (append-nil lines))
    (line_wants b lines c.args.line_number gets.number gets.took c.in_err-take_row.field-0.0 line (subst (λ r. FailsAsReading r c.in_err-take_row.field-0.0) is (c.in_err-take_row.ensures gets.took.records gets.took.holds)) want)))

pub returns-in_err-take_bare_line-clause-memory : goal.returns-in_err-take_bare_line-clause-memory
returns-in_err-take_bare_line-clause-memory c =
    let p = err_from_is_err_and c.from_residual-in_err-take_bare_line.result c.from_residual-in_err-take_bare_line.ensures.1 in
    rw (p.1, p.2) (λ lines gets want.
    let b = c.args.self.now in
    let line = c.first_line.result.0.now in
    let rest = c.in-Some-more.rest.now in
    let cut = (at_some c.args.text.now line c.first_line.result.1 c.in-Some-more.rest c.in-Some-more.is c.first_line.ensures).0 in
    wants_here AreGoodMcsLines lines [] c.args.text.now c.args.text.now line rest refl cut
    (subst (λ ls. AreGoodMcsLines ls line) (sym (append-nil lines))
    (line_wants b lines c.args.line_number gets.number gets.took c.in_err-take_bare_line.field-0.0 line
    (subst (λ l. FailsAsReading (after_line c.args.line_number (mcs_reading b.context.base b.context.has_ended gets.took.records) l) c.in_err-take_bare_line.field-0.0) c.without_return.ensures (c.in_err-take_bare_line.ensures gets.took.records gets.took.holds)) want)))
