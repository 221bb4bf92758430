use Rattle.std.proofs.Common.{◌≡◌, ◌∷◌, ◌++◌, ◌∙◌, ◌+◌, ◌<◌, [], length, append_assoc, MatchOption, arith, ap, subst, sym}
use Rattle.x7_text.specs.Lines.{split}
use Rattle.x7_text.proofs.LineReaderLemmas.{HasTaken, all_taken, few_taken, prefix_on, one_taken, wants_after}
use Rattle.x7_mcs.specs.McsLines.{AreGoodMcsLines, HasMcsFault, HasReadRecords, TakesFirstLine}
use Rattle.std.proofs.lemmas.Result.{err_from_is_err_and}
use Rattle.x7_mcs.proofs.mcs_lines.McsLinesTakesLines.take_lines.Goals as goal

pub loop-after-preserved : goal.loop-after-preserved
loop-after-preserved c = λ lines gets.
    let text = c.args.text.now in
    let rest = c.loop-after.rest.now in
    let after = c.in-Some.after.now in
    let h : HasTaken HasReadRecords lines text rest c.loop-after.self c.loop-after.count = c.loop-after.invariant lines gets in
    let n : c.saturating_add-next.result ≡ c.loop-after.count + 1 = omega (arith, c.saturating_add-next.ensures, few_taken HasReadRecords lines text rest c.loop-after.self c.loop-after.count c.args.line_count gets.count h, gets.few) in
    let f : TakesFirstLine (lines ++ h.more) rest after c.take_first_line.new.self =
    subst
    (λ found. MatchOption found (HasReadRecords c.take_first_line.new.self (lines ++ h.more)) (λ left. TakesFirstLine (lines ++ h.more) rest left.now c.take_first_line.new.self)) c.in-Some.is
    (c.in_ok-after.ensures.read (lines ++ h.more) (record { number = omega (arith, n, h.counts); took = h.took })) in
    one_taken HasReadRecords lines text rest f.line after c.loop-after.self c.take_first_line.new.self c.loop-after.count c.saturating_add-next.result f.cut h n f.read

pub returns-in_default-clause-read : goal.returns-in_default-clause-read
returns-in_default-clause-read c = λ first lines gets.
    let text = c.args.text.now in
    let rest = c.loop-after.rest.now in
    let h : HasTaken HasReadRecords lines text rest c.loop-after.self c.loop-after.count = c.loop-after.invariant lines gets in
    let n : c.saturating_add-next.result ≡ c.loop-after.count + 1 = omega (arith, c.saturating_add-next.ensures, few_taken HasReadRecords lines text rest c.loop-after.self c.loop-after.count c.args.line_count gets.count h, gets.few) in
    let read : HasReadRecords c.take_first_line.new.self (lines ++ h.more) =
    subst
    (λ found. MatchOption found (HasReadRecords c.take_first_line.new.self (lines ++ h.more)) (λ left. TakesFirstLine (lines ++ h.more) rest left.now c.take_first_line.new.self)) c.in_default.is
    (c.in_ok-after.ensures.read (lines ++ h.more) (record { number = omega (arith, n, h.counts); took = h.took })) in
    let alone : split rest ≡ rest ∷ [] = subst (λ found. MatchOption found (split rest ≡ rest ∷ []) (λ left. length left.now < length rest)) c.in_default.is c.in_ok-after.ensures.left in
    all_taken HasReadRecords lines text rest c.take_first_line.new.self rest c.loop-after.count alone (record { more = h.more; texts = h.texts; took = read; counts = h.counts })

pub returns-in_err-after-clause-read : goal.returns-in_err-after-clause-read
returns-in_err-after-clause-read c =
    let p = err_from_is_err_and c.from_residual.result c.from_residual.ensures.1 in
    rw (p.1, p.2) (λ first lines gets more.
    let text = c.args.text.now in
    let rest = c.loop-after.rest.now in
    let h : HasTaken HasReadRecords lines text rest c.loop-after.self c.loop-after.count = c.loop-after.invariant lines gets in
    let n : c.saturating_add-next.result ≡ c.loop-after.count + 1 = omega (arith, c.saturating_add-next.ensures, few_taken HasReadRecords lines text rest c.loop-after.self c.loop-after.count c.args.line_count gets.count h, gets.few) in
    subst (HasMcsFault c.in_err-after.field-0.0) (append_assoc lines h.more (split (rest ++ more)) ∙ ap (λ ls. lines ++ ls) (sym (prefix_on text rest h.more h.texts more)))
    (c.in_err-after.ensures.read (lines ++ h.more) (record { number = omega (arith, n, h.counts); took = h.took }) more))

pub returns-in_err-after-clause-memory : goal.returns-in_err-after-clause-memory
returns-in_err-after-clause-memory c =
    let p = err_from_is_err_and c.from_residual.result c.from_residual.ensures.1 in
    rw (p.1, p.2) (λ first lines gets want.
    let text = c.args.text.now in
    let rest = c.loop-after.rest.now in
    let h : HasTaken HasReadRecords lines text rest c.loop-after.self c.loop-after.count = c.loop-after.invariant lines gets in
    let n : c.saturating_add-next.result ≡ c.loop-after.count + 1 = omega (arith, c.saturating_add-next.ensures, few_taken HasReadRecords lines text rest c.loop-after.self c.loop-after.count c.args.line_count gets.count h, gets.few) in
    wants_after AreGoodMcsLines lines h.more text rest h.texts (c.in_err-after.ensures.memory (lines ++ h.more) (record { number = omega (arith, n, h.counts); took = h.took }) want))
