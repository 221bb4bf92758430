use Rattle.std.proofs.Common.{◌≡◌, ◌∷◌, ◌++◌, ◌+◌, arith}
use Rattle.x7_text.specs.Lines.{split}
use Rattle.x7_text.proofs.LineReaderLemmas.{HasTaken, at_fault, few_taken, one_taken, wants_here}
use Rattle.x7_text.proofs.PieceLemmas.{at_some}
use Rattle.std.proofs.lemmas.Result.{err_from_is_err_and}
use Rattle.x7_text.proofs.line_reader.TakesLines.take_lines.Goals as goal

pub loop-after-preserved : goal.loop-after-preserved
loop-after-preserved g c = λ first lines gets.
    let taken = g.Self.TakesLines.took first in
    let text = c.args.text.now in
    let rest = c.loop-after.rest.now in
    let line = c.first_line.result.0.now in
    let h : HasTaken taken lines text rest c.loop-after.self c.loop-after.count = c.loop-after.invariant first lines gets in
    let e : split rest ≡ line ∷ split c.in-Some.after.now = (at_some rest line c.first_line.result.1 c.in-Some.after c.in-Some.is c.first_line.ensures).0 in
    let n : c.saturating_add-count.result ≡ c.loop-after.count + 1 = omega (arith, c.saturating_add-count.ensures, few_taken taken lines text rest c.loop-after.self c.loop-after.count c.args.line_count gets.count h, gets.few) in
    one_taken taken lines text rest line c.in-Some.after.now c.loop-after.self c.take_line.new.self c.loop-after.count c.saturating_add-count.result e h n
    (c.in_ok-take_line.ensures.read first (lines ++ h.more) (record { number = omega (arith, n, h.counts); took = h.took }))

pub returns-in_err-take_line-clause-read : goal.returns-in_err-take_line-clause-read
returns-in_err-take_line-clause-read g c =
    let p = err_from_is_err_and c.from_residual.result c.from_residual.ensures.1 in
    rw (p.1, p.2) (λ first lines gets.
    let taken = g.Self.TakesLines.took first in
    let text = c.args.text.now in
    let rest = c.loop-after.rest.now in
    let line = c.first_line.result.0.now in
    let h : HasTaken taken lines text rest c.loop-after.self c.loop-after.count = c.loop-after.invariant first lines gets in
    let e : split rest ≡ line ∷ split c.in-Some.after.now = (at_some rest line c.first_line.result.1 c.in-Some.after c.in-Some.is c.first_line.ensures).0 in
    let n : c.saturating_add-count.result ≡ c.loop-after.count + 1 = omega (arith, c.saturating_add-count.ensures, few_taken taken lines text rest c.loop-after.self c.loop-after.count c.args.line_count gets.count h, gets.few) in
    at_fault taken lines text rest (g.Self.TakesLines.fails first c.in_err-take_line.field-0.0) line c.in-Some.after.now c.loop-after.self c.loop-after.count e h
    (c.in_err-take_line.ensures.read first (lines ++ h.more) (record { number = omega (arith, n, h.counts); took = h.took })))

pub returns-in_err-take_line-clause-memory : goal.returns-in_err-take_line-clause-memory
returns-in_err-take_line-clause-memory g c =
    let p = err_from_is_err_and c.from_residual.result c.from_residual.ensures.1 in
    rw (p.1, p.2) (λ first lines gets want.
    let taken = g.Self.TakesLines.took first in
    let text = c.args.text.now in
    let rest = c.loop-after.rest.now in
    let line = c.first_line.result.0.now in
    let h : HasTaken taken lines text rest c.loop-after.self c.loop-after.count = c.loop-after.invariant first lines gets in
    let e : split rest ≡ line ∷ split c.in-Some.after.now = (at_some rest line c.first_line.result.1 c.in-Some.after c.in-Some.is c.first_line.ensures).0 in
    let n : c.saturating_add-count.result ≡ c.loop-after.count + 1 = omega (arith, c.saturating_add-count.ensures, few_taken taken lines text rest c.loop-after.self c.loop-after.count c.args.line_count gets.count h, gets.few) in
    wants_here (g.Self.TakesLines.wants first) lines h.more text rest line c.in-Some.after.now h.texts e
    (c.in_err-take_line.ensures.memory first (lines ++ h.more) (record { number = omega (arith, n, h.counts); took = h.took }) want))
