use Rattle.std.proofs.Common.{◌≡◌, ◌∷◌, ◌++◌, ◌+◌, ◌-◌, length, take, drop, arith}
use Rattle.x7_text.specs.Lines.{split}
use Rattle.x7_text.proofs.LineReaderLemmas.{HasTaken, all_taken, at_fault, few_taken, one_taken, wants_here}
use Rattle.x7_text.proofs.PieceLemmas.{at_none, at_some}
use Rattle.x7_listing.specs.Assembling.{HasReadWithRoom, HasAsmFault, IsFirstOrGood}
use Rattle.x7_listing.proofs.asm.AsmLinesLemmas.{at_once_taken, handed, handed_on}
use Rattle.x7_listing.proofs.asm.fast.QuickLemmas.{left_from}
use Rattle.x7_listing.proofs.asm.lines.AsmLinesTakesLines.take_lines.Goals as goal

pub loop-after-preserved : goal.loop-after-preserved
loop-after-preserved c = λ lines gets.
    let b = c.loop-after.self in
    let text = c.args.text.now in
    let rest = c.loop-after.rest.now in
    let quick = c.read_at_once-quick.result in
    let now = c.read_at_once-quick.new.self in
    let e = c.read_at_once-quick.ensures in
    let left = take (length rest - quick.size) (drop quick.size rest) in
    let line = c.next_line.result.0.now in
    let h : HasTaken HasReadWithRoom lines text rest b c.loop-after.count = c.loop-after.invariant lines gets in
    let room = few_taken HasReadWithRoom lines text rest b c.loop-after.count c.args.line_count gets.count h in
    let up : c.saturating_add-count.result ≡ c.loop-after.count + quick.count = omega (arith, c.saturating_add-count.ensures, room, gets.few, e.within, e.count_within) in
    let mid : HasTaken HasReadWithRoom lines text left now c.saturating_add-count.result =
    at_once_taken b now text rest left quick.count c.loop-after.count c.saturating_add-count.result quick.size lines (left_from quick.size rest e.within) e.appends e.start e.checker e.no_first_line e.most e.room up h in
    let after = c.in-Some.after.now in
    let cut : split left ≡ line ∷ split after = (at_some left line c.next_line.result.1 c.in-Some.after c.in-Some.is c.next_line.ensures).0 in
    let n : c.saturating_add-count-in-loop-after.result ≡ c.saturating_add-count.result + 1 = omega (arith, c.saturating_add-count-in-loop-after.ensures, few_taken HasReadWithRoom lines text left now c.saturating_add-count.result c.args.line_count gets.count mid, gets.few) in
    one_taken HasReadWithRoom lines text left line after now c.read_next.new.self c.saturating_add-count.result c.saturating_add-count-in-loop-after.result cut mid n
    (c.in_ok-read_next.ensures.read (lines ++ mid.more) (record { number = omega (arith, n, mid.counts); took = mid.took }))

pub returns-in_default-clause-read : goal.returns-in_default-clause-read
returns-in_default-clause-read c = λ first lines gets.
    let b = c.loop-after.self in
    let text = c.args.text.now in
    let rest = c.loop-after.rest.now in
    let quick = c.read_at_once-quick.result in
    let now = c.read_at_once-quick.new.self in
    let e = c.read_at_once-quick.ensures in
    let left = take (length rest - quick.size) (drop quick.size rest) in
    let line = c.next_line.result.0.now in
    let h : HasTaken HasReadWithRoom lines text rest b c.loop-after.count = c.loop-after.invariant lines gets in
    let room = few_taken HasReadWithRoom lines text rest b c.loop-after.count c.args.line_count gets.count h in
    let up : c.saturating_add-count.result ≡ c.loop-after.count + quick.count = omega (arith, c.saturating_add-count.ensures, room, gets.few, e.within, e.count_within) in
    let mid : HasTaken HasReadWithRoom lines text left now c.saturating_add-count.result =
    at_once_taken b now text rest left quick.count c.loop-after.count c.saturating_add-count.result quick.size lines (left_from quick.size rest e.within) e.appends e.start e.checker e.no_first_line e.most e.room up h in
    all_taken HasReadWithRoom lines text left now line c.saturating_add-count.result (at_none left line c.next_line.result.1 c.in_default.is c.next_line.ensures) mid

pub returns-in_err-read_next-clause-read : goal.returns-in_err-read_next-clause-read
returns-in_err-read_next-clause-read c = λ first lines gets.
    let b = c.loop-after.self in
    let text = c.args.text.now in
    let rest = c.loop-after.rest.now in
    let quick = c.read_at_once-quick.result in
    let now = c.read_at_once-quick.new.self in
    let e = c.read_at_once-quick.ensures in
    let left = take (length rest - quick.size) (drop quick.size rest) in
    let line = c.next_line.result.0.now in
    let h : HasTaken HasReadWithRoom lines text rest b c.loop-after.count = c.loop-after.invariant lines gets in
    let room = few_taken HasReadWithRoom lines text rest b c.loop-after.count c.args.line_count gets.count h in
    let up : c.saturating_add-count.result ≡ c.loop-after.count + quick.count = omega (arith, c.saturating_add-count.ensures, room, gets.few, e.within, e.count_within) in
    let mid : HasTaken HasReadWithRoom lines text left now c.saturating_add-count.result =
    at_once_taken b now text rest left quick.count c.loop-after.count c.saturating_add-count.result quick.size lines (left_from quick.size rest e.within) e.appends e.start e.checker e.no_first_line e.most e.room up h in
    let after = c.in-Some.after.now in
    let cut : split left ≡ line ∷ split after = (at_some left line c.next_line.result.1 c.in-Some.after c.in-Some.is c.next_line.ensures).0 in
    let n : c.saturating_add-count-in-loop-after.result ≡ c.saturating_add-count.result + 1 = omega (arith, c.saturating_add-count-in-loop-after.ensures, few_taken HasReadWithRoom lines text left now c.saturating_add-count.result c.args.line_count gets.count mid, gets.few) in
    handed _ _ c.from_residual.result c.in_err-read_next.field-0.0 c.from_residual.ensures.1
    (at_fault HasReadWithRoom lines text left (HasAsmFault c.in_err-read_next.field-0.0) line after now c.saturating_add-count.result cut mid (λ more. c.in_err-read_next.ensures.read (lines ++ mid.more) (record { number = omega (arith, n, mid.counts); took = mid.took }) (split more)))

pub returns-in_err-read_next-clause-memory : goal.returns-in_err-read_next-clause-memory
returns-in_err-read_next-clause-memory c = λ first lines gets.
    let b = c.loop-after.self in
    let text = c.args.text.now in
    let rest = c.loop-after.rest.now in
    let quick = c.read_at_once-quick.result in
    let now = c.read_at_once-quick.new.self in
    let e = c.read_at_once-quick.ensures in
    let left = take (length rest - quick.size) (drop quick.size rest) in
    let line = c.next_line.result.0.now in
    let h : HasTaken HasReadWithRoom lines text rest b c.loop-after.count = c.loop-after.invariant lines gets in
    let room = few_taken HasReadWithRoom lines text rest b c.loop-after.count c.args.line_count gets.count h in
    let up : c.saturating_add-count.result ≡ c.loop-after.count + quick.count = omega (arith, c.saturating_add-count.ensures, room, gets.few, e.within, e.count_within) in
    let mid : HasTaken HasReadWithRoom lines text left now c.saturating_add-count.result =
    at_once_taken b now text rest left quick.count c.loop-after.count c.saturating_add-count.result quick.size lines (left_from quick.size rest e.within) e.appends e.start e.checker e.no_first_line e.most e.room up h in
    let after = c.in-Some.after.now in
    let cut : split left ≡ line ∷ split after = (at_some left line c.next_line.result.1 c.in-Some.after c.in-Some.is c.next_line.ensures).0 in
    let n : c.saturating_add-count-in-loop-after.result ≡ c.saturating_add-count.result + 1 = omega (arith, c.saturating_add-count-in-loop-after.ensures, few_taken HasReadWithRoom lines text left now c.saturating_add-count.result c.args.line_count gets.count mid, gets.few) in
    handed_on _ c.from_residual.result c.in_err-read_next.field-0.0 c.from_residual.ensures.1
    (λ want. wants_here IsFirstOrGood lines mid.more text left line after mid.texts cut (c.in_err-read_next.ensures.memory (lines ++ mid.more) (record { number = omega (arith, n, mid.counts); took = mid.took }) want))
