use Rattle.std.proofs.Common.{◌++◌, ◌∙◌, ap, arith, codes, refl}
use Rattle.x7_text.proofs.DigitLemmas.{refuted}
use Rattle.x7_listing.specs.Line.{Cmd, Nop, Read, Read2, Sync, Word, Write, Write2}
use Rattle.x7_listing.proofs.LineLemmas.{no_cmd, no_read, no_read2, no_word, no_word_line, no_write, no_write2}
use Rattle.x7_listing.proofs.asm.reading.word_of_line.Goals as goal

pub returns-then-is_same : goal.returns-then-is_same
returns-then-is_same c = (Nop, (tt, tt), c.is_same.ensures.0 c.if-is_same.true, refl)

pub returns-then-is_same-2 : goal.returns-then-is_same-2
returns-then-is_same-2 c = (Sync, (tt, tt), c.is_same-2.ensures.0 c.if-is_same-2.true, refl)

pub returns-in_err-register : goal.returns-in_err-register
returns-in_err-register c = rw c.from_residual.ensures (no_write c.args.line.now c.in-Some.fields.now c.in-Some.ensures c.in_err-register.ensures)

pub returns-in-Some : goal.returns-in-Some
returns-in-Some c = (
  Write c.in_ok-register.register c.in_ok-register.count,
  (tt, c.in_ok-register.ensures.0),
  c.in-Some.ensures ∙ ap (λ s. codes "write " ++ s) c.in_ok-register.ensures.1,
  c.type1_write_header.ensures,
)

pub returns-in-Some-after : goal.returns-in-Some-after
returns-in-Some-after c =
    let named = c.in_ok-code.ensures.named in
    (Cmd named.command, (tt, tt), c.in-Some-after.ensures ∙ ap (λ s. codes "cmd " ++ s) named.name, c.from.ensures ∙ named.same_code)

pub returns-in-Some-after-2 : goal.returns-in-Some-after-2
returns-in-Some-after-2 c = (Word c.in_ok-word.word, (tt, omega arith), c.in-Some-after-2.ensures ∙ ap (λ s. codes "word " ++ s) c.in_ok-word.ensures, refl)

pub returns-in_err-register-2 : goal.returns-in_err-register-2
returns-in_err-register-2 c = rw c.from_residual-in_err-register-2.ensures (no_read c.args.line.now c.in-Some-after-3.fields.now c.in-Some-after-3.ensures c.in_err-register-2.ensures)

pub returns-in-Some-after-3 : goal.returns-in-Some-after-3
returns-in-Some-after-3 c = (
  Read c.in_ok-register-2.register c.in_ok-register-2.count,
  (tt, c.in_ok-register-2.ensures.0),
  c.in-Some-after-3.ensures ∙ ap (λ s. codes "read " ++ s) c.in_ok-register-2.ensures.1,
  c.type1_read_header.ensures,
)

pub returns-in-Some-after-4 : goal.returns-in-Some-after-4
returns-in-Some-after-4 c = (Write2 c.in_ok-count.count, (tt, c.in_ok-count.ensures.0), c.in-Some-after-4.ensures ∙ ap (λ s. codes "write2 " ++ s) c.in_ok-count.ensures.1, c.type2_write_header.ensures)

pub returns-in-Some-after-5 : goal.returns-in-Some-after-5
returns-in-Some-after-5 c = (Read2 c.in_ok-count-2.count, (tt, c.in_ok-count-2.ensures.0), c.in-Some-after-5.ensures ∙ ap (λ s. codes "read2 " ++ s) c.in_ok-count-2.ensures.1, c.type2_read_header.ensures)

pub returns-in_err-code : goal.returns-in_err-code
returns-in_err-code c = rw c.from_residual-in_err-code.ensures (no_cmd c.args.line.now c.in-Some-after.name.now c.in-Some-after.ensures c.in_err-code.ensures.unnamed)

pub returns-in_err-word : goal.returns-in_err-word
returns-in_err-word c = rw c.from_residual-in_err-word.ensures (no_word c.args.line.now c.in-Some-after-2.digits.now c.in-Some-after-2.ensures c.in_err-word.ensures)

pub returns-in_err-count : goal.returns-in_err-count
returns-in_err-count c = rw c.from_residual-in_err-count.ensures (no_write2 c.args.line.now c.in-Some-after-4.digits.now c.in-Some-after-4.ensures c.in_err-count.ensures)

pub returns-in_err-count-2 : goal.returns-in_err-count-2
returns-in_err-count-2 c = rw c.from_residual-in_err-count-2.ensures (no_read2 c.args.line.now c.in-Some-after-5.digits.now c.in-Some-after-5.ensures c.in_err-count-2.ensures)

pub returns : goal.returns
returns c =
    no_word_line c.args.line.now c.in_default-after-2.ensures c.in_default-after.ensures c.in_default.ensures c.in_default-after-3.ensures c.in_default-after-4.ensures c.in_default-after-5.ensures
    (λ e. refuted c.is_same.result c.if-is_same.false (c.is_same.ensures.1 e)) (λ e. refuted c.is_same-2.result c.if-is_same-2.false (c.is_same-2.ensures.1 e))
