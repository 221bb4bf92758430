use Rattle.std.proofs.Common.{◌≡◌, ◌++◌, ◌-◌, List, ℕ, ap, drop, length, subst, take, true, ◌∙◌}
use Rattle.x7_words.specs.Word.{bytes_of_word}
use Rattle.x7_packets.specs.PacketWords.{type1_write_header}
use Rattle.x7_text.proofs.DigitLemmas.{refuted}
use Rattle.x7_text.specs.Reads.{AppendsIfRead}
use Rattle.x7_crc.specs.Checker.{check_of_bytes, KeepsCheckOf}
use Rattle.x7_listing.specs.Line.{Check, line_bytes, FitsLine, text_of}
use Rattle.x7_listing.proofs.asm.AsmLinesLemmas.{keeps_begun, still_begun}
use Rattle.x7_listing.proofs.asm.fast.QuickLemmas.{left_from}
use Rattle.x7_listing.proofs.asm.lines.read_checked_line.Goals as goal

pub returns-then-not-is_same : goal.returns-then-not-is_same
returns-then-not-is_same c =
    let old = c.args.out.now.items in
    let new = c.read_line.new.out.items in
    let line = c.args.line.now in
    let check = check_of_bytes (drop c.args.start old) in
    let r = c.read_line.ensures.reads check in
    record {
      reads = r;
      start = still_begun check c.read_line.result line old new c.args.start r c.requires.start;
      keeps = keeps_begun check c.read_line.result line old new c.args.start c.args.checker.now r c.requires.start c.requires.keeps;
    }

pub read_line-requires-clause-no_check : goal.read_line-requires-clause-no_check
read_line-requires-clause-no_check c = λ e. refuted c.is_same.result c.if-not-is_same.true (c.is_same.ensures.1 e)

pub returns : goal.returns
returns c =
    let old = c.args.out.now.items in
    let new = c.put_two_words.new.out.items in
    let line = c.args.line.now in
    let left = ap (λ (t : List ℕ). take (length t - c.args.start) (drop c.args.start t)) c.deref.ensures.value ∙ left_from c.args.start old c.requires.start in
    let check = check_of_bytes (drop c.args.start old) in
    let is : c.check_of-check.result ≡ check = c.check_of-check.ensures.check ∙ ap check_of_bytes left in
    let r : AppendsIfRead FitsLine text_of (line_bytes check) true line old new = (
      Check,
      tt,
      c.is_same.ensures.0 c.if-not-is_same.false,
      c.put_two_words.ensures.appends.items
          ∙ ap (λ (w : ℕ). old ++ (bytes_of_word w ++ bytes_of_word c.check_of-check.result)) (c.type1_write_header.ensures ∙ ap (λ (r : ℕ). type1_write_header r 1) c.number.ensures.value)
          ∙ ap (λ (k : ℕ). old ++ (bytes_of_word (type1_write_header 0 1) ++ bytes_of_word k)) is,
    ) in
    record {
      reads = r;
      start = still_begun check true line old new c.args.start r c.requires.start;
      keeps = keeps_begun check true line old new c.args.start c.check_of-check.new.self r c.requires.start (subst (λ (bs : List ℕ). KeepsCheckOf c.check_of-check.new.self bs) left c.check_of-check.ensures.keeps);
    }
