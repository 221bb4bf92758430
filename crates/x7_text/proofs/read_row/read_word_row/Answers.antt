use Rattle.std.proofs.Common.{◌+◌, ◌-◌, ◌/◌, length, drop, arith, ap, refl}
use Rattle.x7_text.proofs.ReadRowLemmas.{no_word_length, no_word_row, yes_word_row}
use Rattle.x7_text.proofs.read_row.read_word_row.Goals as goal
use Rattle.x7_text.proofs.read_row.read_word_row.Goals.{then-count-eq0-via-then-count-eq0, then-count-eq0-via-else-count-eq0+then-text-gt72, then-count-eq0-via-else-count-eq0+else-text-gt72+then-text-count}

pub returns-then-count-eq0-clause-reads : goal.returns-then-count-eq0-clause-reads
returns-then-count-eq0-clause-reads c = (
  no_word_length c.args.text.now (elim c.then-count-eq0.branch [
    | then-count-eq0-via-then-count-eq0 w ↦ λ a b d. omega arith
    | then-count-eq0-via-else-count-eq0+then-text-gt72 w ↦ λ a b d. omega arith
    | then-count-eq0-via-else-count-eq0+else-text-gt72+then-text-count w ↦ λ a b d. omega arith
  ]),
  refl,
)

pub returns-then-not-is_same-clause-reads : goal.returns-then-not-is_same-clause-reads
returns-then-not-is_same-clause-reads c = (
  no_word_row c.args.text.now c.gathered.result c.bytes_of_digits-bytes.result (drop 4 c.data_line.result) (4 + length c.args.text.now - 4) c.is_same.result
      (omega arith) c.gathered.ensures.digits c.gathered.ensures.length c.bytes_of_digits-bytes.ensures.value
      (ap (drop 4) c.data_line.ensures) c.if-not-is_same.true c.is_same.ensures.1,
  refl,
)

pub returns-clause-reads : goal.returns-clause-reads
returns-clause-reads c =
    yes_word_row c.args.text.now c.bytes_of_digits-bytes.result (drop 4 c.data_line.result) c.args.out.now.items c.put.new.text.items (4 + length c.args.text.now - 4)
    (length c.args.text.now / 9) (omega arith) c.bytes_of_digits-bytes.ensures.length c.bytes_of_digits-bytes.ensures.bytes (ap (drop 4) c.data_line.ensures)
    (c.is_same.ensures.0 c.if-not-is_same.false) (omega arith) (omega arith) (omega arith) c.put.ensures.appends.items
