use Rattle.std.proofs.Common.{◌/◌, length, arith, refl}
use Rattle.x7_text.proofs.ReadRowLemmas.{no_byte_length, no_byte_row, yes_byte_row}
use Rattle.x7_text.proofs.read_row.read_byte_row.Goals as goal
use Rattle.x7_text.proofs.read_row.read_byte_row.Goals.{then-count-eq0-via-then-count-eq0, then-count-eq0-via-else-count-eq0+then-digits-gt64, then-count-eq0-via-else-count-eq0+else-digits-gt64+then-digits-count}

pub returns-then-count-eq0-clause-reads : goal.returns-then-count-eq0-clause-reads
returns-then-count-eq0-clause-reads c = (
  no_byte_length c.args.digits.now (elim c.then-count-eq0.branch [
    | then-count-eq0-via-then-count-eq0 w ↦ λ a b d. omega arith
    | then-count-eq0-via-else-count-eq0+then-digits-gt64 w ↦ λ a b d. omega arith
    | then-count-eq0-via-else-count-eq0+else-digits-gt64+then-digits-count w ↦ λ a b d. omega arith
  ]),
  refl,
)

pub returns-then-not-is_same-clause-reads : goal.returns-then-not-is_same-clause-reads
returns-then-not-is_same-clause-reads c =
    (no_byte_row c.args.digits.now c.padded.result c.bytes_of_digits-bytes.result c.hex_of_block.result c.is_same.result c.padded.ensures c.bytes_of_digits-bytes.ensures.value c.hex_of_block.ensures c.if-not-is_same.true c.is_same.ensures.1, refl)

pub returns-clause-reads : goal.returns-clause-reads
returns-clause-reads c =
    yes_byte_row c.args.digits.now c.bytes_of_digits-bytes.result c.hex_of_block.result c.args.out.now.items c.put.new.text.items
    (length c.args.digits.now / 2) c.bytes_of_digits-bytes.ensures.length c.bytes_of_digits-bytes.ensures.bytes c.hex_of_block.ensures
    (c.is_same.ensures.0 c.if-not-is_same.false) (omega arith) (omega arith) (omega arith) c.put.ensures.appends.items
