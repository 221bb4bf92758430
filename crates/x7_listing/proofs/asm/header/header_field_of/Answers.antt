use Rattle.std.proofs.Common.{arith, length}
use Rattle.x7_text.proofs.DigitLemmas.{refuted}
use Rattle.x7_listing.proofs.BitLemmas.{field_found, no_size, none_there, some_there}
use Rattle.x7_listing.proofs.asm.header.header_field_of.Goals as goal
use Rattle.x7_listing.proofs.asm.header.header_field_of.Goals.{then-is_empty-via-then-is_empty, then-is_empty-via-else-is_empty+then-text}

pub returns-then-is_empty : goal.returns-then-is_empty
returns-then-is_empty c = no_size c.args.text.now (λ e. refuted c.is_same.result c.if-is_same.false (c.is_same.ensures.1 e)) (elim c.then-is_empty.branch [
  | then-is_empty-via-then-is_empty w ↦ λ some long. omega (arith, some, none_there (length c.args.text.now) w.if-is_empty.ensures)
  | then-is_empty-via-else-is_empty+then-text w ↦ λ some long. omega arith
])

pub returns : goal.returns
returns c = field_found (λ v. v.items) c.args.text.now c.bytes_of_pairs.result (λ e. refuted c.is_same.result c.if-is_same.false (c.is_same.ensures.1 e)) (some_there (length c.args.text.now) c.if-is_empty.ensures) (omega arith) c.bytes_of_pairs.ensures
