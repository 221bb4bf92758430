use Rattle.std.proofs.Common.{◌≡◌, ◌+◌, ◌++◌, length, take}
use Rattle.x7_boot.specs.Text.{attempts_text}
use Rattle.x7_boot.proofs.text.put_attempts.Given as goal

abbrev pub invariant-lines : goal.invariant-lines
invariant-lines l = record {
  lines : l.text.items ++ attempts_text l.number l.rest ≡ l.fn.text.items ++ attempts_text 0 l.attempts;
  begins : take (length l.fn.text.items) l.text.items ≡ l.fn.text.items;
  count : l.number + length l.rest ≡ length l.attempts;
}

abbrev pub decreases-lines : goal.decreases-lines
decreases-lines l = length l.rest
