use Rattle.std.proofs.Common.{◌≡◌, ◌*◌, length, take, Some}
use Rattle.x7_text.specs.EitherCase.{bytes_of_pairs}
use Rattle.x7_frames.proofs.line.read_blocks.Given as goal

abbrev pub invariant-loop-k : goal.invariant-loop-k
invariant-loop-k l = (length l.bytes ≡ length l.fn.bytes) × (bytes_of_pairs (take (64 * l.k) l.digits) ≡ Some (take (32 * l.k) l.bytes))
