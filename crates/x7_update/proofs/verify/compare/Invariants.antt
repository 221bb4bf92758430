use Rattle.std.proofs.Common.{◌≡◌, ◌+◌, ◌<◌, ℕ, get_or}
use Rattle.x7_update.specs.Writing.{wanted_at}
use Rattle.x7_update.proofs.verify.compare.Given as goal

abbrev pub invariant-loop-i : goal.invariant-loop-i
invariant-loop-i l = (k : ℕ) → k < l.i → get_or l.buffer k 0 ≡ wanted_at l.from l.piece (l.from + l.after + k)
