use Rattle.std.proofs.Common.{length, ◌-◌, ◌≡◌, ◌<◌, ◌≤◌, ℕ, true, slice_index}
use Rattle.x7_svf.specs.Token.{is_word_byte}
use Rattle.x7_svf.proofs.token.word_length.Given as goal

abbrev pub invariant-loop-end : goal.invariant-loop-end
invariant-loop-end l = record {
  within : l.end ≤ length l.text;
  words : (k : ℕ) → k < l.end → is_word_byte (slice_index l.text k) ≡ true;
}

abbrev pub decreases-loop-end : goal.decreases-loop-end
decreases-loop-end l = length l.text - l.end
