use Rattle.std.proofs.Common.{◌≡◌, ◌*◌, List, ℕ, length, take, drop}
use Rattle.std.specs.List.{flat_map}
use Rattle.x7_text.proofs.read_row.gathered.Given as goal

abbrev pub invariant-loop-k : goal.invariant-loop-k
invariant-loop-k l = (length l.digits ≡ 64) × (take (8 * l.k) l.digits ≡ flat_map (λ (word : List ℕ). drop 1 word) (take l.k l.words))
