use Rattle.std.proofs.Common.{◌*◌, take, ℕ, List}
use Rattle.std.specs.List.{flat_map}
use Rattle.x7_text.specs.Appends.{Appends}
use Rattle.x7_text.specs.Digits.{hex_word}
use Rattle.x7_report.proofs.frames.put_blocks.Given as goal

abbrev pub invariant-loop-block : goal.invariant-loop-block
invariant-loop-block l = Appends l.fn.out l.out (flat_map (λ (block : List ℕ). flat_map hex_word block) (take l.block-index l.blocks)) (64 * l.block-index)
