use Rattle.std.proofs.Common.{◌≡◌, ◌<◌, ◌^◌, drop}
use Rattle.std.specs.List.{flat_map}
use Rattle.x7_words.specs.Word.{words_of_bytes}
use Rattle.x7_crc.specs.Check.{check_after, writes_to}
use Rattle.x7_crc.proofs.check.fold_blocks.Given as goal

abbrev pub invariant-loop-block : goal.invariant-loop-block
invariant-loop-block l = (check_after l.folded (writes_to l.register (flat_map words_of_bytes (drop l.block-index l.blocks))) ≡ check_after l.fn.before (writes_to l.register (flat_map words_of_bytes l.blocks))) × (l.folded < 2 ^ 32)
