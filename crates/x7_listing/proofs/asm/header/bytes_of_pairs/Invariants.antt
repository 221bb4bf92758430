use Rattle.std.proofs.Common.{◌≡◌, ◌++◌, length}
use Rattle.std.specs.List.{flat_map}
use Rattle.x7_words.specs.Word.{AreBytes}
use Rattle.x7_text.specs.Digits.{hex_byte}
use Rattle.x7_listing.proofs.asm.header.bytes_of_pairs.Given as goal

abbrev pub invariant-loop-rest : goal.invariant-loop-rest
invariant-loop-rest l = AreBytes l.bytes.items × (l.digits ≡ flat_map hex_byte l.bytes.items ++ l.rest)

abbrev pub decreases-loop-rest : goal.decreases-loop-rest
decreases-loop-rest l = length l.rest
