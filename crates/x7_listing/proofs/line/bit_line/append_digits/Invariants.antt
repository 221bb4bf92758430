use Rattle.std.proofs.Common.{◌≡◌, ◌++◌, take}
use Rattle.std.specs.List.{flat_map}
use Rattle.x7_text.specs.Digits.{hex_byte}
use Rattle.x7_listing.proofs.line.bit_line.append_digits.Given as goal

abbrev pub invariant-loop-byte : goal.invariant-loop-byte
invariant-loop-byte l = l.text.items ≡ l.fn.text.items ++ flat_map hex_byte (take l.byte-index l.bytes)
