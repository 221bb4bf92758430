use Rattle.std.proofs.Common.{◌≡◌, ◌*◌, ◌+◌, ◌++◌, ◌≤◌, take, vec_len, vec_capacity}
use Rattle.std.specs.List.{flat_map}
use Rattle.x7_text.specs.Digits.{hex_byte}
use Rattle.x7_mcs.proofs.text.put_digits.Given as goal

abbrev pub invariant-loop-byte : goal.invariant-loop-byte
invariant-loop-byte l =
    (l.out.items ≡ l.fn.out.items ++ flat_map hex_byte (take l.byte-index l.bytes))
    × (vec_len l.out ≡ vec_len l.fn.out + 2 * l.byte-index)
    × (vec_capacity l.fn.out ≤ vec_capacity l.out)
