-- The table of the digits of bytes.
use Rattle.std.proofs.Common.{◌≡◌, ℕ, ◌<◌, List, [], map, get_or, ap, ◌∙◌, arith}
use Rattle.std.proofs.lemmas.List.FromFn.{get_or-map-range_with_len}
use Rattle.std.specs.List.{range_with_len}
use Rattle.x7_text.specs.Digits.{hex_byte}

pub byte_at : (table : List (List ℕ)) (b : ℕ) → table ≡ map hex_byte (range_with_len 0 256) → b < 256 → get_or table b [] ≡ hex_byte b
byte_at table b e h = ap (λ t. get_or t b []) e ∙ get_or-map-range_with_len hex_byte 0 256 b b [] h (omega arith)
