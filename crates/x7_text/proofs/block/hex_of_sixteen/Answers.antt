use Rattle.std.proofs.Common.{◌++◌, ◌<◌, ap, ap₂, sym, subst, ◌∙◌, map, List, ℕ}
use Rattle.std.proofs.lemmas.Grind.{flat_map-append}
use Rattle.std.specs.List.{flat_map}
use lib.Lanes.{Each1, chunk}
use Rattle.x7_text.specs.Digits.{hex_byte, hex_digit}
use Rattle.x7_text.proofs.SixteenLemmas.{cut_in_two, first_halves, part_below, part_digits, second_halves}
use Rattle.x7_text.proofs.block.hex_of_sixteen.Goals as goal

pub sixteen_hex_digits-requires-clause-below : goal.sixteen_hex_digits-requires-clause-below
sixteen_hex_digits-requires-clause-below c = subst (Each1 (λ (n : ℕ). n < 16)) (sym (first_halves c.args.bytes.now c.told-bytes)) (part_below c.args.bytes.now 0 c.fits-bytes)

pub sixteen_hex_digits-requires-2-clause-below : goal.sixteen_hex_digits-requires-2-clause-below
sixteen_hex_digits-requires-2-clause-below c = subst (Each1 (λ (n : ℕ). n < 16)) (sym (second_halves c.args.bytes.now c.told-bytes)) (part_below c.args.bytes.now 8 c.fits-bytes)

pub returns : goal.returns
returns c =
    ap₂ (λ (a b : List ℕ). a ++ b)
    (c.sixteen_hex_digits.ensures ∙ ap (map hex_digit) (first_halves c.args.bytes.now c.told-bytes) ∙ part_digits c.args.bytes.now 0 c.fits-bytes)
    (c.sixteen_hex_digits-2.ensures ∙ ap (map hex_digit) (second_halves c.args.bytes.now c.told-bytes) ∙ part_digits c.args.bytes.now 8 c.fits-bytes)
    ∙ sym (flat_map-append hex_byte (chunk 0 8 c.args.bytes.now) (chunk 8 8 c.args.bytes.now))
    ∙ ap (flat_map hex_byte) (cut_in_two c.args.bytes.now c.told-bytes)
