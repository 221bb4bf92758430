use Rattle.std.proofs.Common.{◌≡◌, ℕ, ◌*◌, ◌∷◌, ◌++◌, [], List, codes, ap, ◌∙◌, length, take}
use Rattle.std.specs.List.{flat_map}
use Rattle.std.specs.Simd.{first_chunks}
use Rattle.x7_text.proofs.BlockLemmas.{bytes_fit, in_parts, parts_with}
use Rattle.x7_text.proofs.WholeLineLemmas.{length_hex_bytes, whole_line}
use Rattle.x7_text.proofs.block.wide_line.Goals as goal

pub returns-clause-line : goal.returns-clause-line
returns-clause-line c =
    let digits = c.hex_of_block-digits.result in
    let long : length digits ≡ 64 = ap length c.hex_of_block-digits.ensures ∙ length_hex_bytes c.args.bytes.now ∙ ap (λ (n : ℕ). 2 * n) c.told-bytes in
    let parts : take 77 (flat_map (λ (part : List ℕ). part) (parts_with c.sixteen_of-a.result c.sixteen_of-b.result c.sixteen_of-c.result c.sixteen_of-d.result)) ≡ codes "data" ++ (flat_map (λ (w : List ℕ). 32 ∷ w) (first_chunks 8 8 digits) ++ 10 ∷ []) =
    rw (c.sixteen_of-a.ensures, c.sixteen_of-b.ensures, c.sixteen_of-c.ensures, c.sixteen_of-d.ensures) (in_parts digits long) in
    parts ∙ whole_line c.args.bytes.now digits c.told-bytes (bytes_fit c.args.bytes.now c.fits-bytes) c.hex_of_block-digits.ensures
