use Rattle.std.proofs.Common.{◌∷◌, ◌++◌, [], ap₂, ◌∙◌, List, ℕ}
use Rattle.x7_mcs.proofs.RowLemmas.{row_written}
use Rattle.x7_mcs.proofs.row.row_line.Goals as goal

pub returns : goal.returns
returns c =
    ap₂ (λ (a b : List ℕ). 58 ∷ (a ++ (b ++ (c.copy_from_slice-2.new.self ++ (c.copy_from_slice.new.self ++ 10 ∷ []))))) c.copy_from_slice-4.ensures.after c.copy_from_slice-3.ensures.after
    ∙ ap₂ (λ (a b : List ℕ). 58 ∷ (c.hex_of_fields.result ++ (c.hex_of_sixteen.result.0 ++ (a ++ (b ++ 10 ∷ []))))) c.copy_from_slice-2.ensures.after c.copy_from_slice.ensures.after
    ∙ row_written c.args.address c.sum_byte_of_row-sum.result c.args.content.now c.hex_of_fields.result c.hex_of_sixteen.result.0 c.hex_of_sixteen.result.1 c.hex_of_byte.result c.told-content c.sum_byte_of_row-sum.ensures c.hex_of_fields.ensures c.hex_of_sixteen.ensures
    c.hex_of_byte.ensures
