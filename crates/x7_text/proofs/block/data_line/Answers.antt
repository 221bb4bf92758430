use Rattle.std.proofs.Common.{arith, sym}
use Rattle.std.proofs.lemmas.List.{length-take-le}
use Rattle.x7_text.proofs.block.data_line.Goals as goal

pub slice_bounds-copy_from_slice-end-3 : goal.slice_bounds-copy_from_slice-end-3
slice_bounds-copy_from_slice-end-3 c = sym (length-take-le 77 c.wide_line.result (omega (arith, c.wide_line.ensures.length)))

pub copy_from_slice-requires : goal.copy_from_slice-requires
copy_from_slice-requires c = sym (length-take-le 77 c.wide_line.result (omega (arith, c.wide_line.ensures.length)))
