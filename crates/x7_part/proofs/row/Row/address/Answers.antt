use Rattle.x7_part.proofs.WidthLemmas.{row_fits}
use Rattle.x7_part.proofs.row.Row.address.Goals as goal

pub overflow_mul-result : goal.overflow_mul-result
overflow_mul-result c =
    let f = row_fits c.args.widths _ c.block_weight.ensures.widths c.self.invariant in let b = f.block in
    record { fits = rw (c.from.ensures, c.block_weight.ensures.value) b }

pub overflow_add-result : goal.overflow_add-result
overflow_add-result c =
    let f = row_fits c.args.widths _ c.block_weight.ensures.widths c.self.invariant in
    record { fits = rw (c.from.ensures, c.block_weight.ensures.value, c.from-2.ensures, c.half_weight.ensures) f.two }

pub overflow_mul-result-3 : goal.overflow_mul-result-3
overflow_mul-result-3 c =
    let f = row_fits c.args.widths _ c.block_weight.ensures.widths c.self.invariant in
    record { fits = rw (c.from-3.ensures, c.row_weight.ensures) f.row }

pub overflow_add-result-2 : goal.overflow_add-result-2
overflow_add-result-2 c =
    let f = row_fits c.args.widths _ c.block_weight.ensures.widths c.self.invariant in
    record { fits = rw (c.from.ensures, c.block_weight.ensures.value, c.from-2.ensures, c.half_weight.ensures, c.from-3.ensures, c.row_weight.ensures) f.all }
