use Rattle.std.proofs.Common.{arith, ◌++◌, ap, ◌∙◌, List, ℕ}
use Rattle.x7_mcs.specs.Text.{data_line}
use Rattle.x7_mcs.proofs.RowLemmas.{whole_row}
use Rattle.x7_mcs.proofs.text.put_data_line.Goals as goal

pub returns : goal.returns
returns c =
    record {
      items =
          c.put.ensures.appends.items
          ∙ ap (λ (t : List ℕ). c.args.out.now.items ++ t) (c.row_line.ensures ∙ ap (data_line c.args.address) (whole_row c.args.row.now c.in-Some.whole.now c.in-Some.ensures.cases.same c.requires.row));
      within = omega arith;
      room = omega arith;
    }
