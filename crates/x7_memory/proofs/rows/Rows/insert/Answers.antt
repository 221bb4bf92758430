use Rattle.std.proofs.Common.{◌∙◌, ap, sym, arith}
use Rattle.std.specs.List.{insert}
use Rattle.x7_words.specs.Word.{AreWords}
use Rattle.x7_memory.specs.Plan.{PlanData}
use Rattle.x7_memory.proofs.PlanLemmas.{words_by_place}
use Rattle.x7_memory.proofs.RowLemmas.{kept_insert, kept_still, on_err, rows_insert, rows_stay}
use Rattle.x7_memory.proofs.rows.Rows.insert.Goals as goal

pub invariant_of-self-in_err-insert : goal.invariant_of-self-in_err-insert
invariant_of-self-in_err-insert c =
    kept_still c.self.inside.width c.self.inside.words.items c.args.words.now c.extend_from_slice.new.self.items c.self.inside.rows.items c.self.invariant c.in_ok-extend_from_slice.ensures.items
    c.insert.new.self.items c.in_err-insert.ensures.items

pub returns-in_err-insert-clause-unchanged : goal.returns-in_err-insert-clause-unchanged
returns-in_err-insert-clause-unchanged c =
    on_err c.from_residual-in_err-insert.result
    (ap (λ rows. let p : PlanData = record { width = c.self.inside.width; rows = rows } in p)
    (rows_stay c.self.inside.width c.self.inside.words.items c.args.words.now c.extend_from_slice.new.self.items c.self.inside.rows.items c.self.invariant c.in_ok-extend_from_slice.ensures.items
    c.insert.new.self.items c.in_err-insert.ensures.items)
    ∙ c.self.view_is)

pub invariant_of-self-2 : goal.invariant_of-self-2
invariant_of-self-2 c =
    let width = c.requires.width ∙ ap (λ plan. plan.width) (sym c.self.view_is) in
    let fits : AreWords c.args.words.now = words_by_place c.args.words.now (λ i h. (c.type_inv.words i).fits) in
    let far = c.ranges.far.fits in
    kept_insert c.self.inside.width c.self.inside.words.items c.args.words.now c.extend_from_slice.new.self.items c.self.inside.rows.items c.self.invariant c.in_ok-extend_from_slice.ensures.items
    c.args.place c.args.far c.len-start.result c.insert.new.self.items width (let long = c.len-start.ensures in omega arith) c.in_ok-insert.ensures.items record { far = omega arith; words = fits }

pub returns-clause-added : goal.returns-clause-added
returns-clause-added c =
    let width = c.requires.width ∙ ap (λ plan. plan.width) (sym c.self.view_is) in
    rows_insert c.self.inside.width c.self.inside.words.items c.args.words.now c.extend_from_slice.new.self.items c.self.inside.rows.items c.self.invariant c.in_ok-extend_from_slice.ensures.items
    c.args.place c.args.far c.len-start.result c.insert.new.self.items width (let long = c.len-start.ensures in omega arith) c.in_ok-insert.ensures.items
    ∙ ap (λ plan. insert plan.rows c.args.place record { far = c.args.far; words = c.args.words.now }) c.self.view_is
