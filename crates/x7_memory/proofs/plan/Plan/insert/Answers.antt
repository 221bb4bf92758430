use Rattle.std.proofs.Common.{◌∙◌, ap, sym, refl, arith}
use Rattle.std.proofs.lemmas.Bool.{false≢true}
use Rattle.x7_memory.specs.Plan.{planned}
use Rattle.x7_memory.proofs.PlanLemmas.{place_listed, gap_unlisted, planned_insert, gap_free}
use Rattle.x7_memory.proofs.plan.Plan.insert.Goals as goal

pub returns-in-Ok-clause-answer : goal.returns-in-Ok-clause-answer
returns-in-Ok-clause-answer c = (λ e. place_listed c.args.self.now.rows c.args.far c.in-Ok.field-0 c.in-Ok.ensures.found, λ has. refl)

pub returns-in_ok-insert_at-in-Err-clause-answer : goal.returns-in_ok-insert_at-in-Err-clause-answer
returns-in_ok-insert_at-in-Err-clause-answer c =
    (λ e. absurd (false≢true (sym e)), λ has. absurd (gap_unlisted c.args.self.now.rows c.args.far c.in-Err.place c.in-Err.ensures.insert_place has))

pub returns-in_ok-insert_at-in-Err-clause-frames : goal.returns-in_ok-insert_at-in-Err-clause-frames
returns-in_ok-insert_at-in-Err-clause-frames c e a =
    let gap = c.in-Err.ensures.insert_place in
    ap (λ rows. planned rows a) c.in_ok-insert_at-in-Err.ensures.added
    ∙ planned_insert c.args.self.now.rows c.in-Err.place record { far = c.args.far; words = c.args.words.now } a gap.inside
    (λ j h. gap_free c.args.self.now.rows c.args.far c.in-Err.place gap j (let k = gap.inside in omega arith))

pub returns-in_ok-insert_at-in-Err-clause-certain : goal.returns-in_ok-insert_at-in-Err-clause-certain
returns-in_ok-insert_at-in-Err-clause-certain c has = absurd (gap_unlisted c.args.self.now.rows c.args.far c.in-Err.place c.in-Err.ensures.insert_place has)

pub returns-in_err-insert_at-in-Err-clause-certain : goal.returns-in_err-insert_at-in-Err-clause-certain
returns-in_err-insert_at-in-Err-clause-certain c has = absurd (gap_unlisted c.args.self.now.rows c.args.far c.in-Err.place c.in-Err.ensures.insert_place has)
