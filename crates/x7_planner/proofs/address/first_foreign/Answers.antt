use Rattle.std.proofs.Common.{◌≤◌, ◌∙◌, length, sym, subst, arith}
use Rattle.std.proofs.lemmas.Bool.{false≢true}
use Rattle.std.proofs.lemmas.List.{take_all}
use Rattle.x7_memory.specs.Plan.{AreAddressed, PlanRow}
use Rattle.x7_planner.proofs.AddressLemmas.{foreign_at, addressed_more}
use Rattle.x7_planner.proofs.address.first_foreign.Goals as goal

pub returns-then-not-is_address-clause-found : goal.returns-then-not-is_address-clause-found
returns-then-not-is_address-clause-found c =
    let row : PlanRow = record { far = c.in-Some.far; words = c.in-Some.field-0-1.now } in
    foreign_at c.args.part.now c.args.plan.now.rows c.loop-i.i row c.in-Some.ensures.found.0 (c.in-Some.ensures.found.1 row) c.loop-i.invariant (λ has. false≢true (sym c.if-not-is_address.true ∙ c.is_address.ensures.listed.1 has))

pub loop-i-preserved : goal.loop-i-preserved
loop-i-preserved c =
    let row : PlanRow = record { far = c.in-Some.far; words = c.in-Some.field-0-1.now } in
    addressed_more c.args.part.now c.args.plan.now.rows c.loop-i.i row c.in-Some.ensures.found.0 (c.in-Some.ensures.found.1 row) c.loop-i.invariant (c.is_address.ensures.listed.0 c.if-not-is_address.false)

pub returns-clause-addresses : goal.returns-clause-addresses
returns-clause-addresses c =
    let all : length c.args.plan.now.rows ≤ c.loop-i.i = omega (arith, c.loop-i-test.false, c.len-i-end.ensures.value) in
    subst (λ rows. AreAddressed c.args.part.now rows) (take_all c.loop-i.i c.args.plan.now.rows all) c.loop-i.invariant
