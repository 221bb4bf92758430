use Rattle.std.proofs.Common.{◌≡◌, ◌≤◌, ◌<◌, ◌∙◌, ℕ, List, length, rules, subst, sym}
use Rattle.x7_regs.specs.Register.{reg_name, reg_name_limit, reg_number_count}
use Rattle.x7_regs.proofs.NameLemmas.{reg_name_short, text_at}
use Rattle.x7_regs.proofs.name.name_of.Goals as goal

is_named : (c : goal.After-as_bytes) → c.as_bytes.result.now ≡ reg_name c.args.number
is_named c =
    let same : c.from.result ≡ c.args.number = c.from.ensures in
    let below : c.args.number < reg_number_count = c.requires in
    c.as_bytes.ensures.value ∙ search (rules, text_at)

pub invariant_of-result : goal.invariant_of-result
invariant_of-result c = subst (λ (name : List ℕ). length name ≤ reg_name_limit) (sym (is_named c)) (reg_name_short c.args.number)

pub returns : goal.returns
returns c = is_named c
