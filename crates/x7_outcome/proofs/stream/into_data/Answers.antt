use Rattle.std.proofs.Common.{◌≡◌, ◌+◌, ◌-◌, ℕ, List, take, drop, ap, sym, ◌∙◌, length-drop, arith}
use Rattle.std.proofs.lemmas.List.{take_all}
use Rattle.std.specs.List.{copy_within}
use Rattle.x7_svf.proofs.SourceLemmas.{saved_more}
use Rattle.x7_outcome.proofs.stream.into_data.Goals as goal

pub returns-then-start-eq0 : goal.returns-then-start-eq0
returns-then-start-eq0 c = ap (λ (at : ℕ). drop at c.args.stream.bytes.items) (sym c.if-start-eq0.true)

pub returns : goal.returns
returns c =
    let xs : List ℕ = c.args.stream.bytes.items in
    let at : ℕ = c.args.stream.start in
    let end : ℕ = c.len-end.result in
    let n : ℕ = end - at in
    let all : end ≡ at + n = omega (arith, c.requires, c.len-end.ensures) in
    let size : n ≡ 0 + n = omega arith in
    c.truncate.ensures.items
    ∙ ap (take n) (c.copy_within.ensures.items ∙ ap (λ (k : ℕ). copy_within xs at k 0) all)
    ∙ ap (λ (m : ℕ). take m (copy_within xs at (at + n) 0)) size
    ∙ saved_more xs 0 at n (omega arith) (omega (arith, all, c.len-end.ensures))
    ∙ take_all n (drop at xs) (omega (arith, c.len-end.ensures, length-drop at xs))
