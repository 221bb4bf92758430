use Rattle.std.proofs.Common.{◌≡◌, ◌+◌, inl, inr, get_or, ap, ◌∙◌, arith}
use Rattle.std.proofs.lemmas.Bool.{cases_lt}
use Rattle.std.proofs.lemmas.Grind.{common_steps}
use Rattle.x7_update.specs.Writing.{wanted_at}
use Rattle.x7_update.proofs.verify.compare.Goals as goal

pub loop-i-preserved : goal.loop-i-preserved
loop-i-preserved c = λ k h. elim (cases_lt k c.loop-i.i) [
  | inl less ↦ c.loop-i.invariant k less
  | inr from ↦
      let same : k ≡ c.loop-i.i = omega (arith, h, from) in
      let is : get_or c.args.buffer.now c.loop-i.i 0 ≡ c.wanted-wrote.result = grind (arith, common_steps) in
      let at : c.args.from + (c.args.after + c.loop-i.i) ≡ c.args.from + c.args.after + k = omega (arith, same) in
      ap (λ n. get_or c.args.buffer.now n 0) same ∙ is ∙ c.wanted-wrote.ensures c.args.from ∙ ap (wanted_at c.args.from c.args.piece.now) at
]
