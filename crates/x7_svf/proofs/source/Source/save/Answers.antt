use Rattle.std.proofs.Common.{◌+◌, ◌≤◌, ◌++◌, ℕ, List, length, length-drop, ap, arith, ◌∙◌, take, drop}
use Rattle.x7_svf.specs.Source.{SourceState}
use Rattle.x7_svf.proofs.SourceLemmas.{saved_more, rest_same}
use Rattle.x7_svf.proofs.source.Source.save.Goals as goal

pub returns : goal.returns
returns c =
    let xs : List ℕ = c.self.inside.text.items in
    let k : ℕ = c.self.inside.saved in
    let at : ℕ = c.self.inside.at in
    let n : ℕ = c.args.count in
    let order : k ≤ at = c.self.invariant.0 in
    let within : at + n ≤ length xs = omega (arith, c.requires, ap (λ (s : SourceState). length s.rest) c.self.view_is, c.self.invariant.1, length-drop at xs) in
    λ i. record {
      saved = (ap (take (k + n)) c.copy_within.ensures.items ∙ saved_more xs k at n order within ∙ ap (λ (s : SourceState). s.saved ++ take n s.rest) c.self.view_is) i;
      line = (ap (λ (s : SourceState). s.line) c.self.view_is) i;
      rest = (ap (drop (at + n)) c.copy_within.ensures.items ∙ rest_same xs k at n order within ∙ ap (λ (s : SourceState). drop n s.rest) c.self.view_is) i;
    }
