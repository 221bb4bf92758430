use Rattle.std.proofs.Common.{◌∷◌, ◌++◌, [], ◌∙◌, ap, arith, sym, take, List, ℕ}
use Rattle.std.proofs.lemmas.Fmt.{decimal_digit}
use Rattle.x7_listing.proofs.list.fast.AtOnceLemmas.{two_digits}
use Rattle.x7_listing.proofs.list.fast.short_runs.put_count.Goals as goal

pub returns-then-count-lt10-clause-appends : goal.returns-then-count-lt10-clause-appends
returns-then-count-lt10-clause-appends c = c.put_whole.ensures.appends ∙ ap (λ (t : List ℕ). take c.args.len c.args.sheet.now ++ (t ++ 10 ∷ [])) (sym (decimal_digit c.args.count c.if-count-lt10.true))

pub returns-clause-appends : goal.returns-clause-appends
returns-clause-appends c = c.put_whole-2.ensures.appends ∙ ap (λ (t : List ℕ). take c.args.len c.args.sheet.now ++ (t ++ 10 ∷ [])) (sym (two_digits c.args.count (omega (arith, c.if-count-lt10.false)) c.requires.two_digits))
