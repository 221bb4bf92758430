use Rattle.std.proofs.Common.{[], ◌++◌, ◌∙◌, true, ap, arith, codes, refl, take, List, ℕ}
use Rattle.std.proofs.lemmas.List.{take-take}
use Rattle.x7_text.specs.Row.{bytes_text}
use Rattle.x7_listing.proofs.list.fast.AtOnceLemmas.{gap_listed}
use Rattle.x7_listing.proofs.list.fast.OnSheetLemmas.{after_text}
use Rattle.x7_listing.proofs.list.fast.short_runs.put_gap.Goals as goal

pub returns-clause-listed : goal.returns-clause-listed
returns-clause-listed c = λ old new x text given before bytes s.
    let prefix = ap (take c.args.count) c.first_32.ensures ∙ take-take c.args.count 32 c.args.rest.now (omega (arith, c.requires.near)) in
    gap_listed old new true true c.args.in_line.count 0 c.args.count [] [] (text ++ take c.args.len c.args.sheet.now) _ given before bytes c.args.rest.now c.args.rest x refl refl refl
    (after_text text (take c.args.len c.args.sheet.now) _ _ (c.put_bytes_and_sync.ensures.appends ∙ ap (λ (t : List ℕ). take c.args.len c.args.sheet.now ++ (bytes_text t ++ codes "sync\n")) prefix)) s
