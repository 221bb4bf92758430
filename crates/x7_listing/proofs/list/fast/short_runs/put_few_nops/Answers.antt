use Rattle.std.proofs.Common.{[], ◌++◌, ◌∙◌, true, List, ℕ, ap, refl, take}
use Rattle.x7_packets.specs.PacketWords.{no_op}
use Rattle.x7_packets.specs.declared.header.Step.TheVariants.{Nop}
use Rattle.x7_listing.proofs.list.fast.AtOnceLemmas.{equal_listed}
use Rattle.x7_listing.proofs.list.fast.OnSheetLemmas.{after_text, nops_shown}
use Rattle.x7_listing.proofs.list.fast.short_runs.put_few_nops.Goals as goal

pub returns-clause-listed : goal.returns-clause-listed
returns-clause-listed c = λ k takes text given before bytes s.
    equal_listed c.args.count k no_op Nop true true c.args.in_line.count 0 c.args.in_line.count [] [] (text ++ take c.args.len c.args.sheet.now) (text ++ take c.put_close-start.result c.put_close-start.new.sheet) _ given before bytes c.requires.at_least_one tt takes (λ k. refl) refl refl
    (after_text text (take c.args.len c.args.sheet.now) _ _ c.put_close-start.ensures.appends)
    (after_text text (take c.put_close-start.result c.put_close-start.new.sheet) _ _ (c.put_prefix.ensures.appends ∙ ap (λ (t : List ℕ). take c.put_close-start.result c.put_close-start.new.sheet ++ t) (nops_shown c.args.count _ c.requires.in_table c.as_flattened.ensures.value))) s
