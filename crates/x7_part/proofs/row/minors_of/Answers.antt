use Rattle.std.proofs.Common.{◌≡◌, ◌∷◌, ◌++◌, [], ◌∙◌, ap, arith, rules, w64}
use Rattle.std.proofs.lemmas.Int.{to_z-of_z}
use Rattle.toml.specs.View.{view}
use Rattle.x7_part.specs.Values.{natural, whole}
use Rattle.x7_part.proofs.FileLemmas.{minor_within, minors_more}
use Rattle.x7_part.proofs.row.minors_of.Goals as goal

pub overflow_cast-unsigned_abs : goal.overflow_cast-unsigned_abs
overflow_cast-unsigned_abs c =
    let few = minor_within c.args.items.now c.loop-item.item-index c.item-item.result c.requires c.loop-item-test.true c.item-item.is in
    let same : c.unsigned_abs.result ≡ natural (whole (view c.item-item.result)) = c.unsigned_abs.ensures.value ∙ ap natural (to_z-of_z w64 c.whole.result (search rules) ∙ c.whole.ensures) in
    record { fits = omega arith }

pub loop-item-preserved : goal.loop-item-preserved
loop-item-preserved c =
    let same : c.unsigned_abs.result ≡ natural (whole (view c.item-item.result)) = c.unsigned_abs.ensures.value ∙ ap natural (to_z-of_z w64 c.whole.result (search rules) ∙ c.whole.ensures) in
    minors_more c.args.items.now c.loop-item.item-index c.item-item.result c.loop-item.minors.items c.push.new.self.items c.loop-item-test.true c.item-item.is
    (c.in_ok-push.ensures.items ∙ ap (λ n. c.loop-item.minors.items ++ n ∷ []) same) ∙ c.loop-item.invariant
