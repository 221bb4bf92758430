use Rattle.std.proofs.Common.{◌&&◌, ◌∙◌, ap, refl, sym}
use Rattle.toml.specs.View.{items_view}
use Rattle.x7_part.specs.Limits.{most_minors}
use Rattle.x7_part.specs.PartChecks.{are_in}
use Rattle.x7_part.specs.Values.{wholes}
use Rattle.x7_part.proofs.FileLemmas.{minors_by}
use Rattle.x7_part.proofs.ranges.are_minors.Goals as goal

pub returns-then-is_length_in : goal.returns-then-is_length_in
returns-then-is_length_in c =
    sym (ap (λ b. b && c.are_minor_counts.result) c.if-is_length_in.true)
    ∙ minors_by c.args.items.now c.is_length_in.result c.are_minor_counts.result c.is_length_in.ensures c.are_minor_counts.ensures

pub returns-else-is_length_in : goal.returns-else-is_length_in
returns-else-is_length_in c =
    let each = are_in 1 most_minors (wholes (items_view c.args.items.now)) in
    c.if-is_length_in.false ∙ sym (ap (λ b. b && each) c.if-is_length_in.false) ∙ minors_by c.args.items.now c.is_length_in.result each c.is_length_in.ensures refl
