use Rattle.std.proofs.Common.{◌∙◌, sym}
use Rattle.toml.specs.View.{items_view}
use Rattle.x7_part.specs.Values.{wholes}
use Rattle.x7_part.proofs.FileLemmas.{five, not_five, wholes_long}
use Rattle.x7_part.proofs.ranges.widths_given.Goals as goal

pub returns-then-items-ne5-clause-exactly_where : goal.returns-then-items-ne5-clause-exactly_where
returns-then-items-ne5-clause-exactly_where c =
    not_five (wholes (items_view c.args.items.now)) (λ e. absurd (c.if-items-ne5.true (sym (wholes_long c.args.items.now) ∙ e)))

pub returns-clause-exactly_where : goal.returns-clause-exactly_where
returns-clause-exactly_where c =
    rw (five c.args.items.now _ _ _ _ _ c.if-items-ne5.false c.index-items-0.is c.index-items-1.is c.index-items-2.is c.index-items-3.is c.index-items-4.is) c.widths_of_fields.ensures.exactly_where

pub returns-clause-value : goal.returns-clause-value
returns-clause-value c =
    rw (five c.args.items.now _ _ _ _ _ c.if-items-ne5.false c.index-items-0.is c.index-items-1.is c.index-items-2.is c.index-items-3.is c.index-items-4.is) c.widths_of_fields.ensures.value
