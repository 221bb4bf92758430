use Rattle.std.proofs.Common.{◌∷◌, ◌++◌, ap, ◌∙◌}
use Rattle.std.specs.Fmt.{decimal}
use Rattle.x7_regs.specs.Register.{reg_name}
use Rattle.x7_listing.proofs.LineLemmas.{no_type1}
use Rattle.x7_listing.proofs.NameLemmas.{after_name, first_space, no_register}
use Rattle.x7_listing.proofs.asm.reading.type1_fields_at.Goals as goal

pub returns-in_default : goal.returns-in_default
returns-in_default c = λ first a is e.
    no_register c.args.text.now c.args.space (first_space c.args.text.now c.args.space first.2 first.0 first.1) c.in_default.ensures.unnamed a.0 (decimal a.1) is.0 e

pub returns-in_default-decimal_below : goal.returns-in_default-decimal_below
returns-in_default-decimal_below c = λ first a is e.
    no_type1 c.args.text.now _ c.in-Some.register c.in-Some.ensures.named.below (after_name c.args.text.now _ c.args.space c.if-space-text.false c.if-text-space-ne32.false c.in-Some.ensures.named.name)
    c.in_default-decimal_below.ensures a is e

pub returns : goal.returns
returns c = (
  (c.in-Some.ensures.named.below, c.in-Some-decimal_below.ensures.0),
  after_name c.args.text.now _ c.args.space c.if-space-text.false c.if-text-space-ne32.false c.in-Some.ensures.named.name
      ∙ ap (λ digits. reg_name c.in-Some.register ++ 32 ∷ digits) c.in-Some-decimal_below.ensures.1,
)
