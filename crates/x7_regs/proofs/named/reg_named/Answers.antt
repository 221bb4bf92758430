use Rattle.std.proofs.Common.{arith, ◌∙◌}
use Rattle.std.proofs.lemmas.Grind.{common_steps}
use Rattle.x7_regs.proofs.NamedLemmas.{no_register, no_register_length}
use Rattle.x7_regs.proofs.named.reg_named.Goals as goal

pub returns-then-text-lt-SHORTEST_NAME-clause-unnamed : goal.returns-then-text-lt-SHORTEST_NAME-clause-unnamed
returns-then-text-lt-SHORTEST_NAME-clause-unnamed c = no_register_length c.args.text.now (λ l m. grind (arith, common_steps, c.then-text-lt-SHORTEST_NAME.either))

pub returns-clause-unnamed : goal.returns-clause-unnamed
returns-clause-unnamed c =
    no_register c.args.text.now _ _ c.register_at-number.ensures.value (c.bytes.ensures.value ∙ c.name_of.ensures) (λ e. grind (arith, common_steps))
