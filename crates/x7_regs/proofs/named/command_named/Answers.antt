use Rattle.std.proofs.Common.{arith, ◌∙◌}
use Rattle.std.proofs.lemmas.Grind.{common_steps}
use Rattle.x7_regs.proofs.NamedLemmas.{no_command}
use Rattle.x7_regs.proofs.named.command_named.Goals as goal

pub returns-clause-unnamed : goal.returns-clause-unnamed
returns-clause-unnamed c =
    no_command c.args.text.now _ _ _ (c.from.ensures ∙ c.at_place-code.ensures) c.command_of-command.ensures (c.bytes.ensures.value ∙ c.command_name.ensures) (λ e. grind (arith, common_steps))
