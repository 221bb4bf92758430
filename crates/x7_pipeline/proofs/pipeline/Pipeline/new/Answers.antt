use Rattle.std.proofs.Common.{None, refl, arith}
use Rattle.x7_regs.specs.declared.command.Command.TheVariants.{Null}
use Rattle.x7_pipeline.proofs.StateLemmas.{begins}
use Rattle.x7_pipeline.proofs.pipeline.Pipeline.new.Goals as goal

pub returns-clause-stands : goal.returns-clause-stands
returns-clause-stands c = begins c.args.part.now _ Null 0 None (let least = c.words-width.ensures.least in omega arith) c.words-width.ensures.value c.far_width.ensures.value refl refl c.in_ok-with_capacity.ensures.items refl refl refl refl refl
