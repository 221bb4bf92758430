-- A pipeline that stands for a flow, by the flow's parts.
use Rattle.std.proofs.Common.{ℕ, List, Option}
use Rattle.x7_part.specs.Part.{PartData}
use Rattle.x7_regs.specs.declared.command.Command.{Command}
use Rattle.x7_pipeline.specs.Flow.{Flow, HoldsFlow}
use Rattle.x7_pipeline.specs.Pipeline.{PipelineData}

abbrev pub flow : Command → ℕ → List ℕ → Option (List ℕ) → ℕ → Flow
flow command base run source given = record { command = command; base = base; run = run; source = source; given = given }

abbrev pub StandsFor : PartData → PipelineData → Command → ℕ → List ℕ → Option (List ℕ) → ℕ → Type 0
StandsFor part p command base run source given = HoldsFlow part p (flow command base run source given)
