-- What the command `debug` reads, as its definitions see it (this project's choice).
use Rattle.std.specs.Prelude.{ℕ, List, [], ◌∷◌, Result}
use Rattle.x7_words.specs.Input.{InputsState}
use Rattle.x7_forms.specs.Event.{Event}
use Rattle.x7_forms.specs.Known.{part_limit, script_limit, stream_limit}
use Rattle.x7_forms.specs.ReadingStops.{Limited, limited}
use Rattle.x7_forms.specs.Step.{AnswersAs, step_over}
use Rattle.x7_device_forms.specs.declared.debug.Given.{Given}
use Rattle.x7_outcome.specs.Outcome.{DebugInputs, debug_inputs}

-- what a debugging read: the part, and the bytes of the stream's data and of the script
abbrev pub debug_given : Given → DebugInputs
debug_given g = record { part = g.part; stream = g.stream.items; script = g.script.items }

-- the names that `debug` reads by: those of a part file, of a stream and of a script
pub record DebugNames : Type 0 where
  pub part : List ℕ
  pub stream : List ℕ
  pub script : List ℕ

-- a part file, a stream and a script as the names of `debug`
abbrev pub debug_names : List ℕ → List ℕ → List ℕ → DebugNames
debug_names part stream script = record { part = part; stream = stream; script = script }

-- the inputs of `debug` in the order of its words, each with the most bytes that it may have
abbrev pub debug_limits : DebugNames → List Limited
debug_limits names = limited part_limit names.part ∷ limited stream_limit names.stream ∷ limited script_limit names.script ∷ []

-- what a step that reads the inputs of `debug` comes to: the part, the stream's data and the script, or an event in
-- place of them
abbrev pub ReadsDebug : InputsState → InputsState → DebugNames → Result DebugInputs Event → Type 0
ReadsDebug old new names got =
    AnswersAs (step_over (names.part ∷ names.stream ∷ names.script ∷ []) old new) (λ known. debug_inputs known names.part names.stream names.script) got
