-- What the command `svf` reads, a part and an SVF text, as its definitions see them (this project's choice).
use Rattle.std.specs.Prelude.{ℕ, List, [], ◌∷◌, Result}
use Rattle.x7_words.specs.Input.{InputsState}
use Rattle.x7_forms.specs.Event.{Event}
use Rattle.x7_forms.specs.Known.{part_limit, text_limit}
use Rattle.x7_forms.specs.ReadingStops.{Limited, limited}
use Rattle.x7_forms.specs.Step.{AnswersAs, step_over}
use Rattle.x7_device_forms.specs.declared.svf.Given.{Given}
use Rattle.x7_outcome.specs.Outcome.{PartAndText, part_and_text}

-- a part and an SVF text that were read
abbrev pub svf_given : Given → PartAndText
svf_given g = record { part = g.part; text = g.text.items }

-- the inputs of `svf` in the order of its words, each with the most bytes that it may have
abbrev pub svf_limits : List ℕ → List ℕ → List Limited
svf_limits part text = limited part_limit part ∷ limited text_limit text ∷ []

-- what a step that reads the inputs of `svf` comes to: the part and the SVF text, or an event in place of them
abbrev pub ReadsSvf : InputsState → InputsState → List ℕ → List ℕ → Result PartAndText Event → Type 0
ReadsSvf old new part text got = AnswersAs (step_over (part ∷ text ∷ []) old new) (λ known. part_and_text known part text) got
