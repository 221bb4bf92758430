-- A frames text that is read piece by piece, and its plan (this project's choice).
use Rattle.std.specs.Prelude.{◌≡◌, ◌⊎◌, ℕ, List, Result, Ok, Err}
use Rattle.x7_words.specs.Input.{InputsState}
use Rattle.x7_part.specs.Part.{PartData}
use Rattle.x7_memory.specs.Plan.{PlanData}
use Rattle.x7_frames.specs.FramesText.{IsPlanOf}
use Rattle.x7_frames.specs.declared.fault.FramesFault.{FramesFault}
use Rattle.x7_forms.specs.Event.{Event}
use Rattle.x7_forms.specs.Step.{ReadsWhole}
use Rattle.x7_forms.specs.Known.{Answer, text_limit}
use Rattle.x7_outcome.specs.Outcome.{PlannedPartial, frames_event}

-- the event is that of the text's first line at fault
abbrev pub HasNoPlan : List ℕ → PartData → List ℕ → Event → Type 0
HasNoPlan name part text event = (f : FramesFault) × IsPlanOf part text (Err f) × (frames_event name f ≡ event)

-- what a step that reads a frames text for its plan for a part comes to: the plan, or the event of an input that wasn't
-- read whole, or of a text that has no plan
abbrev pub ReadsPlan : InputsState → InputsState → PartData → List ℕ → Result PlanData Event → Type 0
ReadsPlan old new part name (Ok plan) = (text : List ℕ) × ReadsWhole old new text_limit name (Ok text) × IsPlanOf part text (Ok plan)
ReadsPlan old new part name (Err event) =
    ReadsWhole old new text_limit name (Err event) ⊎ ((text : List ℕ) × ReadsWhole old new text_limit name (Ok text) × HasNoPlan name part text event)

-- of whatever frames text the plan is one for the part, `plan partial` comes to this end over the part and that text,
-- whose name is `name`
abbrev pub PlanGivesPartial : PartData → PlanData → List ℕ → Result Answer Event → Type 0
PlanGivesPartial part plan name end = (text : List ℕ) → IsPlanOf part text (Ok plan) → PlannedPartial name (Ok (record { part = part; text = text })) end
