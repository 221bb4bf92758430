-- Where reading stops: which input is asked for last, how often inputs were asked for till then, and how many bytes are
-- given of the last (this project's choice).
use Rattle.std.specs.Prelude.{◌≡◌, ℕ, List, [], ◌∷◌, Option, None, Some, Result, Ok, Err, ◌⊎◌}
use Rattle.x7_words.specs.Input.{InputsState}
use Rattle.x7_boot.specs.Image.{flash_limit}
use Rattle.x7_forms.specs.Event.{Absence, ReasonCause, Contents, Event, Fault, cause_of_event, too_many_reads}
use Rattle.x7_forms.specs.Form.{flash_names}
use Rattle.x7_forms.specs.AskedForm.{AskedForm}
use Rattle.x7_forms.specs.AskedForm as form
use Rattle.x7_forms.specs.Known.{part_limit, stream_limit, script_limit, text_limit}
use Rattle.x7_forms.specs.Step.{Among}
use Rattle.x7_forms.specs.ReadingStops.{Limited, StopsAt, limited, limited_together}

-- the inputs that a form reads, in the order of its words, each with the most bytes that it may have: the streams of
-- `play` have one limit together
abbrev pub inputs_of : Option (List ℕ → Option (List ℕ)) → AskedForm → List Limited
inputs_of contents (form.List stream) = limited stream_limit stream ∷ []
inputs_of contents (form.Asm text) = limited text_limit text ∷ []
inputs_of contents (form.Play part streams) = limited part_limit part ∷ limited_together contents stream_limit streams
inputs_of contents (form.Debug part stream script) = limited part_limit part ∷ limited stream_limit stream ∷ limited script_limit script ∷ []
inputs_of contents (form.Svf part text) = limited part_limit part ∷ limited text_limit text ∷ []
inputs_of contents (form.PlanFull part frames) = limited part_limit part ∷ limited text_limit frames ∷ []
inputs_of contents (form.PlanPartial part frames) = limited part_limit part ∷ limited text_limit frames ∷ []
inputs_of contents (form.PlanRead part far n) = limited part_limit part ∷ []
inputs_of contents (form.Gen part seed) = limited part_limit part ∷ []
inputs_of contents (form.Image golden update) = limited stream_limit golden ∷ limited stream_limit update ∷ []
inputs_of contents (form.ImageFor part golden update) = limited part_limit part ∷ limited stream_limit golden ∷ limited stream_limit update ∷ []
inputs_of contents (form.Boot part flash) = limited part_limit part ∷ []
inputs_of contents (form.Update flash stream) = limited stream_limit stream ∷ []
inputs_of contents (form.Mcs image) = limited flash_limit image ∷ []
inputs_of contents (form.Unmcs text) = limited text_limit text ∷ []

-- the event says that too many words were read out, of a form that writes what a device reads out
abbrev pub ReadsTooMany : AskedForm → Event → Type 0
ReadsTooMany (form.Play part streams) event = event ≡ too_many_reads
ReadsTooMany _ event = ⊥

-- the event names the form's flash, or says that too many words were read out, or names the input at which reading
-- stopped
abbrev pub NamesItsStop : AskedForm → InputsState → InputsState → Event → Type 0
NamesItsStop form old now event = Among (flash_names (Some form)) event.concerned ⊎ (ReadsTooMany form event ⊎ StopsAt (inputs_of now.contents form) old now event)

-- by the cause of an event: one that lies in what an input or a flash holds, in its fault or in its absence names where
-- the command stopped; of any other nothing is said
abbrev pub StopsBy : ReasonCause → AskedForm → InputsState → InputsState → Event → Type 0
StopsBy Fault form old now event = NamesItsStop form old now event
StopsBy Absence form old now event = NamesItsStop form old now event
StopsBy Contents form old now event = NamesItsStop form old now event
StopsBy _ form old now event = Unit {0}

-- where an input ends a command, it is the last that was asked for, no more inputs were asked for than stand up to it,
-- and at most one byte over its limit was given of it
abbrev pub StopsReading : {A : Type 0} → Option AskedForm → InputsState → InputsState → Result A Event → Type 0
StopsReading None old now end = Unit {0}
StopsReading (Some form) old now (Ok a) = Unit {0}
StopsReading (Some form) old now (Err event) = StopsBy (cause_of_event event) form old now event
