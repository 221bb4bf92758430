-- One step of a command: what may come of it, and why (this project's choice).
use Rattle.std.specs.Prelude.{◌≡◌, ℕ, false, List, [], ◌∷◌, Option, None, Some, IfSome, Result, Ok, Err, ◌⊎◌}
use Rattle.x7_words.specs.Count.{HasRisen}
use Rattle.x7_words.specs.Input.{InputsState}
use Rattle.x7_forms.specs.declared.refusal.Refusal.{Refusal}
use Rattle.x7_part.specs.declared.fault.PartFault.{PartFault}
use Rattle.x7_forms.specs.declared.bad_input.InputFault.TheVariants as input
use Rattle.x7_forms.specs.Event.{Event, ReasonCause, Absence, Contents, bad_input, bad_part, cause_of_event, event_of, missing, no_memory, reading_failed, too_large}
use Rattle.x7_forms.specs.Known.{Failing, Known, Lacking, Mishap, StreamRead, streams_known, mishap_event, stream_known, stream_limit, whole_known, with_inputs, with_mishap}

-- the name is one of these; said by recursion, so that it computes to a choice for names that are listed, where std's
-- `Contains` asks for a place
abbrev pub Among : List (List ℕ) → List ℕ → Type 0
Among [] name = ⊥
Among (first ∷ names) name = (name ≡ first) ⊎ Among names name

-- the name is the last that was asked for, where that is kept, and no input is selected any more
pub record IsDeselected (name : List ℕ) (now : InputsState) : Type 0 where
  pub asked : IfSome now.asked (λ kept. kept ≡ name)
  pub selected : now.selected ≡ false

-- an input of one of these names failed: it was the last that was asked for, and the count of faults rose
pub record FailsAmong (names : List (List ℕ)) (old new : InputsState) (name : List ℕ) : Type 0 where
  pub among : Among names name
  pub deselected : IsDeselected name new
  pub risen : HasRisen old.faults new.faults

-- an input of one of these names was missing, by the count of absences
pub record LacksAmong (names : List (List ℕ)) (old new : InputsState) (name : List ℕ) : Type 0 where
  pub among : Among names name
  pub deselected : IsDeselected name new
  pub risen : HasRisen old.absences new.absences

-- a step over inputs: the names that it may ask for, and the states of the inputs before and after it
pub record InputStep : Type 0 where
  pub names : List (List ℕ)
  pub before : InputsState
  pub after : InputsState

-- the step over inputs that may ask for these names
abbrev pub step_over : List (List ℕ) → InputsState → InputsState → InputStep
step_over names before after = record { names = names; before = before; after = after }

-- a mishap came in a step: an input of one of the step's names failed after the bytes that were given of it, or was
-- missing
abbrev pub CameIn : InputStep → Mishap → Type 0
CameIn step (Failing name given) = (given ≡ step.after.given) × FailsAmong step.names step.before step.after name
CameIn step (Lacking name) = LacksAmong step.names step.before step.after name

-- the result of a call: what `value` makes of the value that it gave, or the event of its refusal
abbrev pub result_by : {A B : Type 0} → (A → B) → Result A Refusal → Result B Event
result_by value (Ok a) = Ok (value a)
result_by value (Err refusal) = Err (event_of refusal)

-- the event is the result that is due over the known contents with this mishap; where they aren't known, nothing is
-- said
abbrev pub DueBy : {A : Type 0} → Option Known → Mishap → (Known → Result A Event → Type 0) → Event → Type 0
DueBy None mishap Due event = Unit {0}
DueBy (Some known) mishap Due event = Due (with_mishap mishap known) (Err event)

-- The event reports a mishap that came. Where the contents are known, the event is due over them with that mishap.
pub record IsOfMishap (A : Type 0) (known : Option Known) (Came : Mishap → Type 0) (Due : Known → Result A Event → Type 0) (event : Event) : Type 0 where
  pub mishap : Mishap
  pub came : Came mishap
  pub reports : mishap_event mishap ≡ event
  pub due : DueBy known mishap Due event

-- the result is an event that may come whatever the contents are: want of memory, or that of a mishap
abbrev pub IsFromOutside : {A : Type 0} → Option Known → (Mishap → Type 0) → (Known → Result A Event → Type 0) → Result A Event → Type 0
IsFromOutside known Came Due (Ok a) = ⊥
IsFromOutside {A} known Came Due (Err event) = (event ≡ no_memory) ⊎ IsOfMishap A known Came Due event

-- known contents may decide an event of this cause
abbrev pub DecidedBy : ReasonCause → Type 0
DecidedBy Absence = Unit {0}
DecidedBy Contents = Unit {0}
DecidedBy _ = ⊥

-- the result is a value, or an event that known contents may decide
abbrev pub IsDecided : {A : Type 0} → Result A Event → Type 0
IsDecided (Ok a) = Unit {0}
IsDecided (Err event) = DecidedBy (cause_of_event event)

-- Contents that are not known may bring about an event of this cause. Which name the event has, and which reason, is
-- not said here.
abbrev pub PossibleBy : ReasonCause → Type 0
PossibleBy Contents = Unit {0}
PossibleBy _ = ⊥

-- the result is a value, or an event that contents which aren't known may bring about
abbrev pub IsPossible : {A : Type 0} → Result A Event → Type 0
IsPossible (Ok a) = Unit {0}
IsPossible (Err event) = PossibleBy (cause_of_event event)

-- the result is one that is due, where the contents are known; else it is one that contents may bring about
abbrev pub IsDue : {A : Type 0} → Option Known → (Known → Result A Event → Type 0) → Result A Event → Type 0
IsDue None Due got = IsPossible got
IsDue (Some known) Due got = IsDecided got × Due known got

-- the result has a cause: it comes from outside, or it is due over what is known
abbrev pub IsCausedBy : {A : Type 0} → Option Known → (Mishap → Type 0) → (Known → Result A Event → Type 0) → Result A Event → Type 0
IsCausedBy known Came Due got = IsFromOutside known Came Due got ⊎ IsDue known Due got

-- the result has a cause, as in `IsCausedBy`, where what is due is what the function `due` of the known contents says
abbrev pub IsCaused : {A : Type 0} → Option Known → (Mishap → Type 0) → (Known → Result A Event) → Result A Event → Type 0
IsCaused known Came due got = IsCausedBy known Came (λ t result. due t ≡ result) got

-- Whatever the flash holds, the result of a step has a cause: it is due by what the inputs hold, as known after the
-- step, or by that with a mishap that came, or it is want of memory. Where the inputs aren't known, it is a value, an
-- event that lies in them, the event of a mishap that came, or want of memory.
abbrev pub AnswersBy : {A : Type 0} → InputStep → (Known → Result A Event → Type 0) → Result A Event → Type 0
AnswersBy step Due got = (flash : Option (List ℕ)) → IsCausedBy (with_inputs step.after.contents flash) (CameIn step) Due got

-- Whatever the flash holds, the result of a step has a cause as in `AnswersBy`: what is due is what the function says
-- of the inputs before it, or of these with a mishap that came.
abbrev pub AnswersAs : {A : Type 0} → InputStep → (Known → Result A Event) → Result A Event → Type 0
AnswersAs step due got = AnswersBy step (λ known end. due known ≡ end) got

-- ---- why a step gives nothing, whatever the inputs hold

-- an input of this name isn't read: want of memory, which names none, or it isn't there, it failed, or it is over its
-- limit
abbrev pub IsUnread : List ℕ → Event → Type 0
IsUnread name event = (event ≡ no_memory) ⊎ ((event ≡ missing name) ⊎ ((event ≡ reading_failed name) ⊎ (event ≡ too_large name)))

-- a part file of this name gives no part: the file isn't read, or its text is refused
abbrev pub IsNoPart : List ℕ → Event → Type 0
IsNoPart name event = IsUnread name event ⊎ ((fault : PartFault) × (event ≡ bad_part name fault))

-- a stream of this name isn't played: it isn't read, or its header is refused
abbrev pub IsUnplayed : List ℕ → Event → Type 0
IsUnplayed name event = IsUnread name event ⊎ ((place : ℕ) × (event ≡ bad_input name (input.Byte place)))

-- want of memory, or one of these streams isn't played
abbrev pub IsOneUnplayed : List (List ℕ) → Event → Type 0
IsOneUnplayed names event = (event ≡ no_memory) ⊎ ((name : List ℕ) × (Among names name × IsUnplayed name event))

-- ---- steps that read

-- what a step that reads an input whole, which may have `limit` bytes, comes to: its bytes, or an event in place of
-- them
abbrev pub ReadsWhole : InputsState → InputsState → ℕ → List ℕ → Result (List ℕ) Event → Type 0
ReadsWhole old new limit name got = AnswersAs (step_over (name ∷ []) old new) (λ known. whole_known known limit name) got

-- what a step that reads a stream, which may have `limit` bytes, comes to: its data and what is left of the limit, or
-- an event in place of them
abbrev pub ReadsStream : InputsState → InputsState → ℕ → List ℕ → Result StreamRead Event → Type 0
ReadsStream old new limit name got = AnswersAs (step_over (name ∷ []) old new) (λ known. stream_known known limit name) got

-- what a step that reads streams one after the other, within the limit of one stream together, comes to: their data, or
-- an event in place of them
abbrev pub ReadsStreams : InputsState → InputsState → List (List ℕ) → Result (List ℕ) Event → Type 0
ReadsStreams old new names got = AnswersAs (step_over names old new) (λ known. streams_known known stream_limit names) got
