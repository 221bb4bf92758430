-- What a command works over, and what is known of it and has failed (this project's choice).
use Rattle.std.specs.Prelude.{◌≡◌, ◌≤◌, ℕ, List, [], ◌∷◌, ◌++◌, Option, None, Some, ◌⊎◌}
use Rattle.x7_words.specs.Count.{HasRisen}
use Rattle.x7_words.specs.Flash.{FlashFails, FlashState, WriteFails, names_asked}
use Rattle.x7_words.specs.Input.{InputsState}
use Rattle.x7_words.specs.Sink.{SinkFails, SinkState}
use Rattle.x7_forms.specs.Form.{FlashUse, Read, Unused, Updated, flash_names, names_of, updated_by}
use Rattle.x7_forms.specs.AskedForm.{AskedForm}
use Rattle.x7_forms.specs.Known.{Failing, Known, Lacking, Mishap, with_inputs}
use Rattle.x7_forms.specs.Step.{Among, FailsAmong, LacksAmong}

-- the outside at one moment: the states of the inputs, the flash, the output and the sink of messages
pub record Outside : Type 0 where
  pub inputs : InputsState
  pub flash : FlashState
  pub out : SinkState
  pub err : SinkState

-- what a command reads, at one moment: the states of the inputs and of the flash
pub record Sources : Type 0 where
  pub inputs : InputsState
  pub flash : FlashState

-- the inputs and the flash as sources
abbrev pub sources : InputsState → FlashState → Sources
sources inputs flash = record { inputs = inputs; flash = flash }

-- what is known of the inputs and of the flash of these sources; nothing where the inputs aren't known
abbrev pub known_from : Sources → Option Known
known_from s = with_inputs s.inputs.contents s.flash.bytes

-- the outside with these sources in place of its own
abbrev pub with_sources : Outside → Sources → Outside
with_sources o s = record o { inputs = s.inputs; flash = s.flash }

-- what a listing reads and writes, at one moment: the states of the inputs and of the output
pub record Transfer : Type 0 where
  pub inputs : InputsState
  pub out : SinkState

-- the inputs and the output as a transfer
abbrev pub transfer : InputsState → SinkState → Transfer
transfer inputs out = record { inputs = inputs; out = out }

-- the outside with this transfer in place of its own inputs and output
abbrev pub with_transfer : Outside → Transfer → Outside
with_transfer o t = record o { inputs = t.inputs; out = t.out }

-- the outside of these states
abbrev pub outside : InputsState → FlashState → SinkState → SinkState → Outside
outside inputs flash out err = record { inputs = inputs; flash = flash; out = out; err = err }

-- what is known, at the end, of the inputs, and before, of the flash; nothing where the inputs aren't known
abbrev pub known_in : Outside → Outside → Option Known
known_in old new = with_inputs new.inputs.contents old.flash.bytes

-- the flash was asked for once, by this name
abbrev pub IsAskedFor : List ℕ → FlashState → FlashState → Type 0
IsAskedFor name old new = names_asked new.calls ≡ names_asked old.calls ++ name ∷ []

-- the flash `name`, one of `names`, failed: it was asked for by that name, and its count of faults rose
pub record FlashFailsAmong (names : List (List ℕ)) (old new : FlashState) (name : List ℕ) : Type 0 where
  pub among : Among names name
  pub asked : IsAskedFor name old new
  pub risen : FlashFails old new

-- the flash `name`, one of `names`, was missing: it was asked for by that name, and its count of absences rose
pub record FlashLacksAmong (names : List (List ℕ)) (old new : FlashState) (name : List ℕ) : Type 0 where
  pub among : Among names name
  pub asked : IsAskedFor name old new
  pub risen : HasRisen old.absences new.absences

-- the input `name` failed, which the form reads, or the flash `name`, which it reads or updates
abbrev pub FormFails : Option AskedForm → Outside → Outside → List ℕ → Type 0
FormFails form old new name = FailsAmong (names_of form) old.inputs new.inputs name ⊎ FlashFailsAmong (flash_names form) old.flash new.flash name

-- the input `name` was missing, which the form reads, or the flash `name`, which it reads or updates; by the counts of
-- absences
abbrev pub FormLacks : Option AskedForm → Outside → Outside → List ℕ → Type 0
FormLacks form old new name = LacksAmong (names_of form) old.inputs new.inputs name ⊎ FlashLacksAmong (flash_names form) old.flash new.flash name

-- a mishap came: an input or the flash of a name that the form gives failed, after as many bytes as were given of the
-- last input, or was missing
abbrev pub CameInRun : Option AskedForm → Outside → Outside → Mishap → Type 0
CameInRun form old new (Failing name given) = (given ≡ new.inputs.given) × FormFails form old new name
CameInRun form old new (Lacking name) = FormLacks form old new name

-- a write of the flash failed; never where the form has no stream for a flash, and so writes none
abbrev pub WritesFail : Option (List ℕ) → FlashState → FlashState → Type 0
WritesFail None old new = ⊥
WritesFail (Some stream) old new = WriteFails old new

-- nothing that the form names failed or was missing, and neither the output nor a write of the flash failed
abbrev pub NothingFailed : Option AskedForm → Outside → Outside → Type 0
NothingFailed form old new =
    ((name : List ℕ) → ¬ FormFails form old new name) × ((name : List ℕ) → ¬ FormLacks form old new name) × (¬ SinkFails old.out new.out) × (¬ WritesFail (updated_by form) old.flash new.flash)

-- ---- the flash

-- the flash was asked for once at most, by this name
abbrev pub IsAskedAtMost : List ℕ → FlashState → FlashState → Type 0
IsAskedAtMost name old new = (names_asked new.calls ≡ names_asked old.calls) ⊎ IsAskedFor name old new

-- A flash was read at most: its bytes stay and no write failed, no count falls, and it was asked for once at most, by
-- `name`.
pub record ReadsFlash (name : List ℕ) (old new : FlashState) : Type 0 where
  pub bytes : new.bytes ≡ old.bytes
  pub write_faults : new.write_faults ≡ old.write_faults
  pub faults : old.faults ≤ new.faults
  pub absences : old.absences ≤ new.absences
  pub asked : IsAskedAtMost name old new

-- A flash may have been read and written: no count falls, and it was asked for once at most, by `name`.
pub record WritesFlash (name : List ℕ) (old new : FlashState) : Type 0 where
  pub faults : old.faults ≤ new.faults
  pub absences : old.absences ≤ new.absences
  pub write_faults : old.write_faults ≤ new.write_faults
  pub asked : IsAskedAtMost name old new

-- by what a form does with a flash: it is untouched, read at most, or may be read and written
abbrev pub UsesFlashAs : FlashUse → FlashState → FlashState → Type 0
UsesFlashAs Unused old new = new ≡ old
UsesFlashAs (Read name) old new = ReadsFlash name old new
UsesFlashAs (Updated name) old new = WritesFlash name old new
