-- What ends a command before its text is whole: the reasons, each with its status, its cause and its line (this
-- project's choice).
use Rattle.std.specs.Prelude.{ℕ, List, [], ◌++◌, Option, None, Some, codes, decimal}
use Rattle.x7_part.specs.declared.fault.PartFault.{PartFault}
use Rattle.x7_part.specs.declared.fault.PartFault.TheVariants as part
use Rattle.x7_part.specs.declared.fault.Which.{Which}
use Rattle.x7_part.specs.Keys.{name_of}
use Rattle.x7_text.specs.Digits.{hex_byte, hex_word}
use Rattle.x7_forms.specs.declared.bad_input.InputFault.{InputFault}
use Rattle.x7_forms.specs.declared.bad_input.InputFault.TheVariants as input
use Rattle.x7_forms.specs.declared.message.Detail.{Detail}
use Rattle.x7_forms.specs.declared.message.Detail.TheVariants as detail
use Rattle.x7_forms.specs.declared.status.Status.{Status}
use Rattle.x7_forms.specs.declared.status.Status.TheVariants as status
use Rattle.x7_forms.specs.declared.refusal.Refusal.{Refusal}
use Rattle.x7_forms.specs.declared.refusal.Why.{Why}
use Rattle.x7_forms.specs.declared.refusal.Why.TheVariants as why

-- the reason, and the name of the input or of the flash concerned: `reads` where too many words were read out, and
-- empty where the reason concerns none
pub record Event : Type 0 where
  pub reason : Why
  pub concerned : List ℕ

-- the event that a refusal of the code reports
abbrev pub event_of : Refusal → Event
event_of refusal = record { reason = refusal.reason; concerned = refusal.name.now }

-- what brings a reason about
pub data ReasonCause : Type 0 where
  -- the words have no form
  Wording : ReasonCause
  -- want of memory, which may come at any time
  Want : ReasonCause
  -- an input or the flash could not be opened or read, by its count of faults
  Fault : ReasonCause
  -- a name isn't there, by the contents or by a count of absences
  Absence : ReasonCause
  -- the output failed, or a write of the flash, by its count of faults
  Break : ReasonCause
  -- a byte of the flash that was verified is another than the one written
  Difference : ReasonCause
  -- what the inputs and the flash hold
  Contents : ReasonCause

-- a key of a part file, and its row where it is a row's
abbrev pub placed_key : List ℕ → Option ℕ → List ℕ
placed_key name None = name
placed_key name (Some row) = name ++ codes " in row " ++ decimal row

-- the key that a fault of a part file names, with its row where it is a row's
abbrev pub which_text : Which → List ℕ
which_text place = placed_key (name_of place.key) place.row

-- why a part file was refused, as the line of the refusal says it; want of memory comes as a reason of its own
-- (`part_event` in `Known`)
abbrev pub part_fault_text : PartFault → List ℕ
part_fault_text part.Toml = codes "toml"
part_fault_text (part.Key place) = codes "key " ++ which_text place
part_fault_text (part.Range place) = codes "range " ++ which_text place
part_fault_text (part.SameRow row) = codes "same row " ++ decimal row
part_fault_text (part.TooMany frames) = codes "too many " ++ decimal frames
part_fault_text part.NoMemory = codes "no memory"

-- why an input has no reading, what the part lacks of what is asked of it, or why a flash can't be updated, or a flash
-- or an image can't hold the stream, as the line of the refusal says it
abbrev pub input_fault_text : InputFault → List ℕ
input_fault_text (input.Byte place) = codes "byte " ++ decimal place
input_fault_text (input.Line line) = codes "line " ++ decimal line
input_fault_text (input.LongLine line) = codes "long line " ++ decimal line
input_fault_text (input.Sum line want got) = codes "sum line " ++ (decimal line ++ (codes " want " ++ (hex_byte want ++ (codes " got " ++ hex_byte got))))
input_fault_text (input.LargeLine line) = codes "large line " ++ decimal line
input_fault_text (input.Overlap place) = codes "overlap " ++ hex_word place
input_fault_text input.NoEnd = codes "no end"
input_fault_text (input.AddressLine line) = codes "address line " ++ decimal line
input_fault_text (input.TwiceLine line) = codes "twice line " ++ decimal line
input_fault_text input.Empty = codes "empty"
input_fault_text input.Foreign = codes "foreign"
input_fault_text input.Range = codes "range"
input_fault_text input.Image = codes "image"
input_fault_text input.Long = codes "long"
input_fault_text (input.Layout place) = codes "layout byte " ++ decimal place

-- what the line of a refusal says of a record's sum: its line, the byte that makes the sum 0, and the one that stands
-- there
abbrev pub sum_text : ℕ → ℕ → ℕ → List ℕ
sum_text line want got = decimal line ++ (codes " want " ++ (hex_byte want ++ (codes " got " ++ hex_byte got)))

-- what the line of a refusal says after its label
abbrev pub detail_text : Detail → List ℕ
detail_text detail.Nothing = []
detail_text (detail.Number number) = decimal number
detail_text (detail.Word word) = hex_word word
detail_text (detail.Sum line want got) = sum_text line want got
detail_text (detail.Key place) = which_text place

-- the line of a refusal: what stands before the name, the name, a label, and what comes after that
abbrev pub refusal_line : List ℕ → List ℕ → List ℕ → List ℕ → List ℕ
refusal_line before_name name label detail = before_name ++ (name ++ (label ++ (detail ++ codes "\n")))

-- a row of the table of reasons: the status and the cause of a reason, and what its line says between `x7: ` and the
-- name, and after the name
pub record ReasonRow : Type 0 where
  pub ends_as : Status
  pub cause : ReasonCause
  pub before_name : List ℕ
  pub after_name : List ℕ

-- the table of reasons
abbrev pub reason_row : Why → ReasonRow
reason_row why.Usage = record { ends_as = status.Usage; cause = Wording; before_name = codes "usage"; after_name = [] }
reason_row why.Missing = record { ends_as = status.Missing; cause = Absence; before_name = codes "missing "; after_name = [] }
reason_row (why.BadPart fault) = record { ends_as = status.BadPart; cause = Contents; before_name = codes "bad part "; after_name = codes ": " ++ part_fault_text fault }
reason_row (why.BadInput fault) = record { ends_as = status.BadInput; cause = Contents; before_name = codes "bad input "; after_name = codes ": " ++ input_fault_text fault }
reason_row why.ReadFault = record { ends_as = status.ReadFault; cause = Fault; before_name = codes "read fault "; after_name = [] }
reason_row why.WriteFault = record { ends_as = status.WriteFault; cause = Break; before_name = codes "write fault"; after_name = [] }
reason_row why.NoMemory = record { ends_as = status.NoMemory; cause = Want; before_name = codes "no memory"; after_name = [] }
reason_row why.TooLarge = record { ends_as = status.TooLarge; cause = Contents; before_name = codes "too large "; after_name = [] }
reason_row (why.Differs place) = record { ends_as = status.Differs; cause = Difference; before_name = codes "differs "; after_name = codes ": byte " ++ decimal place }

-- what brings an event about
abbrev pub cause_of_event : Event → ReasonCause
cause_of_event e = (reason_row e.reason).cause

-- the status of a run that an event ends
abbrev pub status_of_event : Event → Status
status_of_event e = (reason_row e.reason).ends_as

-- the line that reports an event, with its line feed
abbrev pub event_line : Event → List ℕ
event_line e = codes "x7: " ++ ((reason_row e.reason).before_name ++ (e.concerned ++ ((reason_row e.reason).after_name ++ codes "\n")))

-- ---- the events by their reasons

-- the words have no form
abbrev pub usage : Event
usage = record { reason = why.Usage; concerned = [] }

-- the input or the flash of this name isn't there
abbrev pub missing : List ℕ → Event
missing name = record { reason = why.Missing; concerned = name }

-- the part file of this name is refused
abbrev pub bad_part : List ℕ → PartFault → Event
bad_part name fault = record { reason = why.BadPart fault; concerned = name }

-- An input of this name has no reading, or the flash or the image can't hold it; or the part of this part file lacks
-- what is asked of it; or the flash of this name can't be updated.
abbrev pub bad_input : List ℕ → InputFault → Event
bad_input name fault = record { reason = why.BadInput fault; concerned = name }

-- an input or the flash of this name could not be opened or read
abbrev pub reading_failed : List ℕ → Event
reading_failed name = record { reason = why.ReadFault; concerned = name }

-- the output failed, or a write of the flash
abbrev pub writing_failed : Event
writing_failed = record { reason = why.WriteFault; concerned = [] }

-- memory is wanting
abbrev pub no_memory : Event
no_memory = record { reason = why.NoMemory; concerned = [] }

-- the input or the flash of this name is over its limit
abbrev pub too_large : List ℕ → Event
too_large name = record { reason = why.TooLarge; concerned = name }

-- a byte of the flash of this name that was verified, at this place, is another than the one written
abbrev pub differs : List ℕ → ℕ → Event
differs name place = record { reason = why.Differs place; concerned = name }

-- too many words were read out
abbrev pub too_many_reads : Event
too_many_reads = too_large (codes "reads")
