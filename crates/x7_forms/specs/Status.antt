-- The status of a run, by how it ended, and its number, with which the program ends (this project's choice).
use Rattle.std.specs.Prelude.{ℕ, Result, Ok, Err, Bool, true, false}
use Rattle.x7_forms.specs.declared.status.Status.{Status}
use Rattle.x7_forms.specs.declared.status.Status.TheVariants as status
use Rattle.x7_forms.specs.Event.{Event, status_of_event}
use Rattle.x7_forms.specs.Known.{Answer}

-- the number that the program ends with
abbrev pub status_number : Status → ℕ
status_number status.Done = 0
status_number status.Stopped = 1
status_number status.Usage = 2
status_number status.Missing = 3
status_number status.BadPart = 4
status_number status.BadInput = 5
status_number status.ReadFault = 6
status_number status.WriteFault = 7
status_number status.NoMemory = 8
status_number status.TooLarge = 9
status_number status.Differs = 11

-- the status of a whole text: `Stopped` where it reports a device at a fault, a scan that differed or a boot that no
-- attempt started, and else `Done`
abbrev pub text_status : Bool → Status
text_status true = status.Stopped
text_status false = status.Done

-- the status of a run, by its whole text or the event that ended it
abbrev pub final_status : Result Answer Event → Status
final_status (Ok answer) = text_status answer.stopped
final_status (Err event) = status_of_event event
