-- What a run comes to: how it ended and why, its status, and what the outside holds then (this project's choice).
use Rattle.std.specs.Prelude.{◌≡◌, ◌≤◌, ℕ, length, List, Option, None, Some, ◌⊎◌, Bool, false, OnOk, Result, Ok, Err}
use Rattle.x7_words.specs.FlashHistory.{FollowsCalls}
use Rattle.x7_words.specs.Input.{AsksAtMost, InputsStay, NoInputFault}
use Rattle.x7_words.specs.Sink.{PutsOrFails, SinkState}
use Rattle.x7_words.specs.Word.{AreBytes}
use Rattle.x7_listing.specs.StreamListing.{stream_listing}
use Rattle.x7_mcs.specs.Text.{mcs_text}
use Rattle.x7_boot.specs.Image.{flash_limit}
use Rattle.x7_boot.specs.Reads.{IfAgrees, answers_since}
use Rattle.x7_forms.specs.declared.refusal.Refusal.{Refusal}
use Rattle.x7_forms.specs.declared.status.Status.{Status}
use Rattle.x7_forms.specs.declared.status.Status.TheVariants as status
use Rattle.x7_forms.specs.Event.{Event, event_line}
use Rattle.x7_forms.specs.Form.{flash_use, names_of, updated_by}
use Rattle.x7_forms.specs.AskedForm.{AskedForm}
use Rattle.x7_forms.specs.AskedForm as form
use Rattle.x7_forms.specs.Status.{final_status}
use Rattle.x7_forms.specs.Known.{Answer, Known, stream_limit, with_inputs}
use Rattle.x7_forms.specs.Step.{result_by}
use Rattle.x7_outcome.specs.Ahead.{StaysNear}
use Rattle.x7_outcome.specs.Called.{UpdateCalled}
use Rattle.x7_outcome.specs.Leaving.{LeavesAnyFlash, UpdateLeaves}
use Rattle.x7_tool.specs.PowerLoss.{EachBootsOfAny}
use Rattle.x7_outcome.specs.Outcome.{IsOutcome}
use Rattle.x7_outcome.specs.Outside.{NothingFailed, UsesFlashAs, Outside, known_in, sources}
use Rattle.x7_tool.specs.Promise.{Promise}
use Rattle.x7_outcome.specs.Stopping.{StopsReading}
use Rattle.x7_outcome.specs.Ending.{BootsAsRead, EndIsCaused, FailsLast, IsMeasured, JudgesFlash, OutputGets}

-- what a call that writes a text came to: whether what the text reports stopped, or the event of the refusal
abbrev pub stopped_or_event : Result Bool Refusal → Result Bool Event
stopped_or_event result = result_by (λ stopped. stopped) result

-- The output failed in no call, by its count of faults; save where the status is that of a write fault, or of want of
-- memory. So a write that failed is the last one, and no other reason is told after it.
abbrev pub OutputFailsLast : SinkState → SinkState → Status → Type 0
OutputFailsLast old new s = (s ≡ status.WriteFault) ⊎ ((s ≡ status.NoMemory) ⊎ (new.faults ≡ old.faults))

-- what became of the sink of messages: nothing after a whole text, not even a fault; else it got the event's line, or a
-- prefix of it where it failed
abbrev pub SaysEnd : SinkState → SinkState → Result Answer Event → Type 0
SaysEnd old new (Ok answer) = new ≡ old
SaysEnd old new (Err event) = PutsOrFails old (event_line event) new

-- the input `name` is known, and has this text
abbrev pub HasText : Outside → List ℕ → List ℕ → Type 0
HasText o name text = (contents : List ℕ → Option (List ℕ)) × ((o.inputs.contents ≡ Some contents) × (contents name ≡ Some text))

-- the run ended with these bytes as its text, or for want of memory
abbrev pub LeadsBack : Status → Result Answer Event → List ℕ → Type 0
LeadsBack s end bytes = (s ≡ status.NoMemory) ⊎ (end ≡ Ok (record { stopped = false; text = bytes }))

-- where nothing failed, the listing of a stream of at most `stream_limit` bytes assembles to the stream, its header
-- included, or memory was wanting
abbrev pub ListingAssembles : List ℕ → Outside → Outside → Status → Result Answer Event → Type 0
ListingAssembles name old new s end =
    (bytes text : List ℕ) → AreBytes bytes → length bytes ≤ stream_limit → stream_listing bytes ≡ Ok text
    → HasText new name text → NothingFailed (Some (form.Asm name)) old new → LeadsBack s end bytes

-- where nothing failed, the Intel HEX text of an image of at most `flash_limit` bytes gives the image, or memory was
-- wanting
abbrev pub GivesImage : List ℕ → Outside → Outside → Status → Result Answer Event → Type 0
GivesImage name old new s end =
    (bytes : List ℕ) → AreBytes bytes → length bytes ≤ flash_limit
    → HasText new name (mcs_text bytes) → NothingFailed (Some (form.Unmcs name)) old new → LeadsBack s end bytes

-- `asm` of a listing gives the stream, and `unmcs` of an Intel HEX text the image, as `ListingAssembles` and
-- `GivesImage` say; of other forms nothing is said
abbrev pub TextsLeadBack : Option AskedForm → Outside → Outside → Status → Result Answer Event → Type 0
TextsLeadBack (Some (form.Asm name)) old new s end = ListingAssembles name old new s end
TextsLeadBack (Some (form.Unmcs name)) old new s end = GivesImage name old new s end
TextsLeadBack form old new s end = Unit {0}

-- the text of a boot keeps the promise of a boot over every flash of this size that gives what was read
abbrev pub PromisesAsRead : Option AskedForm → Outside → Outside → Result Answer Event → Type 0
PromisesAsRead (Some (form.Boot part flash)) old new (Ok answer) =
    IfAgrees (answers_since old.flash new.flash) (λ all. Promise (with_inputs new.inputs.contents (Some all)) (Some (form.Boot part flash)) (Ok answer))
PromisesAsRead form old new end = Unit {0}

-- what the output got, and how far `list` read ahead of it
pub record UsesOutput (form : Option AskedForm) (old new : Outside) (s : Status) (end : Result Answer Event) : Type 0 where
  -- the output got the whole text, or what the event leaves of it
  pub wrote : OutputGets form old new end
  -- where the stream and the output are known and `list` ends by an event, at most `most_bytes_ahead` bytes more of the
  -- stream were read or given than are listed, or, where the header is refused at a byte, none after that byte was read
  pub near : StaysNear s form old new
  -- a write that failed is the last one, and no other reason is told after it
  pub failed_last : OutputFailsLast old.out new.out s

-- what was asked of the inputs
pub record UsesInputs (form : Option AskedForm) (old new : Outside) (end : Result Answer Event) : Type 0 where
  -- an event that lies in an input names the last one that was asked for, and no more than a byte over its limit was
  -- given of that
  pub stops : StopsReading form old.inputs new.inputs end
  -- no more inputs were asked for than the words name, and no more ends of inputs were read
  pub asks : AsksAtMost old.inputs (length (names_of form)) new.inputs
  -- every input keeps its bytes, and the counts of faults and of absences of inputs don't fall
  pub stays : InputsStay old.inputs new.inputs
  -- a run that ends with a whole text met no fault of an input and no absence: no call that failed was made once more
  pub no_fault : OnOk end (NoInputFault old.inputs new.inputs)

-- What was done with the flash, of every type of flash, a file of the system too.
pub record UsesItsFlash (form : Option AskedForm) (old new : Outside) (end : Result Answer Event) : Type 0 where
  -- the flash is untouched, read or written as the form says, and was asked for once at most, by the form's name
  pub keeps : UsesFlashAs (flash_use form) old.flash new.flash
  -- the flash's bytes, where they are known, are what its calls make of those that it had before
  pub follows : FollowsCalls old.flash new.flash
  -- of a flash that gives what it holds: what a power loss at any moment of the run may leave of it, whatever it held
  pub left : LeavesAnyFlash form (sources new.inputs old.flash) new.flash
  -- and a boot from what is left then is the one before the update, or that of the golden stream, or of the updated flash
  pub boots : EachBootsOfAny form (sources new.inputs old.flash) new.flash
  -- an update that is done called the flash for the calls of an update with the stream's data, and for no others; one
  -- that isn't for the attach, or for these up to one that shows why not
  pub called : UpdateCalled form old new end
  -- an update that is done leaves the flash as it is after one with the stream's data, or with some bytes where the
  -- inputs aren't known; one that isn't leaves the flash's bytes, unless a write or a read of the flash failed, or a
  -- byte differs
  pub updates : UpdateLeaves (updated_by form) old new end
  -- the flash of the form is within the limit after a whole text, and over it where the event is that it is too large,
  -- whether its bytes are known or not; the event may be that of an input of the same name
  pub measured : IsMeasured form new.flash end
  -- an update whose flash isn't there, wasn't attached or is too large asks for no stream, unless that has the flash's
  -- name, and a boot touches its flash only once its part is good, unless memory was wanting or the output failed
  pub judges : JudgesFlash form (sources old.inputs old.flash) (sources new.inputs new.flash) end
  -- a fault of a flash that is attached comes last: the flash is within the limit, and the form would have a whole text
  -- of its inputs; unless an input has its name
  pub fails_last : FailsLast form new.inputs new.flash end

-- the text of a boot, by what was read of the flash, a file of the system too
pub record BootsByReads (form : Option AskedForm) (old new : Outside) (end : Result Answer Event) : Type 0 where
  -- the text is that of every flash of this size that gives what was read
  pub as_read : BootsAsRead form (sources old.inputs old.flash) (sources new.inputs new.flash) end
  -- and keeps its promise over each
  pub promise : PromisesAsRead form old new end

-- What a run of the command came to: `form` is what its words ask for, `old` and `new` the outside before and after it,
-- and `s` its status.
pub record Runs (form : Option AskedForm) (old new : Outside) (s : Status) : Type 0 where
  -- the run ended with a whole text, or with an event in place of one
  pub end : Result Answer Event
  -- the status is that of the end
  pub ends_as : s ≡ final_status end
  -- words without a form are a wrong usage
  pub no_form : form ≡ None → s ≡ status.Usage
  -- where the bytes of the inputs are known, and nothing failed or was missing, the end is what the words come to, or
  -- memory was wanting
  pub outcome : (known : Known) → known_in old new ≡ Some known → NothingFailed form old new → (s ≡ status.NoMemory) ⊎ IsOutcome known form end
  -- a whole text over known inputs keeps the promise of its form: a planned stream does on a device at rest what was
  -- planned, a report shows no startup without its checks, and a device boots from an image or a flash as is said
  pub promise : Promise (known_in old new) form end
  -- where the inputs are known, nothing failed and the bytes are within their limit, `asm` of the listing of a stream
  -- gives the stream, and `unmcs` of the Intel HEX text of an image the image; or memory was wanting
  pub back : TextsLeadBack form old new s end
  -- where the contents are known, a whole text is theirs, and an event has its cause in them; or the event reports a
  -- fault, an absence, a failed write or a byte that differs, which came; or memory was wanting
  pub cause : EndIsCaused form old new end
  -- after a whole text the sink of messages is as it was, without a fault; else it got the event's one line, or a prefix
  -- of that line where it failed
  pub said : SaysEnd old.err new.err end
  -- what the output got
  pub output : UsesOutput form old new s end
  -- what was asked of the inputs
  pub inputs : UsesInputs form old new end
  -- what was done with the flash, and what a power loss may leave of it
  pub flash : UsesItsFlash form old new end
  -- of which flashes the text of a boot is
  pub boot : BootsByReads form old new end
