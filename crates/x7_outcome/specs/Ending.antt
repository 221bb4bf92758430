-- What may end a command, what its output holds and what is so of its flash then, and what a text that is made ready,
-- or the event in place of it, has as its cause (this project's choice).
use Rattle.std.specs.Prelude.{◌≡◌, ◌<◌, ◌≤◌, ℕ, List, [], ◌∷◌, ◌++◌, length, Option, None, Some, OnOk, Result, Ok, Err, Bool, true, false, ◌⊎◌}
use Rattle.x7_words.specs.Flash.{FlashState, IfKnown}
use Rattle.x7_words.specs.Input.{AsksAtMost, InputsState, InputsStay, NoInputFault}
use Rattle.x7_boot.specs.Image.{flash_limit}
use Rattle.x7_boot.specs.Reads.{IfAgrees, answers_since}
use Rattle.x7_words.specs.Sink.{PutsAll, PutsPrefix, PutsSome, SinkFails, SinkState}
use Rattle.x7_words.specs.Word.{AreBytes}
use Rattle.x7_listing.specs.StreamListing.{stream_listing}
use Rattle.x7_forms.specs.declared.refusal.Why.{Why}
use Rattle.x7_forms.specs.declared.refusal.Why.TheVariants as why
use Rattle.x7_forms.specs.Event.{Event, ReasonCause, Wording, Want, Fault, Absence, Break, Contents, Difference, cause_of_event, differs, missing, no_memory, reading_failed, too_large, usage, writing_failed}
use Rattle.x7_forms.specs.Form.{flash_names, listed_by, names_of, updated_by}
use Rattle.x7_forms.specs.AskedForm.{AskedForm}
use Rattle.x7_forms.specs.AskedForm as form
use Rattle.x7_forms.specs.Known.{Answer, Held, Known, bytes_found, flash_found, with_inputs}
use Rattle.x7_part.specs.Part.{PartData}
use Rattle.x7_forms.specs.Status.{final_status}
use Rattle.x7_forms.specs.Step.{Among, AnswersBy, IsCausedBy, IsOfMishap, step_over}
use Rattle.x7_outcome.specs.Ahead.{StaysNear}
use Rattle.x7_outcome.specs.Called.{UpdateCalled}
use Rattle.x7_outcome.specs.Outcome.{FlashBoots, FormGives, no_text}
use Rattle.x7_outcome.specs.Leaving.{HasData, UpdateLeaves}
use Rattle.x7_outcome.specs.Outside.{CameInRun, FlashFailsAmong, FlashLacksAmong, Outside, Sources, Transfer, WritesFail, known_in, sources, with_sources, with_transfer}
use Rattle.x7_outcome.specs.Stopping.{StopsReading}

-- ---- why

-- the contents are known, and the form comes to this end; where they aren't, never
abbrev pub IsKnownToGive : Option Known → AskedForm → Result Answer Event → Type 0
IsKnownToGive None form end = ⊥
IsKnownToGive (Some known) form end = FormGives known form end

-- where the contents are known, the form comes to this end; where they aren't, always
abbrev pub GivesIfKnown : Option Known → AskedForm → Result Answer Event → Type 0
GivesIfKnown None form end = Unit {0}
GivesIfKnown (Some known) form end = FormGives known form end

-- The event reports a mishap that came; where the contents are known, the form comes to the event over them with that
-- mishap.
abbrev pub ReportsMishap : AskedForm → Outside → Outside → Event → Type 0
ReportsMishap form old new event = IsOfMishap Answer (known_in old new) (CameInRun (Some form) old new) (λ known end. FormGives known form end) event

-- the event says that a byte differs, of a flash that the form updates and whose bytes aren't known; which byte it is the
-- flash's calls show (`UpdateCalled`)
abbrev pub IsDifference : AskedForm → Outside → Outside → Event → Type 0
IsDifference (form.Update name stream) old new event = (place : ℕ) × (event ≡ differs name place) × (old.flash.bytes ≡ None)
IsDifference _ old new event = ⊥

-- A write of the flash of a form failed: the flash is within the limit, and where the contents are known, the form
-- comes over them to its whole text, which is empty.
abbrev pub WritesLast : AskedForm → Outside → Outside → Type 0
WritesLast form old new = WritesFail (updated_by (Some form)) old.flash new.flash × (new.flash.extent ≤ flash_limit) × GivesIfKnown (known_in old new) form (Ok no_text)

-- by its cause, what is so of an event that ends a form
abbrev pub CausedBy : ReasonCause → AskedForm → Outside → Outside → Event → Type 0
-- never: the words have a form
CausedBy Wording form old new event = ⊥
-- the event is that of want of memory
CausedBy Want form old new event = event ≡ no_memory
-- the event reports a fault that came, and is the first one over known contents with that fault
CausedBy Fault form old new event = ReportsMishap form old new event
-- the event reports a name that was missing, by the count of absences, and is the first one over known contents without
-- that name; or known contents give the event
CausedBy Absence form old new event = ReportsMishap form old new event ⊎ IsKnownToGive (known_in old new) form (Err event)
-- the output failed, or a write of the flash, as `WritesLast` says
CausedBy Break form old new event = (event ≡ writing_failed) × (SinkFails old.out new.out ⊎ WritesLast form old new)
-- a byte of a flash whose bytes aren't known differs, and where the contents are known, they give the event
CausedBy Difference form old new event = IsDifference form old new event × GivesIfKnown (known_in old new) form (Err event)
-- where the contents are known, they give the event
CausedBy Contents form old new event = GivesIfKnown (known_in old new) form (Err event)

-- why a command ended so: words without a form are a wrong usage, a whole text is that of the contents where they are
-- known, and an event has its cause
abbrev pub EndIsCaused : Option AskedForm → Outside → Outside → Result Answer Event → Type 0
EndIsCaused None old new end = end ≡ Err usage
EndIsCaused (Some form) old new (Ok answer) = GivesIfKnown (known_in old new) form (Ok answer)
EndIsCaused (Some form) old new (Err event) = CausedBy (cause_of_event event) form old new event

-- The text of a boot is that of every flash of this size that gives what was read, one of the system too.
abbrev pub BootsAsRead : Option AskedForm → Sources → Sources → Result Answer Event → Type 0
BootsAsRead (Some (form.Boot part flash)) old new (Ok answer) =
    IfAgrees (answers_since old.flash new.flash) (λ all. GivesIfKnown (with_inputs new.inputs.contents (Some all)) (form.Boot part flash) (Ok answer))
BootsAsRead form old new end = Unit {0}

-- ---- what the output got

-- the bytes are a prefix of the input of this name, where it is known; of one that isn't there, none
abbrev pub IsPrefixOfInput : Option Known → List ℕ → List ℕ → Type 0
IsPrefixOfInput None name bytes = Unit {0}
IsPrefixOfInput (Some known) name bytes = (rest : List ℕ) × (bytes_found (known.inputs name) ≡ bytes ++ rest)

-- the sink got a prefix of the listing of a stream of these bytes
abbrev pub GetsPrefixOfListing : List ℕ → SinkState → SinkState → Type 0
GetsPrefixOfListing bytes old new = (text : List ℕ) × ((stream_listing bytes ≡ Ok text) × PutsSome old text new)

-- The bytes have a listing whatever follows them, so they don't end inside a header, and what was put is a prefix of
-- the listing of every list of bytes that begins with them.
pub record ListsSoFar (bytes : List ℕ) (old new : Option (List ℕ)) : Type 0 where
  pub has_listing : (rest : List ℕ) → (text : List ℕ) × (stream_listing (bytes ++ rest) ≡ Ok text)
  pub puts_prefix : (rest text : List ℕ) → AreBytes rest → stream_listing (bytes ++ rest) ≡ Ok text → PutsPrefix old text new

-- the output got nothing; or a prefix of the listing of bytes that the stream begins with, which is one whatever bytes
-- follow them
abbrev pub ListsPrefix : List ℕ → Outside → Outside → Type 0
ListsPrefix stream old new =
    (new.out.written ≡ old.out.written) ⊎ ((bytes : List ℕ) × (IsPrefixOfInput (known_in old new) stream bytes × ListsSoFar bytes old.out.written new.out.written))

-- what `list` wrote where a reason ended it: what it had listed as it read, or nothing
-- where the reason comes before the listing
abbrev pub ListingAfterReason : Why → List ℕ → Outside → Outside → Type 0
ListingAfterReason why.ReadFault stream old new = ListsPrefix stream old new
ListingAfterReason why.TooLarge stream old new = ListsPrefix stream old new
ListingAfterReason why.NoMemory stream old new = ListsPrefix stream old new
ListingAfterReason _ stream old new = new.out.written ≡ old.out.written

-- what the output got where an event other than its own failure ended the command: nothing, save from a listing
abbrev pub OutputAfterEvent : Option (List ℕ) → Event → Outside → Outside → Type 0
OutputAfterEvent (Some stream) event old new = ListingAfterReason event.reason stream old new
OutputAfterEvent None event old new = new.out.written ≡ old.out.written

-- the sink got a prefix of the listing of a stream that is known, whether or not it is within its limit
abbrev pub GetsPrefixOfKnownListing : Known → List ℕ → SinkState → SinkState → Type 0
GetsPrefixOfKnownListing known stream old new = (bytes : List ℕ) × ((known.inputs stream ≡ Held bytes) × (AreBytes bytes → GetsPrefixOfListing bytes old new))

-- the sink got a prefix of the whole text of the form over what is known
abbrev pub GetsPrefixOfKnownText : Known → AskedForm → SinkState → SinkState → Type 0
GetsPrefixOfKnownText known form old new = (answer : Answer) × (FormGives known form (Ok answer) × PutsSome old answer.text new)

-- the sink got a prefix of the whole text: that of a listing, or of another form
abbrev pub GetsPrefixOfKnown : Option (List ℕ) → Known → AskedForm → SinkState → SinkState → Type 0
GetsPrefixOfKnown (Some stream) known form old new = GetsPrefixOfKnownListing known stream old new
GetsPrefixOfKnown None known form old new = GetsPrefixOfKnownText known form old new

-- where the contents are known the output got a prefix of the whole text, and else of some text
abbrev pub GetsPrefixOfText : Option Known → AskedForm → SinkState → SinkState → Type 0
GetsPrefixOfText None form old new = (text : List ℕ) × PutsSome old text new
GetsPrefixOfText (Some known) form old new = GetsPrefixOfKnown (listed_by (Some form)) known form old new

-- what the output got where a write failed: a prefix of the text; of a form with a stream for a flash, nothing
abbrev pub OutputAfterFailure : Option (List ℕ) → AskedForm → Outside → Outside → Type 0
OutputAfterFailure None form old new = GetsPrefixOfText (known_in old new) form old.out new.out
OutputAfterFailure (Some stream) form old new = new.out.written ≡ old.out.written

-- what the output got after an event of this cause
abbrev pub OutputByCause : ReasonCause → Option AskedForm → Outside → Outside → Event → Type 0
OutputByCause Break (Some form) old new event = OutputAfterFailure (updated_by (Some form)) form old new
OutputByCause _ form old new event = OutputAfterEvent (listed_by form) event old new

-- what the output got: the whole text, or what the event leaves of it
abbrev pub OutputGets : Option AskedForm → Outside → Outside → Result Answer Event → Type 0
OutputGets form old new (Ok answer) = PutsAll old.out answer.text new.out
OutputGets form old new (Err event) = OutputByCause (cause_of_event event) form old new event

-- The output failed in no call, by its count of faults; save where the event is a write fault, or memory was wanting.
-- So a failed write is the last, and no other reason is told after it.
abbrev pub FailsOutLast : {A : Type 0} → SinkState → SinkState → Result A Event → Type 0
FailsOutLast old new (Ok a) = new.faults ≡ old.faults
FailsOutLast old new (Err event) = (event ≡ no_memory) ⊎ ((event ≡ writing_failed) ⊎ (new.faults ≡ old.faults))

-- ---- how large a flash is

-- By the number of its bytes, known or not, the flash of a form is within the limit where the form's text is whole. It
-- is over the limit where the event is that a name of the flash is too large, unless an input of the form has that name
-- too.
abbrev pub IsMeasured : Option AskedForm → FlashState → Result Answer Event → Type 0
IsMeasured form new (Ok answer) = (name : List ℕ) → Among (flash_names form) name → new.extent ≤ flash_limit
IsMeasured form new (Err event) = (name : List ℕ) → Among (flash_names form) name → event ≡ too_large name → (flash_limit < new.extent) ⊎ Among (names_of form) name

-- ---- when a flash fails

-- a form has all that it needs but for its flash, which is within the limit: where the inputs are known, the form may
-- come to a whole text over them and a flash of which nothing is known
abbrev pub NeedsOnlyFlash : AskedForm → InputsState → FlashState → Type 0
NeedsOnlyFlash form old new = (new.extent ≤ flash_limit) × ((answer : Answer) × GivesIfKnown (with_inputs old.contents None) form (Ok answer))

-- a fault of a form's flash that is attached comes once the form needs only the flash; the event may be that of an
-- input of the flash's name too
abbrev pub FailsLast : Option AskedForm → InputsState → FlashState → Result Answer Event → Type 0
FailsLast None old new end = Unit {0}
FailsLast (Some form) old new (Ok answer) = Unit {0}
FailsLast (Some form) old new (Err event) =
    (name : List ℕ) → Among (flash_names (Some form)) name → event ≡ reading_failed name → new.attached ≡ true → NeedsOnlyFlash form old new ⊎ Among (names_of (Some form)) name

-- the event is that the flash `name` isn't there or is too large, or that it failed, and it is not attached
abbrev pub IsUnusable : List ℕ → FlashState → Event → Type 0
IsUnusable name now event = (event ≡ missing name) ⊎ ((event ≡ too_large name) ⊎ ((event ≡ reading_failed name) × (now.attached ≡ false)))

-- A boot ended by this event touched its flash only once its part was good: unless memory was wanting or the output
-- failed, the event concerns the flash of this name, or the flash is as it was before.
abbrev pub TouchesFlashLast : List ℕ → FlashState → FlashState → Event → Type 0
TouchesFlashLast name old new event = (event ≡ no_memory) ⊎ ((event ≡ writing_failed) ⊎ ((event.concerned ≡ name) ⊎ (new ≡ old)))

-- An update whose flash can't be used asks for no stream, unless the stream has the flash's name. A boot that an event
-- ended touched its flash as `TouchesFlashLast` says.
abbrev pub JudgesFlash : {A : Type 0} → Option AskedForm → Sources → Sources → Result A Event → Type 0
JudgesFlash (Some (form.Update flash stream)) old new (Err event) = IsUnusable flash new.flash event → (new.inputs.selects ≤ old.inputs.selects) ⊎ (flash ≡ stream)
JudgesFlash (Some (form.Boot part flash)) old new (Err event) = TouchesFlashLast flash old.flash new.flash event
JudgesFlash form old new end = Unit {0}

-- ---- the end of a command

-- How a command ended: why, what the output got, how far `list` read ahead, how large the flash is, and what was in
-- order before the flash failed. Then what an update left and called its flash for, and of which flashes the text of a
-- boot is.
pub record CommandEnds (form : Option AskedForm) (old new : Outside) (end : Result Answer Event) : Type 0 where
  pub cause : EndIsCaused form old new end
  pub wrote : OutputGets form old new end
  pub near : StaysNear (final_status end) form old new
  pub measured : IsMeasured form new.flash end
  pub fails_last : FailsLast form new.inputs new.flash end
  pub updates : UpdateLeaves (updated_by form) old new end
  pub called : UpdateCalled form old new end
  pub as_read : BootsAsRead form (sources old.inputs old.flash) (sources new.inputs new.flash) end

-- how a command ended, by whether what it wrote reports that something stopped, or by the event
abbrev pub CommandEndsAs : Option AskedForm → Outside → Outside → Result Bool Event → Type 0
CommandEndsAs form old new (Ok stopped) = (text : List ℕ) × CommandEnds form old new (Ok (record { stopped = stopped; text = text }))
CommandEndsAs form old new (Err event) = CommandEnds form old new (Err event)

-- What a form did, up to the line that is said of its end: how it ended, where reading stopped, and that an update and
-- a boot touched flash and stream in the order of `JudgesFlash`. Then how often inputs were asked for, that every input
-- keeps its bytes, and that a form with a whole text met no fault of an input and no absence.
pub record Answered (form : AskedForm) (old new : Outside) (got : Result Bool Event) : Type 0 where
  pub ends : CommandEndsAs (Some form) old new got
  pub stops : StopsReading (Some form) old.inputs new.inputs got
  pub judges : JudgesFlash (Some form) (sources old.inputs old.flash) (sources new.inputs new.flash) got
  pub asks : AsksAtMost old.inputs (length (names_of (Some form))) new.inputs
  pub stays : InputsStay old.inputs new.inputs
  pub no_fault : OnOk got (NoInputFault old.inputs new.inputs)

-- what a form that writes no text did, whatever the sinks hold, if the output is the same before and after
abbrev pub AnsweredSilently : AskedForm → Sources → Sources → Result Bool Event → Type 0
AnsweredSilently form old new got = (before after : Outside) → after.out ≡ before.out → Answered form (with_sources before old) (with_sources after new) got

-- what a listing did, whatever the flash and the sink of messages hold
abbrev pub AnsweredListing : List ℕ → Transfer → Transfer → Result Bool Event → Type 0
AnsweredListing stream old new got = (before after : Outside) → Answered (form.List stream) (with_transfer before old) (with_transfer after new) got

-- how a text that is ready was written, or the event in place of one: the answer of the call is whether what the text
-- reports stopped, or an event
abbrev pub PutsAnswer : Result Answer Event → SinkState → SinkState → Result Bool Event → Type 0
PutsAnswer (Err event) old new got = (got ≡ Err event) × (new.written ≡ old.written)
PutsAnswer (Ok answer) old new (Ok stopped) = (stopped ≡ answer.stopped) × PutsAll old answer.text new
PutsAnswer (Ok answer) old new (Err event) = (event ≡ writing_failed) × SinkFails old new × PutsSome old answer.text new

-- a text of the form that is ready, or the event in place of it, has its cause: the form gives it over the known
-- contents, or what the form names failed or was missing, or memory was wanting
abbrev pub AnswersOver : AskedForm → Outside → Outside → Result Answer Event → Type 0
AnswersOver form old new got = IsCausedBy (known_in old new) (CameInRun (Some form) old new) (λ known end. FormGives known form end) got

-- a text of the form that is ready, or the event in place of it, has its cause in what the form reads, whatever the
-- sinks hold
abbrev pub AnswersFrom : AskedForm → Sources → Sources → Result Answer Event → Type 0
AnswersFrom form old new got = (before after : Outside) → AnswersOver form (with_sources before old) (with_sources after new) got

-- a text of a form that reads no flash, or the event in place of it, has its cause in the inputs, whatever a flash
-- holds
abbrev pub AnswersForm : AskedForm → InputsState → InputsState → Result Answer Event → Type 0
AnswersForm form old new got = AnswersBy (step_over (names_of (Some form)) old new) (λ known end. FormGives known form end) got

-- A form that reads inputs alone made its text ready, or not: the text, or the event in place of it, has its cause.
-- Reading stopped where an input ends the form, no more inputs were asked for than the form names, and every input
-- keeps its bytes. A text that is ready met no fault of an input and no absence.
pub record MakesReady (form : AskedForm) (old new : InputsState) (got : Result Answer Event) : Type 0 where
  pub caused : AnswersForm form old new got
  pub stops : StopsReading (Some form) old new got
  pub asks : AsksAtMost old (length (names_of (Some form))) new
  pub stays : InputsStay old new
  pub no_fault : OnOk got (NoInputFault old new)

-- A form that reads a flash too made its text ready, or not: the text, or the event in place of it, has its cause in
-- inputs and flash. The flash's size and its faults fit the answer, the flash was touched as `JudgesFlash` says, and
-- the rest is as in `MakesReady`.
pub record MakesReadyFrom (form : AskedForm) (old new : Sources) (got : Result Answer Event) : Type 0 where
  pub caused : AnswersFrom form old new got
  pub as_read : BootsAsRead (Some form) old new got
  pub stops : StopsReading (Some form) old.inputs new.inputs got
  pub measured : IsMeasured (Some form) new.flash got
  pub fails_last : FailsLast (Some form) new.inputs new.flash got
  pub judges : JudgesFlash (Some form) old new got
  pub asks : AsksAtMost old.inputs (length (names_of (Some form))) new.inputs
  pub stays : InputsStay old.inputs new.inputs
  pub no_fault : OnOk got (NoInputFault old.inputs new.inputs)

-- the flash of a name isn't there, or it failed: it was asked for by that name, and its count of absences, or of faults,
-- rose
abbrev pub IsMissingOrFailed : List ℕ → FlashState → FlashState → Event → Type 0
IsMissingOrFailed name old new event = ((event ≡ missing name) × FlashLacksAmong (name ∷ []) old new name) ⊎ ((event ≡ reading_failed name) × FlashFailsAmong (name ∷ []) old new name)

-- a flash can't be used: it was not attached, and none is attached now, or it is larger than a flash may be
abbrev pub IsUnattachedOrLarge : List ℕ → FlashState → FlashState → Event → Type 0
IsUnattachedOrLarge name old new event = (IsMissingOrFailed name old new event × (new.attached ≡ false)) ⊎ ((event ≡ too_large name) × (flash_limit < new.extent) × IfKnown old.bytes (λ all. flash_limit < length all))

-- what a boot from a flash of this name comes to: want of memory, a flash that isn't there or failed, or what its bytes
-- give: a text where they are within the limit, an event where they are over it
abbrev pub FlashComes : List ℕ → PartData → FlashState → FlashState → Result Answer Event → Type 0
FlashComes name part old new (Ok answer) = FlashBoots name part (flash_found old.bytes) (Ok answer) × (new.extent ≤ flash_limit)
FlashComes name part old new (Err event) = (event ≡ no_memory) ⊎ (IsMissingOrFailed name old new event ⊎ (FlashBoots name part (flash_found old.bytes) (Err event) × (flash_limit < new.extent)))
