-- What a command comes to, over known inputs and a known flash: the first event in the order of
-- the work decides (this project's choice).
use Rattle.std.specs.Prelude.{◌≡◌, ℕ, List, [], ◌∷◌, ◌++◌, ◌||◌, Option, None, Some, is_some, Result, Ok, Err, Bool, false, if◌then◌else◌, length, nat_lt, take, ◌⊎◌, ◌<◌, ◌≤◌, map, reverse, true}
use Rattle.x7_svf.specs.declared.fault.SvfFault.{SvfFault}
use Rattle.x7_svf.specs.declared.fault.SvfFault.TheVariants as svf
use Rattle.x7_jtag.specs.declared.play.Differ.{Differ}
use Rattle.x7_svf.specs.declared.statement.Statement.{Statement}
use Rattle.x7_jtag.specs.Play.{first_difference, port_played}
use Rattle.x7_jtag.specs.Text.{play_text}
use Rattle.x7_jtag.specs.Port.{Port}
use Rattle.x7_jtag.specs.Shown.{fault_shown, memory_shown, state_shown}
use Rattle.x7_svf.specs.Svf.{IsSvfOf}
use Rattle.x7_report.specs.Reports.{report_text}
use Rattle.x7_listing.specs.Assembly.{IsAsm}
use Rattle.x7_listing.specs.StreamListing.{stream_listing}
use Rattle.x7_listing.specs.declared.assembler.AsmFault.{AsmFault}
use Rattle.x7_listing.specs.declared.assembler.AsmFault.TheVariants as asm
use Rattle.x7_part.specs.Part.{PartData}
use Rattle.x7_words.specs.Flash.{IfKnown}
use Rattle.x7_words.specs.Word.{AreBytes}
use Rattle.x7_boot.specs.Attempt.{BootAttempt}
use Rattle.x7_boot.specs.Boot.{LeadsToEnd, tried}
use Rattle.x7_boot.specs.Image.{flash_limit, image_of, image_size}
use Rattle.x7_boot.specs.declared.boots.BootEnd.{BootEnd}
use Rattle.x7_boot.specs.declared.boots.BootEnd.TheVariants as boot_end
use Rattle.x7_boot.specs.declared.fault.BootFault.{BootFault}
use Rattle.x7_boot.specs.declared.fault.BootFault.TheVariants as fault
use Rattle.x7_update.specs.Fault.{CanBeUpdatedWith, IsTooLong, NoLayoutAt}
use Rattle.x7_update.specs.declared.fault.UpdateFault.{UpdateFault}
use Rattle.x7_update.specs.declared.fault.UpdateFault.TheVariants as update_fault
use Rattle.x7_engine.specs.Kept.{on_the_bench}
use Rattle.x7_engine.specs.State.{why_stopped, first_stop_of_bytes}
use Rattle.x7_engine.specs.Stop.{fault_of_stop}
use Rattle.x7_mcs.specs.declared.fault.McsFault.{McsFault}
use Rattle.x7_mcs.specs.declared.fault.McsFault.TheVariants as mcs
use Rattle.x7_mcs.specs.Flash.{mcs_of}
use Rattle.x7_memory.specs.Plan.{PlanData}
use Rattle.x7_frames.specs.FramesText.{IsPlanOf}
use Rattle.x7_frames.specs.declared.fault.FramesFault.{FramesFault}
use Rattle.x7_frames.specs.declared.fault.FramesFault.TheVariants as frames
use Rattle.x7_planner.specs.FullStream.{full_stream}
use Rattle.x7_planner.specs.PartialStream.{partial_stream}
use Rattle.x7_planner.specs.ReadStream.{read_stream}
use Rattle.x7_planner.specs.Fault.{CanRead, IsPartialFault, IsReadFault}
use Rattle.x7_planner.specs.declared.fault.PlanFault.{PlanFault}
use Rattle.x7_planner.specs.declared.fault.PlanFault.TheVariants as planner
use Rattle.x7_mcs.specs.Text.{mcs_text}
use Rattle.x7_debug.specs.declared.fault.ScriptFault.{ScriptFault}
use Rattle.x7_debug.specs.declared.fault.ScriptFault.TheVariants as script
use Rattle.x7_debug.specs.declared.order.Order.{Order}
use Rattle.x7_debug.specs.Script.{IsScriptOf}
use Rattle.x7_debug.specs.Showing.{final_position, transcript_of}
use Rattle.x7_outcome.specs.Generate.{gen_text}
use Rattle.x7_forms.specs.declared.bad_input.InputFault.TheVariants as input
use Rattle.x7_forms.specs.Event.{Event, bad_input, differs, missing, no_memory, reading_failed, too_large, usage, writing_failed}
use Rattle.x7_forms.specs.AskedForm.{AskedForm}
use Rattle.x7_forms.specs.AskedForm as form
use Rattle.x7_outcome.specs.Boot.{boot_text}
use Rattle.x7_forms.specs.Known.{Absent, Answer, Broken, Found, Held, Known, and_so, data_in, part_known, stream_limit, whole_known, if_within, text_limit, script_limit}
use Rattle.x7_outcome.specs.Play.{played}

-- a listing, or the event of a header that is refused at a byte
abbrev pub text_by : List ℕ → Result (List ℕ) ℕ → Result (List ℕ) Event
text_by name (Ok text) = Ok text
text_by name (Err place) = Err (bad_input name (input.Byte place))

-- the listing of a stream's bytes: a header at fault is reported even where the stream is over its limit
abbrev pub listed_bytes : List ℕ → List ℕ → Result Answer Event
listed_bytes stream_name bytes =
    and_so (text_by stream_name (stream_listing bytes)) (λ text. and_so (if_within stream_name stream_limit bytes) (λ _. Ok (record { stopped = false; text = text })))

-- the listing of what is found: a stream may be over its limit before it fails
abbrev pub listed_found : List ℕ → Found → Result Answer Event
listed_found stream_name (Held bytes) = listed_bytes stream_name bytes
listed_found stream_name Absent = Err (missing stream_name)
listed_found stream_name (Broken bytes) = and_so (if_within stream_name stream_limit bytes) (λ _. Err (reading_failed stream_name))

-- `list STREAM`: the listing of the stream, its header's line first, or the event in place of it
abbrev pub listed : Known → List ℕ → Result Answer Event
listed known stream_name = listed_found stream_name (known.inputs stream_name)

-- ---- what several forms read

-- a part, and a text for it
pub record PartAndText : Type 0 where
  pub part : PartData
  pub text : List ℕ

-- the part of a part file, which is read first, and a text for the part; or the first event
abbrev pub part_and_text : Known → List ℕ → List ℕ → Result PartAndText Event
part_and_text known part_name text_name = and_so (part_known known part_name) (λ part. and_so (whole_known known text_limit text_name) (λ text. Ok (record { part = part; text = text })))

-- the data of a stream that has a limit of its own, or the event in place of them: the limit is judged before the
-- header
abbrev pub stream_data : Known → List ℕ → Result (List ℕ) Event
stream_data known name = and_so (whole_known known stream_limit name) (data_in name)

-- ---- asm

-- the event of a text that is refused by a line, or of want of memory for its bytes
abbrev pub asm_event : List ℕ → AsmFault → Event
asm_event name (asm.Line line) = bad_input name (input.Line line)
asm_event name (asm.TooLong line) = bad_input name (input.LongLine line)
asm_event name asm.NoMemory = no_memory

-- `asm TEXT`: the bytes that the text assembles to, or its first fault
abbrev pub AssembledAs : List ℕ → Result (List ℕ) Event → Result Answer Event → Type 0
AssembledAs name (Err event) end = Err event ≡ end
AssembledAs name (Ok text) (Ok answer) = (answer.stopped ≡ false) × IsAsm text (Ok answer.text)
AssembledAs name (Ok text) (Err event) = (fault : AsmFault) × (IsAsm text (Err fault) × (asm_event name fault ≡ event))

-- ---- debug

-- what a debugging reads: a part, the data of a stream, and the text of a script
pub record DebugInputs : Type 0 where
  pub part : PartData
  pub stream : List ℕ
  pub script : List ℕ

-- the inputs of a debugging are read in the order of its words
abbrev pub debug_inputs : Known → List ℕ → List ℕ → List ℕ → Result DebugInputs Event
debug_inputs known part_name stream_name script_name =
    and_so (part_known known part_name) (λ part. and_so (stream_data known stream_name) (λ stream. and_so (whole_known known script_limit script_name) (λ script. Ok (record { part = part; stream = stream; script = script }))))

-- the event of a text that is no script, or of want of memory for its orders
abbrev pub script_event : List ℕ → ScriptFault → Event
script_event name (script.Line line) = bad_input name (input.Line line)
script_event name script.NoMemory = no_memory

-- what a script shows of a stream, and whether the device has a fault at the script's last position
abbrev pub shown_of : PartData → List ℕ → List Order → Answer
shown_of part stream orders = record {
  stopped = is_some (fault_of_stop (why_stopped (first_stop_of_bytes part on_the_bench (take (final_position part stream orders) stream))));
  text = transcript_of part stream orders;
}

-- `debug PART STREAM SCRIPT`: what the script shows of the stream, or the event of the script's first line that is no
-- order
abbrev pub DebuggedAs : List ℕ → Result DebugInputs Event → Result Answer Event → Type 0
DebuggedAs name (Err event) end = Err event ≡ end
DebuggedAs name (Ok d) (Ok answer) = (orders : List Order) × (IsScriptOf d.script (Ok orders) × (shown_of d.part d.stream orders ≡ answer))
DebuggedAs name (Ok d) (Err event) = (fault : ScriptFault) × (IsScriptOf d.script (Err fault) × (script_event name fault ≡ event))

-- ---- SVF

-- the event of an SVF text that has a statement at fault, or of want of memory
abbrev pub svf_event : List ℕ → SvfFault → Event
svf_event name (svf.Line line) = bad_input name (input.Line line)
svf_event name svf.NoMemory = no_memory

-- the answer of `svf`: the line of the first scan that differs, or that none does, and the report of the device of the
-- port, with no words read out; what it reports stopped where a scan differs or the device has a fault
abbrev pub svf_shown : PartData → Option Differ → Port → Answer
svf_shown part differ p = record {
  stopped = is_some differ || is_some (fault_shown part p);
  text = play_text differ ++ report_text part (state_shown part p) [] (memory_shown part p);
}

-- the answer of statements that are played on a new device of the part
abbrev pub svf_answer : PartData → List Statement → Answer
svf_answer part statements = svf_shown part (first_difference part statements) (port_played part statements)

-- `svf PART TEXT`: the answer of the text's statements, or the event of the line on which its first bad statement
-- begins
abbrev pub PlayedSvf : List ℕ → Result PartAndText Event → Result Answer Event → Type 0
PlayedSvf name (Err event) end = Err event ≡ end
PlayedSvf name (Ok texts) (Ok answer) = (statements : List Statement) × IsSvfOf texts.text (Ok statements) × (svf_answer texts.part statements ≡ answer)
PlayedSvf name (Ok texts) (Err event) = (fault : SvfFault) × IsSvfOf texts.text (Err fault) × (svf_event name fault ≡ event)

-- ---- plans

-- the event of a frames text that gives no plan, by its first line at fault, or of want of memory
abbrev pub frames_event : List ℕ → FramesFault → Event
frames_event name (frames.Line line) = bad_input name (input.Line line)
frames_event name (frames.Address line) = bad_input name (input.AddressLine line)
frames_event name (frames.Twice line) = bad_input name (input.TwiceLine line)
frames_event name frames.NoMemory = no_memory

-- `plan full PART FRAMES`: the full stream of the plan, or the frames text's first line at fault
abbrev pub PlannedFull : List ℕ → Result PartAndText Event → Result Answer Event → Type 0
PlannedFull name (Err event) end = Err event ≡ end
PlannedFull name (Ok texts) (Ok answer) = (answer.stopped ≡ false) × (plan : PlanData) × IsPlanOf texts.part texts.text (Ok plan) × (answer.text ≡ full_stream texts.part plan)
PlannedFull name (Ok texts) (Err event) = (fault : FramesFault) × IsPlanOf texts.part texts.text (Err fault) × (frames_event name fault ≡ event)

-- the event of a stream that isn't planned: the plan is empty, the part lacks an address, so many slots can't be read
-- back (none, or more than there are), or memory is wanting
abbrev pub planner_event : List ℕ → PlanFault → Event
planner_event name planner.Empty = bad_input name input.Empty
planner_event name (planner.Foreign far) = bad_input name input.Foreign
planner_event name (planner.Range n) = bad_input name input.Range
planner_event name _ = no_memory

-- the plan of a frames text has no partial stream, as the event says
abbrev pub IsUnplanned : List ℕ → PartAndText → Event → Type 0
IsUnplanned name texts event = (plan : PlanData) × IsPlanOf texts.part texts.text (Ok plan) × (fault : PlanFault) × IsPartialFault texts.part plan fault × (planner_event name fault ≡ event)

-- `plan partial PART FRAMES`: the partial stream of the plan, or the frames text's
-- first line at fault, or that it plans nothing
abbrev pub PlannedPartial : List ℕ → Result PartAndText Event → Result Answer Event → Type 0
PlannedPartial name (Err event) end = Err event ≡ end
PlannedPartial name (Ok texts) (Ok answer) =
    (answer.stopped ≡ false) × (plan : PlanData) × IsPlanOf texts.part texts.text (Ok plan) × (0 < length plan.rows) × (answer.text ≡ partial_stream texts.part plan.rows)
PlannedPartial name (Ok texts) (Err event) = ((fault : FramesFault) × IsPlanOf texts.part texts.text (Err fault) × (frames_event name fault ≡ event)) ⊎ IsUnplanned name texts event

-- `plan read PART FAR N`: the read stream, or why there is none
abbrev pub PlannedRead : List ℕ → ℕ → ℕ → Result PartData Event → Result Answer Event → Type 0
PlannedRead name far n (Err event) end = Err event ≡ end
PlannedRead name far n (Ok part) (Ok answer) = (answer.stopped ≡ false) × CanRead part far n × (answer.text ≡ read_stream part far n)
PlannedRead name far n (Ok part) (Err event) = (fault : PlanFault) × IsReadFault part far n fault × (planner_event name fault ≡ event)

-- the answer of `gen`: the summary of the full stream of a seed's plan, played on a new device of the part
abbrev pub gen_answer : PartData → ℕ → Answer
gen_answer part seed = record { stopped = false; text = gen_text part seed }

-- `gen PART SEED`: the summary, or why there is no part
abbrev pub gen_answer_of : Known → List ℕ → ℕ → Result Answer Event
gen_answer_of known part_name seed = and_so (part_known known part_name) (λ part. Ok (gen_answer part seed))

-- ---- images

-- the data of a golden and of an update stream
pub record ImageStreams : Type 0 where
  pub golden : List ℕ
  pub update : List ℕ

-- the golden and then the update stream are read, each with the limit of a stream of its own
abbrev pub image_streams : Known → List ℕ → List ℕ → Result ImageStreams Event
image_streams known golden_name update_name = and_so (stream_data known golden_name) (λ golden. and_so (stream_data known update_name) (λ update. Ok (record { golden = golden; update = update })))

-- The image of a golden and an update stream, for parts of which one step of the start address is `unit` bytes. Where
-- the image would have more than `flash_limit` bytes, the event is a bad input of the name `name`, that of the update
-- stream.
abbrev pub image_by : List ℕ → ℕ → ImageStreams → Result Answer Event
image_by name unit s =
    if nat_lt flash_limit (image_size (length s.golden) (length s.update)) then Err (bad_input name input.Image)
    else Ok (record { stopped = false; text = image_of unit s.golden s.update })

-- `image GOLDEN UPDATE`: the flash image of both streams' data, for parts whose start address counts bytes, or the
-- event in place of it
abbrev pub image_answer : Known → List ℕ → List ℕ → Result Answer Event
image_answer known golden_name update_name = and_so (image_streams known golden_name update_name) (image_by update_name 1)

-- `image PART GOLDEN UPDATE`: the flash image of both streams' data for a part, by the part's start unit, or the event
-- in place of it
abbrev pub image_answer_for : Known → List ℕ → List ℕ → List ℕ → Result Answer Event
image_answer_for known part_name golden_name update_name =
    and_so (part_known known part_name) (λ part. and_so (image_streams known golden_name update_name) (image_by update_name part.start_unit))

-- ---- boots

-- whether a boot ended without a start
abbrev pub has_failed : BootEnd → Bool
has_failed boot_end.Started = false
has_failed boot_end.Stopped = true
has_failed boot_end.Loop = true

-- The text is that of the boot of a part from a flash of these bytes: `last` is its last attempt, `older` those before
-- it, the newest first.
pub record IsBootText (part : PartData) (flash : List ℕ) (answer : Answer) : Type 0 where
  pub last : BootAttempt
  pub older : List BootAttempt
  pub end : BootEnd
  pub leads : LeadsToEnd part flash (last ∷ older) end
  pub stopped : answer.stopped ≡ has_failed end
  pub text : answer.text ≡ boot_text part (reverse (map tried (last ∷ older))) end last

-- The boot of a part from what is found under the name of a flash: the text of the boot, or that the flash is too
-- large, isn't there or failed. Where nothing is known of the flash, any text, or that it is too large.
abbrev pub FlashBoots : List ℕ → PartData → Option Found → Result Answer Event → Type 0
FlashBoots name part None (Ok answer) = Unit {0}
FlashBoots name part None (Err event) = event ≡ too_large name
FlashBoots name part (Some (Held flash)) (Ok answer) = (length flash ≤ flash_limit) × (AreBytes flash → IsBootText part flash answer)
FlashBoots name part (Some (Held flash)) (Err event) = (flash_limit < length flash) × (event ≡ too_large name)
FlashBoots name part (Some Absent) end = end ≡ Err (missing name)
FlashBoots name part (Some (Broken bytes)) end = end ≡ Err (reading_failed name)

-- `boot PART FLASH`: the boot of the part from the flash, or the event in place of its text
abbrev pub BootedAs : List ℕ → Result PartData Event → Option Found → Result Answer Event → Type 0
BootedAs name (Err event) flash end = Err event ≡ end
BootedAs name (Ok part) flash end = FlashBoots name part flash end

-- the event of a boot that could not be finished
abbrev pub boot_event : List ℕ → BootFault → Event
boot_event name fault.Failed = reading_failed name
boot_event name fault.TooLarge = too_large name
boot_event name fault.NoMemory = no_memory

-- ---- updates

-- the names of an update: of its flash, and of the stream that the flash gets
pub record UpdateNames : Type 0 where
  pub flash : List ℕ
  pub stream : List ℕ

-- an update writes no text
abbrev pub no_text : Answer
no_text = record { stopped = false; text = [] }

-- the event of an update that was not done
abbrev pub update_event : UpdateNames → UpdateFault → Event
update_event names (update_fault.Failed true) = writing_failed
update_event names (update_fault.Failed false) = reading_failed names.flash
update_event names update_fault.TooLong = bad_input names.stream input.Long
update_event names (update_fault.NoLayout place) = bad_input names.flash (input.Layout place)
update_event names (update_fault.Differs place wrote read) = differs names.flash place
update_event names update_fault.NoMemory = no_memory

-- Why a flash isn't updated with a stream, by its bytes where they are known. A byte that is verified may be another
-- than the one written there only where the flash's bytes aren't known. A failed call and want of memory are none of
-- these reasons.
abbrev pub IsUpdateFault : Option (List ℕ) → List ℕ → UpdateFault → Type 0
IsUpdateFault bytes stream (update_fault.NoLayout place) = IfKnown bytes (λ flash. NoLayoutAt (length flash) flash place)
IsUpdateFault bytes stream update_fault.TooLong = IfKnown bytes (IsTooLong stream)
IsUpdateFault bytes stream (update_fault.Differs place wrote read) = bytes ≡ None
IsUpdateFault bytes stream (update_fault.Failed writing) = ⊥
IsUpdateFault bytes stream update_fault.NoMemory = ⊥

-- the update of a flash that holds `bytes`, where these are known, with the data of a stream, or the stream's event
abbrev pub UpdatesWith : UpdateNames → Option (List ℕ) → Result (List ℕ) Event → Result Answer Event → Type 0
UpdatesWith names bytes (Err event) end = Err event ≡ end
UpdatesWith names bytes (Ok stream) (Ok answer) = (answer ≡ no_text) × IfKnown bytes (CanBeUpdatedWith stream)
UpdatesWith names bytes (Ok stream) (Err event) = (fault : UpdateFault) × IsUpdateFault bytes stream fault × (update_event names fault ≡ event)

-- the update of a flash of any size: one of more than `flash_limit` bytes is refused before the stream is read
abbrev pub UpdatesBytes : UpdateNames → Option (List ℕ) → Result (List ℕ) Event → Result Answer Event → Type 0
UpdatesBytes names bytes stream end =
    (IfKnown bytes (λ flash. flash_limit < length flash) × (end ≡ Err (too_large names.flash)))
    ⊎ (IfKnown bytes (λ flash. length flash ≤ flash_limit) × UpdatesWith names bytes stream end)

-- the update of what is found under the flash's name
abbrev pub FlashUpdates : UpdateNames → Option Found → Result (List ℕ) Event → Result Answer Event → Type 0
FlashUpdates names None stream end = UpdatesBytes names None stream end
FlashUpdates names (Some (Held flash)) stream end = UpdatesBytes names (Some flash) stream end
FlashUpdates names (Some Absent) stream end = end ≡ Err (missing names.flash)
FlashUpdates names (Some (Broken bytes)) stream end = end ≡ Err (reading_failed names.flash)

-- `update FLASH STREAM`: no text, or why the flash isn't updated
abbrev pub UpdatedAs : Known → UpdateNames → Result Answer Event → Type 0
UpdatedAs known names end = FlashUpdates names (known.flash names.flash) (stream_data known names.stream) end

-- ---- Intel HEX

-- `mcs IMAGE`: the Intel HEX text of an image, or the event in place of it
abbrev pub mcs_written : Known → List ℕ → Result Answer Event
mcs_written known image_name = and_so (whole_known known flash_limit image_name) (λ image. Ok (record { stopped = false; text = mcs_text image }))

-- the event of an Intel HEX text that gives no image, or of want of memory
abbrev pub mcs_event : List ℕ → McsFault → Event
mcs_event name (mcs.Line line) = bad_input name (input.Line line)
mcs_event name (mcs.Sum line want got) = bad_input name (input.Sum line want got)
mcs_event name (mcs.Overlap place) = bad_input name (input.Overlap place)
mcs_event name mcs.NoEnd = bad_input name input.NoEnd
mcs_event name (mcs.TooLarge line) = bad_input name (input.LargeLine line)
mcs_event name mcs.NoMemory = no_memory

-- the image of an Intel HEX text, or the event of its fault
abbrev pub mcs_image : List ℕ → Result (List ℕ) McsFault → Result Answer Event
mcs_image name (Ok bytes) = Ok (record { stopped = false; text = bytes })
mcs_image name (Err fault) = Err (mcs_event name fault)

-- `unmcs TEXT`: the flash image of an Intel HEX text, or the event in place of it
abbrev pub mcs_read : Known → List ℕ → Result Answer Event
mcs_read known text_name = and_so (whole_known known text_limit text_name) (λ text. mcs_image text_name (mcs_of text))

-- ---- all forms

-- a form comes to this end over what is known: one case a form
abbrev pub FormGives : Known → AskedForm → Result Answer Event → Type 0
FormGives known (form.List stream_name) end = listed known stream_name ≡ end
FormGives known (form.Asm text_name) end = AssembledAs text_name (whole_known known text_limit text_name) end
FormGives known (form.Play part_name stream_names) end = played known part_name stream_names ≡ end
FormGives known (form.Debug part_name stream_name script_name) end = DebuggedAs script_name (debug_inputs known part_name stream_name script_name) end
FormGives known (form.Svf part_name text_name) end = PlayedSvf text_name (part_and_text known part_name text_name) end
FormGives known (form.PlanFull part_name frames_name) end = PlannedFull frames_name (part_and_text known part_name frames_name) end
FormGives known (form.PlanPartial part_name frames_name) end = PlannedPartial frames_name (part_and_text known part_name frames_name) end
FormGives known (form.PlanRead part_name far n) end = PlannedRead part_name far n (part_known known part_name) end
FormGives known (form.Gen part_name seed) end = gen_answer_of known part_name seed ≡ end
FormGives known (form.Image golden_name update_name) end = image_answer known golden_name update_name ≡ end
FormGives known (form.ImageFor part_name golden_name update_name) end = image_answer_for known part_name golden_name update_name ≡ end
FormGives known (form.Boot part_name flash_name) end = BootedAs flash_name (part_known known part_name) (known.flash flash_name) end
FormGives known (form.Update flash_name stream_name) end = UpdatedAs known (record { flash = flash_name; stream = stream_name }) end
FormGives known (form.Mcs image_name) end = mcs_written known image_name ≡ end
FormGives known (form.Unmcs text_name) end = mcs_read known text_name ≡ end

-- the words come to this end over what is known: words without a form are a wrong usage
abbrev pub IsOutcome : Known → Option AskedForm → Result Answer Event → Type 0
IsOutcome known None end = Err usage ≡ end
IsOutcome known (Some form) end = FormGives known form end
