-- What the whole text of a form promises: what a planned stream does on a device at rest, which checks a device made
-- that a report shows, and how a device boots from an image or a flash (this project's choice).
use Rattle.std.specs.Prelude.{◌≡◌, ◌<◌, ℕ, List, [], ◌++◌, false, Option, Some, Result, Ok}
use Rattle.x7_words.specs.Word.{AreBytes}
use Rattle.x7_part.specs.Part.{PartData}
use Rattle.x7_part.specs.Ranges.{IsPart}
use Rattle.x7_memory.specs.Plan.{PlanData}
use Rattle.x7_frames.specs.FramesText.{IsPlanOf}
use Rattle.x7_engine.specs.Kept.{on_the_bench}
use Rattle.x7_engine.specs.State.{state_of}
use Rattle.x7_engine.specs.declared.kept.Kept.{Kept}
use Rattle.x7_engine.specs.Rest.{AtRest}
use Rattle.x7_planner.specs.FullStream.{full_stream}
use Rattle.x7_boot.specs.Boot.{end_state}
use Rattle.x7_boot.specs.Checked.{HasChecked}
use Rattle.x7_boot.specs.BootCourse.{course_along}
use Rattle.x7_recovery.specs.OpenBoot.{BootsOpen, HasStreams}
use Rattle.x7_recovery.specs.OpenSlot.{IsOpenFlash, OpenFlash}
use Rattle.x7_svf.specs.declared.statement.Statement.{Statement}
use Rattle.x7_jtag.specs.Play.{port_played}
use Rattle.x7_jtag.specs.Shown.{bytes_taken, state_shown}
use Rattle.x7_svf.specs.Svf.{IsSvfOf}
use Rattle.x7_effects.specs.Played.{PlaysFull, PlaysPartial, PlaysRead, device_after}
use Rattle.x7_forms.specs.Event.{Event}
use Rattle.x7_outcome.specs.Generate.{plan_of_seed, planned_summary}
use Rattle.x7_forms.specs.AskedForm.{AskedForm}
use Rattle.x7_forms.specs.AskedForm as form
use Rattle.x7_forms.specs.Known.{Answer, Held, Known, streams_known, part_known, stream_limit}
use Rattle.x7_outcome.specs.Play.{report_of}
use Rattle.x7_outcome.specs.Outcome.{ImageStreams, PartAndText, image_streams, part_and_text, svf_answer, IsBootText}

-- The report of `play`: it is that of the streams' data, and where these are bytes, the phase of startup is above 0
-- only where they made their checks (`HasChecked`).
pub record PromisesPlayed (known : Known) (part : List ℕ) (streams : List (List ℕ)) (answer : Answer) : Type 0 where
  pub device : PartData
  pub bytes : List ℕ
  pub read : part_known known part ≡ Ok device
  pub joined : streams_known known stream_limit streams ≡ Ok bytes
  pub report : answer ≡ report_of device bytes
  pub checked : AreBytes bytes → 0 < (state_of device on_the_bench false bytes).phase → HasChecked device on_the_bench bytes

-- The text of `svf`: it is that of the statements of the SVF text, and the phase of startup is above 0 only where the
-- bytes that the device took made their checks.
pub record PromisesPort (known : Known) (part text : List ℕ) (answer : Answer) : Type 0 where
  pub texts : PartAndText
  pub statements : List Statement
  pub read : part_and_text known part text ≡ Ok texts
  pub has_statements : IsSvfOf texts.text (Ok statements)
  pub shows : answer ≡ svf_answer texts.part statements
  pub checked : 0 < (state_shown texts.part (port_played texts.part statements)).phase → HasChecked texts.part on_the_bench (bytes_taken texts.part (port_played texts.part statements))

-- The stream of `plan full`: on any device of the part at rest it leaves the plan of the frames text over zeros and
-- ends startup, and the device is at rest again.
pub record PromisesFull (known : Known) (part frames stream : List ℕ) : Type 0 where
  pub texts : PartAndText
  pub plan : PlanData
  pub read : part_and_text known part frames ≡ Ok texts
  pub planned : IsPlanOf texts.part texts.text (Ok plan)
  pub plays : (kept : Kept) (bytes : List ℕ) → AreBytes bytes → AtRest texts.part kept bytes → PlaysFull (device_after texts.part kept bytes) stream plan

-- The stream of `plan partial`: on any device of the part at rest it overrides just the frames of the plan of the
-- frames text; the phase stays, and the device is at rest again.
pub record PromisesPartial (known : Known) (part frames stream : List ℕ) : Type 0 where
  pub texts : PartAndText
  pub plan : PlanData
  pub read : part_and_text known part frames ≡ Ok texts
  pub planned : IsPlanOf texts.part texts.text (Ok plan)
  pub plays : (kept : Kept) (bytes : List ℕ) → AreBytes bytes → AtRest texts.part kept bytes → PlaysPartial (device_after texts.part kept bytes) stream plan

-- The stream of `plan read`: on any device of the part at rest it reads out a frame of zeros and the words of `n` slots
-- from the address `far` on; memory and phase stay, and the device is at rest again.
pub record PromisesRead (known : Known) (part : List ℕ) (far n : ℕ) (stream : List ℕ) : Type 0 where
  pub device : PartData
  pub read : part_known known part ≡ Ok device
  pub plays : (kept : Kept) (bytes : List ℕ) → AreBytes bytes → AtRest device kept bytes → PlaysRead (device_after device kept bytes) stream far n

-- The text of `gen`: the full stream of the seed's plan, played on a new device, leaves the plan over zeros and ends
-- startup, and the text is the summary by what was planned.
pub record PromisesSummary (known : Known) (part : List ℕ) (seed : ℕ) (text : List ℕ) : Type 0 where
  pub device : PartData
  pub read : part_known known part ≡ Ok device
  pub plays : PlaysFull (device_after device on_the_bench []) (full_stream device (plan_of_seed device seed)) (plan_of_seed device seed)
  pub played : text ≡ planned_summary device seed

-- The bytes of `image GOLDEN UPDATE`: a flash that begins with them has both streams, for each part whose start address
-- counts bytes. A boot from it tries the update, and where that fails and CTL0 allows a fallback, a golden stream that
-- `BootsOpen` names starts.
pub record PromisesImage (known : Known) (golden update image : List ℕ) : Type 0 where
  pub streams : ImageStreams
  pub read : image_streams known golden update ≡ Ok streams
  pub boots : (device : PartData) (more : List ℕ) → IsPart device → device.start_unit ≡ 1 → HasStreams device streams.golden streams.update (image ++ more)

-- The bytes of `image PART GOLDEN UPDATE`: a flash that begins with them has both streams for the part, and a boot from
-- it tries the update, and where that fails and CTL0 allows a fallback, a golden stream that `BootsOpen` names starts.
pub record PromisesImageFor (known : Known) (part golden update image : List ℕ) : Type 0 where
  pub device : PartData
  pub streams : ImageStreams
  pub part_read : part_known known part ≡ Ok device
  pub read : image_streams known golden update ≡ Ok streams
  pub boots : (more : List ℕ) → HasStreams device streams.golden streams.update (image ++ more)

-- a boot from a flash of these bytes: its last attempt made its checks where the phase at the attempt's end is above 0,
-- even if the attempt failed; and it made them where the text says that the boot started
pub record StartsChecked (part : PartData) (flash : List ℕ) (answer : Answer) : Type 0 where
  pub boot : IsBootText part flash answer
  pub checked : 0 < (end_state part boot.last).phase → HasChecked part boot.last.kept boot.last.bytes
  pub started : answer.stopped ≡ false → HasChecked part boot.last.kept boot.last.bytes

-- the flash of this name is known, and has an open slot for the part
pub record HoldsOpen (known : Known) (flash : List ℕ) (part : PartData) (o : OpenFlash) : Type 0 where
  pub held : known.flash flash ≡ Some (Held o.flash)
  pub bytes : AreBytes o.flash
  pub part_is : o.part ≡ part
  pub opened : IsOpenFlash o

-- the text of a boot from a flash with an open slot, which comes to what such a boot does: the update is tried;
-- where it fails and CTL0 allows a fallback, a golden stream that `BootsOpen` names starts
pub record BootsFromOpen (o : OpenFlash) (answer : Answer) : Type 0 where
  pub boot : IsBootText o.part o.flash answer
  pub comes : BootsOpen o (course_along boot.last boot.older boot.end)

-- The text of `boot`: over a flash whose bytes are known, and are bytes, the phase at the end of the last attempt is
-- above 0 only where that attempt made its checks. Over one with an open slot for the part the text reports what
-- `BootsOpen` says: the update's start, or a stop where CTL0 forbids a fallback, or the fallback and its start, where
-- the golden stream is one that starts so.
pub record PromisesStart (known : Known) (part flash : List ℕ) (answer : Answer) : Type 0 where
  pub device : PartData
  pub read : part_known known part ≡ Ok device
  pub starts : (all : List ℕ) → known.flash flash ≡ Some (Held all) → AreBytes all → StartsChecked device all answer
  pub opened : (o : OpenFlash) → HoldsOpen known flash device o → BootsFromOpen o answer

-- what a whole text of a form promises over what is known
abbrev pub PromiseOf : Known → AskedForm → Answer → Type 0
PromiseOf known (form.Play part streams) answer = PromisesPlayed known part streams answer
PromiseOf known (form.Svf part text) answer = PromisesPort known part text answer
PromiseOf known (form.PlanFull part frames) answer = PromisesFull known part frames answer.text
PromiseOf known (form.PlanPartial part frames) answer = PromisesPartial known part frames answer.text
PromiseOf known (form.PlanRead part far n) answer = PromisesRead known part far n answer.text
PromiseOf known (form.Gen part seed) answer = PromisesSummary known part seed answer.text
PromiseOf known (form.Image golden update) answer = PromisesImage known golden update answer.text
PromiseOf known (form.ImageFor part golden update) answer = PromisesImageFor known part golden update answer.text
PromiseOf known (form.Boot part flash) answer = PromisesStart known part flash answer
PromiseOf known form answer = Unit {0}

-- what a whole text promises where the inputs are known
abbrev pub Promise : Option Known → Option AskedForm → Result Answer Event → Type 0
Promise (Some known) (Some form) (Ok answer) = PromiseOf known form answer
Promise known form end = Unit {0}
