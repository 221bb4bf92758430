-- What the whole text of each form promises, by what was known when it was made.
use Rattle.std.proofs.Common.{◌≡◌, ◌∙◌, ◌<◌, ◌≤◌, ℕ, List, ◌++◌, length, drop, take, Bool, true, false, if◌then◌else◌, Option, Some, Result, Ok, Err, ap, arith, refl, subst, sym}
use Rattle.std.specs.Prelude.{Contains, nat_lt}
use Rattle.std.proofs.lemmas.Bool.Decides.{nat_tests}
use Rattle.std.proofs.lemmas.List.Sorted.{All-permutation}
use Rattle.std.proofs.lemmas.List.{take-append-drop}
use Rattle.x7_words.specs.Word.{AreBytes}
use Rattle.x7_words.proofs.ListLemmas.{all_prefix}
use Rattle.x7_part.specs.AddressOrder.{addresses_in}
use Rattle.x7_part.specs.Part.{PartData}
use Rattle.x7_part.specs.PartFile.{part_in}
use Rattle.x7_part.specs.Ranges.{IsPart}
use Rattle.x7_part.specs.declared.fault.PartFault.{PartFault}
use Rattle.x7_part.proofs.FileRowLemmas.{text_is}
use Rattle.x7_engine.specs.Kept.{on_the_bench}
use Rattle.x7_engine.specs.State.{reads_of, taken_of}
use Rattle.x7_boot.specs.declared.boots.BootEnd.{BootEnd}
use Rattle.x7_boot.specs.declared.boots.BootEnd.TheVariants as boot_end
use Rattle.x7_boot.specs.Image.{flash_limit, image_of, image_size}
use Rattle.x7_boot.specs.BootCourse.{course_along}
use Rattle.x7_recovery.specs.OpenBoot.{HasStreams}
use Rattle.x7_recovery.specs.OpenSlot.{OpenFlash}
use Rattle.x7_boot.proofs.CheckedLemmas.{attempt_checked, checked, last_checked}
use Rattle.x7_recovery.proofs.AnyBootLemmas.{boots_open, image_boots}
use Rattle.x7_svf.specs.declared.statement.Statement.{Statement}
use Rattle.x7_jtag.specs.Play.{clocks_played, first_difference, port_played}
use Rattle.x7_jtag.specs.Port.{Port, words_read_out}
use Rattle.x7_jtag.specs.Queue.{QueueIsSound}
use Rattle.x7_jtag.specs.Shown.{bytes_taken}
use Rattle.x7_jtag.proofs.QueueLemmas.{port_sound}
use Rattle.x7_effects.specs.Played.{PlaysFull, PlaysPartial, PlaysRead, device_after}
use Rattle.x7_effects.proofs.LawLemmas.{full_law, partial_law, read_law}
use Rattle.x7_forms.specs.declared.bad_input.InputFault.TheVariants as input
use Rattle.x7_forms.specs.Event.{Event, bad_input, too_many_reads}
use Rattle.x7_forms.specs.AskedForm.{AskedForm}
use Rattle.x7_forms.specs.AskedForm as form
use Rattle.x7_forms.specs.Known.{Answer, Found, Held, Known, and_so, streams_known, part_by, part_limit, part_known, reads_limit, stream_limit, whole_known, text_limit}
use Rattle.x7_outcome.specs.Play.{report_of, reported}
use Rattle.x7_outcome.specs.Outcome.{BootedAs, IsBootText, FlashBoots, FormGives, ImageStreams, PartAndText, PlannedFull, PlannedPartial, PlannedRead, PlayedSvf, gen_answer, has_failed, image_by, image_streams, part_and_text}
use Rattle.x7_tool.specs.Promise.{BootsFromOpen, HoldsOpen, PromiseOf, PromisesFull, PromisesImage, PromisesImageFor, PromisesPartial, PromisesPlayed, PromisesPort, PromisesRead, PromisesStart, PromisesSummary, StartsChecked}
use Rattle.x7_device_forms.proofs.GenerateLemmas.{plan_of_seed_plays, planned_is}

-- ---- the part that was read is a part

value_or : {A : Type 0} → A → Result A Event → A
value_or a (Ok b) = b
value_or a (Err event) = a

part_read : (name text : List ℕ) (p : PartData) (r : Result PartData PartFault) → part_in text ≡ r → part_by name r ≡ Ok p → IsPart p
unfolding value_or
part_read name text p (Ok q) e h = subst IsPart (ap (value_or q) h) (text_is text q e)
part_read name text p (Err fault) e h = absurd (cc)

part_whole : (name : List ℕ) (p : PartData) (whole : Result (List ℕ) Event) → and_so whole (λ text. part_by name (part_in text)) ≡ Ok p → IsPart p
part_whole name p (Ok text) h = part_read name text p (part_in text) refl h
part_whole name p (Err event) h = absurd (cc)

part_is : (known : Known) (name : List ℕ) (p : PartData) → part_known known name ≡ Ok p → IsPart p
part_is known name p h = part_whole name p (whole_known known part_limit name) h

part_of_texts : (texts : PartAndText) → PartData
part_of_texts texts = texts.part

texts_by : (part : Result PartData Event) (whole : Result (List ℕ) Event) (texts : PartAndText) → and_so part (λ p. and_so whole (λ text. Ok (record { part = p; text = text }))) ≡ Ok texts → part ≡ Ok texts.part
unfolding value_or part_of_texts
texts_by (Ok p) (Ok text) texts h = ap (λ (r : Result PartAndText Event). Ok (part_of_texts (value_or texts r))) h
texts_by (Ok p) (Err event) texts h = absurd (cc)
texts_by (Err event) whole texts h = absurd (cc)

-- ---- what each form promises

full_promised : (known : Known) (part frames : List ℕ) (read : Result PartAndText Event) (answer : Answer) → part_and_text known part frames ≡ read → PlannedFull frames read (Ok answer) → PromisesFull known part frames answer.text
full_promised known part frames (Err event) answer e p = absurd (cc)
full_promised known part frames (Ok texts) answer e p = record {
  texts = texts;
  plan = p.1;
  read = e;
  planned = p.2;
  plays = λ kept bytes fits rests.
      let is : IsPart texts.part = part_is known part texts.part (texts_by (part_known known part) (whole_known known text_limit frames) texts e) in
      subst (λ (stream : List ℕ). PlaysFull (device_after texts.part kept bytes) stream p.1) (sym p.3)
      (full_law texts.part kept bytes p.1 fits rests is p.2.is_plan p.2.width (All-permutation (λ row. Contains (addresses_in texts.part) row.far) p.2.rows p.1.rows p.2.same p.2.good.addresses));
}

partial_promised : (known : Known) (part frames : List ℕ) (read : Result PartAndText Event) (answer : Answer) → part_and_text known part frames ≡ read → PlannedPartial frames read (Ok answer) → PromisesPartial known part frames answer.text
partial_promised known part frames (Err event) answer e p = absurd (cc)
partial_promised known part frames (Ok texts) answer e p = record {
  texts = texts;
  plan = p.1;
  read = e;
  planned = p.2;
  plays = λ kept bytes fits rests.
      let is : IsPart texts.part = part_is known part texts.part (texts_by (part_known known part) (whole_known known text_limit frames) texts e) in
      subst (λ (stream : List ℕ). PlaysPartial (device_after texts.part kept bytes) stream p.1) (sym p.4)
      (partial_law texts.part kept bytes p.1 fits rests is p.2.is_plan p.2.width (All-permutation (λ row. Contains (addresses_in texts.part) row.far) p.2.rows p.1.rows p.2.same p.2.good.addresses));
}

read_promised : (known : Known) (part : List ℕ) (far n : ℕ) (read : Result PartData Event) (answer : Answer) → part_known known part ≡ read → PlannedRead part far n read (Ok answer) → PromisesRead known part far n answer.text
read_promised known part far n (Err event) answer e p = absurd (cc)
read_promised known part far n (Ok device) answer e p = record {
  device = device;
  read = e;
  plays = λ kept bytes fits rests.
      subst (λ (stream : List ℕ). PlaysRead (device_after device kept bytes) stream far n) (sym p.2) (read_law device kept bytes far n fits rests (part_is known part device e) p.1);
}

summary_promised : (known : Known) (part : List ℕ) (seed : ℕ) (read : Result PartData Event) (answer : Answer) → part_known known part ≡ read → and_so read (λ p. Ok (gen_answer p seed)) ≡ Ok answer → PromisesSummary known part seed answer.text
unfolding value_or
summary_promised known part seed (Err event) answer e p = absurd (cc)
summary_promised known part seed (Ok device) answer e p = record {
  device = device;
  read = e;
  plays = plan_of_seed_plays device seed (part_is known part device e);
  played = planned_is device seed answer.text (part_is known part device e) (ap (λ (r : Result Answer Event). let a : Answer = value_or answer r in a.text) (sym p));
}

has_started : (end : BootEnd) → has_failed end ≡ false → end ≡ boot_end.Started
has_started boot_end.Started e = refl
has_started boot_end.Stopped e = absurd (cc)
has_started boot_end.Loop e = absurd (cc)

starts_checked : (part : PartData) (flash : List ℕ) (answer : Answer) → AreBytes flash → IsBootText part flash answer → StartsChecked part flash answer
starts_checked part flash answer fits b = record {
  boot = b;
  checked = λ late. attempt_checked part flash b.last fits b.leads.1 late;
  started = λ ok. last_checked part flash b.last b.older b.end fits b.leads (has_started b.end (sym b.stopped ∙ ok));
}

boots_known : (name : List ℕ) (part : PartData) (known : Option Found) (flash : List ℕ) (answer : Answer) → known ≡ Some (Held flash) → FlashBoots name part known (Ok answer) → AreBytes flash → IsBootText part flash answer
boots_known name part known flash answer e h fits =
    let here : FlashBoots name part (Some (Held flash)) (Ok answer) = subst (λ (f : Option Found). FlashBoots name part f (Ok answer)) e h in
    here.1 fits

-- ---- from a flash with an open slot

opened_known : (known : Known) (name : List ℕ) (part : PartData) (o : OpenFlash) (answer : Answer) → FlashBoots name part (known.flash name) (Ok answer) → HoldsOpen known name part o → BootsFromOpen o answer
opened_known known name part o answer h holds =
    let boot : IsBootText part o.flash answer = boots_known name part (known.flash name) o.flash answer holds.held h holds.bytes in
    let here : IsBootText o.part o.flash answer = subst (λ (p : PartData). IsBootText p o.flash answer) (sym holds.part_is) boot in
    record { boot = here; comes = boots_open o holds.opened (course_along here.last here.older here.end) (record { older = here.older; leads = here.leads; attempts_are = refl }) }

start_promised : (known : Known) (part flash : List ℕ) (read : Result PartData Event) (answer : Answer) → part_known known part ≡ read → BootedAs flash read (known.flash flash) (Ok answer) → PromisesStart known part flash answer
start_promised known part flash (Err event) answer e p = absurd (cc)
start_promised known part flash (Ok device) answer e p = record {
  device = device;
  read = e;
  starts = λ all is fits. starts_checked device all answer fits (boots_known flash device (known.flash flash) all answer is p fits);
  opened = λ o holds. opened_known known flash device o answer p holds;
}

-- ---- a play

report_by : (b : Bool) (event : Event) (report answer : Answer) → (if b then Err event else Ok report) ≡ Ok answer → answer ≡ report
unfolding value_or
report_by true event report answer h = absurd (cc)
report_by false event report answer h = sym (ap (value_or answer) h)

reported_is : (part : PartData) (bytes : List ℕ) (answer : Answer) → reported part bytes ≡ Ok answer → answer ≡ report_of part bytes
unfolding reported
reported_is part bytes answer h = report_by (nat_lt reads_limit (length (reads_of part on_the_bench bytes))) too_many_reads (report_of part bytes) answer h

play_promised : (known : Known) (part : List ℕ) (streams : List (List ℕ)) (p : Result PartData Event) (d : Result (List ℕ) Event) (answer : Answer) → part_known known part ≡ p → streams_known known stream_limit streams ≡ d
    → and_so p (λ q. and_so d (reported q)) ≡ Ok answer → PromisesPlayed known part streams answer
play_promised known part streams (Err event) d answer e f h = absurd (cc)
play_promised known part streams (Ok q) (Err event) answer e f h = absurd (cc)
play_promised known part streams (Ok q) (Ok bytes) answer e f h = record { device = q; bytes = bytes; read = e; joined = f; report = reported_is q bytes answer h; checked = λ fits late. checked q on_the_bench false bytes fits late }

-- ---- a port

-- what the device of a port took are bytes
taken_fits : (part : PartData) (statements : List Statement) → AreBytes (bytes_taken part (port_played part statements))
taken_fits part statements =
    let p : Port = port_played part statements in
    let n : ℕ = taken_of part on_the_bench p.queue.given in
    let sound : QueueIsSound (words_read_out part) p.queue = port_sound part (clocks_played statements (first_difference part statements)) in
    let fits : AreBytes p.queue.given = all_prefix (λ b. b < 256) p.queue.given p.queue.held sound.fits in
    all_prefix (λ b. b < 256) (take n p.queue.given) (drop n p.queue.given) (subst AreBytes (sym (take-append-drop n p.queue.given)) fits)

port_promised : (known : Known) (part text : List ℕ) (read : Result PartAndText Event) (answer : Answer) → part_and_text known part text ≡ read → PlayedSvf text read (Ok answer) → PromisesPort known part text answer
port_promised known part text (Err event) answer e p = absurd (cc)
port_promised known part text (Ok texts) answer e p = record {
  texts = texts;
  statements = p.0;
  read = e;
  has_statements = p.1;
  shows = sym p.2;
  checked = λ late. checked texts.part on_the_bench false (bytes_taken texts.part (port_played texts.part p.0)) (taken_fits texts.part p.0) late;
}

-- ---- an image

image_fits_by : (b : Bool) (n l : ℕ) (e : Event) (text : List ℕ) (answer : Answer) → nat_lt l n ≡ b → (if b then Err e else Ok (record { stopped = false; text = text })) ≡ Ok answer → (n ≤ l) × (answer.text ≡ text)
unfolding value_or
image_fits_by true n l e text answer t h = absurd (cc)
image_fits_by false n l e text answer t h = (grind (arith, nat_tests, t), sym (ap (λ (r : Result Answer Event). let a : Answer = value_or answer r in a.text) h))

image_has_streams : (name : List ℕ) (unit : ℕ) (s : ImageStreams) (device : PartData) (answer : Answer) (more : List ℕ) → IsPart device → device.start_unit ≡ unit → image_by name unit s ≡ Ok answer → HasStreams device s.golden s.update (answer.text ++ more)
image_has_streams name unit s device answer more part same h =
    let size = image_size (length s.golden) (length s.update) in
    let fits : (size ≤ flash_limit) × (answer.text ≡ image_of unit s.golden s.update) = image_fits_by (nat_lt flash_limit size) size flash_limit (bad_input name input.Image) (image_of unit s.golden s.update) answer refl h in
    let text : answer.text ≡ image_of device.start_unit s.golden s.update = fits.1 ∙ ap (λ (u : ℕ). image_of u s.golden s.update) (sym same) in
    subst (λ (x : List ℕ). HasStreams device s.golden s.update (x ++ more)) (sym text) (image_boots device s.golden s.update more (record { is_part = part; fits = fits.0 }))

image_promised : (known : Known) (golden update : List ℕ) (s : Result ImageStreams Event) (answer : Answer) → image_streams known golden update ≡ s → and_so s (image_by update 1) ≡ Ok answer → PromisesImage known golden update answer.text
image_promised known golden update (Err event) answer e h = absurd (cc)
image_promised known golden update (Ok s) answer e h = record { streams = s; read = e; boots = λ device more part unit. image_has_streams update 1 s device answer more part unit h }

image_for_promised : (known : Known) (part golden update : List ℕ) (p : Result PartData Event) (s : Result ImageStreams Event) (answer : Answer) → part_known known part ≡ p → image_streams known golden update ≡ s
    → and_so p (λ p. and_so s (image_by update p.start_unit)) ≡ Ok answer → PromisesImageFor known part golden update answer.text
image_for_promised known part golden update (Err event) s answer e f h = absurd (cc)
image_for_promised known part golden update (Ok p) (Err event) answer e f h = absurd (cc)
image_for_promised known part golden update (Ok p) (Ok s) answer e f h = record { device = p; streams = s; part_read = e; read = f; boots = λ more. image_has_streams update p.start_unit s p answer more (part_is known part p e) refl h }

pub promised : (known : Known) (form : AskedForm) (answer : Answer) → FormGives known form (Ok answer) → PromiseOf known form answer
promised known (form.PlanFull part frames) answer a = full_promised known part frames (part_and_text known part frames) answer refl a
promised known (form.PlanPartial part frames) answer a = partial_promised known part frames (part_and_text known part frames) answer refl a
promised known (form.PlanRead part far n) answer a = read_promised known part far n (part_known known part) answer refl a
promised known (form.Gen part seed) answer a = summary_promised known part seed (part_known known part) answer refl a
promised known (form.Play part streams) answer a = play_promised known part streams (part_known known part) (streams_known known stream_limit streams) answer refl refl a
promised known (form.Svf part text) answer a = port_promised known part text (part_and_text known part text) answer refl a
promised known (form.Image golden update) answer a = image_promised known golden update (image_streams known golden update) answer refl a
promised known (form.ImageFor part golden update) answer a = image_for_promised known part golden update (part_known known part) (image_streams known golden update) answer refl refl a
promised known (form.Boot part flash) answer a = start_promised known part flash (part_known known part) answer refl a
promised known form answer a = tt
