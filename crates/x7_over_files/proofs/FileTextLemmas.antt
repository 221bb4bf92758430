-- Lemmas on what a run over known contents wrote.
use Rattle.std.proofs.Common.{◌≡◌, ℕ, List, [], ◌∷◌, ◌++◌, ◌-◌, Bool, true, false, Option, Some, Result, Ok, Err, refl, ap, sym, subst, ◌∙◌}
use Rattle.std.specs.Prelude.{if◌then◌else◌, length, nat_lt}
use Rattle.std.proofs.lemmas.List.{append-nil}
use Rattle.x7_header.specs.Header.{HeaderContents}
use Rattle.x7_header.specs.Reading.{header_at}
use Rattle.x7_header.specs.declared.fault.HeaderFault.{HeaderFault}
use Rattle.x7_header.specs.declared.fault.HeaderFault.TheVariants as header
use Rattle.x7_listing.specs.Assembly.{IsAsm}
use Rattle.x7_listing.specs.StreamListing.{stream_listing}
use Rattle.x7_part.specs.Part.{PartData}
use Rattle.x7_part.specs.PartFile.{part_in}
use Rattle.x7_part.specs.declared.fault.PartFault.{PartFault}
use Rattle.x7_words.specs.Sink.{PutsAll, SinkState}
use Rattle.x7_forms.specs.Event.{Event, reason_row, too_large}
use Rattle.x7_forms.specs.AskedForm.{AskedForm}
use Rattle.x7_forms.specs.AskedForm as form
use Rattle.x7_forms.specs.Known.{Answer, Known, StreamRead, and_so, data_by, data_in, input_found, known_of, part_by, part_known, part_limit, put_before, stream_known, stream_limit, streams_known, taken_whole, text_limit, whole_known, with_inputs}
use Rattle.x7_forms.specs.Status.{final_status, text_status}
use Rattle.x7_forms.specs.declared.refusal.Why.{Why}
use Rattle.x7_forms.specs.declared.refusal.Why.TheVariants as why
use Rattle.x7_forms.specs.declared.status.Status.{Status}
use Rattle.x7_outcome.specs.Ending.{EndIsCaused, GivesIfKnown, OutputGets}
use Rattle.x7_outcome.specs.Outcome.{AssembledAs, FormGives, listed_found, text_by}
use Rattle.x7_outcome.specs.Outside.{Outside, known_in}
use Rattle.x7_tool.specs.Promise.{Promise}
use Rattle.x7_tool.specs.Runs.{Runs}
use Rattle.x7_files.specs.Agreement.{NamedBytes}
use Rattle.x7_files.specs.Inputs.{RealInputs, known_if, known_inputs}
use Rattle.x7_over_files.specs.FileTexts.{Assembles, Lists, Plays, Read}

-- ---- results of steps

-- a step that gave a value gave one before its last part
pub before_last : {A B : Type 0} (first : Result A Event) (next : A → Result B Event) (b : B) → and_so first next ≡ Ok b → (a : A) × (first ≡ Ok a) × (next a ≡ Ok b)
before_last (Ok a) next b e = (a, refl, e)
before_last (Err event) next b e = absurd (cc)

-- an input that is read whole gives its bytes
pub whole_is : (map : NamedBytes) (flash : Option (List ℕ)) (limit : ℕ) (name bytes got : List ℕ) → map name ≡ Some bytes → whole_known (known_of map flash) limit name ≡ Ok got → got ≡ bytes
whole_is map flash limit name bytes got e h = by (nat_lt limit (length bytes)) (subst (λ (i : Option (List ℕ)). taken_whole name limit (input_found i) ≡ Ok got) e h)
  where
    by : (over : Bool) → (if over then Err (too_large name) else Ok bytes) ≡ Ok got → got ≡ bytes
    by true k = absurd (cc)
    by false k = cc

-- ---- the status of a whole text

-- a reason has no status of a whole text
reason_is_no_text : (reason : Why) (stopped : Bool) → (reason_row reason).ends_as ≡ text_status stopped → ⊥
reason_is_no_text why.Usage true e = absurd (cc)
reason_is_no_text why.Usage false e = absurd (cc)
reason_is_no_text why.Missing true e = absurd (cc)
reason_is_no_text why.Missing false e = absurd (cc)
reason_is_no_text (why.BadPart fault) true e = absurd (cc)
reason_is_no_text (why.BadPart fault) false e = absurd (cc)
reason_is_no_text (why.BadInput fault) true e = absurd (cc)
reason_is_no_text (why.BadInput fault) false e = absurd (cc)
reason_is_no_text why.ReadFault true e = absurd (cc)
reason_is_no_text why.ReadFault false e = absurd (cc)
reason_is_no_text why.WriteFault true e = absurd (cc)
reason_is_no_text why.WriteFault false e = absurd (cc)
reason_is_no_text why.NoMemory true e = absurd (cc)
reason_is_no_text why.NoMemory false e = absurd (cc)
reason_is_no_text why.TooLarge true e = absurd (cc)
reason_is_no_text why.TooLarge false e = absurd (cc)
reason_is_no_text (why.Differs place) true e = absurd (cc)
reason_is_no_text (why.Differs place) false e = absurd (cc)

-- ---- a whole text

-- a run of a form over a map that is known, which wrote a whole text
record WroteWhole (map : NamedBytes) (flash : Option (List ℕ)) (form : AskedForm) (old new : SinkState) (s : Status) : Type 0 where
  pub answer : Answer
  pub gives : FormGives (known_of map flash) form (Ok answer)
  pub promise : Promise (Some (known_of map flash)) (Some form) (Ok answer)
  pub puts : PutsAll old answer.text new
  pub status : s ≡ text_status answer.stopped

-- a run whose status is one of a whole text wrote it
wrote_whole : (map : NamedBytes) (form : AskedForm) (asked : Option AskedForm) (old new : Outside) (s : Status) (stopped : Bool) → asked ≡ Some form → new.inputs.contents ≡ Some map → Runs asked old new s → s ≡ text_status stopped
    → WroteWhole map old.flash.bytes form old.out new.out s
wrote_whole map form asked old new s stopped is known r e = by r.end r.ends_as (at r.output.wrote) (over r.cause) (kept r.promise)
  where
    at : OutputGets asked old new r.end → OutputGets (Some form) old new r.end
    at w = subst (λ (f : Option AskedForm). OutputGets f old new r.end) is w

    over : EndIsCaused asked old new r.end → EndIsCaused (Some form) old new r.end
    over c = subst (λ (f : Option AskedForm). EndIsCaused f old new r.end) is c

    kept : Promise (known_in old new) asked r.end → Promise (known_in old new) (Some form) r.end
    kept p = subst (λ (f : Option AskedForm). Promise (known_in old new) f r.end) is p

    knows : known_in old new ≡ Some (known_of map old.flash.bytes)
    knows = ap (λ (c : Option NamedBytes). with_inputs c old.flash.bytes) known

    by : (end : Result Answer Event) → s ≡ final_status end → OutputGets (Some form) old new end → EndIsCaused (Some form) old new end → Promise (known_in old new) (Some form) end → WroteWhole map old.flash.bytes form old.out new.out s
    by (Ok answer) ends w c p = record {
      answer = answer;
      gives = subst (λ (k : Option Known). GivesIfKnown k form (Ok answer)) knows c;
      promise = subst (λ (k : Option Known). Promise k (Some form) (Ok answer)) knows p;
      puts = w;
      status = ends;
    }
    by (Err event) ends w c p = absurd (reason_is_no_text event.reason stopped (sym ends ∙ e))

-- ---- over files

-- files that agree are known
known_files : (map : NamedBytes) (files : RealInputs) → files.agreement.agrees ≡ true → (known_inputs map files).contents ≡ Some map
known_files map files e = ap (λ b. known_if b map) e

-- the text of an answer, or no text
abbrev text_in : Result Answer Event → Result (List ℕ) ℕ
text_in (Ok answer) = Ok answer.text
text_in (Err event) = Ok []

listed_is : (name bytes : List ℕ) (listing : Result (List ℕ) ℕ) (over : Bool) (answer : Answer)
    → and_so (text_by name listing) (λ text. and_so (if over then Err (too_large name) else Ok bytes) (λ _. Ok (record { stopped = false; text = text }))) ≡ Ok answer → listing ≡ Ok answer.text
listed_is name bytes (Err place) over answer e = absurd (cc)
listed_is name bytes (Ok text) true answer e = absurd (cc)
listed_is name bytes (Ok text) false answer e = ap text_in e

pub lists : (map : NamedBytes) (asked : Option AskedForm) (old new : Outside) (files : RealInputs) (s : Status) (name bytes : List ℕ) → new.inputs ≡ known_inputs map files → Runs asked old new s → asked ≡ Some (form.List name)
    → Read map files name bytes → Lists bytes old.out new.out s
lists map asked old new files s name bytes i r is read done =
    let w = wrote_whole map (form.List name) asked old new s false is (ap (λ x. x.contents) i ∙ known_files map files read.agrees) r done in
    (w.answer.text, listed_is name bytes (stream_listing bytes) (nat_lt stream_limit (length bytes)) w.answer (subst (λ (x : Option (List ℕ)). listed_found name (input_found x) ≡ Ok w.answer) read.has w.gives), w.puts)

assembled_is : (name text : List ℕ) (answer : Answer) (over : Bool) → AssembledAs name (if over then Err (too_large name) else Ok text) (Ok answer) → IsAsm text (Ok answer.text)
assembled_is name text answer true h = absurd (cc)
assembled_is name text answer false h = h.1

pub assembles : (map : NamedBytes) (asked : Option AskedForm) (old new : Outside) (files : RealInputs) (s : Status) (name text : List ℕ) → new.inputs ≡ known_inputs map files → Runs asked old new s → asked ≡ Some (form.Asm name)
    → Read map files name text → Assembles text old.out new.out s
assembles map asked old new files s name text i r is read done =
    let w = wrote_whole map (form.Asm name) asked old new s false is (ap (λ x. x.contents) i ∙ known_files map files read.agrees) r done in
    (w.answer.text, assembled_is name text w.answer (nat_lt text_limit (length text)) (subst (λ (x : Option (List ℕ)). AssembledAs name (taken_whole name text_limit (input_found x)) (Ok w.answer)) read.has w.gives), w.puts)

-- a part file that gives a part gives that of its text
part_is : (name : List ℕ) (found : Result PartData PartFault) (device : PartData) → part_by name found ≡ Ok device → found ≡ Ok device
part_is name (Ok p) device e = ap (λ p. Ok p) (cc)
part_is name (Err fault) device e = absurd (cc)

-- the data of a stream, whatever its name
data_is : (name other bytes fed : List ℕ) (found : Result (HeaderContents × ℕ) HeaderFault) → data_by name bytes found ≡ Ok fed → data_by other bytes found ≡ Ok fed
data_is name other bytes fed (Ok head) e = e
data_is name other bytes fed (Err header.Raw) e = e
data_is name other bytes fed (Err (header.Cut place)) e = absurd (cc)
data_is name other bytes fed (Err (header.Field place)) e = absurd (cc)

-- the bytes of a stream that was read, or none
abbrev bytes_in : Result StreamRead Event → List ℕ
bytes_in (Ok stream) = stream.bytes
bytes_in (Err event) = []

module _ (map : NamedBytes) (flash : Option (List ℕ)) where
  part_read : (name text : List ℕ) (device : PartData) → map name ≡ Some text → part_known (known_of map flash) name ≡ Ok device → part_in text ≡ Ok device
  part_read name text device has e =
      let step = before_last (whole_known (known_of map flash) part_limit name) (λ t. part_by name (part_in t)) device e in
      part_is name (part_in text) device (subst (λ (t : List ℕ). part_by name (part_in t) ≡ Ok device) (whole_is map flash part_limit name text step.0 has step.1) step.2)

  stream_read : (limit : ℕ) (name bytes : List ℕ) (stream : StreamRead) → map name ≡ Some bytes → stream_known (known_of map flash) limit name ≡ Ok stream → data_in name bytes ≡ Ok stream.bytes
  stream_read limit name bytes stream has e =
      let step = before_last (whole_known (known_of map flash) limit name) (λ whole. and_so (data_in name whole) (λ fed. Ok (record { bytes = fed; room = limit - length whole }))) stream e in
      let fed = before_last (data_in name step.0) (λ fed. Ok (record { bytes = fed; room = limit - length step.0 })) stream step.2 in
      let same : fed.0 ≡ stream.bytes = ap bytes_in fed.2 in
      subst (λ (b : List ℕ). data_in name b ≡ Ok stream.bytes) (whole_is map flash limit name bytes step.0 has step.1) (fed.1 ∙ ap (λ d. Ok d) same)

  joined_read : (limit : ℕ) (name bytes fed : List ℕ) → map name ≡ Some bytes → streams_known (known_of map flash) limit (name ∷ []) ≡ Ok fed → data_in name bytes ≡ Ok fed
  joined_read limit name bytes fed has e =
      let step = before_last (stream_known (known_of map flash) limit name) (λ stream. put_before stream.bytes (streams_known (known_of map flash) stream.room [])) fed e in
      let same : step.0.bytes ++ [] ≡ fed = cc in
      stream_read limit name bytes step.0 has step.1 ∙ ap (λ d. Ok d) (sym (append-nil step.0.bytes) ∙ same)

pub plays : (map : NamedBytes) (asked : Option AskedForm) (old new : Outside) (files : RealInputs) (s : Status) (part stream text bytes : List ℕ) → new.inputs ≡ known_inputs map files → Runs asked old new s
    → asked ≡ Some (form.Play part (stream ∷ [])) → Read map files part text → Read map files stream bytes → Plays text bytes old.out new.out s
plays map asked old new files s part stream text bytes i r is read_part read_stream stopped done =
    let w = wrote_whole map (form.Play part (stream ∷ [])) asked old new s stopped is (ap (λ x. x.contents) i ∙ known_files map files read_part.agrees) r done in
    let fed = joined_read map old.flash.bytes stream_limit stream bytes w.promise.bytes read_stream.has w.promise.joined in
    record {
      part = w.promise.device;
      fed = w.promise.bytes;
      is_part = part_read map old.flash.bytes part text w.promise.device read_part.has w.promise.read;
      is_data = λ name. data_is stream name bytes w.promise.bytes (header_at bytes) fed;
      puts = subst (λ (a : Answer). PutsAll old.out a.text new.out) w.promise.report w.puts;
      status = w.status ∙ ap (λ (a : Answer). text_status a.stopped) w.promise.report;
    }
