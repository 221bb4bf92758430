-- What a run over files wrote, by the bytes of the files (this project's choice).
use Rattle.std.specs.Prelude.{◌≡◌, ℕ, Bool, List, [], ◌∷◌, Some, Ok, true, false}
use Rattle.x7_words.specs.Sink.{PutsAll, SinkState}
use Rattle.x7_part.specs.Part.{PartData}
use Rattle.x7_part.specs.PartFile.{part_in}
use Rattle.x7_listing.specs.Assembly.{IsAsm}
use Rattle.x7_listing.specs.StreamListing.{stream_listing}
use Rattle.x7_forms.specs.AskedForm.{AskedForm}
use Rattle.x7_forms.specs.AskedForm as form
use Rattle.x7_forms.specs.Known.{data_in}
use Rattle.x7_forms.specs.Status.{text_status}
use Rattle.x7_forms.specs.declared.status.Status.{Status}
use Rattle.x7_outcome.specs.Play.{report_of}
use Rattle.x7_files.specs.Agreement.{NamedBytes}
use Rattle.x7_files.specs.Inputs.{RealInputs}

-- all that the files gave agrees with the map, and it has these bytes under the name
pub record Read (map : NamedBytes) (inputs : RealInputs) (name bytes : List ℕ) : Type 0 where
  pub agrees : inputs.agreement.agrees ≡ true
  pub has : map name ≡ Some bytes

-- a part file and a stream file by their names, with the text of the one and the bytes of the other
pub record PlayedFiles : Type 0 where
  pub part : List ℕ
  pub text : List ℕ
  pub stream : List ℕ
  pub bytes : List ℕ

-- the form `play` with these two files
abbrev pub play_of : PlayedFiles → AskedForm
play_of files = form.Play files.part (files.stream ∷ [])

-- all that the files gave agrees with the map, which has both of these under their names
pub record ReadBoth (map : NamedBytes) (inputs : RealInputs) (files : PlayedFiles) : Type 0 where
  pub part : Read map inputs files.part files.text
  pub stream : Read map inputs files.stream files.bytes

-- `list` of a file with these bytes: where its status is that of a whole text, it wrote their listing
abbrev pub Lists : List ℕ → SinkState → SinkState → Status → Type 0
Lists bytes old new s = s ≡ text_status false → (text : List ℕ) × (stream_listing bytes ≡ Ok text) × PutsAll old text new

-- `asm` of a file with this text: where its status is that of a whole text, it wrote the bytes that the text assembles
-- to
abbrev pub Assembles : List ℕ → SinkState → SinkState → Status → Type 0
Assembles text old new s = s ≡ text_status false → (bytes : List ℕ) × IsAsm text (Ok bytes) × PutsAll old bytes new

-- The report of a device of the part of a part file with this text, which took the data of a stream with these bytes,
-- was written, and the status says whether the device stopped.
pub record WritesReport (part_text bytes : List ℕ) (old new : SinkState) (s : Status) : Type 0 where
  pub part : PartData
  pub fed : List ℕ
  pub is_part : part_in part_text ≡ Ok part
  pub is_data : (name : List ℕ) → data_in name bytes ≡ Ok fed
  pub puts : PutsAll old (report_of part fed).text new
  pub status : s ≡ text_status (report_of part fed).stopped

-- `play` of a part file with this text and a stream file with these bytes: where its status is one of a whole text, it
-- wrote the report of the device
abbrev pub Plays : List ℕ → List ℕ → SinkState → SinkState → Status → Type 0
Plays part_text bytes old new s = (stopped : Bool) → s ≡ text_status stopped → WritesReport part_text bytes old new s
