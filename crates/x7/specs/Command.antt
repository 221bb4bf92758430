-- What the program does for its words, and the number with which it ends (this project's choice).
use Rattle.std.specs.Prelude.{◌≡◌, ◌⊎◌, ℕ, List, [], ◌∷◌, Option, None, Some, Bool, true, codes, if◌then◌else◌}
use Rattle.std.specs.Str.{bytes_eq}
use Rattle.x7_words.specs.Sink.{PutsAll, PutsSome, SinkFails, SinkState}
use Rattle.x7_forms.specs.declared.status.Status.{Status}
use Rattle.x7_forms.specs.declared.status.Status.TheVariants as status
use Rattle.x7_forms.specs.Form.{form_of_words}
use Rattle.x7_forms.specs.Status.{status_number}
use Rattle.x7_outcome.specs.Outside.{Outside}
use Rattle.x7_tool.specs.Calls.{Call}
use Rattle.x7_tool.specs.Runs.{Runs}
use Rattle.x7.specs.declared.page.TheConstants.{HELP, VERSION}

-- whether a word asks for help: `--help`, `-h` or `help`
unfoldable pub asks_help : List ℕ → Bool
asks_help word = if bytes_eq word (codes "--help") then true else if bytes_eq word (codes "-h") then true else bytes_eq word (codes "help")

-- whether the word after a form's first asks for help: `--help` or `-h`; `help` may be a file
unfoldable pub is_help_option : List ℕ → Bool
is_help_option word = if bytes_eq word (codes "--help") then true else bytes_eq word (codes "-h")

-- the page that a word asks for where it stands alone: that of help, or by `--version`
abbrev pub page_alone : List ℕ → Option (List ℕ)
page_alone word = if asks_help word then Some HELP.now else if bytes_eq word (codes "--version") then Some VERSION.now else None

-- the page that the words ask for: one alone, or the second of two where it asks for help
abbrev pub page_of : List (List ℕ) → Option (List ℕ)
page_of [] = None
page_of (word ∷ []) = page_alone word
page_of (word ∷ next ∷ []) = if is_help_option next then Some HELP.now else None
page_of (word ∷ next ∷ third ∷ more) = None

-- a page was written whole, and the number is 0; or a prefix of it was, the output failed, and the number is 7
abbrev pub WritesPage : List ℕ → SinkState → SinkState → ℕ → Type 0
WritesPage page old new number = (PutsAll old page new × (number ≡ status_number status.Done)) ⊎ (SinkFails old new × PutsSome old page new × (number ≡ status_number status.WriteFault))

-- by the page that the words ask for: it is written, and nothing else is touched; where they ask for none, the command
-- was run, and the number is its status's
abbrev pub ProgramEndsBy : Option (List ℕ) → List (List ℕ) → Outside → Outside → ℕ → Type 0
ProgramEndsBy (Some page) words old new number = WritesPage page old.out new.out number × (new ≡ record old { out = new.out })
ProgramEndsBy None words old new number = (s : Status) × Runs (form_of_words words) old new s × (number ≡ status_number s)

-- the program did what the words ask for, and ends with this number
abbrev pub ProgramEnds : List (List ℕ) → Outside → Outside → ℕ → Type 0
ProgramEnds words old new number = ProgramEndsBy (page_of words) words old new number

-- what a call did for these words, and the number with which the program ends
abbrev pub CallEnds : List (List ℕ) → Call → ℕ → Type 0
CallEnds words call number = ProgramEnds words call.old call.new number
