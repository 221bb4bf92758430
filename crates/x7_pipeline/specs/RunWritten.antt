-- Words written in order, up to the first that is refused (this project's choice).
use Rattle.std.specs.Prelude.{◌≡◌, ℕ, ◌+◌, List, [], ◌∷◌, ◌++◌, length, Option, Some, None}
use Rattle.x7_part.specs.Part.{PartData}
use Rattle.x7_pipeline.specs.declared.fault.RunFault.{RunFault}
use Rattle.x7_pipeline.specs.Runs.{onto}
use Rattle.x7_pipeline.specs.Fault.{write_fault}

-- what writing words leaves: the run with the words before the refused one, how many words were looked at, the refused
-- one included, and its fault, none where no word was refused
pub record RunWritten : Type 0 where
  pub run : List ℕ
  pub count : ℕ
  pub fault : Option RunFault

-- one word written, and the later ones after it: a word that is refused ends the writing
abbrev pub with_later_words : Option RunFault → List ℕ → RunWritten → RunWritten
with_later_words (Some fault) run later = record { run = run; count = 1; fault = Some fault }
with_later_words None run later = record later { count = 1 + later.count }

-- words written in order after a run, up to the first that is refused
unfoldable pub run_written : PartData → ℕ → List ℕ → List ℕ → RunWritten
run_written part base run [] = record { run = run; count = 0; fault = None }
run_written part base run (w ∷ words) = with_later_words (write_fault part base run) run (run_written part base (w ∷ run) words)

-- the first refused word, and the words before it, with which the run was left
pub record HasFirstRefused (part : PartData) (base : ℕ) (run words : List ℕ) (fault : RunFault) : Type 0 where
  pub before : List ℕ
  pub word : ℕ
  pub later : List ℕ
  pub words_are : words ≡ before ++ word ∷ later
  pub written_is : run_written part base run words ≡ record { run = onto before run; count = length before + 1; fault = Some fault }
  pub refused : write_fault part base (onto before run) ≡ Some fault
