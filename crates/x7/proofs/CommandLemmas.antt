-- Lemmas on specs/Command.
use Rattle.std.proofs.Common.{◌≡◌, ℕ, List, Option, None, Some, subst, sym}
use Rattle.x7_forms.specs.declared.status.Status.{Status}
use Rattle.x7_forms.specs.Form.{form_of_words}
use Rattle.x7_forms.specs.Status.{status_number}
use Rattle.x7_outcome.specs.Outside.{Outside}
use Rattle.x7_tool.specs.Runs.{Runs}
use Rattle.x7.specs.Command.{ProgramEndsBy, WritesPage}

pub page_ends : (asked : Option (List ℕ)) (page : List ℕ) (words : List (List ℕ)) (old new : Outside) (number : ℕ) → asked ≡ Some page → WritesPage page old.out new.out number → new ≡ record old { out = new.out } → ProgramEndsBy asked words old new number
page_ends asked page words old new number e w s = subst (λ (a : Option (List ℕ)). ProgramEndsBy a words old new number) (sym e) (w, s)

pub run_ends : (asked : Option (List ℕ)) (words : List (List ℕ)) (old new : Outside) (s : Status) (number : ℕ) → asked ≡ None → Runs (form_of_words words) old new s → number ≡ status_number s → ProgramEndsBy asked words old new number
run_ends asked words old new s number e r n = subst (λ (a : Option (List ℕ)). ProgramEndsBy a words old new number) (sym e) (s, r, n)
