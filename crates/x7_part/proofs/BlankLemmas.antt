-- A part file of white space and comments alone: it has an empty table, and so no name.
use Rattle.std.proofs.Common.{◌≡◌, ◌∙◌, ℕ, List, None, Some, ap, refl, sym}
use Rattle.std.specs.Prelude.{IsUtf8, Ok, IsErrOf}
use Rattle.std.proofs.lemmas.Option.{none-some, same_Some}
use Rattle.std.proofs.lemmas.Result.{IfErr-at_err}
use Rattle.toml.specs.Data.{Members, no_members}
use Rattle.toml.specs.Errors.{IsBlank}
use Rattle.toml.specs.Parse.{parse_document, lines}
use Rattle.x7_part.specs.PartFile.{HasNoKey}
use Rattle.x7_part.specs.Values.{under}
use Rattle.x7_part.specs.declared.fault.PartFault.{PartFault}
use Rattle.x7_part.specs.declared.fault.PartKey.TheVariants as key

pub blank_table : (text : List ℕ) → IsBlank text → parse_document text ≡ Some no_members
unfolding parse_document lines
blank_table text h = rw h refl

pub blank_parsed : (text read : List ℕ) → read ≡ text → HasNoKey text → parse_document read ≡ None → ⊥
blank_parsed text read same h e = none-some no_members (sym e ∙ ap parse_document same ∙ blank_table text h.1)

pub unnamed : (text : List ℕ) (t : Members) → HasNoKey text → IsUtf8 text × (parse_document text ≡ Some t) → under key.Name t ≡ None
unnamed text t h is = rw (same_Some t no_members (sym is.1 ∙ blank_table text h.1)) refl

-- what was given is no fault
pub not_given : {T : Type 0} (x : T) (due : PartFault) → IsErrOf (Ok x) due → ⊥
not_given x due e = IfErr-at_err (λ y. ⊥) e tt
