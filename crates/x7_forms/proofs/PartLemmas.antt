-- What becomes of a part file that gives no part.
use Rattle.std.proofs.Common.{◌≡◌, ◌⊎◌, inl, inr, List, ℕ, Option, Err, refl, ap}
use Rattle.x7_part.specs.PartFile.{part_in}
use Rattle.x7_part.specs.declared.fault.PartFault.{PartFault}
use Rattle.x7_part.specs.declared.fault.PartFault.TheVariants as part
use Rattle.x7_forms.specs.Event.{Event}
use Rattle.x7_forms.specs.Known.{Known, Mishap, part_by, part_event}
use Rattle.x7_forms.specs.Step.{IsCaused, IsNoPart}
use Rattle.x7_forms.proofs.ReadLemmas.{works}

-- a part file that gave no part
pub refused : (known : Option Known) (C : Mishap → Type 0) (name text : List ℕ) (fault : PartFault) → (fault ≡ part.NoMemory) ⊎ (part_in text ≡ Err fault) → IsCaused known C (λ t. part_by name (part_in text)) (Err (part_event name fault))
refused known C name text part.NoMemory h = inl (inl refl)
refused known C name text fault (inl e) = absurd (cc)
refused known C name text part.Toml (inr h) = works known C (part_by name (part_in text)) (Err (part_event name part.Toml)) tt tt (ap (part_by name) h)
refused known C name text (part.Key which) (inr h) = works known C (part_by name (part_in text)) (Err (part_event name (part.Key which))) tt tt (ap (part_by name) h)
refused known C name text (part.Range which) (inr h) = works known C (part_by name (part_in text)) (Err (part_event name (part.Range which))) tt tt (ap (part_by name) h)
refused known C name text (part.SameRow n) (inr h) = works known C (part_by name (part_in text)) (Err (part_event name (part.SameRow n))) tt tt (ap (part_by name) h)
refused known C name text (part.TooMany n) (inr h) = works known C (part_by name (part_in text)) (Err (part_event name (part.TooMany n))) tt tt (ap (part_by name) h)

-- a part file that gives no part
pub no_part : (name : List ℕ) (fault : PartFault) (event : Event) → event ≡ part_event name fault → IsNoPart name event
no_part name part.NoMemory event e = inl (inl e)
no_part name part.Toml event e = inr (part.Toml, e)
no_part name (part.Key which) event e = inr (part.Key which, e)
no_part name (part.Range which) event e = inr (part.Range which, e)
no_part name (part.SameRow row) event e = inr (part.SameRow row, e)
no_part name (part.TooMany frames) event e = inr (part.TooMany frames, e)
