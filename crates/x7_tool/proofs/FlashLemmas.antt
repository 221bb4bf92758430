-- A flash that a form doesn't use, or reads at most.
use Rattle.std.proofs.Common.{◌≡◌, ◌∙◌, ap, arith, ℕ, List, Option, None, Some, refl, subst, sym, inl}
use Rattle.x7_words.specs.Flash.{FlashState}
use Rattle.x7_words.specs.FlashHistory.{FollowsCalls}
use Rattle.x7_words.proofs.FollowLemmas.{follow_none}
use Rattle.x7_words.specs.Input.{InputsState}
use Rattle.x7_forms.specs.Form.{FlashUse, Read, Unused, Updated, flash_use, updated_by}
use Rattle.x7_forms.specs.AskedForm.{AskedForm}
use Rattle.x7_forms.specs.AskedForm as form
use Rattle.x7_forms.specs.Known.{Known}
use Rattle.x7_outcome.specs.Leaving.{LeavesAnyFlash, LeavesAsItWas, MayBeFound, UsesFlash, holding}
use Rattle.x7_outcome.proofs.FlashLemmas.{leaves_same}
use Rattle.x7_outcome.specs.Outside.{UsesFlashAs, ReadsFlash, known_from, sources}

pub reads_none : (name : List ℕ) (s : FlashState) → ReadsFlash name s s
reads_none name s = record { bytes = refl; write_faults = refl; faults = omega arith; absences = omega arith; asked = inl refl }

-- a flash that was not used
pub kept_same : (u : FlashUse) (s : FlashState) → UsesFlashAs u s s
kept_same Unused s = refl
kept_same (Read name) s = reads_none name s
kept_same (Updated name) s = record { faults = omega arith; absences = omega arith; write_faults = omega arith; asked = inl refl }

-- what a flash held may be found
pub found_same : (known : Option Known) (stream : Option (List ℕ)) (all : List ℕ) → MayBeFound known stream all all
found_same known None all = refl
found_same known (Some stream) all = inl refl

pub uses_same : (form : Option AskedForm) (inputs : InputsState) (s : FlashState) → UsesFlash form (sources inputs s) s
uses_same form inputs s = record {
  keeps = kept_same (flash_use form) s;
  follows = follow_none s;
  left = λ all found long fits h.
      let same = leaves_same s all found h in
      let known = known_from (sources inputs (holding all s)) in
      subst (λ (x : List ℕ). MayBeFound known (updated_by form) all x) (sym same) (found_same known (updated_by form) all);
}

-- a form that reads its flash leaves what that held
reads_leave : (asks : AskedForm) (name : List ℕ) (inputs : InputsState) (old new : FlashState) → flash_use (Some asks) ≡ Read name → LeavesAsItWas old new → LeavesAnyFlash (Some asks) (sources inputs old) new
reads_leave (form.Update flash stream) name inputs old new n left = absurd (cc)
reads_leave asks name inputs old new n left = λ all found long fits h. left all found h

-- a form that reads its flash
pub uses_read : (form : Option AskedForm) (asks : AskedForm) (name : List ℕ) (inputs : InputsState) (old new : FlashState) → form ≡ Some asks → flash_use (Some asks) ≡ Read name → ReadsFlash name old new → FollowsCalls old new → LeavesAsItWas old new → UsesFlash form (sources inputs old) new
uses_read form asks name inputs old new e n r follows left = record {
  keeps = subst (λ (u : FlashUse). UsesFlashAs u old new) (sym (ap flash_use e ∙ n)) r;
  follows = follows;
  left = subst (λ (f : Option AskedForm). LeavesAnyFlash f (sources inputs old) new) (sym e) (reads_leave asks name inputs old new n left);
}
