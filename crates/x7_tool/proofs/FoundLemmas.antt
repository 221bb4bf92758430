-- What may be found of a flash that a run updates, and what a boot makes of it.
use Rattle.std.proofs.Common.{◌≡◌, ℕ, List, Option, Some, Result, Ok, subst, sym, ◌∙◌, inl, inr, ◌⊎◌, ⊎_elim, arith}
use Rattle.x7_words.specs.Flash.{FlashState}
use Rattle.x7_words.specs.Input.{InputsState}
use Rattle.x7_boot.specs.Boot.{BootedState, IsBoot}
use Rattle.x7_update.specs.After.{MayBeLeft, untouched}
use Rattle.x7_words.proofs.FollowLemmas.{known_at}
use Rattle.x7_recovery.specs.Golden.{BootsAlike, UpdatingByAttempt}
use Rattle.x7_recovery.proofs.GoldenLemmas.{found_alike}
use Rattle.x7_forms.specs.Event.{Event}
use Rattle.x7_forms.specs.Form.{updated_by}
use Rattle.x7_forms.specs.AskedForm.{AskedForm}
use Rattle.x7_forms.specs.Known.{Known}
use Rattle.x7_tool.specs.PowerLoss.{EachBootsOfAny, IsUpdateOf, PowerLossMayLeave}
use Rattle.x7_outcome.specs.Leaving.{LeavesAnyFlash, MayBeFound, holding}
use Rattle.x7_outcome.specs.Outcome.{stream_data}
use Rattle.x7_outcome.specs.Outside.{known_from, sources}

ok_is : (a b : List ℕ) (r : Result (List ℕ) Event) → r ≡ Ok a → r ≡ Ok b → a ≡ b
ok_is a b r e f = let same : Ok a ≡ Ok b = sym e ∙ f in cc

-- a stream's data are one list
left_by : (r : Result (List ℕ) Event) (stream flash found : List ℕ) → r ≡ Ok stream → (found ≡ flash) ⊎ ((bytes : List ℕ) × (r ≡ Ok bytes) × MayBeLeft bytes flash found) → MayBeLeft stream flash found
left_by r stream flash found e (inl same) = untouched same
left_by r stream flash found e (inr h) = subst (λ (x : List ℕ). MayBeLeft x flash found) (ok_is h.0 stream r h.1 e) h.2

-- what is found of a flash that a run updates with a stream may be left of that update
found_left : (form : Option AskedForm) (inputs : InputsState) (flash : FlashState) (known : Known) (name stream all found : List ℕ) → known_from (sources inputs flash) ≡ Some known → updated_by form ≡ Some name → stream_data known name ≡ Ok stream → flash.bytes ≡ Some all
    → PowerLossMayLeave form (sources inputs flash) found → MayBeLeft stream all found
found_left form inputs flash known name stream all found is_known updates data_known bytes_known f =
    let from = known_from (sources inputs flash) in
    let here : MayBeFound from (updated_by form) all found = known_at flash.bytes (λ x. MayBeFound from (updated_by form) x found) f all bytes_known in
    let named : MayBeFound from (Some name) all found = subst (λ (s : Option (List ℕ)). MayBeFound from s all found) updates here in
    let may_be : MayBeFound (Some known) (Some name) all found = subst (λ (k : Option Known). MayBeFound k (Some name) all found) is_known named in
    left_by (stream_data known name) stream all found data_known may_be

-- whatever is found of a flash that a run updates boots as one of the three
found_run_boots : (form : Option AskedForm) (inputs : InputsState) (flash : FlashState) (u : UpdatingByAttempt) (found : List ℕ) (b : BootedState) → IsUpdateOf form (sources inputs flash) u → PowerLossMayLeave form (sources inputs flash) found → IsBoot u.part found b
    → BootsAlike u found b
found_run_boots form inputs flash u found b w f boot =
    found_alike u found b w.prepared (found_left form inputs flash w.known w.name u.stream u.flash found w.is_known w.updates w.stream w.bytes f) boot

-- whatever a power loss leaves of any flash boots as one of the three
pub each_boots : (form : Option AskedForm) (inputs : InputsState) (old new : FlashState) → LeavesAnyFlash form (sources inputs old) new → EachBootsOfAny form (sources inputs old) new
each_boots form inputs old new left = λ all found long fits h u b w boot. found_run_boots form inputs (holding all old) u found b w (left all found long fits h) boot
