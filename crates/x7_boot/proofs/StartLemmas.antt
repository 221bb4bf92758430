-- Histories in which no DESYNC is executed after a START: the phase of startup is nowhere above 0.
use Rattle.std.proofs.Common.{◌≡◌, ◌==◌, ◌<◌, ◌⊎◌, inl, inr, ℕ, Bool, true, false, if◌then◌else◌, Option, None, Some, List, [], ◌∷◌, ◌++◌, drop, take, length, refl, ap, sym, subst, ◌∙◌, take-append-drop, arith}
use Rattle.std.specs.Prelude.{nat_lt}
use Rattle.std.proofs.lemmas.Bool.Decides.{nat_tests}
use Rattle.x7_words.specs.Word.{AreBytes}
use Rattle.x7_words.proofs.ListLemmas.{all_take}
use Rattle.x7_packets.specs.History.{Entry, History, executes, history_of, until}
use Rattle.x7_packets.proofs.GrowthLemmas.{prefix_of}
use Rattle.x7_part.specs.Part.{PartData}
use Rattle.x7_engine.specs.Checked.{HasStartAndDesync}
use Rattle.x7_engine.specs.State.{history_by, history_taken, last_counted, why_stopped, state_of, first_stop_of_bytes, taken_of}
use Rattle.x7_engine.specs.Stop.{Stopped}
use Rattle.x7_engine.specs.declared.kept.Kept.{Kept}
use Rattle.x7_engine.proofs.CheckedLemmas.{phase_started}
use Rattle.x7_engine.proofs.StateLemmas.{stop_is_final_stop}
use Rattle.x7_boot.specs.Attempt.{ending_at, ending_by}
use Rattle.x7_boot.proofs.TookLemmas.{ends_by_stop}

-- no START is executed
abbrev pub NoStartExecuted : History → Type 0
NoStartExecuted [] = Unit {0}
NoStartExecuted (e ∷ h) = (executes 5 h e.access ≡ false) × NoStartExecuted h

-- no DESYNC is executed after a START
abbrev pub NoDesyncAfterStart : History → Type 0
NoDesyncAfterStart [] = Unit {0}
NoDesyncAfterStart (e ∷ h) = ((executes 13 h e.access ≡ false) ⊎ NoStartExecuted h) × NoDesyncAfterStart h

none_there : (newer older : History) (e : Entry) → NoStartExecuted (newer ++ e ∷ older) → executes 5 older e.access ≡ true → ⊥
none_there [] older e none is = let both : true ≡ false = sym is ∙ none.0 in absurd (cc)
none_there (x ∷ newer) older e none is = none_there newer older e none.1 is

-- there is no DESYNC after a START
no_pair : (newer between older : History) (desync start : Entry) → NoDesyncAfterStart (newer ++ desync ∷ (between ++ start ∷ older)) → executes 13 (between ++ start ∷ older) desync.access ≡ true → executes 5 older start.access ≡ true → ⊥
no_pair [] between older desync start (inl other, rest) d s = let both : true ≡ false = sym d ∙ other in absurd (cc)
no_pair [] between older desync start (inr none, rest) d s = none_there between older start none s
no_pair (x ∷ newer) between older desync start never d s = no_pair newer between older desync start never.1 d s

-- in the history of fewer bytes no DESYNC is executed after a START either
pub never_until : (n : ℕ) (h : History) → NoDesyncAfterStart h → NoDesyncAfterStart (until n h)
never_until n [] never = tt
never_until n (e ∷ h) never = by (nat_lt n e.place) (never_until n h never.1)
  where
    by : (b : Bool) → NoDesyncAfterStart (until n h) → NoDesyncAfterStart (if b then until n h else e ∷ h)
    by true less = less
    by false less = never

-- ---- of bytes

never_taken : (part : PartData) (kept : Kept) (bytes : List ℕ) → NoDesyncAfterStart (history_of bytes) → NoDesyncAfterStart (history_taken part kept bytes)
never_taken part kept bytes never = by (first_stop_of_bytes part kept bytes)
  where
    by : (o : Option Stopped) → NoDesyncAfterStart (history_by o (history_of bytes))
    by None = never
    by (Some s) = never_until (last_counted s.why s.place) (history_of bytes) never

-- the phase of startup isn't above 0
phase_none : (part : PartData) (kept : Kept) (wrapped : Bool) (bytes : List ℕ) → AreBytes bytes → NoDesyncAfterStart (history_of bytes) → 0 < (state_of part kept wrapped bytes).phase → ⊥
phase_none part kept wrapped bytes fits never late =
    let s : HasStartAndDesync part.idcode (history_taken part kept bytes) (taken_of part kept bytes) = phase_started part kept wrapped bytes fits late in
    no_pair s.newer s.between s.older s.desync s.start (subst NoDesyncAfterStart s.split (never_taken part kept bytes never)) s.desync_is s.start_is

-- phase 7 is a phase above 0
pub seven_late : (n : ℕ) → (n == 7) ≡ true → 0 < n
seven_late n e = grind (arith, e, nat_tests)

pub never_seven : (part : PartData) (kept : Kept) (bytes : List ℕ) → AreBytes bytes → NoDesyncAfterStart (history_of bytes) → ((state_of part kept false bytes).phase == 7) ≡ false
never_seven part kept bytes fits never = by ((state_of part kept false bytes).phase == 7) refl
  where
    by : (b : Bool) → ((state_of part kept false bytes).phase == 7) ≡ b → b ≡ false
    by true e = absurd (phase_none part kept false bytes fits never (seven_late (state_of part kept false bytes).phase e))
    by false e = refl

-- ---- the first of some bytes

pub prefix_history : (k : ℕ) (bytes : List ℕ) → AreBytes bytes → history_of (take k bytes) ≡ until (length (take k bytes)) (history_of bytes)
prefix_history k bytes fits =
    let whole : take k bytes ++ drop k bytes ≡ bytes = take-append-drop k bytes in
    sym (prefix_of (take k bytes) (drop k bytes) (subst AreBytes (sym whole) fits)) ∙ ap (λ (b : List ℕ). until (length (take k bytes)) (history_of b)) whole

-- no stop in more bytes, none in fewer
pub prefix_goes : (part : PartData) (kept : Kept) (k : ℕ) (bytes : List ℕ) → AreBytes bytes → first_stop_of_bytes part kept bytes ≡ None → first_stop_of_bytes part kept (take k bytes) ≡ None
prefix_goes part kept k bytes fits none = by (first_stop_of_bytes part kept (take k bytes)) refl
  where
    by : (o : Option Stopped) → first_stop_of_bytes part kept (take k bytes) ≡ o → o ≡ None
    by None e = refl
    by (Some s) e =
        let whole : take k bytes ++ drop k bytes ≡ bytes = take-append-drop k bytes in
        let later : first_stop_of_bytes part kept (take k bytes ++ drop k bytes) ≡ Some s = stop_is_final_stop part kept (take k bytes) (drop k bytes) s (subst AreBytes (sym whole) fits) e in
        let both : Some s ≡ None = sym later ∙ ap (first_stop_of_bytes part kept) whole ∙ none in absurd (cc)

-- neither phase 7 nor a stop
pub goes_on : (part : PartData) (kept : Kept) (bytes : List ℕ) → ((state_of part kept false bytes).phase == 7) ≡ false → first_stop_of_bytes part kept bytes ≡ None → ending_at part kept bytes ≡ None
goes_on part kept bytes early none = ends_by_stop part kept bytes early ∙ ap (λ (o : Option Stopped). ending_by (why_stopped o)) none

-- nothing ends an attempt at fewer bytes, where no DESYNC is executed after a START and those have no stop
pub prefix_open : (part : PartData) (kept : Kept) (k : ℕ) (bytes : List ℕ) → AreBytes bytes → NoDesyncAfterStart (history_of bytes) → first_stop_of_bytes part kept (take k bytes) ≡ None → ending_at part kept (take k bytes) ≡ None
prefix_open part kept k bytes fits never none =
    goes_on part kept (take k bytes)
    (never_seven part kept (take k bytes) (all_take (λ b. b < 256) k bytes fits) (subst NoDesyncAfterStart (sym (prefix_history k bytes fits)) (never_until (length (take k bytes)) (history_of bytes) never))) none
