-- Lemmas on the bytes before the watchdog fires.
use Rattle.std.proofs.Common.{◌≡◌, ◌+◌, ◌-◌, ◌<◌, ◌≤◌, ℕ, Option, None, Some, refl, sym, ap, ◌∙◌, arith}
use Rattle.std.proofs.lemmas.Option.{none-some}
use Rattle.std.specs.Option.{option_or}
use Rattle.x7_packets.specs.History.{History}
use Rattle.x7_part.specs.Part.{PartData}
use Rattle.x7_engine.specs.Course.{course_at}
use Rattle.x7_engine.specs.declared.kept.Kept.{Kept}
use Rattle.x7_engine.specs.Clock.{ClockState, ClockTakes}
use Rattle.x7_engine.specs.Watching.{first_firing}
use Rattle.x7_engine.proofs.ClockLemmas.{firing_more}
use Rattle.x7_engine.proofs.StateLemmas.{firing_within}

firing_upto : (part : PartData) (kept : Kept) (h : History) (n a b : ℕ) → a ≤ b → option_or (first_firing part kept h n a) (first_firing part kept h (n + a) (b - a)) ≡ first_firing part kept h n b
firing_upto part kept h n a b l =
    let sum : a + (b - a) ≡ b = omega (arith, l) in
    sym (firing_more part kept h n a (b - a)) ∙ ap (first_firing part kept h n) sum

none_of_none : (o p : Option ℕ) → option_or o p ≡ None → o ≡ None
none_of_none None p e = refl
none_of_none (Some x) p e = absurd (none-some _ (sym e))

-- where the watchdog fires at none of b bytes, it fires at none of the first of them
pub firing_less : (part : PartData) (kept : Kept) (h : History) (n a b : ℕ) → a ≤ b → first_firing part kept h n b ≡ None → first_firing part kept h n a ≡ None
firing_less part kept h n a b l e = none_of_none (first_firing part kept h n a) (first_firing part kept h (n + a) (b - a)) (firing_upto part kept h n a b l ∙ e)

-- the watchdog fires at none of the bytes before the one at which it first fires
pub firing_first : (part : PartData) (kept : Kept) (c : ClockState) (h : History) (n count k : ℕ) → ClockTakes (course_at part kept h n) c count (Some k) → first_firing part kept h n (k - 1) ≡ None
firing_first part kept c h n count k t =
    by (first_firing part kept h n (k - 1)) (firing_within part kept h n (k - 1)) (firing_upto part kept h n (k - 1) count (omega (arith, t.1)) ∙ t.3)
  where
    by : (o : Option ℕ) → ((place : ℕ) → o ≡ Some place → (n < place) × (place ≤ n + (k - 1))) → option_or o (first_firing part kept h (n + (k - 1)) (count - (k - 1))) ≡ Some (n + k) → o ≡ None
    by None f e = refl
    by (Some x) f e =
        let w : (n < x) × (x ≤ n + (k - 1)) = f x refl in
        let same : x ≡ n + k = cc in
        absurd (omega (arith, w.1, same, t.0))

-- bytes without a firing are all taken
pub ticks_quiet : (part : PartData) (kept : Kept) (c : ClockState) (h : History) (n count : ℕ) (o : Option ℕ) → first_firing part kept h n count ≡ None → ClockTakes (course_at part kept h n) c count o → ClockTakes (course_at part kept h n) c count None
ticks_quiet part kept c h n count None e t = t
ticks_quiet part kept c h n count (Some k) e t = absurd (none-some _ (sym e ∙ t.3))
