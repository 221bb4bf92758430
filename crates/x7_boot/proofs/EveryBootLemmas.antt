-- Every flash leads a boot to an end: an attempt comes to an end, and after
-- sixteen attempts and a fallback there is none.
use Rattle.std.proofs.Common.{◌≡◌, ◌+◌, ◌<◌, ◌⊎◌, inl, inr, ℕ, zero, suc, Bool, true, false, if◌then◌else◌, List, [], ◌∷◌, drop, take, length, Option, None, Some, refl, ap, sym, subst, ◌∙◌, take-append-drop, arith}
use Rattle.std.specs.Prelude.{nat_le, ◌||◌}
use Rattle.std.proofs.lemmas.Bool.Decides.{nat_tests}
use Rattle.std.proofs.lemmas.List.{length-take}
use Rattle.x7_part.specs.Part.{PartData}
use Rattle.x7_regs.specs.declared.boot_status.Cause.TheVariants.{Wrap}
use Rattle.x7_regs.specs.declared.register.Reg.TheVariants.{Ctl0}
use Rattle.x7_engine.specs.Kept.{is_fallback}
use Rattle.x7_engine.specs.State.{taken_of}
use Rattle.x7_engine.specs.declared.kept.Kept.{Kept}
use Rattle.x7_boot.specs.Attempt.{IsFlashAttempt, BootAttempt, ending_at}
use Rattle.x7_regs.specs.Control.{forbids_fallback}
use Rattle.x7_boot.specs.Boot.{HasBoot, LeadsTo, at_power, end_value, next_by}
use Rattle.x7_boot.specs.declared.attempt.Ending.{Ending}
use Rattle.x7_boot.specs.declared.attempt.Ending.TheVariants as ending
use Rattle.x7_boot.specs.declared.boots.BootEnd.{BootEnd}
use Rattle.x7_boot.specs.declared.boots.BootEnd.TheVariants as boot_end
use Rattle.x7_boot.specs.declared.next.Next.{Next}
use Rattle.x7_boot.specs.declared.next.Next.TheVariants.{Again, Ends}
use Rattle.x7_boot.proofs.LeastLemmas.{IsLeast, search_to}

-- ---- an attempt

abbrev has_ended : Option Ending → Bool
has_ended None = false
has_ended (Some e) = true

none_has : (o : Option Ending) → has_ended o ≡ false → o ≡ None
none_has None e = refl
none_has (Some x) e = absurd (cc)

some_has : (o : Option Ending) → has_ended o ≡ true → (x : Ending) × (o ≡ Some x)
some_has None e = absurd (cc)
some_has (Some x) e = (x, refl)

-- an attempt with this kept at this address
record Attempts (part : PartData) (flash : List ℕ) (kept : Kept) (address : ℕ) : Type 0 where
  attempt : BootAttempt
  is : IsFlashAttempt part flash attempt
  kept_is : attempt.kept ≡ kept
  address_is : attempt.address ≡ address

attempts : (part : PartData) (flash : List ℕ) (kept : Kept) (address : ℕ) → Attempts part flash kept address
attempts part flash kept address = by (search_to ends_at (suc (length from)))
  where
    from : List ℕ
    from = drop address flash

    ends_at : ℕ → Bool
    ends_at n = has_ended (ending_at part kept (take n from))

    by : ((k : ℕ) → k < suc (length from) → ends_at k ≡ false) ⊎ IsLeast ends_at (suc (length from)) → Attempts part flash kept address
    by (inl none) = record {
      attempt = record { kept = kept; address = address; bytes = take (taken_of part kept from) from; wrapped = true; ending = ending.Failed Wrap };
      is = inr (record { none = λ k l. none_has (ending_at part kept (take k from)) (none k l); taken = refl; failed = refl; past_end = refl });
      kept_is = refl;
      address_is = refl;
    }
    by (inr l) =
        let here : (e : Ending) × (ending_at part kept (take l.least from) ≡ Some e) = some_has (ending_at part kept (take l.least from)) l.here in
        record {
          attempt = record { kept = kept; address = address; bytes = take l.least from; wrapped = false; ending = here.0 };
          is = inl (record {
            rest = drop l.least from;
            taken = sym (take-append-drop l.least from);
            ends = here.1;
            first = λ k less. none_has (ending_at part kept (take k from)) (l.none_before k (omega (arith, less, length-take l.least from)));
            in_flash = refl;
          });
          kept_is = refl;
          address_is = refl;
        }

-- ---- attempt after attempt

-- fewer than 16 attempts lead to one with this kept, or it is a fallback after at most 16
abbrev IsEarly : List BootAttempt → Kept → Type 0
IsEarly older kept = (length older < 16) ⊎ ((is_fallback kept.kind ≡ true) × (length older < 17))

early_is_short : (older : List BootAttempt) (kept : Kept) → IsEarly older kept → length older < 17
early_is_short older kept (inl l) = omega (arith, l)
early_is_short older kept (inr l) = l.1

-- after this attempt comes an end, or an attempt that is early
abbrev Comes : List BootAttempt → BootAttempt → Next → Type 0
Comes older t next = ((e : BootEnd) × (next ≡ Ends e)) ⊎ ((kept : Kept) × (address : ℕ) × IsEarly (t ∷ older) kept × (next ≡ Again kept address))

after_iprog : (older : List BootAttempt) (t : BootAttempt) (kept : Kept) (address : ℕ) (b : Bool) → nat_le 16 (length older + 1) ≡ b → Comes older t (if b then Ends boot_end.Loop else Again kept address)
after_iprog older t kept address true e = inl (boot_end.Loop, refl)
after_iprog older t kept address false e = inr (kept, address, inl (grind (arith, nat_tests, e)), refl)

short_after : (older : List BootAttempt) (t : BootAttempt) → is_fallback t.kept.kind ≡ false → IsEarly older t.kept → length older + 1 < 17
short_after older t isnt (inl l) = omega (arith, l)
short_after older t isnt (inr l) = let both : true ≡ false = sym l.0 ∙ isnt in absurd (cc)

after_failure : (older : List BootAttempt) (t : BootAttempt) (kept : Kept) (f g : Bool) → is_fallback t.kept.kind ≡ f → is_fallback kept.kind ≡ true → IsEarly older t.kept → Comes older t (if f || g then Ends boot_end.Stopped else Again kept 0)
after_failure older t kept true g e falls early = inl (boot_end.Stopped, refl)
after_failure older t kept false true e falls early = inl (boot_end.Stopped, refl)
after_failure older t kept false false e falls early = inr (kept, 0, inr (falls, omega (arith, short_after older t e early)), refl)

comes : (part : PartData) (older : List BootAttempt) (t : BootAttempt) (e : Ending) → IsEarly older t.kept → Comes older t (next_by part (length older + 1) t e)
comes part older t ending.Started early = inl (boot_end.Started, refl)
comes part older t ending.Iprog early = after_iprog older t _ _ (nat_le 16 (length older + 1)) refl
comes part older t (ending.Failed cause) early = after_failure older t _ (is_fallback t.kept.kind) (forbids_fallback (end_value part t Ctl0)) refl refl early

chain : (part : PartData) (flash : List ℕ) (n : ℕ) (older : List BootAttempt) (kept : Kept) (address : ℕ) → length older + n ≡ 17 → IsEarly older kept → LeadsTo part flash older (Again kept address) → HasBoot part flash
chain part flash zero older kept address count early leads = absurd (omega (arith, count, early_is_short older kept early))
chain part flash (suc n) older kept address count early leads =
    let a : Attempts part flash kept address = attempts part flash kept address in
    let t : BootAttempt = a.attempt in
    let here : LeadsTo part flash older (Again t.kept t.address) = subst (λ (x : Next). LeadsTo part flash older x) (ap (λ (k : Kept). Again k address) (sym a.kept_is) ∙ ap (Again t.kept) (sym a.address_is)) leads in
    elim (comes part older t t.ending (subst (IsEarly older) (sym a.kept_is) early)) [
      | inl e ↦ record { last = t; older = older; end = e.0; leads = (here, a.is, sym e.1) }
      | inr next ↦ chain part flash n (t ∷ older) next.0 next.1 (omega (arith, count)) next.2 (here, a.is, sym next.3)
    ]

pub has_boot : (part : PartData) (flash : List ℕ) → HasBoot part flash
has_boot part flash = chain part flash 17 [] at_power 0 refl (inl (omega arith)) refl
