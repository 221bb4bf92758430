-- Lemmas on a boot, attempt after attempt.
use Rattle.std.proofs.Common.{◌≡◌, ◌+◌, ℕ, suc, List, [], ◌∷◌, ◌++◌, length, map, reverse, Result, Ok, Err, IfOk, refl, ap, sym, subst, ◌∙◌, ◌<◌, ◌≤◌, Bool, true, false, arith}
use Rattle.std.proofs.lemmas.List.{reverse-append}
use Rattle.x7_words.specs.Flash.{ExtentIsLength, FlashState, IfKnown}
use Rattle.x7_words.specs.Word.{AreBytes}
use Rattle.x7_words.specs.declared.flash_call.FlashCall.{FlashCall}
use Rattle.x7_part.specs.Part.{PartData}
use Rattle.x7_regs.specs.declared.boot_status.Kind.{Kind}
use Rattle.x7_engine.specs.Kept.{is_fallback}
use Rattle.x7_engine.specs.Standing.{DeviceState}
use Rattle.x7_engine.specs.declared.kept.Kept.{Kept}
use Rattle.x7_boot.specs.Attempt.{IsDeviceOf, BootAttempt, AttemptEnds, AttemptStart, TakesByte, attempt_at}
use Rattle.x7_boot.specs.Boot.{BootedState, BootsTo, IsBoot, HasLedTo, IsTakenFrom, BootTakesByte, LeadsTo, ReadsInAttempt, ReadsInAttempts, ReadsInBoot, most_iprogs, next_by, tried}
use Rattle.x7_boot.specs.Reads.{FlashAnswers, HasCalled, IfAgrees, IsSince, answers_since}
use Rattle.x7_boot.specs.declared.attempt.Ending.{Ending}
use Rattle.x7_boot.specs.declared.boots.BootEnd.{BootEnd}
use Rattle.x7_boot.specs.declared.boots.Tried.{Tried}
use Rattle.x7_boot.specs.declared.fault.BootFault.{BootFault}
use Rattle.x7_boot.specs.declared.next.Next.{Next}
use Rattle.x7_boot.specs.declared.next.Next.TheVariants.{Again, Ends}
use Rattle.x7_boot.proofs.ReadLemmas.{IsLater, attempts_later, called_on, called_with, known_agrees, later_on, pages_with}

one_more : (older : List BootAttempt) (t : BootAttempt) (attempts : List Tried) (next : Tried) → attempts ≡ reverse (map tried older) → next ≡ tried t → attempts ++ next ∷ [] ≡ reverse (map tried (t ∷ older))
one_more older t attempts next e f =
    ap (λ (a : List Tried). a ++ next ∷ []) e ∙ ap (λ (x : Tried). reverse (map tried older) ++ x ∷ []) f ∙ sym (reverse-append (tried t ∷ []) (map tried older))

tried_is : (part : PartData) (kept : Kept) (address : ℕ) (all : List ℕ) (d : DeviceState) (ending : Ending) (tries : AttemptEnds (attempt_at part kept address) all d ending) → record { kind = kept.kind; address = address; ending = ending } ≡ tried tries.attempt
tried_is part kept address all d ending tries =
    let e : tries.attempt.kept ≡ kept = tries.kept_is in
    let f : tries.attempt.address ≡ address = tries.address_is in
    let g : tries.attempt.ending ≡ ending = tries.ending_is in
    sym (ap (λ (k : Kept). record { kind = k.kind; address = tries.attempt.address; ending = tries.attempt.ending }) e
    ∙ ap (λ (n : ℕ). record { kind = kept.kind; address = n; ending = tries.attempt.ending }) f
    ∙ ap (λ (n : Ending). record { kind = kept.kind; address = address; ending = n }) g)

-- the attempts with one more, by the table
leads_on : (part : PartData) (kept : Kept) (address : ℕ) (all : List ℕ) (d : DeviceState) (ending : Ending) (attempts : List Tried) (number : ℕ) (next : Next) (led : HasLedTo (attempt_at part kept address) all attempts number) (tries : AttemptEnds (attempt_at part kept address) all d ending)
    → ((t : BootAttempt) → IsDeviceOf part d t → t.kept.kind ≡ kept.kind → next ≡ next_by part (number + 1) t ending) → LeadsTo part all (tries.attempt ∷ led.older) next
leads_on part kept address all d ending attempts number next led tries table =
    let t : BootAttempt = tries.attempt in
    let e : t.kept ≡ kept = tries.kept_is in
    let f : t.address ≡ address = tries.address_is in
    let g : t.ending ≡ ending = tries.ending_is in
    let c : length led.older ≡ number = led.count in
    let here : next ≡ next_by part (number + 1) t ending = table t tries.device (ap (λ (k : Kept). k.kind) e) in (
      subst (λ (n : Next). LeadsTo part all led.older n) (sym (ap (λ (k : Kept). Again k t.address) e ∙ ap (λ (n : ℕ). Again kept n) f)) led.leads,
      tries.is,
      here ∙ sym (ap (λ (n : ℕ). next_by part (n + 1) t t.ending) c ∙ ap (λ (x : Ending). next_by part (number + 1) t x) g),
    )

pub led_on : (part : PartData) (kept kept_now : Kept) (address address_now : ℕ) (all : List ℕ) (d : DeviceState) (ending : Ending) (attempts : List Tried) (number : ℕ) (next : Next)
    → HasLedTo (attempt_at part kept address) all attempts number → AttemptEnds (attempt_at part kept address) all d ending
    → ((t : BootAttempt) → IsDeviceOf part d t → t.kept.kind ≡ kept.kind → next ≡ next_by part (number + 1) t ending) → next ≡ Again kept_now address_now
    → HasLedTo (attempt_at part kept_now address_now) all (attempts ++ record { kind = kept.kind; address = address; ending = ending } ∷ []) (number + 1)
led_on part kept kept_now address address_now all d ending attempts number next led tries table is = record {
  older = tries.attempt ∷ led.older;
  leads = subst (λ (n : Next). LeadsTo part all (tries.attempt ∷ led.older) n) is (leads_on part kept address all d ending attempts number next led tries table);
  tried_are = one_more led.older tries.attempt attempts _ led.tried_are (tried_is part kept address all d ending tries);
  count = let c : length led.older ≡ number = led.count in omega (arith, c);
}

pub led_ends : (part : PartData) (kept : Kept) (address : ℕ) (all : List ℕ) (d : DeviceState) (ending : Ending) (attempts : List Tried) (number : ℕ) (next : Next) (end : BootEnd) → HasLedTo (attempt_at part kept address) all attempts number → AttemptEnds (attempt_at part kept address) all d ending
    → ((t : BootAttempt) → IsDeviceOf part d t → t.kept.kind ≡ kept.kind → next ≡ next_by part (number + 1) t ending) → next ≡ Ends end
    → IsBoot part all (record { attempts = attempts ++ record { kind = kept.kind; address = address; ending = ending } ∷ []; end = end; device = d })
led_ends part kept address all d ending attempts number next end led tries table is = record {
  last = tries.attempt;
  older = led.older;
  leads = subst (λ (n : Next). LeadsTo part all (tries.attempt ∷ led.older) n) is (leads_on part kept address all d ending attempts number next led tries table);
  attempts = one_more led.older tries.attempt attempts _ led.tried_are (tried_is part kept address all d ending tries);
  device = tries.device;
}

-- ---- of each flash that answers so

-- what the table says of the attempt that left this device
abbrev pub ByTable : DeviceState → Kept → ℕ → Ending → Next → Type 0
ByTable d kept number ending next = (part : PartData) (t : BootAttempt) → IsDeviceOf part d t → t.kept.kind ≡ kept.kind → next ≡ next_by part number t ending

-- an attempt as it is reported
abbrev pub known_as : Kept → ℕ → Ending → Tried
known_as kept address ending = record { kind = kept.kind; address = address; ending = ending }

-- an attempt after others, as what its flash answered says
module _ (part : PartData) (kept : Kept) (address : ℕ) (flash : FlashAnswers) (attempts : List Tried) (number : ℕ) (led : IfAgrees flash (λ all. AreBytes all → HasLedTo (attempt_at part kept address) all attempts number)) where
  module _ (d : DeviceState) (ending : Ending) (now : List Tried) (next : Next) (tries : IfAgrees flash (λ all. AreBytes all → AttemptEnds (attempt_at part kept address) all d ending)) (table : ByTable d kept (number + 1) ending next)
      (items : now ≡ attempts ++ known_as kept address ending ∷ []) where
    pub led_next : (kept_now : Kept) (address_now : ℕ) → next ≡ Again kept_now address_now → IfAgrees flash (λ all. AreBytes all → HasLedTo (attempt_at part kept_now address_now) all now (number + 1))
    led_next kept_now address_now is = λ all agrees fits.
        subst (λ (a : List Tried). HasLedTo (attempt_at part kept_now address_now) all a (number + 1)) (sym items)
        (led_on part kept kept_now address address_now all d ending attempts number next (led all agrees fits) (tries all agrees fits) (table part) is)

    pub boot_ends : (end : BootEnd) → next ≡ Ends end → IfAgrees flash (λ all. AreBytes all → IsBoot part all (record { attempts = now; end = end; device = d }))
    boot_ends end is = λ all agrees fits.
        subst (λ (a : List Tried). IsBoot part all (record { attempts = a; end = end; device = d })) (sym items)
        (led_ends part kept address all d ending attempts number next end (led all agrees fits) (tries all agrees fits) (table part) is)

-- the calls of an attempt after those of others: what the attempt takes, the boot takes
pub boot_due : (part old_part : PartData) (kept : Kept) (address : ℕ) (first start old new : FlashState) (attempts : List Tried) (number : ℕ) → IsSince first old → old.bytes ≡ start.bytes → new.extent ≡ old.extent → old_part ≡ part
    → IfAgrees (answers_since first old) (λ all. AreBytes all → HasLedTo (attempt_at part kept address) all attempts number) → HasCalled (ReadsInAttempts part (answers_since first old) number) start old
    → HasCalled (ReadsInAttempt (attempt_at old_part kept address) (answers_since first new)) old new → HasCalled (ReadsInAttempts part (answers_since first new) (number + 1)) start new
boot_due part old_part kept address first start old new attempts number since same size part_is led due read =
    let one : FlashAnswers = answers_since first old in
    let latest : FlashAnswers = answers_since first new in
    let later : IsLater one latest = later_on first old new since size read in
    let a : AttemptStart = attempt_at part kept address in
    let here : HasCalled (ReadsInAttempt a latest) old new = subst (λ (p : PartData). HasCalled (ReadsInAttempt (attempt_at p kept address) latest) old new) part_is read in
    subst (λ (n : ℕ). HasCalled (ReadsInAttempts part latest n) start new) (suc_is number)
    (called_on (ReadsInAttempts part one number) (ReadsInAttempt a latest) (ReadsInAttempts part latest (suc number)) start old new same
    (λ xs ys before now. (
      xs,
      ys,
      now.0,
      refl,
      attempts_later part one latest number xs later before,
      pages_with (IsTakenFrom (TakesByte a) latest) (IsTakenFrom (BootTakesByte part number) latest) 0 now.0 ys (λ page it. record {
        place = it.place;
        inside = it.inside;
        taken = λ all agrees fits.
            let led_to = led all (later.agrees all agrees) fits in record { kept = kept; address = address; older = led_to.older; leads = led_to.leads; count = led_to.count; takes = it.taken all agrees fits };
      }) now.1,
    )) due here)
  where
    suc_is : (n : ℕ) → suc n ≡ n + 1
    suc_is n = omega arith

-- the calls of all attempts are those of the boot
pub boot_reads : (part : PartData) (flash : FlashAnswers) (start now : FlashState) (number : ℕ) → HasCalled (ReadsInAttempts part flash number) start now → HasCalled (ReadsInBoot part flash) start now
boot_reads part flash start now number = called_with (ReadsInAttempts part flash number) (ReadsInBoot part flash) start now (λ xs r. (number, r))

-- a boot from a flash whose bytes are known, by what it read
pub boot_known : {P : List FlashCall → Type 0} (part : PartData) (old new : FlashState) (result : Result BootedState BootFault) → new.extent ≡ old.extent → ExtentIsLength old → HasCalled P old new → IfOk result (BootsTo part (answers_since old new))
    → IfOk result (λ booted. IfKnown old.bytes (λ all. AreBytes all → IsBoot part all booted))
boot_known part old new (Ok booted) size long called boots = known_agrees old new (λ all. AreBytes all → IsBoot part all booted) size long called boots.booted
boot_known part old new (Err fault) size long called boots = tt

-- a seventeenth attempt is a fallback, and the last
pub attempts_next : (kind kind_now : Kind) (number : ℕ) → (is_fallback kind_now ≡ true → is_fallback kind ≡ false) → (is_fallback kind_now ≡ false → number + 1 < most_iprogs) → (is_fallback kind ≡ false → number < most_iprogs) → number + 1 ≤ most_iprogs
attempts_next kind kind_now number fallback few room = by (is_fallback kind_now) refl
  where
    by : (b : Bool) → is_fallback kind_now ≡ b → number + 1 ≤ most_iprogs
    by true e = let l : number < most_iprogs = room (fallback e) in omega (arith, l)
    by false e = let l : number + 1 < most_iprogs = few e in omega (arith, l)
