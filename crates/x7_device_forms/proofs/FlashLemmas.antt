-- How a boot from a flash ends, and how large a flash is, and when it fails, by the event that ends a form.
use Rattle.std.proofs.Common.{◌≡◌, ◌∙◌, ap, arith, ℕ, ◌≤◌, Bool, true, false, IfErr, IfOk, List, [], ◌∷◌, ◌++◌, ◌⊎◌, Option, None, Some, Result, Ok, Err, refl, subst, sym, inl, inr}
use Rattle.x7_words.specs.Flash.{FlashState, OnlyReads, names_asked}
use Rattle.x7_words.specs.Input.{InputsState}
use Rattle.x7_part.specs.Part.{PartData}
use Rattle.x7_part.specs.declared.fault.PartFault.{PartFault}
use Rattle.x7_forms.specs.declared.bad_input.InputFault.{InputFault}
use Rattle.x7_forms.specs.declared.refusal.Why.TheVariants as why
use Rattle.x7_forms.specs.Event.{Event, bad_input, bad_part, event_of, missing, no_memory, reading_failed, too_large}
use Rattle.x7_forms.specs.Form.{names_of}
use Rattle.x7_forms.specs.AskedForm.{AskedForm}
use Rattle.x7_forms.specs.AskedForm as form
use Rattle.x7_forms.specs.Known.{Absent, Answer, Failing, Found, Held, Known, Lacking, Mishap, flash_found, known_of, mishap_event, part_known, spoiled, spoiled_name, with_inputs, with_mishap}
use Rattle.x7_boot.specs.Image.{flash_limit}
use Rattle.x7_boot.specs.Reads.{IfAgrees, answers_since}
use Rattle.x7_forms.specs.declared.refusal.Refusal.{Refusal}
use Rattle.x7_outcome.specs.Outcome.{BootedAs, FlashBoots, FormGives, no_text}
use Rattle.x7_outcome.specs.Outside.{CameInRun, Outside, ReadsFlash, Sources, known_in}
use Rattle.x7_outcome.specs.Ending.{GivesIfKnown, AnswersOver, BootsAsRead, FlashComes, IsMeasured, FailsLast, IsMissingOrFailed}
use Rattle.x7_forms.specs.Step.{Among, CameIn, DueBy, IsCaused, IsCausedBy, IsDecided, IsDue, IsNoPart, IsPossible, IsUnread, result_by, step_over}
use Rattle.x7_forms.proofs.ReadLemmas.{outside_goes, part_steady}
use Rattle.x7_outcome.proofs.FlashLemmas.{answers_over, not_fault, not_large}
use Rattle.x7_words.proofs.ListLemmas.{same_as_itself}

-- ---- a boot

-- the flash of a name that had a mishap
flash_spoiled : (m : Mishap) (t : Known) (name : List ℕ) (part : PartData) (event : Event) → FlashBoots name part (Some (spoiled m Absent)) (Err event) → spoiled_name m ≡ name → FlashBoots name part ((with_mishap m t).flash name) (Err event)
flash_spoiled (Failing other given) t name part event h e = let here = same_as_itself name in rw (e, here) h
flash_spoiled (Lacking other) t name part event h e = let here = same_as_itself name in rw (e, here) h

-- a mishap of the flash is the first event of a boot whose part was read
boot_mishap : (known : Option Known) (m : Mishap) (name part_name : List ℕ) (part : PartData) (event : Event) → mishap_event m ≡ event → spoiled_name m ≡ name → FlashBoots name part (Some (spoiled m Absent)) (Err event)
    → IsDue {A = PartData} known (λ t r. part_known t part_name ≡ r) (Ok part) → DueBy {A = Answer} known m (λ t end. FormGives t (form.Boot part_name name) end) event
boot_mishap None m name part_name part event e n h read = tt
boot_mishap (Some t) m name part_name part event e n h read = elim ((part_steady part_name).steady m t part read.1) [
  | inl same ↦ subst (λ (r : Result PartData Event). BootedAs name r ((with_mishap m t).flash name) (Err event)) (sym same) (flash_spoiled m t name part event h n)
  | inr ends ↦ subst (λ (r : Result PartData Event). BootedAs name r ((with_mishap m t).flash name) (Err event)) (sym ends) (ap (λ (x : Event). Err x) e)
]

-- the event of a boot by what the flash holds is that of a flash that is too large
large_is : (name : List ℕ) (P : Event → Type 0) (event : Event) → P (too_large name) → event ≡ too_large name → P event
large_is name P event p e = subst P (sym e) p

pub flash_open : (name : List ℕ) (part : PartData) (flash : Option (List ℕ)) (event : Event) → FlashBoots name part (flash_found flash) (Err event) → event ≡ too_large name
flash_open name part None event h = h
flash_open name part (Some all) event h = h.1

booted_due : (known : Option Known) (flash : Option (List ℕ)) (C : Mishap → Type 0) (name part_name : List ℕ) (part : PartData) (end : Result Answer Event) → ((t : Known) → known ≡ Some t → t.flash name ≡ flash_found flash)
    → IsPossible end × IsDecided end → IsDue {A = PartData} known (λ t r. part_known t part_name ≡ r) (Ok part) → FlashBoots name part (flash_found flash) end → IsCausedBy known C (λ t end. FormGives t (form.Boot part_name name) end) end
booted_due None flash C name part_name part end same o read h = inr o.0
booted_due (Some t) flash C name part_name part end same o read h =
    inr (o.1, subst (λ (r : Result PartData Event). BootedAs name r (t.flash name) end) (sym read.1) (subst (λ (f : Option Found). FlashBoots name part f end) (sym (same t refl)) h))

-- what is known of the flash
pub known_flash : (contents : Option (List ℕ → Option (List ℕ))) (flash : Option (List ℕ)) (name : List ℕ) (t : Known) → with_inputs contents flash ≡ Some t → t.flash name ≡ flash_found flash
known_flash None flash name t e = absurd (cc)
known_flash (Some inputs) flash name t e = let same : known_of inputs flash ≡ t = cc in ap (λ (k : Known). k.flash name) (sym same)

read_due : {A : Type 0} (known : Option Known) (C : Mishap → Type 0) (due : Known → Result A Event) (a : A) → IsCaused known C due (Ok a) → IsDue {A = A} known (λ t r. due t ≡ r) (Ok a)
read_due known C due a (inl h) = absurd h
read_due known C due a (inr h) = h

-- a boot of a part that was read, over a flash that gives what was read
pub known_boots : (contents : Option (List ℕ → Option (List ℕ))) (C : Mishap → Type 0) (name part_name : List ℕ) (part : PartData) (all : List ℕ) (answer : Answer) → IsCaused {A = PartData} (with_inputs contents (Some all)) C (λ t. part_known t part_name) (Ok part)
    → FlashBoots name part (Some (Held all)) (Ok answer) → GivesIfKnown (with_inputs contents (Some all)) (form.Boot part_name name) (Ok answer)
known_boots None C name part_name part all answer read h = tt
known_boots (Some inputs) C name part_name part all answer read h =
    let known = known_of inputs (Some all) in
    let is = read_due (Some known) C (λ t. part_known t part_name) part read in
    subst (λ (r : Result PartData Event). BootedAs name r (Some (Held all)) (Ok answer)) (sym is.1) h

-- the text of a boot, whether it is ready or not
pub boots_as_read : {A : Type 0} (text_in : A → Answer) (C : Mishap → Type 0) (name part_name : List ℕ) (part : PartData) (old new : Sources) (got : Result A Refusal) → ((all : List ℕ) → IsCaused {A = PartData} (with_inputs new.inputs.contents (Some all)) C (λ t. part_known t part_name) (Ok part))
    → IfOk got (λ text. IfAgrees (answers_since old.flash new.flash) (λ all. FlashBoots name part (Some (Held all)) (Ok (text_in text)))) → BootsAsRead (Some (form.Boot part_name name)) old new (result_by text_in got)
boots_as_read text_in C name part_name part old new (Ok text) read h = λ all agrees. known_boots new.inputs.contents C name part_name part all (text_in text) (read all) (h all agrees)
boots_as_read text_in C name part_name part old new (Err x) read h = tt

both : (name : List ℕ) (part : PartData) (flash : Option (List ℕ)) (end : Result Answer Event) → FlashBoots name part (flash_found flash) end → IsPossible end × IsDecided end
both name part flash (Ok answer) h = (tt, tt)
both name part flash (Err event) h = large_is name (λ e. IsPossible {A = Answer} (Err e) × IsDecided {A = Answer} (Err e)) event (tt, tt) (flash_open name part flash event h)

-- a boot of a part that was read, from a flash
pub booted_ends : (old new : Outside) (name part_name : List ℕ) (part : PartData) (C : Mishap → Type 0) (end : Result Answer Event) → IsCaused (known_in old new) C (λ known. part_known known part_name) (Ok part)
    → FlashComes name part old.flash new.flash end → AnswersOver (form.Boot part_name name) old new end
booted_ends old new name part_name part C (Ok answer) read h =
    booted_due (known_in old new) old.flash.bytes (CameInRun (Some (form.Boot part_name name)) old new) name part_name part (Ok answer) (known_flash new.inputs.contents old.flash.bytes name) (tt, tt)
    (read_due (known_in old new) C (λ t. part_known t part_name) part read) h.0
booted_ends old new name part_name part C (Err event) read (inl h) = subst (λ (e : Event). AnswersOver (form.Boot part_name name) old new (Err e)) (sym h) (inl (inl refl))
booted_ends old new name part_name part C (Err event) read (inr (inl (inl h))) =
    subst (λ (e : Event). AnswersOver (form.Boot part_name name) old new (Err e)) (sym h.0)
    (inl (inr (record { mishap = Lacking name; came = inr h.1; reports = refl; due = boot_mishap (known_in old new) (Lacking name) name part_name part (missing name) refl refl refl (read_due (known_in old new) C (λ t. part_known t part_name) part read) })))
booted_ends old new name part_name part C (Err event) read (inr (inl (inr h))) =
    subst (λ (e : Event). AnswersOver (form.Boot part_name name) old new (Err e)) (sym h.0)
    (inl (inr (record {
      mishap = Failing name new.inputs.given;
      came = (refl, inr h.1);
      reports = refl;
      due = boot_mishap (known_in old new) (Failing name new.inputs.given) name part_name part (reading_failed name) refl refl refl (read_due (known_in old new) C (λ t. part_known t part_name) part read);
    })))
booted_ends old new name part_name part C (Err event) read (inr (inr h)) =
    booted_due (known_in old new) old.flash.bytes (CameInRun (Some (form.Boot part_name name)) old new) name part_name part (Err event) (known_flash new.inputs.contents old.flash.bytes name) (both name part old.flash.bytes (Err event) h.0)
    (read_due (known_in old new) C (λ t. part_known t part_name) part read) h.0

-- ---- how large a flash is

-- what is too large is the one that the event names
same_large : (name other : List ℕ) (event : Event) → event ≡ too_large name → event ≡ too_large other → other ≡ name
same_large name other event e f = let same : too_large other ≡ event = sym f in ap (λ (x : Event). x.concerned) (same ∙ e)

-- events that aren't too_large
pub no_memory_small : (form : Option AskedForm) (new : FlashState) (event : Event) → event ≡ no_memory → IsMeasured form new (Err event)
no_memory_small form new event e = not_large form new event (λ r. let why : why.NoMemory ≡ why.TooLarge = sym (ap (λ (x : Event). x.reason) e) ∙ r in absurd (cc))

missing_small : (form : Option AskedForm) (new : FlashState) (name : List ℕ) (event : Event) → event ≡ missing name → IsMeasured form new (Err event)
missing_small form new name event e = not_large form new event (λ r. let why : why.Missing ≡ why.TooLarge = sym (ap (λ (x : Event). x.reason) e) ∙ r in absurd (cc))

failed_small : (form : Option AskedForm) (new : FlashState) (name : List ℕ) (event : Event) → event ≡ reading_failed name → IsMeasured form new (Err event)
failed_small form new name event e = not_large form new event (λ r. let why : why.ReadFault ≡ why.TooLarge = sym (ap (λ (x : Event). x.reason) e) ∙ r in absurd (cc))

pub bad_small : (form : Option AskedForm) (new : FlashState) (name : List ℕ) (fault : InputFault) (event : Event) → event ≡ bad_input name fault → IsMeasured form new (Err event)
bad_small form new name fault event e = not_large form new event (λ r. let why : why.BadInput fault ≡ why.TooLarge = sym (ap (λ (x : Event). x.reason) e) ∙ r in absurd (cc))

part_small : (form : Option AskedForm) (new : FlashState) (name : List ℕ) (fault : PartFault) (event : Event) → event ≡ bad_part name fault → IsMeasured form new (Err event)
part_small form new name fault event e = not_large form new event (λ r. let why : why.BadPart fault ≡ why.TooLarge = sym (ap (λ (x : Event). x.reason) e) ∙ r in absurd (cc))

-- an input of a form that is too large
input_large : (form : Option AskedForm) (new : FlashState) (name : List ℕ) (event : Event) → Among (names_of form) name → event ≡ too_large name → IsMeasured form new (Err event)
input_large form new name event a e = λ other f g. inr (subst (λ (n : List ℕ). Among (names_of form) n) (sym (same_large name other event e g)) a)

pub unread_measured : (form : Option AskedForm) (new : FlashState) (name : List ℕ) (event : Event) → Among (names_of form) name → IsUnread name event → IsMeasured form new (Err event)
unread_measured form new name event a (inl e) = no_memory_small form new event e
unread_measured form new name event a (inr (inl e)) = missing_small form new name event e
unread_measured form new name event a (inr (inr (inl e))) = failed_small form new name event e
unread_measured form new name event a (inr (inr (inr e))) = input_large form new name event a e

-- a boot whose part was not read
pub no_part_measured : (form : Option AskedForm) (new : FlashState) (name : List ℕ) (event : Event) → Among (names_of form) name → IsNoPart name event → IsMeasured form new (Err event)
no_part_measured form new name event a (inl h) = unread_measured form new name event a h
no_part_measured form new name event a (inr h) = part_small form new name h.0 event h.1

-- a flash that was not attached
pub unattached_measured : (form : Option AskedForm) (name : List ℕ) (old new : FlashState) (event : Event) → IsMissingOrFailed name old new event → IsMeasured form new (Err event)
unattached_measured form name old new event (inl h) = missing_small form new name event h.0
unattached_measured form name old new event (inr h) = failed_small form new name event h.0

-- a boot from a flash of this name
pub boot_measured : (form : Option AskedForm) (name : List ℕ) (part : PartData) (old new : FlashState) (end : Result Answer Event) → FlashComes name part old new end → IsMeasured form new end
boot_measured form name part old new (Ok answer) h = λ other a. h.1
boot_measured form name part old new (Err event) (inl h) = no_memory_small form new event h
boot_measured form name part old new (Err event) (inr (inl h)) = unattached_measured form name old new event h
boot_measured form name part old new (Err event) (inr (inr h)) = λ other a e. inl h.1

-- ---- when a flash fails

pub other_fault : (form : Option AskedForm) (old : InputsState) (new : FlashState) (event is : Event) → event ≡ is → (is.reason ≡ why.ReadFault → ⊥) → FailsLast form old new (Err event)
other_fault form old new event is e n = subst (λ (x : Event). FailsLast form old new (Err x)) (sym e) (not_fault form old new is n)

-- an event that comes where no flash is attached is no fault of a flash that is
pub detached : (form : AskedForm) (old : InputsState) (new : FlashState) (event : Event) → new.attached ≡ false → FailsLast (Some form) old new (Err event)
detached form old new event d = λ name a e at. let both : true ≡ false = sym at ∙ d in absurd (cc)

-- an input of the form failed
input_failed : (form : AskedForm) (old : InputsState) (new : FlashState) (name : List ℕ) (event : Event) → Among (names_of (Some form)) name → event ≡ reading_failed name → FailsLast (Some form) old new (Err event)
input_failed form old new name event a e = λ other f g at.
    let same : reading_failed other ≡ reading_failed name = sym g ∙ e in
    inr (subst (λ (n : List ℕ). Among (names_of (Some form)) n) (sym (ap (λ (x : Event). x.concerned) same)) a)

pub unread_last : (form : AskedForm) (old : InputsState) (new : FlashState) (name : List ℕ) (event : Event) → Among (names_of (Some form)) name → IsUnread name event → FailsLast (Some form) old new (Err event)
unread_last form old new name event a (inl e) = other_fault (Some form) old new event no_memory e (λ r. absurd (cc))
unread_last form old new name event a (inr (inl e)) = other_fault (Some form) old new event (missing name) e (λ r. absurd (cc))
unread_last form old new name event a (inr (inr (inl e))) = input_failed form old new name event a e
unread_last form old new name event a (inr (inr (inr e))) = other_fault (Some form) old new event (too_large name) e (λ r. absurd (cc))

pub no_part_last : (form : AskedForm) (old : InputsState) (new : FlashState) (name : List ℕ) (event : Event) → Among (names_of (Some form)) name → IsNoPart name event → FailsLast (Some form) old new (Err event)
no_part_last form old new name event a (inl h) = unread_last form old new name event a h
no_part_last form old new name event a (inr h) = other_fault (Some form) old new event (bad_part name h.0) h.1 (λ r. absurd (cc))

-- the part of a boot was read
pub part_good : (contents : Option (List ℕ → Option (List ℕ))) (C : Mishap → Type 0) (name part_name : List ℕ) (part : PartData) → IsCaused {A = PartData} (with_inputs contents None) C (λ t. part_known t part_name) (Ok part)
    → GivesIfKnown (with_inputs contents None) (form.Boot part_name name) (Ok no_text)
part_good None C name part_name part h = tt
part_good (Some inputs) C name part_name part (inl h) = absurd h
part_good (Some inputs) C name part_name part (inr h) = subst (λ (r : Result PartData Event). BootedAs name r None (Ok no_text)) (sym h.1) tt

pub boot_last : {A : Type 0} (value : A → Answer) (name part_name : List ℕ) (old : InputsState) (new : FlashState) (result : Result A Refusal) → IfErr result (λ r. event_of r ≡ reading_failed name → new.attached ≡ true → new.extent ≤ flash_limit)
    → GivesIfKnown (with_inputs old.contents None) (form.Boot part_name name) (Ok no_text) → FailsLast (Some (form.Boot part_name name)) old new (result_by value result)
boot_last value name part_name old new (Ok a) h g = tt
boot_last value name part_name old new (Err r) h g = λ other a e at. elim a [
  | inl same ↦ inl (h (e ∙ ap reading_failed same) at, (no_text, g))
  | inr none ↦ absurd none
]

-- a part that was not read: by its cause, the boot ends with the same event, whatever its flash is
boot_due_kept : (known : Option Known) (m : Mishap) (name part_name : List ℕ) (event : Event) → DueBy {A = PartData} known m (λ t r. part_known t part_name ≡ r) event → DueBy {A = Answer} known m (λ t end. FormGives t (form.Boot part_name name) end) event
boot_due_kept None m name part_name event h = tt
boot_due_kept (Some t) m name part_name event h = subst (λ (r : Result PartData Event). BootedAs name r ((with_mishap m t).flash name) (Err event)) (sym h) refl

boot_kept : (known : Option Known) (C : Mishap → Type 0) (name part_name : List ℕ) (event : Event) → IsCaused {A = PartData} known C (λ t. part_known t part_name) (Err event) → IsCausedBy {A = Answer} known C (λ t end. FormGives t (form.Boot part_name name) end) (Err event)
boot_kept known C name part_name event (inl h) =
    inl (outside_goes PartData Answer known C C (λ t r. part_known t part_name ≡ r) (λ t end. FormGives t (form.Boot part_name name) end) event (λ m x. x) (λ m e x. boot_due_kept known m name part_name event x) h)
boot_kept None C name part_name event (inr h) = inr h
boot_kept (Some t) C name part_name event (inr h) = inr (h.0, subst (λ (r : Result PartData Event). BootedAs name r (t.flash name) (Err event)) (sym h.1) refl)

pub part_refused : (old new : Outside) (name part_name : List ℕ) (event : Event)
    → IsCaused {A = PartData} (known_in old new) (CameIn (step_over (part_name ∷ []) old.inputs new.inputs)) (λ known. part_known known part_name) (Err event)
    → AnswersOver (form.Boot part_name name) old new (Err event)
part_refused old new name part_name event read =
    answers_over (form.Boot part_name name) old new (Err event)
    (boot_kept (known_in old new) (CameIn (step_over (part_name ∷ []) old.inputs new.inputs)) name part_name event read)

-- ---- a flash that is read at most

-- a flash that was read at most, and then read again
pub reads_on : (name : List ℕ) (old mid new : FlashState) → ReadsFlash name old mid → OnlyReads mid new → ReadsFlash name old new
reads_on name old mid new r o = record {
  bytes = o.bytes ∙ r.bytes;
  write_faults = o.write_faults ∙ r.write_faults;
  faults = omega (arith, r.faults, o.faults);
  absences = omega (arith, r.absences, o.absences);
  asked = subst (λ (names : List (List ℕ)). (names ≡ names_asked old.calls) ⊎ (names ≡ names_asked old.calls ++ name ∷ [])) (sym o.names) r.asked;
}
