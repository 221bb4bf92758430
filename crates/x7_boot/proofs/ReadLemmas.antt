-- Lemmas on the calls of a flash and on the bytes that agree with them.
use Rattle.std.proofs.Common.{◌≡◌, ◌+◌, ◌*◌, ◌≤◌, ◌++◌, ◌∙◌, ℕ, zero, suc, List, [], ◌∷◌, Option, None, Some, append-nil, append_assoc, ap, arith, drop, length, length-append, refl, subst, sym}
use Rattle.std.proofs.Math.Seq.{drop-append_seam}
use Rattle.std.proofs.lemmas.List.{drop-append-le}
use Rattle.std.proofs.lemmas.List.Elements.{All-append, All-cons, All-nil}
use Rattle.std.specs.Prelude.{All}
use Rattle.x7_words.specs.Flash.{FlashState, IfKnown}
use Rattle.x7_words.specs.FlashHistory.{Gave}
use Rattle.x7_words.specs.declared.flash_call.FlashCall.{FlashCall}
use Rattle.x7_words.specs.declared.flash_call.FlashCall.TheVariants.{Attached, NotAttached, Read, ReadFailed, Erased, EraseFailed, Programmed, ProgramFailed}
use Rattle.x7_part.specs.Part.{PartData}
use Rattle.x7_boot.specs.Boot.{BootTakesByte, IsTakenFrom, ReadsInAttempts, ReadsInBoot}
use Rattle.x7_boot.specs.Pages.{ReadsFromPage, ReadsOnce, ReadsPages, page_size, read_end}
use Rattle.x7_boot.specs.Reads.{Agrees, FlashAnswers, HasCalled, IfAgrees, IsSince, answers_since}

-- what holds of all bytes holds of those that are known
pub where_all : (known : Option (List ℕ)) (P : List ℕ → Type 0) → ((all : List ℕ) → P all) → IfKnown known P
where_all None P f = tt
where_all (Some all) P f = f all

where_both : (known : Option (List ℕ)) (P Q R : List ℕ → Type 0) → ((all : List ℕ) → P all → Q all → R all) → IfKnown known P → IfKnown known Q → IfKnown known R
where_both None P Q R f p q = tt
where_both (Some all) P Q R f p q = f all p q

-- ---- what calls gave

gave_with : (all : List ℕ) (call : FlashCall) (xs ys : List FlashCall) → (Gave all xs → Gave all ys) → Gave all (call ∷ xs) → Gave all (call ∷ ys)
gave_with all (Read place bytes) xs ys f g = (g.0, f g.1)
gave_with all (Attached name size) xs ys f g = f g
gave_with all (NotAttached name fault) xs ys f g = f g
gave_with all (ReadFailed place count) xs ys f g = f g
gave_with all (Erased sector) xs ys f g = f g
gave_with all (EraseFailed sector) xs ys f g = f g
gave_with all (Programmed place given) xs ys f g = f g
gave_with all (ProgramFailed place given) xs ys f g = f g

gave_rest : (all : List ℕ) (call : FlashCall) (xs : List FlashCall) → Gave all (call ∷ xs) → Gave all xs
gave_rest all (Read place bytes) xs g = g.1
gave_rest all (Attached name size) xs g = g
gave_rest all (NotAttached name fault) xs g = g
gave_rest all (ReadFailed place count) xs g = g
gave_rest all (Erased sector) xs g = g
gave_rest all (EraseFailed sector) xs g = g
gave_rest all (Programmed place given) xs g = g
gave_rest all (ProgramFailed place given) xs g = g

gave_front : (all : List ℕ) (xs ys : List FlashCall) → Gave all (xs ++ ys) → Gave all xs
gave_front all [] ys g = tt
gave_front all (call ∷ xs) ys g = gave_with all call (xs ++ ys) xs (gave_front all xs ys) g

gave_back : (all : List ℕ) (xs ys : List FlashCall) → Gave all (xs ++ ys) → Gave all ys
gave_back all [] ys g = g
gave_back all (call ∷ xs) ys g = gave_back all xs ys (gave_rest all call (xs ++ ys) g)

gave_both : (all : List ℕ) (xs ys : List FlashCall) → Gave all xs → Gave all ys → Gave all (xs ++ ys)
gave_both all [] ys g h = h
gave_both all (call ∷ xs) ys g h = gave_with all call xs (xs ++ ys) (λ x. gave_both all xs ys x h) g

-- ---- what a flash answered, and what it answered later

-- bytes that agree with the later answers agree with the ones before, of a flash of the same size
pub record IsLater (one other : FlashAnswers) : Type 0 where
  pub size : other.extent ≡ one.extent
  pub agrees : (all : List ℕ) → Agrees other all → Agrees one all

pub since_called : (first old new : FlashState) (calls : List FlashCall) → IsSince first old → new.calls ≡ old.calls ++ calls → drop (length first.calls) new.calls ≡ drop (length first.calls) old.calls ++ calls
since_called first old new calls since are = ap (drop (length first.calls)) are ∙ drop-append-le (length first.calls) old.calls calls since

-- more calls
pub later_on : {P : List FlashCall → Type 0} (first old new : FlashState) → IsSince first old → new.extent ≡ old.extent → HasCalled P old new → IsLater (answers_since first old) (answers_since first new)
later_on first old new since size h = record {
  size = size;
  agrees = λ all a. record { size = a.size ∙ size; gave = gave_front all (drop (length first.calls) old.calls) h.calls (subst (Gave all) (since_called first old new h.calls since h.are) a.gave) };
}

-- calls from an earlier moment on
pub later_from : {P : List FlashCall → Type 0} (first old new : FlashState) → IsSince first old → HasCalled P old new → IsLater (answers_since old new) (answers_since first new)
later_from first old new since h = record {
  size = refl;
  agrees = λ all a. record {
    size = a.size;
    gave = subst (Gave all) (sym (ap (drop (length old.calls)) h.are ∙ drop-append_seam old.calls h.calls)) (gave_back all (drop (length first.calls) old.calls) h.calls (subst (Gave all) (since_called first old new h.calls since h.are) a.gave));
  };
}

pub since_on : {P : List FlashCall → Type 0} (first old new : FlashState) → IsSince first old → HasCalled P old new → IsSince first new
since_on first old new since h = let sum : length new.calls ≡ length old.calls + length h.calls = ap length h.are ∙ length-append old.calls h.calls in omega (arith, since, sum)

-- ---- calls after others

pub called_none : (P : List FlashCall → Type 0) (s : FlashState) → P [] → HasCalled P s s
called_none P s none = record { calls = []; are = sym (append-nil s.calls); such = none; gave = where_all s.bytes (λ all. Gave all []) (λ all. tt) }

pub called_on : (P Q R : List FlashCall → Type 0) (a b c : FlashState) → b.bytes ≡ a.bytes → ((xs ys : List FlashCall) → P xs → Q ys → R (xs ++ ys)) → HasCalled P a b → HasCalled Q b c → HasCalled R a c
called_on P Q R a b c same both g h = record {
  calls = g.calls ++ h.calls;
  are = h.are ∙ ap (λ (x : List FlashCall). x ++ h.calls) g.are ∙ append_assoc a.calls g.calls h.calls;
  such = both g.calls h.calls g.such h.such;
  gave = where_both a.bytes (λ all. Gave all g.calls) (λ all. Gave all h.calls) (λ all. Gave all (g.calls ++ h.calls)) (λ all x y. gave_both all g.calls h.calls x y) g.gave
      (subst (λ (known : Option (List ℕ)). IfKnown known (λ all. Gave all h.calls)) same h.gave);
}

-- calls of which less is said
pub called_with : (P Q : List FlashCall → Type 0) (old new : FlashState) → ((xs : List FlashCall) → P xs → Q xs) → HasCalled P old new → HasCalled Q old new
called_with P Q old new f h = record { calls = h.calls; are = h.are; such = f h.calls h.such; gave = h.gave }

-- the bytes that are known agree with what was answered
pub known_agrees : {P : List FlashCall → Type 0} (old new : FlashState) (Q : List ℕ → Type 0) → new.extent ≡ old.extent → IfKnown old.bytes (λ all. old.extent ≡ length all) → HasCalled P old new → IfAgrees (answers_since old new) Q → IfKnown old.bytes Q
known_agrees old new Q size long h all_agree =
    where_both old.bytes (λ all. old.extent ≡ length all) (λ all. Gave all h.calls) Q
    (λ all l g. all_agree all (record { size = sym (size ∙ l); gave = subst (Gave all) (sym (ap (drop (length old.calls)) h.are ∙ drop-append_seam old.calls h.calls)) g })) long h.gave

-- ---- pages that are read

pub pages_with : (P Q : ℕ → Type 0) (from to : ℕ) (calls : List FlashCall) → ((page : ℕ) → P page → Q page) → ReadsPages P from calls to → ReadsPages Q from calls to
pages_with P Q from to [] f r = r
pages_with P Q from to (call ∷ calls) f r = (r.0, r.1, r.2, f r.0 r.3, pages_with P Q (read_end call) to calls f r.4)

-- where calls have read to, after others that read to `to`
abbrev pub end_of : ℕ → List FlashCall → ℕ
end_of to [] = to
end_of to (call ∷ calls) = read_end call

-- one page after others
pub pages_once : (P : ℕ → Type 0) (from to page : ℕ) (xs ys : List FlashCall) → to ≤ page * page_size → ReadsPages P from xs to → P page → ReadsOnce page ys → ReadsPages P from (xs ++ ys) (end_of to ys)
pages_once P from to page [] [] l r p one = r
pages_once P from to page [] (call ∷ []) l r p one = (page, omega (arith, l, r), one, p, omega arith)
pages_once P from to page [] (call ∷ next ∷ more) l r p one = absurd one
pages_once P from to page (call ∷ xs) ys l r p one = (r.0, r.1, r.2, r.3, pages_once P (read_end call) to page xs ys l r.4 p one)

-- a call reads from where some page begins
abbrev pub IsPageRead : FlashCall → Type 0
IsPageRead call = (page : ℕ) × ReadsFromPage page call

pages_read : (P : ℕ → Type 0) (from to : ℕ) (calls : List FlashCall) → ReadsPages P from calls to → All IsPageRead calls
pages_read P from to [] r = All-nil IsPageRead
pages_read P from to (call ∷ calls) r = All-cons IsPageRead call calls (r.0, r.2) (pages_read P (read_end call) to calls r.4)

attempts_read : (part : PartData) (flash : FlashAnswers) (number : ℕ) (calls : List FlashCall) → ReadsInAttempts part flash number calls → All IsPageRead calls
attempts_read part flash zero calls r = subst (All IsPageRead) (sym r) (All-nil IsPageRead)
attempts_read part flash (suc number) calls r =
    subst (All IsPageRead) (sym r.3) (All-append IsPageRead r.0 r.1 (attempts_read part flash number r.0 r.4) (pages_read (IsTakenFrom (BootTakesByte part number) flash) 0 r.2 r.1 r.5))

-- a boot only reads
pub boot_read : (part : PartData) (flash : FlashAnswers) (calls : List FlashCall) → ReadsInBoot part flash calls → All IsPageRead calls
boot_read part flash calls r = attempts_read part flash r.0 calls r.1

-- ---- after further answers

pub taken_later : (Takes : List ℕ → ℕ → Type 0) (one other : FlashAnswers) → IsLater one other → (page : ℕ) → IsTakenFrom Takes one page → IsTakenFrom Takes other page
taken_later Takes one other later page due = record { place = due.place; inside = due.inside; taken = λ all agrees. due.taken all (later.agrees all agrees) }

pub attempts_later : (part : PartData) (one other : FlashAnswers) (number : ℕ) (calls : List FlashCall) → IsLater one other → ReadsInAttempts part one number calls → ReadsInAttempts part other number calls
attempts_later part one other zero calls later r = r
attempts_later part one other (suc number) calls later r =
    (r.0, r.1, r.2, r.3, attempts_later part one other number r.0 later r.4, pages_with (IsTakenFrom (BootTakesByte part number) one) (IsTakenFrom (BootTakesByte part number) other) 0 r.2 r.1 (taken_later (BootTakesByte part number) one other later) r.5)
