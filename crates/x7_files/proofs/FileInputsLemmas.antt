-- Lemmas on the real inputs: what they count is what a caller of any inputs may know.
use Rattle.std.proofs.Common.{◌≡◌, ℕ, zero, suc, List, [], ◌∷◌, ◌++◌, ◌+◌, Bool, ◌≤◌, true, false, take, drop, length, ◌<◌, Result, Ok, Err, Option, None, Some, OnOk, OnErr, IfOk, IfErr, refl, ap, sym, subst, ◌∙◌, inr, arith}
use Rattle.std.specs.Prelude.{◌&&◌, is_some, option_map}
use Rattle.std.specs.Str.{bytes_eq}
use Rattle.std.proofs.lemmas.Bool.Decides.{nat_tests}
use Rattle.std.proofs.lemmas.List.{length-take-le, take-append-drop}
use Rattle.x7_words.specs.Count.{added, ends_counted}
use Rattle.x7_words.specs.Input.{AsksForName, AsksForNoInput, AtEnd, InputsStay, OpensInput, NoInputFault, ReadFails, RestIsWhole, InputsRefuse, StillKnown, TakenBy, TakesInput}
use Rattle.x7_words.proofs.ListLemmas.{same_by_test}
use Rattle.x7_words.proofs.CountLemmas.{raised_risen}
use Rattle.x7_files.specs.Agreement.{NamedBytes, ends_rightly, gives_rightly}
use Rattle.x7_files.specs.Inputs.{CountsFaults, Opening, FailsToRead, RealInputs, after_read, after_select, known_if, known_inputs, left_if}
use Rattle.x7_words.specs.declared.input.Failed.{Failed as FailedRead}
use Rattle.x7_words.specs.declared.input.SelectFault.{SelectFault}
use Rattle.x7_words.specs.declared.input.SelectFault.TheVariants.{Missing, Failed}

-- a map that agrees after an open has bytes for its name, and all of them are left
opened_found : (map : NamedBytes) (agreed : Bool) (name : List ℕ) (found : Option (List ℕ)) → map name ≡ found → RestIsWhole (known_if (agreed && is_some found) map) name (left_if (agreed && is_some found) found)
opened_found map false name found e = tt
opened_found map true name None e = tt
opened_found map true name (Some bytes) e = (bytes, e, refl)

-- a map that agrees after a call agreed before it
kept : (map : NamedBytes) (agreed more : Bool) → StillKnown (known_if agreed map) (known_if (agreed && more) map)
kept map false more = tt
kept map true false = tt
kept map true true = refl

same : (map : NamedBytes) (agreed : Bool) → StillKnown (known_if agreed map) (known_if agreed map)
same map false = tt
same map true = refl

-- a read whose bytes agree took them from what was left
took : (map : NamedBytes) (agreed : Bool) (left : Option (List ℕ)) (bytes : List ℕ) (room : ℕ) → TakenBy (known_if (agreed && gives_rightly left bytes room) map) (left_if agreed left) bytes (left_if (agreed && gives_rightly left bytes room) (option_map (drop (length bytes)) left))
took map false left bytes room = tt
took map true None bytes room = tt
took map true (Some left) bytes room = by (bytes_eq (take (length bytes) left) bytes) refl
  where
    by : (same : Bool) → bytes_eq (take (length bytes) left) bytes ≡ same → TakenBy (known_if (same && ends_rightly bytes room left) map) (Some left) bytes (left_if (same && ends_rightly bytes room left) (Some (drop (length bytes) left)))
    by false e = tt
    by true e = at (ends_rightly bytes room left)
      where
        at : (right : Bool) → TakenBy (known_if right map) (Some left) bytes (left_if right (Some (drop (length bytes) left)))
        at false = tt
        at true = ap Some (sym (take-append-drop (length bytes) left) ∙ ap (λ t. t ++ drop (length bytes) left) (same_by_test (take (length bytes) left) bytes e))

-- a read that gave nothing where there was room found nothing left, where the map agrees
ended : (agreed : Bool) (left : Option (List ℕ)) (bytes : List ℕ) (room : ℕ) → bytes ≡ [] → 0 < room → AtEnd (left_if (agreed && gives_rightly left bytes room) (option_map (drop (length bytes)) left))
ended false left bytes room e h = tt
ended true None bytes room e h = tt
ended true (Some left) bytes room e h = subst (λ (b : List ℕ). AtEnd (left_if (gives_rightly (Some left) b room) (Some (drop (length b) left)))) (sym e) (empty room left h)
  where
    empty : (room : ℕ) (left : List ℕ) → 0 < room → AtEnd (left_if (gives_rightly (Some left) [] room) (Some left))
    empty zero left h = absurd (omega (arith, h))
    empty (suc n) [] h = refl
    empty (suc n) (x ∷ left) h = tt

-- the state after a select that is Ok
opened_state : (map : NamedBytes) (old : RealInputs) (name : List ℕ) (opening : Opening) → OpensInput (known_inputs map old) name (known_inputs map (after_select map old name opening (Ok tt)))
opened_state map old name opening = record { selected = refl; found = opened_found map old.agreement.agrees name (map name) refl }

-- an open that is Ok selects, and all bytes of the map are left
pub opened_ok : (map : NamedBytes) (old new : RealInputs) (opening : Opening) (name : List ℕ) (answer : Result (Unit {0}) SelectFault) → new ≡ after_select map old name opening answer → OnOk answer (OpensInput (known_inputs map old) name (known_inputs map new))
opened_ok map old new opening name (Ok _) e = subst (λ (f : RealInputs). OpensInput (known_inputs map old) name (known_inputs map f)) (sym e) (opened_state map old name opening)
opened_ok map old new opening name (Err fault) e = tt

-- an open that is not Ok counts what it answers
pub opened_refused : (map : NamedBytes) (old new : RealInputs) (opening : Opening) (name : List ℕ) (answer : Result (Unit {0}) SelectFault) → new ≡ after_select map old name opening answer → IfErr answer (InputsRefuse (known_inputs map old) name (known_inputs map new))
opened_refused map old new opening name (Ok _) e = tt
opened_refused map old new opening name (Err Missing) e = inr (raised_risen old.absences new.absences (ap (λ f. f.absences) e))
opened_refused map old new opening name (Err Failed) e = raised_risen old.faults new.faults (ap (λ f. f.faults) e)

-- an open that is not Ok selects nothing
pub opened_err : (map : NamedBytes) (old new : RealInputs) (name : List ℕ) (opening : Opening) (answer : Result (Unit {0}) SelectFault) → new ≡ after_select map old name opening answer → OnErr answer (new.selected ≡ false)
opened_err map old new name opening (Ok _) e = tt
opened_err map old new name opening (Err Missing) e = ap (λ f. f.selected) e
opened_err map old new name opening (Err Failed) e = ap (λ f. f.selected) e

-- a map that agrees after an open agreed before it
pub opened_stays : (map : NamedBytes) (old new : RealInputs) (name : List ℕ) (opening : Opening) (answer : Result (Unit {0}) SelectFault) → new ≡ after_select map old name opening answer → CountsFaults old new → InputsStay (known_inputs map old) (known_inputs map new)
opened_stays map old new name opening answer e c = record { map = subst (λ (f : RealInputs). StillKnown (known_if old.agreement.agrees map) (known_if f.agreement.agrees map)) (sym e) (by answer); faults = c.faults.never_falls; absences = c.absences.never_falls }
  where
    by : (answer : Result (Unit {0}) SelectFault) → StillKnown (known_if old.agreement.agrees map) (known_if (after_select map old name opening answer).agreement.agrees map)
    by (Ok _) = kept map old.agreement.agrees (is_some (map name))
    by (Err fault) = same map old.agreement.agrees

-- a read that fails counts a fault, selects nothing, gives nothing and reads no end
pub failed_read : (map : NamedBytes) (old new : RealInputs) (answer : Result ℕ FailedRead) → OnErr answer (FailsToRead old new) → OnErr answer (ReadFails (known_inputs map old) (known_inputs map new))
failed_read map old new (Ok _) e = tt
failed_read map old new (Err _) (kind, e) = record {
  faults = raised_risen old.faults new.faults (ap (λ f. f.faults) e);
  selected = ap (λ f. f.selected) e;
  given = let same : new.given ≡ old.given = ap (λ f. f.given) e in omega arith;
  ends = let same : new.ends ≡ old.ends = ap (λ f. f.ends) e in omega arith;
}

-- whatever an open answers, its name was asked for, and nothing was given since
pub opened_asks : (map : NamedBytes) (old new : RealInputs) (opening : Opening) (name : List ℕ) (answer : Result (Unit {0}) SelectFault) → new ≡ after_select map old name opening answer → AsksForName name (known_inputs map new)
opened_asks map old new opening name answer e = subst (λ (f : RealInputs). AsksForName name (known_inputs map f)) (sym e) (by answer)
  where
    by : (answer : Result (Unit {0}) SelectFault) → AsksForName name (known_inputs map (after_select map old name opening answer))
    by (Ok _) = record { asked = refl; given = refl }
    by (Err Missing) = record { asked = refl; given = refl }
    by (Err Failed) = record { asked = refl; given = refl }

-- a read that is Ok leaves the file selected, and took its bytes from what the map had left, where it agrees
pub read_ok : (map : NamedBytes) (old new : RealInputs) (buf : List ℕ) (answer : Result ℕ FailedRead) → old.selected ≡ true → IfOk answer (λ n. n ≤ length buf) → IfOk answer (λ n. new ≡ after_read old new.rest buf n)
    → IfOk answer (λ n. TakesInput (known_inputs map old) (take n buf) (known_inputs map new))
read_ok map old new buf (Ok n) s h e = record {
  selected = ap (λ f. f.selected) e ∙ s;
  taken = subst (λ (f : RealInputs). TakenBy (known_if f.agreement.agrees map) (left_if old.agreement.agrees old.agreement.left) (take n buf) (left_if f.agreement.agrees f.agreement.left)) (sym e) (took map old.agreement.agrees old.agreement.left (take n buf) (length buf));
  given = let count : new.given ≡ added old.given n = ap (λ f. f.given) e in omega (arith, count, length-take-le n buf h);
  selects = ap (λ f. f.selects) e;
}
read_ok map old new buf (Err _) s h e = tt

-- a read that gives nothing where there is room reads the end
pub read_end : (map : NamedBytes) (old new : RealInputs) (buf : List ℕ) (size : ℕ) (answer : Result ℕ FailedRead) → length buf ≡ size → IfOk answer (λ n. new ≡ after_read old new.rest buf n) → IfOk answer (λ n. n ≡ 0 → 0 < size → AtEnd (known_inputs map new).rest)
read_end map old new buf size (Ok n) l e = λ z h. subst (λ (f : RealInputs). AtEnd (left_if f.agreement.agrees f.agreement.left)) (sym e) (ended old.agreement.agrees old.agreement.left (take n buf) (length buf) (ap (λ k. take k buf) z) (omega (arith, l, h)))
read_end map old new buf size (Err _) l e = tt

-- a map that agrees after a read agreed before it, and the name last asked for stays
pub read_stays : (map : NamedBytes) (old new : RealInputs) (buf : List ℕ) (answer : Result ℕ FailedRead) → IfOk answer (λ n. new ≡ after_read old new.rest buf n)
    → OnErr answer (FailsToRead old new) → CountsFaults old new → InputsStay (known_inputs map old) (known_inputs map new)
read_stays map old new buf (Ok n) o e c = record {
  map = subst (λ (f : RealInputs). StillKnown (known_if old.agreement.agrees map) (known_if f.agreement.agrees map)) (sym o) (kept map old.agreement.agrees (gives_rightly old.agreement.left (take n buf) (length buf)));
  faults = c.faults.never_falls;
  absences = c.absences.never_falls;
}
read_stays map old new buf (Err _) o (kind, e) c = record {
  map = subst (λ (f : RealInputs). StillKnown (known_if old.agreement.agrees map) (known_if f.agreement.agrees map)) (sym e) (same map old.agreement.agrees);
  faults = c.faults.never_falls;
  absences = c.absences.never_falls;
}

-- a read asks for no input
pub read_asks : (map : NamedBytes) (old new : RealInputs) (buf : List ℕ) (answer : Result ℕ FailedRead) → IfOk answer (λ n. new ≡ after_read old new.rest buf n)
    → OnErr answer (FailsToRead old new) → new.ends ≤ old.ends + 1 → AsksForNoInput (known_inputs map old) (known_inputs map new)
read_asks map old new buf (Ok _) o e n = record { asked = ap (λ f. f.agreement.asked) o; selects = ap (λ f. f.selects) o; ends = n }
read_asks map old new buf (Err _) o (kind, e) n = record { asked = ap (λ f. f.agreement.asked) e; selects = ap (λ f. f.selects) e; ends = n }

-- a read that gives something reads no end
pub read_no_end : (map : NamedBytes) (old new : RealInputs) (buf : List ℕ) (answer : Result ℕ FailedRead) → IfOk answer (λ n. new ≡ after_read old new.rest buf n) → IfOk answer (λ n. 0 < n → new.ends ≤ old.ends)
read_no_end map old new buf (Ok n) e = λ h. let count : new.ends ≡ ends_counted n old.ends = ap (λ f. f.ends) e in grind (arith, nat_tests)
read_no_end map old new buf (Err _) e = tt

-- what fits into a buffer fits into it afterwards
pub within_buffer : (answer : Result ℕ FailedRead) (old new : ℕ) → new ≡ old → IfOk answer (λ n. n ≤ old) → IfOk answer (λ n. n ≤ new)
within_buffer (Ok n) old new e h = omega (arith, e, h)
within_buffer (Err _) old new e h = tt

-- a select that is Ok counts nothing
pub opened_quiet : (map : NamedBytes) (old new : RealInputs) (name : List ℕ) (opening : Opening) (answer : Result (Unit {0}) SelectFault) → new ≡ after_select map old name opening answer → OnOk answer (NoInputFault (known_inputs map old) (known_inputs map new))
opened_quiet map old new name opening (Ok _) e = record { faults = ap (λ f. f.faults) e; absences = ap (λ f. f.absences) e }
opened_quiet map old new name opening (Err _) e = tt

-- a read that is Ok counts nothing
pub read_quiet : (map : NamedBytes) (old new : RealInputs) (buf : List ℕ) (answer : Result ℕ FailedRead) → IfOk answer (λ n. new ≡ after_read old new.rest buf n) → OnOk answer (NoInputFault (known_inputs map old) (known_inputs map new))
read_quiet map old new buf (Ok n) e = record { faults = ap (λ f. f.faults) e; absences = ap (λ f. f.absences) e }
read_quiet map old new buf (Err _) e = tt
