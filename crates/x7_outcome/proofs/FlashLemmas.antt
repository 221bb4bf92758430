-- What more may fail where a form may have a flash, and why a flash was not attached.
use Rattle.std.proofs.Common.{◌≡◌, ap, ◌∙◌, ℕ, List, [], ◌∷◌, ◌++◌, append_assoc, arith, drop, length, Option, None, Some, Result, Err, refl, subst, sym, inl, inr, ◌⊎◌}
use Rattle.std.proofs.Math.Seq.{drop-append_seam, drop-length}
use Rattle.x7_words.specs.Count.{HasRisen}
use Rattle.x7_words.specs.Flash.{BecomesBytes, FlashFails, FlashState, KeepsBytes, FlashRefuses, names_asked}
use Rattle.x7_words.specs.FlashHistory.{FlashHistory, FollowsCalls, IsHistory, Makes, MayLeave, IsWithin, attach_call, history_of}
use Rattle.x7_words.proofs.FlashLemmas.{asks_name}
use Rattle.x7_words.specs.Input.{InputsState}
use Rattle.x7_words.specs.Word.{AreBytes}
use Rattle.x7_words.specs.declared.flash_call.FlashCall.{FlashCall}
use Rattle.x7_words.specs.declared.flash_call.FlashCall.TheVariants.{Attached, NotAttached}
use Rattle.x7_words.specs.declared.input.SelectFault.{SelectFault}
use Rattle.x7_words.specs.declared.input.SelectFault.TheVariants.{Missing, Failed}
use Rattle.x7_forms.specs.declared.refusal.Why.TheVariants as why
use Rattle.x7_forms.specs.Event.{Event}
use Rattle.x7_update.specs.After.{MayBeLeft}
use Rattle.x7_update.specs.Made.{LeavesAny}
use Rattle.x7_forms.specs.Form.{names_of}
use Rattle.x7_forms.specs.AskedForm.{AskedForm}
use Rattle.x7_forms.specs.AskedForm as form
use Rattle.x7_forms.specs.Known.{Answer, Failing, Lacking, Mishap, with_inputs}
use Rattle.x7_outcome.specs.Called.{AttachedAs, OnlyAttaches}
use Rattle.x7_outcome.specs.Leaving.{HasData, LeavesAnyFlash, LeavesAsItWas, calls_since}
use Rattle.x7_outcome.specs.Outcome.{FormGives}
use Rattle.x7_outcome.specs.Outside.{CameInRun, IsAskedFor, Outside, ReadsFlash, known_in, sources}
use Rattle.x7_outcome.specs.Ending.{AnswersOver, IsMeasured, FailsLast}
use Rattle.x7_forms.specs.Step.{CameIn, IsCausedBy, step_over}
use Rattle.x7_forms.proofs.ReadLemmas.{caused_on_by}

-- ---- what more may fail

-- a mishap of an input that a form names, where it may have a flash too
pub came_wider : (form : AskedForm) (old new : Outside) (m : Mishap) → CameIn (step_over (names_of (Some form)) old.inputs new.inputs) m → CameInRun (Some form) old new m
came_wider form old new (Failing name given) h = (h.0, inl h.1)
came_wider form old new (Lacking name) h = inl h

-- a text that has its cause in the inputs that a form names has it in what the form names, a flash too
pub answers_over : (form : AskedForm) (old new : Outside) (whole : Result Answer Event) → IsCausedBy (known_in old new) (CameIn (step_over (names_of (Some form)) old.inputs new.inputs)) (λ t end. FormGives t form end) whole → AnswersOver form old new whole
answers_over form old new whole c =
    caused_on_by Answer (known_in old new) (CameIn (step_over (names_of (Some form)) old.inputs new.inputs)) (CameInRun (Some form) old new) (λ t end. FormGives t form end) whole (came_wider form old new) c

-- ---- how large a flash is

-- an event of another reason than `TooLarge` says nothing of a flash's size
pub not_large : (form : Option AskedForm) (new : FlashState) (event : Event) → (event.reason ≡ why.TooLarge → ⊥) → IsMeasured form new (Err event)
not_large form new event n = λ name a e. absurd (n (ap (λ (x : Event). x.reason) e))

-- ---- when a flash fails

-- an event of another reason than `ReadFault` is no fault of a flash
pub not_fault : (form : Option AskedForm) (old : InputsState) (new : FlashState) (event : Event) → (event.reason ≡ why.ReadFault → ⊥) → FailsLast form old new (Err event)
not_fault None old new event n = tt
not_fault (Some form) old new event n = λ name a e at. absurd (n (ap (λ (x : Event). x.reason) e))

-- ---- a flash that is attached, or not

-- why a flash was not attached, by its fault
pub was_missing : (old new : FlashState) (fault : SelectFault) → fault ≡ Missing → FlashRefuses old new fault → HasRisen old.absences new.absences
was_missing old new fault e h = subst (λ (f : SelectFault). FlashRefuses old new f) e h

pub was_failed : (old new : FlashState) (fault : SelectFault) → fault ≡ Failed → FlashRefuses old new fault → FlashFails old new
was_failed old new fault e h = subst (λ (f : SelectFault). FlashRefuses old new f) e h

-- an attach asks for its name
pub attach_asks : (name : List ℕ) (old new : FlashState) (answer : Result (Unit {0}) SelectFault) → new.calls ≡ old.calls ++ attach_call name new.extent answer ∷ [] → IsAskedFor name old new
attach_asks name old new answer called = ap names_asked called ∙ asks_name old.calls name new.extent answer

-- an attach that asks for this name
pub reads_asked : (name : List ℕ) (old new : FlashState) → KeepsBytes old new → IsAskedFor name old new → ReadsFlash name old new
reads_asked name old new s a = record { bytes = s.bytes; write_faults = s.write_faults; faults = s.faults; absences = s.absences; asked = inr a }

-- ---- what was called

-- the calls since an earlier state
pub since_are : (old new : FlashState) (calls : List FlashCall) → new.calls ≡ old.calls ++ calls → calls_since old new ≡ calls
since_are old new calls e = ap (drop (length old.calls)) e ∙ drop-append_seam old.calls calls

-- a flash that wasn't called holds what it held
pub leaves_same : (s : FlashState) → LeavesAsItWas s s
leaves_same s = λ flash found h. subst (λ (calls : List FlashCall). MayLeave calls flash found) (drop-length s.calls) h

-- an attach leaves a flash as it was
attach_leaves : (call : FlashCall) (flash found : List ℕ) → ((now : List ℕ) → IsWithin call flash now → now ≡ flash) → ((now : List ℕ) → Makes call flash now → now ≡ flash) → MayLeave (call ∷ []) flash found → found ≡ flash
attach_leaves call flash found w m (inl within) = w found within
attach_leaves call flash found w m (inr (mid, made, is)) = is ∙ m mid made

-- a flash that was attached at most holds what it held
pub attached_leaves : (name : List ℕ) (old new : FlashState) (flash found : List ℕ) → OnlyAttaches name old new → MayLeave (calls_since old new) flash found → found ≡ flash
attached_leaves name old new flash found (inl a) h =
    let call = Attached name new.extent in
    attach_leaves call flash found (λ now e. e) (λ now e. e) (subst (λ (calls : List FlashCall). MayLeave calls flash found) (since_are old new (call ∷ []) a.made) h)
attached_leaves name old new flash found (inr (fault, e)) h =
    let call = NotAttached name fault in
    attach_leaves call flash found (λ now e. e) (λ now e. e) (subst (λ (calls : List FlashCall). MayLeave calls flash found) (since_are old new (call ∷ []) e) h)

-- what a flash that was attached and then updated may hold
pub updated_leaves : (name stream bytes : List ℕ) (inputs : InputsState) (old mid new : FlashState) → AttachedAs name old (history_of mid) → new.extent ≡ mid.extent → ((flash : List ℕ) → HasData (with_inputs inputs.contents (Some flash)) stream bytes)
    → LeavesAny bytes (history_of mid) (history_of new) → LeavesAnyFlash (Some (form.Update name stream)) (sources inputs old) new
updated_leaves name stream bytes inputs old mid new a size has l = λ flash found long fits h.
    let made : new.calls ≡ old.calls ++ Attached name mid.extent ∷ l.calls =
    ap (λ (c : FlashHistory). c.calls) l.made ∙ ap (λ (c : List FlashCall). c ++ l.calls) a.made ∙ append_assoc old.calls (Attached name mid.extent ∷ []) l.calls in
    by flash found fits (long ∙ size) (subst (λ (calls : List FlashCall). MayLeave calls flash found) (since_are old new (Attached name mid.extent ∷ l.calls) made) h)
  where
    by : (flash found : List ℕ) → AreBytes flash → length flash ≡ mid.extent → MayLeave (Attached name mid.extent ∷ l.calls) flash found → (found ≡ flash) ⊎ ((some : List ℕ) × HasData (with_inputs inputs.contents (Some flash)) stream some × MayBeLeft some flash found)
    by flash found fits long (inl same) = inl same
    by flash found fits long (inr (now, made, rest)) = inr (bytes, has flash, l.leaves flash found fits long (subst (λ (x : List ℕ). MayLeave l.calls x found) made rest))

-- ---- bytes that follow the calls

-- a call that leaves the bytes
follows_kept : (call : FlashCall) (old new : FlashState) → new.calls ≡ old.calls ++ call ∷ [] → new.bytes ≡ old.bytes → ((all : List ℕ) → Makes call all all) → FollowsCalls old new
follows_kept call old new made same leaves = record { calls = call ∷ []; made = made; bytes = go old.bytes same }
  where
    go : (known : Option (List ℕ)) → new.bytes ≡ known → BecomesBytes (IsHistory (call ∷ [])) known new.bytes
    go None same = same
    go (Some all) same = (all, same, (all, leaves all, refl))

-- the bytes of a flash that was attached at most follow its calls
pub attached_follows : (name : List ℕ) (old new : FlashState) → KeepsBytes old new → OnlyAttaches name old new → FollowsCalls old new
attached_follows name old new s (inl a) = follows_kept (Attached name new.extent) old new a.made s.bytes (λ all. refl)
attached_follows name old new s (inr (fault, e)) = follows_kept (NotAttached name fault) old new e s.bytes (λ all. refl)
