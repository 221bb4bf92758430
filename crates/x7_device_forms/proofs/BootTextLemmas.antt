-- Lemmas on the text of a boot, and on what a flash comes to.
use Rattle.std.proofs.Common.{◌≡◌, ◌<◌, ◌≤◌, ◌++◌, ℕ, Bool, List, [], ◌∷◌, append_assoc, length, Option, None, Some, Result, Ok, Err, IfErr, IfOk, refl, ap, subst, sym, ◌∙◌, inl, inr, ◌⊎◌, arith}
use Rattle.std.proofs.lemmas.Bool.{cases_lt}
use Rattle.std.proofs.lemmas.List.Elements.{All-head, All-tail}
use Rattle.std.specs.Prelude.{All}
use Rattle.x7_words.specs.Flash.{BecomesBytes, FlashFails, FlashState, ExtentIsLength, KeepsBytes, OnlyReads, IfKnown}
use Rattle.x7_words.specs.FlashHistory.{FollowsCalls, Gave, IsHistory, IsWithin, Makes, MayLeave, history_of}
use Rattle.x7_words.proofs.FollowLemmas.{follow_on}
use Rattle.x7_words.specs.Word.{AreBytes}
use Rattle.x7_words.specs.declared.flash_call.FlashCall.{FlashCall}
use Rattle.x7_words.specs.declared.flash_call.FlashCall.TheVariants.{Attached, NotAttached, Erased, EraseFailed, Programmed, ProgramFailed}
use Rattle.x7_words.specs.declared.flash_call.FlashCall.TheVariants as call
use Rattle.x7_words.proofs.CountLemmas.{risen_from}
use Rattle.x7_part.specs.Part.{PartData}
use Rattle.x7_engine.specs.Standing.{NoWordDue}
use Rattle.x7_engine.specs.State.{memory_of_bytes, state_of}
use Rattle.x7_boot.specs.Attempt.{BootAttempt}
use Rattle.x7_boot.specs.Boot.{BootedState, IsBoot, ReadsInBoot}
use Rattle.x7_boot.proofs.ReadLemmas.{IsPageRead, boot_read}
use Rattle.x7_boot.specs.Reads.{Agrees, FlashAnswers, HasCalled, IfAgrees, answers_since}
use Rattle.x7_boot.specs.declared.boots.BootEnd.{BootEnd}
use Rattle.x7_boot.specs.declared.boots.Tried.{Tried}
use Rattle.x7_boot.specs.declared.fault.BootFault.{BootFault}
use Rattle.x7_boot.specs.declared.fault.BootFault.TheVariants as boot_fault
use Rattle.x7_boot.specs.Text.{boot_lines}
use Rattle.x7_outcome.specs.Boot.{boot_text}
use Rattle.x7_forms.specs.Event.{Event, event_of, no_memory, too_large}
use Rattle.x7_boot.specs.Image.{flash_limit}
use Rattle.x7_forms.specs.Known.{Answer, Held, flash_found}
use Rattle.x7_outcome.specs.Outcome.{IsBootText, FlashBoots, boot_event, has_failed}
use Rattle.x7_outcome.specs.Called.{AttachedAs}
use Rattle.x7_outcome.specs.Leaving.{LeavesAsItWas}
use Rattle.x7_outcome.specs.Outside.{IsAskedFor, ReadsFlash}
use Rattle.x7_outcome.proofs.FlashLemmas.{attached_follows, since_are}
use Rattle.x7_outcome.specs.Ending.{FlashComes}
use Rattle.x7_outcome.specs.Play.{play_answer}
use Rattle.x7_report.specs.Reports.{PlayTextState, report_text}
use Rattle.x7_forms.specs.Step.{result_by}
use Rattle.x7_forms.specs.declared.refusal.Refusal.{Refusal}

-- the answer of a boot
pub boots_as : (part : PartData) (flash : List ℕ) (b : BootedState) (answer : Answer) (is : IsBoot part flash b) → answer.stopped ≡ has_failed b.end → answer.text ≡ boot_text part b.attempts b.end is.last → IsBootText part flash answer
boots_as part flash b answer is stopped text = record {
  last = is.last;
  older = is.older;
  end = b.end;
  leads = is.leads;
  stopped = stopped;
  text = text ∙ ap (λ a. boot_text part a b.end is.last) is.attempts;
}

-- the lines before the report
head_is : (part : PartData) (attempts a : List Tried) (end e : BootEnd) (name head start : List ℕ) → start ≡ [] → head ≡ start ++ boot_lines name a e → name ≡ part.name → a ≡ attempts → e ≡ end → head ≡ boot_lines part.name attempts end
head_is part attempts a end e name head start none begun named tried ends =
    begun ∙ ap (λ (t : List ℕ). t ++ boot_lines name a e) none ∙ ap (λ (n : List ℕ). boot_lines n a e) named ∙ ap (λ (x : List Tried). boot_lines part.name x e) tried ∙ ap (λ (x : BootEnd). boot_lines part.name attempts x) ends

-- the text of a boot, made whole, by its head and the report of its device
pub text_is : (part : PartData) (last : BootAttempt) (attempts a : List Tried) (end e : BootEnd) (name head start report bytes text : List ℕ)
    → start ≡ [] → head ≡ start ++ boot_lines name a e → name ≡ part.name → a ≡ attempts → e ≡ end → report ≡ report_text part (state_of part last.kept last.wrapped last.bytes) [] (memory_of_bytes part last.kept last.bytes) → bytes ≡ report → text ≡ head ++ bytes
    → text ≡ boot_text part attempts end last
unfolding boot_text
text_is part last attempts a end e name head start report bytes text none begun named tried ends reports same is =
    is
    ∙ ap (λ (t : List ℕ). head ++ t) (same ∙ reports)
    ∙ ap (λ (t : List ℕ). t ++ report_text part (state_of part last.kept last.wrapped last.bytes) [] (memory_of_bytes part last.kept last.bytes)) (head_is part attempts a end e name head start none begun named tried ends)

-- the text of a boot by its head and the report of its device
pub ready_is : (part : PartData) (last : BootAttempt) (attempts a : List Tried) (end e f : BootEnd) (name head start : List ℕ) (stopped : Bool) (text : PlayTextState)
    → start ≡ [] → head ≡ start ++ boot_lines name a e → name ≡ part.name → a ≡ attempts → e ≡ end → stopped ≡ has_failed f → f ≡ end
    → text ≡ record { stopped = stopped; text = head ++ report_text part (state_of part last.kept last.wrapped last.bytes) [] (memory_of_bytes part last.kept last.bytes) } → text ≡ record { stopped = has_failed end; text = boot_text part attempts end last }
unfolding boot_text
ready_is part last attempts a end e f name head start stopped text none begun named tried ends failed fs is =
    let shown = report_text part (state_of part last.kept last.wrapped last.bytes) [] (memory_of_bytes part last.kept last.bytes) in
    is
    ∙ ap (λ (s : Bool). record { stopped = s; text = head ++ shown }) (failed ∙ ap has_failed fs)
    ∙ ap (λ (t : List ℕ). record { stopped = has_failed end; text = t ++ shown }) (head_is part attempts a end e name head start none begun named tried ends)

-- ---- where the bytes of the flash are known

-- the answer of a boot, whatever the flash holds
abbrev pub AnswersBoot : BootedState → Answer → Type 0
AnswersBoot b answer = (part : PartData) (flash : List ℕ) → IsBoot part flash b → NoWordDue b.device → IsBootText part flash answer

flash_boots : (name : List ℕ) (part : PartData) (flash : Option (List ℕ)) (b : BootedState) (answer : Answer) → IfKnown flash (λ all. length all ≤ flash_limit) → IfKnown flash (λ all. AreBytes all → IsBoot part all b) → NoWordDue b.device
    → AnswersBoot b answer → FlashBoots name part (flash_found flash) (Ok answer)
flash_boots name part None b answer short boots due answers = tt
flash_boots name part (Some all) b answer short boots due answers = (short, λ fits. answers part all (boots fits) due)

-- the text of a boot was made, or there was no memory for it
pub text_boots : (name : List ℕ) (part : PartData) (old mid new : FlashState) (b : BootedState) (got : Result PlayTextState Refusal) → ReadsFlash name old mid → IfKnown mid.bytes (λ all. length all ≤ flash_limit)
    → IfKnown mid.bytes (λ all. AreBytes all → IsBoot part all b) → NoWordDue b.device → IfOk got (λ text. AnswersBoot b (play_answer text)) → IfErr got (λ r. event_of r ≡ no_memory)
    → new.extent ≤ flash_limit → FlashComes name part old new (result_by play_answer got)
text_boots name part old mid new b (Ok text) r short boots due ok err size =
    (subst (λ (f : Option (List ℕ)). FlashBoots name part (flash_found f) (Ok (play_answer text))) r.bytes (flash_boots name part mid.bytes b (play_answer text) short boots due ok), size)
text_boots name part old mid new b (Err x) r short boots due ok err size = inl err

-- a flash is within the limit where it wasn't refused
pub short_flash : (s : FlashState) → ExtentIsLength s → (flash_limit < s.extent → ⊥) → IfKnown s.bytes (λ all. length all ≤ flash_limit)
short_flash s e small = by s.bytes e
  where
    by : (known : Option (List ℕ)) → IfKnown known (λ all. s.extent ≡ length all) → IfKnown known (λ all. length all ≤ flash_limit)
    by None h = tt
    by (Some all) h = within (cases_lt flash_limit (length all))
      where
        within : (flash_limit < length all) ⊎ (length all ≤ flash_limit) → length all ≤ flash_limit
        within (inl l) = absurd (small (omega (arith, l, h)))
        within (inr l) = l

large_flash : (name : List ℕ) (part : PartData) (known : Option (List ℕ)) (extent : ℕ) (event : Event) → IfKnown known (λ all. extent ≡ length all) → flash_limit < extent → event ≡ too_large name → FlashBoots name part (flash_found known) (Err event)
large_flash name part None extent event e l is = is
large_flash name part (Some all) extent event e l is = (omega (arith, l, e), is)

-- a boot that came to no end
pub fault_boots : (name : List ℕ) (part : PartData) (old mid new : FlashState) (fault : BootFault) (event : Event) → ReadsFlash name old mid → IsAskedFor name old mid → ExtentIsLength mid → OnlyReads mid new → event ≡ boot_event name fault
    → (fault ≡ boot_fault.Failed → FlashFails mid new) → (fault ≡ boot_fault.TooLarge → flash_limit < mid.extent) → FlashComes name part old new (Err event)
fault_boots name part old mid new boot_fault.Failed event r a s o is failed large =
    inr (inl (inr (is, record { among = inl refl; asked = o.names ∙ a; risen = risen_from old.faults mid.faults new.faults r.faults (failed refl) })))
fault_boots name part old mid new boot_fault.TooLarge event r a s o is failed large =
    inr (inr (subst (λ (f : Option (List ℕ)). FlashBoots name part (flash_found f) (Err event)) r.bytes (large_flash name part mid.bytes mid.extent event s (large refl) is), omega (arith, large refl, o.extent)))
fault_boots name part old mid new boot_fault.NoMemory event r a s o is failed large = inl is

-- ---- what a boot called

-- a call that reads leaves a flash as it was
read_leaves : (c : FlashCall) → IsPageRead c → (all now : List ℕ) → (IsWithin c all now → now ≡ all) × (Makes c all now → now ≡ all)
read_leaves (call.Read place bytes) d all now = (λ w. w, λ m. m.0)
read_leaves (call.ReadFailed place count) d all now = (λ w. w, λ m. m)
read_leaves (Attached name size) d all now = absurd d.1
read_leaves (NotAttached name fault) d all now = absurd d.1
read_leaves (Erased sector) d all now = absurd d.1
read_leaves (EraseFailed sector) d all now = absurd d.1
read_leaves (Programmed place given) d all now = absurd d.1
read_leaves (ProgramFailed place given) d all now = absurd d.1

all_leave : (calls : List FlashCall) → All IsPageRead calls → (all found : List ℕ) → MayLeave calls all found → found ≡ all
all_leave [] each all found h = h
all_leave (c ∷ calls) each all found (inl w) = (read_leaves c (All-head IsPageRead c calls each) all found).0 w
all_leave (c ∷ calls) each all found (inr h) = all_leave calls (All-tail IsPageRead c calls each) h.0 found h.2 ∙ (read_leaves c (All-head IsPageRead c calls each) all h.0).1 h.1

-- the calls of a flash that was attached and booted from
boot_calls : (name : List ℕ) (P : List FlashCall → Type 0) (old mid new : FlashState) → AttachedAs name old (history_of mid) → (c : HasCalled P mid new) → new.calls ≡ old.calls ++ Attached name mid.extent ∷ c.calls
boot_calls name P old mid new a c = c.are ∙ ap (λ (l : List FlashCall). l ++ c.calls) a.made ∙ append_assoc old.calls (Attached name mid.extent ∷ []) c.calls

-- a boot leaves the flash as it was
pub boot_leaves : (name : List ℕ) (part : PartData) (flash : FlashAnswers) (old mid new : FlashState) → AttachedAs name old (history_of mid) → HasCalled (ReadsInBoot part flash) mid new → LeavesAsItWas old new
boot_leaves name part flash old mid new a c = λ all found h.
    by all found (subst (λ (l : List FlashCall). MayLeave l all found) (since_are old new (Attached name mid.extent ∷ c.calls) (boot_calls name (ReadsInBoot part flash) old mid new a c)) h)
  where
    by : (all found : List ℕ) → MayLeave (Attached name mid.extent ∷ c.calls) all found → found ≡ all
    by all found (inl same) = same
    by all found (inr h) = all_leave c.calls (boot_read part flash c.calls c.such) h.0 found h.2 ∙ h.1

-- reads that gave the bytes of a flash make nothing of them
gave_history : (calls : List FlashCall) (all : List ℕ) → All IsPageRead calls → Gave all calls → IsHistory calls all all
gave_history [] all each g = refl
gave_history (call.Read place bytes ∷ calls) all each g = (all, (refl, g.0), gave_history calls all (All-tail IsPageRead (call.Read place bytes) calls each) g.1)
gave_history (call.ReadFailed place count ∷ calls) all each g = (all, refl, gave_history calls all (All-tail IsPageRead (call.ReadFailed place count) calls each) g)
gave_history (Attached name size ∷ calls) all each g = absurd (All-head IsPageRead (Attached name size) calls each).1
gave_history (NotAttached name fault ∷ calls) all each g = absurd (All-head IsPageRead (NotAttached name fault) calls each).1
gave_history (Erased sector ∷ calls) all each g = absurd (All-head IsPageRead (Erased sector) calls each).1
gave_history (EraseFailed sector ∷ calls) all each g = absurd (All-head IsPageRead (EraseFailed sector) calls each).1
gave_history (Programmed place given ∷ calls) all each g = absurd (All-head IsPageRead (Programmed place given) calls each).1
gave_history (ProgramFailed place given ∷ calls) all each g = absurd (All-head IsPageRead (ProgramFailed place given) calls each).1

-- the bytes of a flash that was attached and booted from follow its calls
pub boot_follows : (name : List ℕ) (part : PartData) (flash : FlashAnswers) (old mid new : FlashState) → KeepsBytes old mid → AttachedAs name old (history_of mid) → new.bytes ≡ mid.bytes → HasCalled (ReadsInBoot part flash) mid new → FollowsCalls old new
boot_follows name part flash old mid new s a same c = follow_on old mid new (attached_follows name old mid s (inl a)) (record { calls = c.calls; made = c.are; bytes = go mid.bytes same c.gave })
  where
    go : (known : Option (List ℕ)) → new.bytes ≡ known → IfKnown known (λ all. Gave all c.calls) → BecomesBytes (IsHistory c.calls) known new.bytes
    go None same gave = same
    go (Some all) same gave = (all, same, gave_history c.calls all (boot_read part flash c.calls c.such) gave)

-- a flash that gives what was read since before the attach gives what was read since
agrees_since : (name : List ℕ) (P : List FlashCall → Type 0) (old mid new : FlashState) (all : List ℕ) → AttachedAs name old (history_of mid) → HasCalled P mid new → Agrees (answers_since old new) all → Agrees (answers_since mid new) all
agrees_since name P old mid new all a c h =
    let whole : Gave all (Attached name mid.extent ∷ c.calls) = subst (Gave all) (since_are old new (Attached name mid.extent ∷ c.calls) (boot_calls name P old mid new a c)) h.gave in
    record { size = h.size; gave = subst (Gave all) (sym (since_are mid new c.calls c.are)) whole }

-- the text of a boot is that of every flash that gives what was read
pub text_as_read : (name : List ℕ) (part : PartData) (P : List FlashCall → Type 0) (old mid new : FlashState) (b : BootedState) (got : Result PlayTextState Refusal) → AttachedAs name old (history_of mid) → HasCalled P mid new
    → IfAgrees (answers_since mid new) (λ all. AreBytes all → IsBoot part all b) → NoWordDue b.device → IfOk got (λ text. AnswersBoot b (play_answer text)) → new.extent ≤ flash_limit
    → IfOk got (λ text. IfAgrees (answers_since old new) (λ all. FlashBoots name part (Some (Held all)) (Ok (play_answer text))))
text_as_read name part P old mid new b (Ok text) a c boots due ok size =
    λ all agrees. (omega (arith, agrees.size, size), λ fits. ok part all (boots all (agrees_since name P old mid new all a c agrees) fits) due)
text_as_read name part P old mid new b (Err x) a c boots due ok size = tt
