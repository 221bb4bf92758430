-- From how a command ended to what its run comes to: its status, its outcome, texts that lead back, and promises.
use Rattle.std.proofs.Common.{◌≡◌, ◌≤◌, arith, length, ℕ, List, Bool, true, false, Option, None, Some, OnOk, Result, Ok, Err, refl, ap, subst, sym, ◌∙◌, inl, inr, ◌⊎◌}
use Rattle.std.specs.Prelude.{nat_lt}
use Rattle.std.proofs.lemmas.Bool.Decides.{nat_tests}
use Rattle.x7_words.specs.Flash.{FlashState}
use Rattle.x7_words.specs.Input.{AsksAtMost, InputsState, InputsStay, NoInputFault}
use Rattle.x7_words.specs.Sink.{SinkState, PutsSome}
use Rattle.x7_listing.specs.Assembly.{IsAsm}
use Rattle.x7_listing.proofs.OutcomeLemmas.{one_outcome}
use Rattle.x7_listing.proofs.StreamLemmas.{stream_back}
use Rattle.x7_mcs.specs.Flash.{mcs_of}
use Rattle.x7_listing.proofs.ListingLengthLemmas.{stream_short}
use Rattle.x7_mcs.specs.Text.{mcs_text}
use Rattle.x7_mcs.proofs.BackLemmas.{text_gives}
use Rattle.x7_mcs.proofs.SizeLemmas.{text_short}
use Rattle.x7_forms.specs.declared.status.Status.{Status}
use Rattle.x7_forms.specs.declared.status.Status.TheVariants as status
use Rattle.x7_forms.specs.Event.{Event, ReasonCause, Wording, Want, Fault, Absence, Break, Contents, Difference, cause_of_event, no_memory, status_of_event, usage, writing_failed}
use Rattle.x7_forms.specs.Form.{FlashUse, Unused, flash_use, listed_by, names_of, names_used, updated_by}
use Rattle.x7_forms.specs.AskedForm.{AskedForm}
use Rattle.x7_forms.specs.AskedForm as form
use Rattle.x7_forms.specs.Status.{final_status, text_status}
use Rattle.x7_forms.specs.Known.{Answer, Failing, Known, Lacking, Mishap, and_so, input_found, known_of, taken_whole, whole_known, with_inputs, if_within, text_limit}
use Rattle.x7_forms.specs.Step.{Among}
use Rattle.x7_outcome.specs.Ahead.{StaysNear}
use Rattle.x7_outcome.specs.Called.{UpdateCalled}
use Rattle.x7_outcome.specs.Leaving.{UpdateLeaves, UsesFlash}
use Rattle.x7_outcome.specs.Outcome.{AssembledAs, FormGives, IsOutcome, mcs_image}
use Rattle.x7_outcome.specs.Outside.{CameInRun, NothingFailed, Outside, known_in, sources}
use Rattle.x7_tool.specs.Promise.{Promise}
use Rattle.x7_outcome.specs.Ending.{GivesIfKnown, AnswersForm, AnswersOver, BootsAsRead, CausedBy, EndIsCaused, CommandEnds, CommandEndsAs, FailsLast, GetsPrefixOfKnown, GetsPrefixOfText, IsMeasured, JudgesFlash, OutputAfterFailure, PutsAnswer}
use Rattle.x7_tool.specs.Runs.{OutputFailsLast, PromisesAsRead, Runs, SaysEnd, TextsLeadBack}
use Rattle.x7_tool.proofs.FoundLemmas.{each_boots}
use Rattle.x7_outcome.specs.Stopping.{StopsReading}
use Rattle.x7_outcome.proofs.FlashLemmas.{answers_over, not_fault, not_large}
use Rattle.x7_tool.proofs.PromiseLemmas.{promised}
use Rattle.x7_outcome.proofs.EndingLemmas.{has_cause, leaves_all, near_all, no_break}

-- ---- which status an event has

-- want of memory has a status of its own
want_is : (event : Event) → event ≡ no_memory → status_of_event event ≡ status.NoMemory
want_is event e = ap status_of_event e

-- ---- where contents are known and nothing failed

-- no mishap came
never_came : (form : AskedForm) (old new : Outside) (m : Mishap) → NothingFailed (Some form) old new → CameInRun (Some form) old new m → ⊥
never_came form old new (Failing name given) q h = q.0 name h.1
never_came form old new (Lacking name) q h = q.1 name h

-- an event of a form is want of memory or the outcome
event_by : (known : Known) (form : AskedForm) (old new : Outside) (event : Event) (cause : ReasonCause) → known_in old new ≡ Some known → NothingFailed (Some form) old new
    → CausedBy cause form old new event → (event ≡ no_memory) ⊎ FormGives known form (Err event)
event_by known form old new event Wording k q h = absurd h
event_by known form old new event Want k q h = inl h
event_by known form old new event Fault k q h = absurd (never_came form old new h.mishap q h.came)
event_by known form old new event Absence k q (inl h) = absurd (never_came form old new h.mishap q h.came)
event_by known form old new event Absence k q (inr h) = inr (rw k at h)
event_by known form old new event Break k q h = elim h.1 [ inl fails ↦ absurd (q.2 fails) | inr fails ↦ absurd (q.3 fails.0) ]
event_by known form old new event Difference k q h = let agrees : GivesIfKnown (known_in old new) form (Err event) = h.1 in inr (rw k at agrees)
event_by known form old new event Contents k q h = inr (rw k at h)

-- the end is the outcome or want of memory
outcome_is : (form : Option AskedForm) (old new : Outside) (s : Status) (end : Result Answer Event) → s ≡ final_status end → EndIsCaused form old new end
    → (known : Known) → known_in old new ≡ Some known → NothingFailed form old new → (s ≡ status.NoMemory) ⊎ IsOutcome known form end
outcome_is None old new s end e h known k q = inr (sym h)
outcome_is (Some form) old new s (Ok answer) e h known k q = inr (rw k at h)
outcome_is (Some form) old new s (Err event) e h known k q = by (event_by known form old new event (cause_of_event event) k q h)
  where
    by : (event ≡ no_memory) ⊎ FormGives known form (Err event) → (s ≡ status.NoMemory) ⊎ FormGives known form (Err event)
    by (inl n) = inl (e ∙ want_is event n)
    by (inr g) = inr g

-- words without a form end as a wrong usage
no_form_is : (form : Option AskedForm) (old new : Outside) (s : Status) (end : Result Answer Event) → s ≡ final_status end → EndIsCaused form old new end → form ≡ None → s ≡ status.Usage
no_form_is None old new s end e h n = e ∙ ap final_status h
no_form_is (Some form) old new s end e h n = absurd (cc)

-- ---- texts that lead back

-- a text within its limit
within_limit : (name text : List ℕ) (limit : ℕ) → length text ≤ limit → if_within name limit text ≡ Ok text
within_limit name text limit h = let short : nat_lt limit (length text) ≡ false = grind (arith, h, nat_tests) in rw short refl

asm_back : (name text bytes : List ℕ) (end : Result Answer Event) → IsAsm text (Ok bytes) → AssembledAs name (Ok text) end → end ≡ Ok (record { stopped = false; text = bytes })
asm_back name text bytes (Ok answer) is h =
    let same : Ok answer.text ≡ Ok bytes = one_outcome text (Ok answer.text) (Ok bytes) h.1 is in
    let text_is : answer.text ≡ bytes = cc in
    ap (λ (s : Bool). Ok (record { stopped = s; text = answer.text })) h.0 ∙ ap (λ (t : List ℕ). Ok (record { stopped = false; text = t })) text_is
asm_back name text bytes (Err event) is h =
    let same = one_outcome text (Err h.0) (Ok bytes) h.1.0 is in
    absurd (cc)

mcs_back : (name text bytes : List ℕ) (end : Result Answer Event) → mcs_of text ≡ Ok bytes → mcs_image name (mcs_of text) ≡ end → end ≡ Ok (record { stopped = false; text = bytes })
mcs_back name text bytes end is h = sym h ∙ ap (mcs_image name) is

leads_back : (s : Status) (form : AskedForm) (known : Known) (end goal_end : Result Answer Event) → (s ≡ status.NoMemory) ⊎ IsOutcome known (Some form) end → (FormGives known form end → end ≡ goal_end) → (s ≡ status.NoMemory) ⊎ (end ≡ goal_end)
leads_back s form known end goal_end (inl n) back = inl n
leads_back s form known end goal_end (inr h) back = inr (back h)

form_back : (form : AskedForm) (old new : Outside) (s : Status) (end : Result Answer Event) → ((known : Known) → known_in old new ≡ Some known → NothingFailed (Some form) old new → (s ≡ status.NoMemory) ⊎ IsOutcome known (Some form) end) → TextsLeadBack (Some form) old new s end
form_back (form.Asm name) old new s end outcome = λ bytes text fits short listed has quiet.
    let known : Known = known_of has.0 old.flash.bytes in
    let is : known_in old new ≡ Some known = ap (λ (i : Option (List ℕ → Option (List ℕ))). with_inputs i old.flash.bytes) has.1.0 in
    let whole : whole_known known text_limit name ≡ Ok text = ap (λ (i : Option (List ℕ)). taken_whole name text_limit (input_found i)) has.1.1 ∙ within_limit name text text_limit (omega (arith, short, stream_short bytes text fits listed)) in
    leads_back s (form.Asm name) known end (Ok (record { stopped = false; text = bytes })) (outcome known is quiet)
    (λ h. asm_back name text bytes end (stream_back bytes text fits short listed) (subst (λ (r : Result (List ℕ) Event). AssembledAs name r end) whole h))
form_back (form.Unmcs name) old new s end outcome = λ bytes fits short has quiet.
    let known : Known = known_of has.0 old.flash.bytes in
    let is : known_in old new ≡ Some known = ap (λ (i : Option (List ℕ → Option (List ℕ))). with_inputs i old.flash.bytes) has.1.0 in
    let whole : whole_known known text_limit name ≡ Ok (mcs_text bytes) = ap (λ (i : Option (List ℕ)). taken_whole name text_limit (input_found i)) has.1.1 ∙ within_limit name (mcs_text bytes) text_limit (omega (arith, short, text_short bytes)) in
    leads_back s (form.Unmcs name) known end (Ok (record { stopped = false; text = bytes })) (outcome known is quiet)
    (λ h. mcs_back name (mcs_text bytes) bytes end (text_gives bytes fits short) (sym (ap (λ (r : Result (List ℕ) Event). and_so r (λ text. mcs_image name (mcs_of text))) whole) ∙ h))
form_back form old new s end outcome = tt

back_is : (form : Option AskedForm) (old new : Outside) (s : Status) (end : Result Answer Event) → ((known : Known) → known_in old new ≡ Some known → NothingFailed form old new → (s ≡ status.NoMemory) ⊎ IsOutcome known form end) → TextsLeadBack form old new s end
back_is None old new s end outcome = tt
back_is (Some form) old new s end outcome = form_back form old new s end outcome

-- ---- promises

promise_by : (known : Option Known) (form : AskedForm) (answer : Answer) → GivesIfKnown known form (Ok answer) → Promise known (Some form) (Ok answer)
promise_by None form answer h = tt
promise_by (Some known) form answer h = promised known form answer h

no_promise : (known : Option Known) (form : Option AskedForm) (event : Event) → Promise known form (Err event)
no_promise None form event = tt
no_promise (Some known) None event = tt
no_promise (Some known) (Some form) event = tt

no_form_promise : (known : Option Known) (end : Result Answer Event) → Promise known None end
no_form_promise None end = tt
no_form_promise (Some known) end = tt

promise_is : (form : Option AskedForm) (old new : Outside) (end : Result Answer Event) → EndIsCaused form old new end → Promise (known_in old new) form end
promise_is None old new end h = no_form_promise (known_in old new) end
promise_is (Some form) old new (Ok answer) h = promise_by (known_in old new) form answer h
promise_is (Some form) old new (Err event) h = no_promise (known_in old new) (Some form) event

-- a boot keeps its promise over every flash that gives what was read
promise_read : (form : Option AskedForm) (old new : Outside) (end : Result Answer Event) → BootsAsRead form (sources old.inputs old.flash) (sources new.inputs new.flash) end → PromisesAsRead form old new end
promise_read None old new end h = tt
promise_read (Some (form.Boot part flash)) old new (Ok answer) h = λ all agrees. promise_by (with_inputs new.inputs.contents (Some all)) (form.Boot part flash) answer (h all agrees)
promise_read (Some form) old new end h = tt

-- ---- a run

-- A command ended with this status, for a cause, and said why where there is no whole text. `Runs` follows from it, and
-- from what the form does with its flash.
pub record RanAs (form : Option AskedForm) (old new : Outside) (s : Status) : Type 0 where
  pub end : Result Answer Event
  pub ends_as : s ≡ final_status end
  pub said : SaysEnd old.err new.err end
  pub ends : CommandEnds form old new end
  pub stops : StopsReading form old.inputs new.inputs end
  pub judges : JudgesFlash form (sources old.inputs old.flash) (sources new.inputs new.flash) end
  pub asks : AsksAtMost old.inputs (length (names_of form)) new.inputs
  pub stays : InputsStay old.inputs new.inputs
  pub no_fault : OnOk end (NoInputFault old.inputs new.inputs)

-- how a command ended, and what its form did with the flash and the output, is what its run comes to
pub runs : (form : Option AskedForm) (old new : Outside) (s : Status) → RanAs form old new s → UsesFlash form (sources new.inputs old.flash) new.flash → OutputFailsLast old.out new.out s → Runs form old new s
runs form old new s r f o =
    let outcome : (known : Known) → known_in old new ≡ Some known → NothingFailed form old new → (s ≡ status.NoMemory) ⊎ IsOutcome known form r.end = outcome_is form old new s r.end r.ends_as r.ends.cause in
    record {
      end = r.end;
      ends_as = r.ends_as;
      no_form = no_form_is form old new s r.end r.ends_as r.ends.cause;
      outcome = outcome;
      promise = promise_is form old new r.end r.ends.cause;
      back = back_is form old new s r.end outcome;
      cause = r.ends.cause;
      said = r.said;
      output = record { wrote = r.ends.wrote; near = subst (λ (x : Status). StaysNear x form old new) (sym r.ends_as) r.ends.near; failed_last = o };
      inputs = record { stops = r.stops; asks = r.asks; stays = r.stays; no_fault = r.no_fault };
      flash = record {
        keeps = f.keeps;
        follows = f.follows;
        left = f.left;
        boots = each_boots form new.inputs old.flash new.flash f.left;
        called = r.ends.called;
        updates = r.ends.updates;
        measured = r.ends.measured;
        judges = r.judges;
        fails_last = r.ends.fails_last;
      };
      boot = record { as_read = r.ends.as_read; promise = promise_read form old new r.end r.ends.as_read };
    }

-- ---- a text that is whole before it is written

-- the event of a result
abbrev event_in : {A : Type 0} → Result A Event → Event
event_in (Ok a) = usage
event_in (Err event) = event

-- whether a result is no event
abbrev is_ok : {A : Type 0} → Result A Event → Bool
is_ok (Ok a) = true
is_ok (Err event) = false

gets_by : (known : Option Known) (form : AskedForm) (answer : Answer) (old new : SinkState) → listed_by (Some form) ≡ None → GivesIfKnown known form (Ok answer) → PutsSome old answer.text new → GetsPrefixOfText known form old new
gets_by None form answer old new l h p = (answer.text, p)
gets_by (Some known) form answer old new l h p = subst (λ (s : Option (List ℕ)). GetsPrefixOfKnown s known form old new) (sym l) (answer, (h, p))

-- the stream that a form lists, or else the one with which it updates its flash
abbrev pub streamed : Option (List ℕ) → Option (List ℕ) → Option (List ℕ)
streamed None updated = updated
streamed (Some listed) updated = Some listed

none_listed : (listed updated : Option (List ℕ)) → streamed listed updated ≡ None → listed ≡ None
none_listed None updated e = refl
none_listed (Some listed) updated e = absurd (cc)

none_updated : (listed updated : Option (List ℕ)) → streamed listed updated ≡ None → updated ≡ None
none_updated None updated e = e
none_updated (Some listed) updated e = absurd (cc)

-- a form without a stream for a flash updates no flash
updates_none : (form : AskedForm) (old new : Outside) (end : Result Answer Event) → updated_by (Some form) ≡ None → UpdateLeaves (updated_by (Some form)) old new end
updates_none form old new end u = subst (λ (x : Option (List ℕ)). UpdateLeaves x old new end) (sym u) tt

-- a form without a stream for a flash calls no flash for an update
called_none : (form : AskedForm) (old new : Outside) (end : Result Answer Event) → updated_by (Some form) ≡ None → UpdateCalled (Some form) old new end
called_none (form.Update flash stream) old new end u = absurd (cc)
called_none form old new end u = tt

-- an event is no text of a boot
no_text_read : (form : AskedForm) (old new : Outside) (event : Event) → BootsAsRead (Some form) (sources old.inputs old.flash) (sources new.inputs new.flash) (Err event)
no_text_read (form.Boot part flash) old new event = tt
no_text_read form old new event = tt

-- a form that uses no flash has no text of a boot
unread : (form : AskedForm) (old new : Outside) (end : Result Answer Event) → flash_use (Some form) ≡ Unused → BootsAsRead (Some form) (sources old.inputs old.flash) (sources new.inputs new.flash) end
unread (form.Boot part flash) old new end u = absurd (cc)
unread form old new end u = tt

-- a form that uses no flash
unmeasured : (form : AskedForm) (new : FlashState) (end : Result Answer Event) → flash_use (Some form) ≡ Unused → IsMeasured (Some form) new end
unmeasured form new (Ok answer) u = λ name a. absurd (subst (λ (x : FlashUse). Among (names_used x) name) u a)
unmeasured form new (Err event) u = λ name a e. absurd (subst (λ (x : FlashUse). Among (names_used x) name) u a)

unfailed : (form : AskedForm) (old : InputsState) (new : FlashState) (end : Result Answer Event) → flash_use (Some form) ≡ Unused → FailsLast (Some form) old new end
unfailed form old new (Ok answer) u = tt
unfailed form old new (Err event) u = λ name a e at. absurd (subst (λ (x : FlashUse). Among (names_used x) name) u a)

-- a form whose text is ready before any of it is written ends as it should where its text has its cause and was put
puts_end : (form : AskedForm) (old new : Outside) (whole : Result Answer Event) (got : Result Bool Event) → listed_by (Some form) ≡ None → updated_by (Some form) ≡ None
    → IsMeasured (Some form) new.flash whole → FailsLast (Some form) new.inputs new.flash whole → AnswersOver form old new whole → BootsAsRead (Some form) (sources old.inputs old.flash) (sources new.inputs new.flash) whole → PutsAnswer whole old.out new.out got
    → CommandEndsAs (Some form) old new got
puts_end form old new (Ok answer) (Ok stopped) l u m f c b p = (
  answer.text,
  record {
    cause = subst (λ (s : Bool). EndIsCaused (Some form) old new (Ok (record { stopped = s; text = answer.text }))) (sym p.0) (has_cause form old new (Ok answer) c);
    wrote = p.1;
    near = near_all form (text_status stopped) old new l;
    measured = m;
    fails_last = tt;
    updates = updates_none form old new (Ok (record { stopped = stopped; text = answer.text })) u;
    called = called_none form old new (Ok (record { stopped = stopped; text = answer.text })) u;
    as_read = subst (λ (s : Bool). BootsAsRead (Some form) (sources old.inputs old.flash) (sources new.inputs new.flash) (Ok (record { stopped = s; text = answer.text }))) (sym p.0) b;
  },
)
puts_end form old new (Ok answer) (Err event) l u m f c b p =
    subst (λ (e : Event). CommandEnds (Some form) old new (Err e)) (sym p.0)
    (record {
      cause = (refl, inl p.1);
      wrote = subst (λ (x : Option (List ℕ)). OutputAfterFailure x form old new) (sym u) (gets_by (known_in old new) form answer old.out new.out l (has_cause form old new (Ok answer) c) p.2);
      near = near_all form status.WriteFault old new l;
      measured = not_large (Some form) new.flash writing_failed (λ r. absurd (cc));
      fails_last = not_fault (Some form) new.inputs new.flash writing_failed (λ r. absurd (cc));
      updates = updates_none form old new (Err writing_failed) u;
      called = called_none form old new (Err writing_failed) u;
      as_read = no_text_read form old new writing_failed;
    })
puts_end form old new (Err event) (Ok stopped) l u m f c b p = let e : true ≡ false = ap is_ok p.0 in absurd (cc)
puts_end form old new (Err event) (Err other) l u m f c b p =
    subst (λ (e : Event). CommandEnds (Some form) old new (Err e)) (sym (ap event_in p.0))
    (record {
      cause = has_cause form old new (Err event) c;
      wrote = leaves_all form (cause_of_event event) old new event l (no_break (known_in old new) (CameInRun (Some form) old new) (λ t end. FormGives t form end) event c) p.1;
      near = near_all form (status_of_event event) old new l;
      measured = m;
      fails_last = f;
      updates = updates_none form old new (Err event) u;
      called = called_none form old new (Err event) u;
      as_read = b;
    })

pub text_ends : (form : AskedForm) (old new : Outside) (whole : Result Answer Event) (got : Result Bool Event)
    → streamed (listed_by (Some form)) (updated_by (Some form)) ≡ None → IsMeasured (Some form) new.flash whole → FailsLast (Some form) new.inputs new.flash whole → AnswersOver form old new whole → BootsAsRead (Some form) (sources old.inputs old.flash) (sources new.inputs new.flash) whole → PutsAnswer whole old.out new.out got → CommandEndsAs (Some form) old new got
text_ends form old new whole got n m f c b p =
    puts_end form old new whole got (none_listed (listed_by (Some form)) (updated_by (Some form)) n) (none_updated (listed_by (Some form)) (updated_by (Some form)) n) m f c b p

-- a form that reads inputs alone ends as it should where its text has its cause and was put
pub ready_ends : (form : AskedForm) (old new : Outside) (whole : Result Answer Event) (got : Result Bool Event)
    → streamed (listed_by (Some form)) (updated_by (Some form)) ≡ None → flash_use (Some form) ≡ Unused → AnswersForm form old.inputs new.inputs whole → PutsAnswer whole old.out new.out got → CommandEndsAs (Some form) old new got
ready_ends form old new whole got l u c p = text_ends form old new whole got l (unmeasured form new.flash whole u) (unfailed form new.inputs new.flash whole u) (answers_over form old new whole (c old.flash.bytes)) (unread form old new whole u) p
