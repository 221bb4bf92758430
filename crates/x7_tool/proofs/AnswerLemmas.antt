-- How a form is answered, and how its answer is carried out.
use Rattle.std.proofs.Common.{◌≡◌, ◌∙◌, Bool, List, ℕ, Option, None, Some, OnOk, Result, Ok, Err, ap, inl, inr, refl, subst, sym}
use Rattle.x7_words.specs.Flash.{FlashState}
use Rattle.x7_words.specs.Input.{InputsState, NoInputFault}
use Rattle.x7_words.specs.Sink.{SinkState, PutsOrFails}
use Rattle.x7_words.proofs.InputLemmas.{few_at, stays_at}
use Rattle.x7_forms.specs.declared.status.Status.{Status}
use Rattle.x7_forms.specs.Event.{Event, event_line, status_of_event, usage}
use Rattle.x7_forms.specs.Form.{Unused, flash_use, listed_by, updated_by}
use Rattle.x7_forms.specs.AskedForm.{AskedForm}
use Rattle.x7_forms.specs.Known.{Answer}
use Rattle.x7_forms.specs.Status.{text_status}
use Rattle.x7_outcome.specs.Leaving.{UsesFlash}
use Rattle.x7_outcome.specs.Outside.{Outside, sources}
use Rattle.x7_outcome.specs.Ending.{Answered, AnswersOver, FailsOutLast, JudgesFlash, MakesReady, MakesReadyFrom, PutsAnswer}
use Rattle.x7_tool.specs.Runs.{OutputFailsLast}
use Rattle.x7_tool.proofs.RunLemmas.{RanAs, ready_ends, streamed, text_ends}
use Rattle.x7_tool.proofs.StopLemmas.{done_judges, puts_stop, refused_judges, unused_judges}

-- ---- a form

-- an answer of a form, by another name of the form
as_asked : (form asks : AskedForm) (old new : Outside) (got : Result Bool Event) → form ≡ asks → Answered asks old new got → Answered form old new got
as_asked form asks old new got e a = subst (λ (f : AskedForm). Answered f old new got) (sym e) a

-- an answer of a form that reports nothing that could stop, by another name of the form
pub silent_answered : (form asks : AskedForm) (old new : Outside) (got done : Result Bool Event) → form ≡ asks → got ≡ done → Answered asks old new done → Answered form old new got
silent_answered form asks old new got done e same a = as_asked form asks old new got e (subst (λ (r : Result Bool Event). Answered asks old new r) (sym same) a)

-- what holds where a text is ready holds where it was written
puts_on : (P : Type 0) (whole : Result Answer Event) (old new : SinkState) (got : Result Bool Event) → PutsAnswer whole old new got → OnOk whole P → OnOk got P
puts_on P (Ok answer) old new (Ok stopped) p h = h
puts_on P (Ok answer) old new (Err event) p h = tt
puts_on P (Err event) old new (Ok stopped) p h = let same : Ok stopped ≡ Err event = p.0 in absurd (cc)
puts_on P (Err event) old new (Err other) p h = tt

-- a form that reads inputs alone, and whose text, ready or not, was written
pub ready_answered : (form asks : AskedForm) (old new : Outside) (whole : Result Answer Event) (got : Result Bool Event) → form ≡ asks → streamed (listed_by (Some asks)) (updated_by (Some asks)) ≡ None → flash_use (Some asks) ≡ Unused
    → MakesReady asks old.inputs new.inputs whole → PutsAnswer whole old.out new.out got → Answered form old new got
ready_answered form asks old new whole got e l u r p =
    as_asked form asks old new got e (record {
      ends = ready_ends asks old new whole got l u r.caused p;
      stops = puts_stop asks old.inputs new.inputs whole old.out new.out got r.stops p;
      judges = unused_judges asks (sources old.inputs old.flash) (sources new.inputs new.flash) got u;
      asks = r.asks;
      stays = r.stays;
      no_fault = puts_on (NoInputFault old.inputs new.inputs) whole old.out new.out got p r.no_fault;
    })

-- a form that reads a flash too, and whose text, ready or not, was written
pub flash_answered : (form asks : AskedForm) (old new : Outside) (whole : Result Answer Event) (got : Result Bool Event) → form ≡ asks → streamed (listed_by (Some asks)) (updated_by (Some asks)) ≡ None
    → JudgesFlash (Some asks) (sources old.inputs old.flash) (sources new.inputs new.flash) got → MakesReadyFrom asks (sources old.inputs old.flash) (sources new.inputs new.flash) whole → AnswersOver asks old new whole → PutsAnswer whole old.out new.out got
    → Answered form old new got
flash_answered form asks old new whole got e l j r d p =
    as_asked form asks old new got e (record {
      ends = text_ends asks old new whole got l r.measured r.fails_last d r.as_read p;
      stops = puts_stop asks old.inputs new.inputs whole old.out new.out got r.stops p;
      judges = j;
      asks = r.asks;
      stays = r.stays;
      no_fault = puts_on (NoInputFault old.inputs new.inputs) whole old.out new.out got p r.no_fault;
    })

-- an output that a form doesn't use
pub unused_output : (s : SinkState) (got : Result Bool Event) → FailsOutLast s s got
unused_output s (Ok stopped) = refl
unused_output s (Err event) = inr (inr refl)

-- how a form left its output, by the status of its end
pub refused_last : (old new : SinkState) (event : Event) (s : Status) → s ≡ status_of_event event → FailsOutLast {A = Bool} old new (Err event) → OutputFailsLast old new s
refused_last old new event s e (inl h) = inr (inl (e ∙ ap status_of_event h))
refused_last old new event s e (inr (inl h)) = inl (e ∙ ap status_of_event h)
refused_last old new event s e (inr (inr h)) = inr (inr h)

-- what a form does with its flash, by another name of the form
pub uses_as : (form : Option AskedForm) (asks : AskedForm) (inputs : InputsState) (old new : FlashState) → form ≡ Some asks → UsesFlash (Some asks) (sources inputs old) new → UsesFlash form (sources inputs old) new
uses_as form asks inputs old new e h = subst (λ (f : Option AskedForm). UsesFlash f (sources inputs old) new) (sym e) h

-- ---- the words

-- a form whose text is whole
pub ran_done : (form : Option AskedForm) (asks : AskedForm) (old new : Outside) (s : Status) (stopped : Bool) → form ≡ Some asks → s ≡ text_status stopped → new.err ≡ old.err → Answered asks old new (Ok stopped) → RanAs form old new s
ran_done form asks old new s stopped e t w a =
    subst (λ (f : Option AskedForm). RanAs f old new s) (sym e)
    (record {
      end = Ok (record { stopped = stopped; text = a.ends.0 });
      ends_as = t;
      said = w;
      ends = a.ends.1;
      stops = tt;
      judges = done_judges asks (sources old.inputs old.flash) (sources new.inputs new.flash) (record { stopped = stopped; text = a.ends.0 });
      asks = a.asks;
      stays = a.stays;
      no_fault = a.no_fault;
    })

-- a form that has no whole text
pub ran_refused : (form : Option AskedForm) (asks : AskedForm) (old new : Outside) (s : Status) (event : Event) → form ≡ Some asks → s ≡ status_of_event event → PutsOrFails old.err (event_line event) new.err → Answered asks old new (Err event) → RanAs form old new s
ran_refused form asks old new s event e t w a =
    subst (λ (f : Option AskedForm). RanAs f old new s) (sym e)
    (record {
      end = Err event;
      ends_as = t;
      said = w;
      ends = a.ends;
      stops = a.stops;
      judges = refused_judges asks (sources old.inputs old.flash) (sources new.inputs new.flash) event a.judges;
      asks = a.asks;
      stays = a.stays;
      no_fault = tt;
    })

-- words without a form
pub ran_none : (form : Option AskedForm) (old : Outside) (err : SinkState) (s : Status) → form ≡ None → s ≡ status_of_event usage → PutsOrFails old.err (event_line usage) err → RanAs form old (record old { err = err }) s
ran_none form old err s e t w =
    subst (λ (f : Option AskedForm). RanAs f old (record old { err = err }) s) (sym e)
    (record {
      end = Err usage;
      ends_as = t;
      said = w;
      ends = record { cause = refl; wrote = refl; near = tt; measured = λ name a e. absurd a; fails_last = tt; updates = tt; called = tt; as_read = tt };
      stops = tt;
      judges = tt;
      asks = few_at old.inputs;
      stays = stays_at old.inputs;
      no_fault = tt;
    })
