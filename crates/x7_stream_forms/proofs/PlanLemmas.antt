-- A frames text that is read for its plan, and why a plan has no stream.
use Rattle.std.proofs.Common.{◌≡◌, ◌∙◌, ◌⊎◌, inl, inr, ℕ, List, [], ◌∷◌, Result, Ok, Err, IfOk, IfErr, refl, ap, sym, subst}
use Rattle.std.specs.Prelude.{Contains}
use Rattle.std.proofs.lemmas.List.Sorted.{All-permutation}
use Rattle.x7_part.specs.AddressOrder.{addresses_in}
use Rattle.x7_part.specs.Part.{PartData}
use Rattle.x7_memory.specs.Plan.{AreAddressed, PlanData, PlanRow}
use Rattle.x7_frames.specs.FramesText.{IsPlanOf}
use Rattle.x7_frames.specs.FrameLines.{HasFramesFault, ComeTo}
use Rattle.x7_text.specs.Lines.{split}
use Rattle.x7_frames.specs.declared.fault.FramesFault.{FramesFault}
use Rattle.x7_frames.specs.declared.fault.FramesFault.TheVariants as fault
use Rattle.x7_planner.specs.FullStream.{full_stream}
use Rattle.x7_planner.specs.Fault.{IsPartialFault}
use Rattle.x7_planner.specs.declared.fault.PlanFault.{PlanFault}
use Rattle.x7_planner.specs.declared.fault.PlanFault.TheVariants as planner
use Rattle.x7_words.specs.Input.{InputsState, InputsStay}
use Rattle.x7_forms.specs.declared.refusal.Refusal.{Refusal}
use Rattle.x7_forms.specs.Event.{Event, event_of, no_memory}
use Rattle.x7_forms.specs.Known.{Answer, and_so, part_known, whole_known, text_limit}
use Rattle.x7_forms.specs.Step.{AnswersAs, AnswersBy, IsDecided, IsPossible, ReadsWhole, result_by, step_over}
use Rattle.x7_forms.proofs.ReadLemmas.{answers_by, answers_kept, answers_stop, first_of}
use Rattle.x7_outcome.specs.Outcome.{IsUnplanned, PartAndText, PlannedFull, PlannedPartial, frames_event, part_and_text, planner_event}
use Rattle.x7_stream_forms.specs.Plan.{HasNoPlan, ReadsPlan}
use Rattle.x7_stream_forms.specs.FullText.{PlanFor, full_answer}
use Rattle.x7_outcome.specs.Ready.{bytes_answer}
use Rattle.std.specs.Prelude.{Vec}
use Rattle.std.specs.declared.alloc.Global.{Global}
use Rattle.x7_outcome.specs.Feeding.{LinesGive}
use Rattle.x7_outcome.proofs.TextLemmas.{texts_read, texts_unread}

-- all addresses of a text's plan are the part's
pub plan_addressed : (part : PartData) (text : List ℕ) (plan : PlanData) → IsPlanOf part text (Ok plan) → AreAddressed part plan.rows
plan_addressed part text plan p = All-permutation (λ (row : PlanRow). Contains (addresses_in part) row.far) p.rows plan.rows p.same p.good.addresses

-- ---- a text that is read

module _ (old new : InputsState) (part first : PartData) (name text : List ℕ) (whole : ReadsWhole old new text_limit name (Ok text)) (same : first ≡ part) where
  refused_by : (f : FramesFault) (event : Event) → (f ≡ fault.NoMemory → ⊥) → event ≡ frames_event name f → HasFramesFault first f (split text) → ReadsPlan old new part name (Err event)
  refused_by f event other e (inl none) = absurd (other none)
  refused_by f event other e (inr k) = inr (text, whole, (f, subst (λ p. IsPlanOf p text (Err f)) same (k text refl), sym e))

  refused_as : (f : FramesFault) (event : Event) → event ≡ frames_event name f → HasFramesFault first f (split text) → ReadsPlan old new part name (Err event)
  refused_as fault.NoMemory event e h = inl (λ flash. inl (inl e))
  refused_as (fault.Line n) event e h = refused_by (fault.Line n) event (λ x. absurd cc) e h
  refused_as (fault.Address n) event e h = refused_by (fault.Address n) event (λ x. absurd cc) e h
  refused_as (fault.Twice n) event e h = refused_by (fault.Twice n) event (λ x. absurd cc) e h

  module _ (read : Result PlanData FramesFault) (h : LinesGive (λ plan. ComeTo first (Ok plan)) (HasFramesFault first) read text) where
    pub frames_given : (plan : PlanData) → read ≡ Ok plan → ReadsPlan old new part name (Ok plan)
    frames_given plan r = (text, whole, subst (λ p. IsPlanOf p text (Ok plan)) same (subst (λ o. LinesGive (λ q. ComeTo first (Ok q)) (HasFramesFault first) o text) r h text refl))

    pub frames_refused : (f : FramesFault) (event : Event) → read ≡ Err f → event ≡ frames_event name f → ReadsPlan old new part name (Err event)
    frames_refused f event r e = refused_as f event e (subst (λ o. LinesGive (λ q. ComeTo first (Ok q)) (HasFramesFault first) o text) r h)

-- ---- a plan without a stream

-- the event of a text without a plan lies in the contents
no_plan : (name : List ℕ) (part : PartData) (text : List ℕ) (event : Event) → HasNoPlan name part text event → IsPossible {A = Answer} (Err event) × IsDecided {A = Answer} (Err event)
no_plan name part text event (f, is, same) = subst (λ (e : Event). IsPossible {A = Answer} (Err e) × IsDecided {A = Answer} (Err e)) same (by f is)
  where
    by : (f : FramesFault) → IsPlanOf part text (Err f) → IsPossible {A = Answer} (Err (frames_event name f)) × IsDecided {A = Answer} (Err (frames_event name f))
    by (fault.Line n) k = (tt, tt)
    by (fault.Address n) k = (tt, tt)
    by (fault.Twice n) k = (tt, tt)
    by fault.NoMemory k = absurd k

unplanned : (name : List ℕ) (texts : PartAndText) (event : Event) → IsUnplanned name texts event → IsPossible {A = Answer} (Err event) × IsDecided {A = Answer} (Err event)
unplanned name texts event (plan, is, f, why, same) = subst (λ (e : Event). IsPossible {A = Answer} (Err e) × IsDecided {A = Answer} (Err e)) same (by plan f why)
  where
    by : (plan : PlanData) (f : PlanFault) → IsPartialFault texts.part plan f → IsPossible {A = Answer} (Err (planner_event name f)) × IsDecided {A = Answer} (Err (planner_event name f))
    by plan planner.Empty k = (tt, tt)
    by plan (planner.Foreign far) k = (tt, tt)
    by plan (planner.Range n) k = absurd k
    by plan planner.NoMemory k = absurd k

-- what a form that plans comes to
module _ (part frames : List ℕ) (old mid new : InputsState) (Next : Result PartAndText Event → Result Answer Event → Type 0) (keeps : (x : Event) → Next (Err x) (Err x)) where
  pub part_refused : (event : Event) → AnswersAs {A = PartData} (step_over (part ∷ []) old new) (λ t. part_known t part) (Err event) → AnswersBy {A = Answer} (step_over (part ∷ frames ∷ []) old new) (λ t end. Next (part_and_text t part frames) end) (Err event)
  part_refused event h =
      answers_kept PartAndText Answer (part ∷ frames ∷ []) old new (λ t. part_and_text t part frames) Next event keeps
      (answers_stop PartData PartAndText (part ∷ []) (part ∷ frames ∷ []) old new (λ t. part_known t part) (λ t p. and_so (whole_known t text_limit frames) (λ bytes. Ok (record { part = p; text = bytes }))) event (first_of part (frames ∷ [])) h)

  pub planned_end : (p : PartData) (text : List ℕ) (got : Result Answer Event) → InputsStay old mid → InputsStay mid new → AnswersAs {A = PartData} (step_over (part ∷ []) old mid) (λ t. part_known t part) (Ok p) → ReadsWhole mid new text_limit frames (Ok text)
      → (got ≡ Err no_memory) ⊎ (IsPossible got × IsDecided got × Next (Ok (record { part = p; text = text })) got) → AnswersBy {A = Answer} (step_over (part ∷ frames ∷ []) old new) (λ t end. Next (part_and_text t part frames) end) got
  planned_end p text got stays later h r q =
      answers_by PartAndText Answer (part ∷ frames ∷ []) old new (λ t. part_and_text t part frames) (record { part = p; text = text }) Next got (texts_read part frames old mid new p text stays later h r) q

  pub plan_refused : (p : PartData) (event : Event) → InputsStay old mid → InputsStay mid new → AnswersAs {A = PartData} (step_over (part ∷ []) old mid) (λ t. part_known t part) (Ok p)
      → ((text : List ℕ) → HasNoPlan frames p text event → Next (Ok (record { part = p; text = text })) (Err event)) → ReadsPlan mid new p frames (Err event)
      → AnswersBy {A = Answer} (step_over (part ∷ frames ∷ []) old new) (λ t end. Next (part_and_text t part frames) end) (Err event)
  plan_refused p event stays later h faulty (inl unread) =
      answers_kept PartAndText Answer (part ∷ frames ∷ []) old new (λ t. part_and_text t part frames) Next event keeps (texts_unread part frames old mid new p event stays later h unread)
  plan_refused p event stays later h faulty (inr (text, whole, why)) =
      let can = no_plan frames p text event why in
      planned_end p text (Err event) stays later h whole (inr (can.0, can.1, faulty text why))

pub full_ended : (name : List ℕ) (part : PartData) (text : List ℕ) (plan : PlanData) (r : Result PlanFor Refusal) → IsPlanOf part text (Ok plan) → IfOk r (λ t. t.part ≡ part) → IfOk r (λ t. t.plan ≡ plan) → IfErr r (λ x. event_of x ≡ no_memory)
    → (result_by full_answer r ≡ Err no_memory) ⊎ (IsPossible (result_by full_answer r) × IsDecided (result_by full_answer r) × PlannedFull name (Ok (record { part = part; text = text })) (result_by full_answer r))
full_ended name part text plan (Ok t) is same as_planned err = inr (tt, tt, (refl, plan, is, ap (λ p. full_stream p t.plan) same ∙ ap (full_stream part) as_planned))
full_ended name part text plan (Err x) is same as_planned err = inl (ap Err err)

pub partial_ended : (name : List ℕ) (part : PartData) (text : List ℕ) (plan : PlanData) (r : Result (Vec ℕ Global) Refusal) → IsPlanOf part text (Ok plan)
    → IfOk r (λ end. (t : List ℕ) → IsPlanOf part t (Ok plan) → PlannedPartial name (Ok (record { part = part; text = t })) (Ok (bytes_answer end)))
    → IfErr r (λ x. (event_of x ≡ no_memory) ⊎ ((t : List ℕ) → IsPlanOf part t (Ok plan) → PlannedPartial name (Ok (record { part = part; text = t })) (Err (event_of x))))
    → (result_by bytes_answer r ≡ Err no_memory) ⊎ (IsPossible (result_by bytes_answer r) × IsDecided (result_by bytes_answer r) × PlannedPartial name (Ok (record { part = part; text = text })) (result_by bytes_answer r))
partial_ended name part text plan (Ok end) is ok err = inr (tt, tt, ok text is)
partial_ended name part text plan (Err x) is ok (inl none) = inl (ap Err none)
partial_ended name part text plan (Err x) is ok (inr h) = inr (decided (h text is))
  where
    decided : PlannedPartial name (Ok (record { part = part; text = text })) (Err (event_of x))
        → IsPossible {A = Answer} (Err (event_of x)) × IsDecided {A = Answer} (Err (event_of x)) × PlannedPartial name (Ok (record { part = part; text = text })) (Err (event_of x))
    decided (inl why) = let can = no_plan name part text (event_of x) why in (can.0, can.1, inl why)
    decided (inr why) = let can = unplanned name (record { part = part; text = text }) (event_of x) why in (can.0, can.1, inr why)
