-- Which input an event names of a form that makes a text or a stream, and where the reading of a listing stops.
use Rattle.std.proofs.Common.{◌≡◌, ℕ, List, false, Some, Result, Ok, Err, IfErr, inl, inr, refl, subst, sym, ◌⊎◌}
use Rattle.x7_words.specs.Input.{InputsState}
use Rattle.x7_forms.specs.declared.refusal.Refusal.{Refusal}
use Rattle.x7_forms.specs.Event.{Event, cause_of_event, event_of, no_memory, writing_failed}
use Rattle.x7_forms.specs.AskedForm.{AskedForm}
use Rattle.x7_forms.specs.Step.{result_by}
use Rattle.x7_forms.specs.ReadingStops.{IsAbout}
use Rattle.x7_frames.specs.declared.fault.FramesFault.{FramesFault}
use Rattle.x7_frames.specs.declared.fault.FramesFault.TheVariants as frames
use Rattle.x7_planner.specs.declared.fault.PlanFault.{PlanFault}
use Rattle.x7_planner.specs.declared.fault.PlanFault.TheVariants as planner
use Rattle.x7_listing.specs.declared.assembler.AsmFault.{AsmFault}
use Rattle.x7_listing.specs.declared.assembler.AsmFault.TheVariants as asm
use Rattle.x7_mcs.specs.declared.fault.McsFault.{McsFault}
use Rattle.x7_mcs.specs.declared.fault.McsFault.TheVariants as mcs
use Rattle.x7_outcome.specs.Outcome.{asm_event, frames_event, mcs_event, planner_event}
use Rattle.x7_outcome.specs.Stopping.{StopsReading, StopsBy}
use Rattle.x7_outcome.proofs.StopLemmas.{want_stops}

-- ---- which input an event names

pub asm_about : (name : List ℕ) (fault : AsmFault) → IsAbout name (asm_event name fault)
asm_about name (asm.Line line) = inr refl
asm_about name (asm.TooLong line) = inr refl
asm_about name asm.NoMemory = inl refl

pub mcs_about : (name : List ℕ) (fault : McsFault) → IsAbout name (mcs_event name fault)
mcs_about name (mcs.Line line) = inr refl
mcs_about name (mcs.Sum line want got) = inr refl
mcs_about name (mcs.Overlap place) = inr refl
mcs_about name mcs.NoEnd = inr refl
mcs_about name (mcs.TooLarge line) = inr refl
mcs_about name mcs.NoMemory = inl refl

pub frames_about : (name : List ℕ) (fault : FramesFault) → IsAbout name (frames_event name fault)
frames_about name (frames.Line line) = inr refl
frames_about name (frames.Address line) = inr refl
frames_about name (frames.Twice line) = inr refl
frames_about name frames.NoMemory = inl refl

pub planner_about : (name : List ℕ) (fault : PlanFault) → IsAbout name (planner_event name fault)
planner_about name planner.Empty = inr refl
planner_about name (planner.Foreign far) = inr refl
planner_about name (planner.Range n) = inr refl
planner_about name planner.NoMemory = inl refl

-- ---- where reading stops

pub write_stops : (form : AskedForm) (old now : InputsState) (event : Event) → event ≡ writing_failed → StopsBy (cause_of_event event) form old now event
write_stops form old now event e = subst (λ (x : Event). StopsBy (cause_of_event x) form old now x) (sym e) tt

-- ---- a listing

pub prefix_stops : {Q : Type 0} (form : AskedForm) (old now : InputsState) (event : Event) → (event ≡ no_memory) ⊎ ((event ≡ writing_failed) × Q) → StopsBy (cause_of_event event) form old now event
prefix_stops form old now event (inl e) = want_stops form old now event e
prefix_stops form old now event (inr h) = write_stops form old now event h.0

pub put_stops : {P Q : Type 0} (form : AskedForm) (old now : InputsState) (event : Event) → ((event ≡ no_memory) × P) ⊎ ((event ≡ writing_failed) × Q) → StopsBy (cause_of_event event) form old now event
put_stops form old now event (inl h) = want_stops form old now event h.0
put_stops form old now event (inr h) = write_stops form old now event h.0

pub written_stops : {A : Type 0} (P Q : Type 0) (form : AskedForm) (old now : InputsState) (r : Result A Refusal) → IfErr r (λ x. ((event_of x ≡ no_memory) × P) ⊎ ((event_of x ≡ writing_failed) × Q)) → StopsReading (Some form) old now (result_by (λ _. false) r)
written_stops P Q form old now (Ok a) h = tt
written_stops P Q form old now (Err x) h = put_stops form old now (event_of x) h
