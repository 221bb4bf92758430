-- What a read stream and an image come to where all that they need was read, and where memory is wanting.
use Rattle.std.proofs.Common.{◌≡◌, ℕ, Bool, true, false, if◌then◌else◌, List, Result, Ok, Err, IfErr, IfOk, ap, inl, inr, ◌⊎◌}
use Rattle.std.specs.Prelude.{IsErr, IsErrAnd, Vec}
use Rattle.std.specs.declared.alloc.Global.{Global}
use Rattle.x7_part.specs.Part.{PartData}
use Rattle.x7_planner.specs.Fault.{IsReadFault}
use Rattle.x7_planner.specs.declared.fault.PlanFault.{PlanFault}
use Rattle.x7_planner.specs.declared.fault.PlanFault.TheVariants as planner
use Rattle.x7_forms.specs.declared.bad_input.InputFault.TheVariants as input
use Rattle.x7_forms.specs.declared.refusal.Refusal.{Refusal}
use Rattle.x7_forms.specs.Event.{Event, bad_input, event_of, no_memory}
use Rattle.x7_forms.specs.Known.{Answer, and_so}
use Rattle.x7_forms.specs.Step.{result_by}
use Rattle.x7_forms.proofs.ReadLemmas.{Steady, so_steady, work_steady}
use Rattle.x7_outcome.specs.Outcome.{ImageStreams, PlannedRead, image_by, image_streams, planner_event, stream_data}
use Rattle.x7_outcome.specs.Ready.{bytes_answer}
use Rattle.x7_outcome.proofs.StreamLemmas.{stream_steady}
use Rattle.x7_outcome.proofs.ReadyLemmas.{EndsDue, bad_due, want_due}

-- want of memory that is handed on
pub want_seen : {A : Type 0} (view : A → Answer) (r : Result A Refusal) → IsErr r × IsErrAnd r (λ e. event_of e ≡ no_memory) → result_by view r ≡ Err no_memory
want_seen view (Ok a) h = absurd h.1
want_seen view (Err e) h = ap (λ (event : Event). Err event) h.1

-- ---- a read stream

read_fault_due : (name : List ℕ) (part : PartData) (far n : ℕ) (event : Event) (fault : PlanFault) → IsReadFault part far n fault → planner_event name fault ≡ event → EndsDue (PlannedRead name far n (Ok part)) (Err event)
read_fault_due name part far n event planner.Empty is e = bad_due (PlannedRead name far n (Ok part)) name input.Empty event e (planner.Empty, is, e)
read_fault_due name part far n event (planner.Foreign at) is e = bad_due (PlannedRead name far n (Ok part)) name input.Foreign event e (planner.Foreign at, is, e)
read_fault_due name part far n event (planner.Range m) is e = bad_due (PlannedRead name far n (Ok part)) name input.Range event e (planner.Range m, is, e)
read_fault_due name part far n event planner.NoMemory is e = want_due (PlannedRead name far n (Ok part)) event e

pub read_due : (name : List ℕ) (part : PartData) (far n : ℕ) (r : Result (Vec ℕ Global) Refusal) → IfOk r (λ t. PlannedRead name far n (Ok part) (Ok (bytes_answer t))) → IfErr r (λ x. (event_of x ≡ no_memory) ⊎ PlannedRead name far n (Ok part) (Err (event_of x)))
    → EndsDue (PlannedRead name far n (Ok part)) (result_by bytes_answer r)
read_due name part far n (Ok t) ok err = inr (tt, tt, ok)
read_due name part far n (Err x) ok (inl e) = inl (ap (λ (event : Event). Err event) e)
read_due name part far n (Err x) ok (inr h) = read_fault_due name part far n (event_of x) h.0 h.1 h.2

-- ---- an image

-- the data of both streams, with a mishap
pub streams_steady : (golden update : List ℕ) → Steady ImageStreams (λ t. image_streams t golden update)
streams_steady golden update =
    so_steady (List ℕ) ImageStreams (λ t. stream_data t golden) (λ t g. and_so (stream_data t update) (λ u. Ok (record { golden = g; update = u }))) (stream_steady golden)
    (λ g. so_steady (List ℕ) ImageStreams (λ t. stream_data t update) (λ t u. Ok (record { golden = g; update = u })) (stream_steady update) (λ u. work_steady ImageStreams (Ok (record { golden = g; update = u }))))

too_long_due : (name : List ℕ) (event : Event) (answer : Answer) (large : Bool) → (if large then Err (bad_input name input.Image) else Ok answer) ≡ Err event
    → EndsDue (λ got. (if large then Err (bad_input name input.Image) else Ok answer) ≡ got) (Err event)
too_long_due name event answer true e = let same : bad_input name input.Image ≡ event = cc in bad_due (λ got. Err (bad_input name input.Image) ≡ got) name input.Image event same e
too_long_due name event answer false e = absurd cc

pub image_due : (name : List ℕ) (unit : ℕ) (s : ImageStreams) (r : Result (Vec ℕ Global) Refusal) → IfOk r (λ t. image_by name unit s ≡ Ok (bytes_answer t)) → IfErr r (λ x. (event_of x ≡ no_memory) ⊎ (image_by name unit s ≡ Err (event_of x)))
    → EndsDue (λ got. image_by name unit s ≡ got) (result_by bytes_answer r)
image_due name unit s (Ok t) ok err = inr (tt, tt, ok)
image_due name unit s (Err x) ok (inl e) = inl (ap (λ (event : Event). Err event) e)
image_due name unit s (Err x) ok (inr h) = too_long_due name (event_of x) _ _ h
