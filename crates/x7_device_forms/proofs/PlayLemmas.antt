-- The answer of a play.
use Rattle.std.proofs.Common.{◌≡◌, ℕ, ◌≤◌, ◌<◌, List, length, Bool, true, false, Option, Result, Ok, Err, IfErr, IfOk, refl, ap, subst, sym, ◌∙◌, arith, inl, inr, ◌⊎◌}
use Rattle.std.specs.Prelude.{is_some, nat_lt}
use Rattle.std.proofs.lemmas.Bool.Decides.{nat_tests}
use Rattle.x7_part.specs.Part.{PartData}
use Rattle.x7_memory.specs.FrameMap.{FrameMap}
use Rattle.x7_engine.specs.declared.fault.Fault.{Fault}
use Rattle.x7_engine.specs.Kept.{on_the_bench}
use Rattle.x7_engine.specs.Standing.{DeviceState}
use Rattle.x7_engine.specs.State.{why_stopped, memory_of_bytes, reads_of, state_of, first_stop_of_bytes}
use Rattle.x7_engine.specs.Stop.{fault_of_stop}
use Rattle.x7_report.specs.Reports.{PlayTextState, report_text}
use Rattle.x7_forms.specs.Event.{Event, event_of, no_memory, too_many_reads}
use Rattle.x7_forms.specs.Known.{Answer, reads_limit}
use Rattle.x7_playing.specs.Playing.{HasPlayed}
use Rattle.x7_playing.proofs.PlayLemmas.{IsPlayed}
use Rattle.x7_forms.specs.Step.{IsDecided, IsPossible, result_by}
use Rattle.x7_playing.specs.declared.player.Player.{Player}
use Rattle.x7_forms.specs.declared.refusal.Refusal.{Refusal}
use Rattle.x7_outcome.specs.Play.{report_of, reported, play_answer}

pub reported_over : (part : PartData) (bytes : List ℕ) → reads_limit < length (reads_of part on_the_bench bytes) → reported part bytes ≡ Err too_many_reads
unfolding reported
reported_over part bytes k =
    let long : nat_lt reads_limit (length (reads_of part on_the_bench bytes)) ≡ true = grind (arith, k, nat_tests) in
    rw long refl

pub reported_is : (part : PartData) (bytes : List ℕ) (d : DeviceState) (reads text : List ℕ) (fault : Option Fault) (stopped : Bool) → (p : IsPlayed part bytes d reads) → fault ≡ fault_of_stop (why_stopped (first_stop_of_bytes part on_the_bench p.prefix)) → stopped ≡ is_some fault
    → text ≡ report_text part (state_of part on_the_bench false p.prefix) reads (memory_of_bytes part on_the_bench p.prefix) → reported part bytes ≡ Ok (record { stopped = stopped; text = text })
unfolding reported
reported_is part bytes d reads text fault stopped p f s t =
    let few : length (reads_of part on_the_bench bytes) ≤ reads_limit = subst (λ x. length x ≤ reads_limit) p.reads_are p.within_limit in
    let short : nat_lt reads_limit (length (reads_of part on_the_bench bytes)) ≡ false = grind (arith, few, nat_tests) in
    let stop : is_some (fault_of_stop (why_stopped (first_stop_of_bytes part on_the_bench bytes))) ≡ stopped = ap (λ x. is_some (fault_of_stop (why_stopped x))) p.stop ∙ sym (ap is_some f) ∙ sym s in
    let memory : FrameMap = memory_of_bytes part on_the_bench bytes in
    let whole : report_text part (state_of part on_the_bench false bytes) (reads_of part on_the_bench bytes) memory ≡ text
    = ap (λ x. report_text part x (reads_of part on_the_bench bytes) memory) p.state ∙ ap (λ x. report_text part (state_of part on_the_bench false p.prefix) x memory) (sym p.reads_are)
    ∙ ap (report_text part (state_of part on_the_bench false p.prefix) reads) p.memory ∙ sym t in
    let answer : report_of part bytes ≡ record { stopped = stopped; text = text } = ap (λ x. record { stopped = x; text = report_text part (state_of part on_the_bench false bytes) (reads_of part on_the_bench bytes) memory }) stop ∙ ap (λ x. record { stopped = stopped; text = x }) whole in
    rw short (ap Ok answer)

-- the text of a play, or why there is none
pub text_ends : (part : PartData) (bytes : List ℕ) (p : Player) (r : Result PlayTextState Refusal) → HasPlayed part bytes p → IfOk r (λ text. (part : PartData) (bytes : List ℕ) → HasPlayed part bytes p → reported part bytes ≡ Ok (play_answer text))
    → IfErr r (λ x. (event_of x ≡ no_memory) ⊎ ((event_of x ≡ too_many_reads) × ((part : PartData) (bytes : List ℕ) → HasPlayed part bytes p → reported part bytes ≡ Err too_many_reads)))
    → (result_by play_answer r ≡ Err no_memory) ⊎ (IsPossible (result_by play_answer r) × IsDecided (result_by play_answer r) × (reported part bytes ≡ result_by play_answer r))
text_ends part bytes p (Ok text) h ok err = inr (tt, tt, ok part bytes h)
text_ends part bytes p (Err x) h ok (inl e) = inl (ap (λ (event : Event). Err event) e)
text_ends part bytes p (Err x) h ok (inr (e, many)) = inr (subst (λ (event : Event). IsPossible {A = Answer} (Err event)) (sym e) tt, subst (λ (event : Event). IsDecided {A = Answer} (Err event)) (sym e) tt, many part bytes h ∙ ap (λ (event : Event). Err event) (sym e))
