-- What a script shows, from the session that followed it.
use Rattle.std.proofs.Common.{◌≡◌, ℕ, List, take, Bool, Option, ap, subst, sym, ◌∙◌}
use Rattle.std.specs.Prelude.{is_some}
use Rattle.x7_part.specs.Part.{PartData}
use Rattle.x7_engine.specs.declared.fault.Fault.{Fault}
use Rattle.x7_engine.specs.Kept.{on_the_bench}
use Rattle.x7_engine.specs.State.{why_stopped, first_stop_of_bytes}
use Rattle.x7_engine.specs.Stop.{fault_of_stop}
use Rattle.x7_debug.specs.declared.order.Order.{Order}
use Rattle.x7_debug.specs.Session.{MovesTo, SessionState}
use Rattle.x7_debug.specs.Showing.{final_position, transcript_of}
use Rattle.x7_forms.specs.Known.{Answer}
use Rattle.x7_outcome.specs.Outcome.{shown_of}

-- the first n bytes of a stream have a fault
abbrev fails_at : PartData → List ℕ → ℕ → Bool
fails_at part stream n = is_some (fault_of_stop (why_stopped (first_stop_of_bytes part on_the_bench (take n stream))))

pub shown_is : (part : PartData) (stream : List ℕ) (orders : List Order) (begin now : SessionState) (text : List ℕ) (fault : Option Fault) (stopped : Bool)
    → begin.part ≡ part → begin.stream ≡ stream → text ≡ transcript_of begin.part begin.stream orders → MovesTo begin now (final_position begin.part begin.stream orders)
    → fault ≡ fault_of_stop (why_stopped (first_stop_of_bytes now.part on_the_bench (take now.at now.stream))) → stopped ≡ is_some fault → shown_of part stream orders ≡ record { stopped = stopped; text = text }
shown_is part stream orders begin now text fault stopped p q t m f s =
    let ends : fails_at part stream (final_position part stream orders) ≡ stopped
    = ap (λ (x : PartData). fails_at x stream (final_position x stream orders)) (sym p)
    ∙ ap (λ (x : List ℕ). fails_at begin.part x (final_position begin.part x orders)) (sym q)
    ∙ ap (λ (x : PartData). fails_at x begin.stream (final_position begin.part begin.stream orders)) (sym m.part)
    ∙ ap (λ (x : List ℕ). fails_at now.part x (final_position begin.part begin.stream orders)) (sym m.stream)
    ∙ ap (λ (n : ℕ). fails_at now.part now.stream n) (sym m.at) ∙ ap is_some (sym f) ∙ sym s in
    let shows : transcript_of part stream orders ≡ text = ap (λ (x : PartData). transcript_of x stream orders) (sym p) ∙ ap (λ (x : List ℕ). transcript_of begin.part x orders) (sym q) ∙ sym t in
    ap (λ (b : Bool). record { stopped = b; text = transcript_of part stream orders }) ends ∙ ap (λ (x : List ℕ). record { stopped = stopped; text = x }) shows

-- what a script shows of a session is what it shows of the session's part and stream
pub shown_as : (part from : PartData) (stream given : List ℕ) (orders : List Order) (answer : Answer) → from ≡ part → given ≡ stream → shown_of from given orders ≡ answer → shown_of part stream orders ≡ answer
shown_as part from stream given orders answer p q h = subst (λ (x : PartData). shown_of x stream orders ≡ answer) p (subst (λ (s : List ℕ). shown_of from s orders ≡ answer) q h)
