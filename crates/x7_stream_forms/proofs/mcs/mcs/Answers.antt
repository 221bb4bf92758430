use Rattle.std.proofs.Common.{ℕ, List, [], ◌∷◌, Ok, false, ap, inl, inr, sym, refl}
use Rattle.x7_mcs.specs.Text.{mcs_text}
use Rattle.x7_boot.specs.Image.{flash_limit}
use Rattle.x7_forms.specs.AskedForm as form
use Rattle.x7_forms.specs.Known.{Answer, whole_known}
use Rattle.x7_forms.specs.ReadingStops.{limited}
use Rattle.x7_forms.proofs.ReadLemmas.{answers_end, answers_stop, whole_steady}
use Rattle.x7_forms.proofs.AskedLemmas.{unread_about}
use Rattle.x7_outcome.proofs.StopLemmas.{first_stops, want_stops}
use Rattle.x7_forms.proofs.ResultLemmas.{handed_on}
use Rattle.x7_forms.specs.Event.{event_of, no_memory}
use Rattle.x7_outcome.specs.Ready.{mcs_answer}
use Rattle.x7_stream_forms.proofs.ReadyLemmas.{want_seen}
use Rattle.x7_stream_forms.proofs.mcs.mcs.Goals as goal

pub returns-in_err-bytes : goal.returns-in_err-bytes
returns-in_err-bytes g c = rw (handed_on c.from_residual.result c.in_err-bytes.field-0.0 c.from_residual.ensures) (let old = g.I.Inputs.state c.args.inputs.now in
    let new = g.I.Inputs.state c.read_whole.new.inputs in
    let name = c.args.image_name.now in
    let event = event_of c.in_err-bytes.field-0.0 in
    record {
      caused = answers_stop (List ℕ) Answer (name ∷ []) (name ∷ []) old new (λ t. whole_known t flash_limit name) (λ t xs. Ok (record { stopped = false; text = mcs_text xs })) event (λ n h. h) c.in_err-bytes.ensures.caused;
      stops = first_stops (form.Mcs name) (limited flash_limit name) [] old new event refl c.read_whole.ensures.asks.last c.read_whole.ensures.asks.once (unread_about name event c.in_err-bytes.ensures.named);
      asks = c.read_whole.ensures.asks.once;
      stays = c.read_whole.ensures.asks.stays;
      no_fault = tt;
    })

pub returns : goal.returns
returns g c =
    let old = g.I.Inputs.state c.args.inputs.now in
    let new = g.I.Inputs.state c.read_whole.new.inputs in
    let name = c.args.image_name.now in
    let whole : List ℕ → Answer = λ text. record { stopped = false; text = text } in
    record {
      caused = answers_end (List ℕ) Answer (name ∷ []) old new (λ t. whole_known t flash_limit name) (λ xs. Ok (whole (mcs_text xs))) c.in_ok-bytes.bytes.items (Ok (whole (mcs_text c.in_ok-new.field-0))) (whole_steady flash_limit name) c.in_ok-bytes.ensures.caused
          (inr (tt, tt, ap (λ t. Ok (whole (mcs_text t))) (sym c.in_ok-new.ensures)));
      stops = tt;
      asks = c.read_whole.ensures.asks.once;
      stays = c.read_whole.ensures.asks.stays;
      no_fault = c.in_ok-bytes.ensures.no_fault;
    }

pub returns-in_err-new : goal.returns-in_err-new
returns-in_err-new g c = rw (want_seen mcs_answer c.from_residual-in_err-new.result c.from_residual-in_err-new.ensures)
    (let old = g.I.Inputs.state c.args.inputs.now in
    let new = g.I.Inputs.state c.read_whole.new.inputs in
    record { caused = λ flash. inl (inl refl); stops = want_stops (form.Mcs c.args.image_name.now) old new no_memory refl; asks = c.read_whole.ensures.asks.once; stays = c.read_whole.ensures.asks.stays; no_fault = tt })
