use Rattle.std.proofs.Common.{arith, ◌≤◌, ◌-◌, ℕ, Bool, List, [], ◌∷◌, drop, length, take, Option, None, Some, Err, inl, inr, refl, subst, sym, ◌∙◌}
use Rattle.x7_words.specs.Flash.{BecomesBytes, IfKnown}
use Rattle.x7_words.specs.FlashHistory.{history_of}
use Rattle.x7_words.proofs.InputLemmas.{few_at, few_more, stays_at}
use Rattle.x7_boot.specs.Image.{flash_limit}
use Rattle.x7_update.specs.After.{IsAfterUpdate}
use Rattle.x7_update.specs.Layout.{IsUpdatable}
use Rattle.x7_forms.specs.Event.{Event, event_of}
use Rattle.x7_forms.specs.AskedForm as form
use Rattle.x7_forms.specs.Known.{with_inputs, stream_limit}
use Rattle.x7_forms.specs.Step.{CameIn, step_over}
use Rattle.x7_outcome.specs.Outside.{Outside, sources}
use Rattle.x7_outcome.specs.Ending.{CommandEndsAs}
use Rattle.x7_outcome.specs.Leaving.{HasData}
use Rattle.x7_outcome.specs.Stream.{data_from}
use Rattle.x7_device_forms.proofs.UpdateLemmas.{cause_from, data_given, done_ends, fault_ends, keeps_all, refused_ends, rest_of, attach_refused_last, attach_refused_measured, attach_refused_over, unplayed_last, unplayed_measured, unread_over, uses_opened, uses_updated}
use Rattle.x7_device_forms.proofs.StopLemmas.{stream_judges, unopened_judges, updated_judges, attach_refused_stops, updated_stops}
use Rattle.x7_outcome.proofs.FlashLemmas.{updated_leaves}
use Rattle.x7_outcome.proofs.StopLemmas.{first_stops}
use Rattle.x7_forms.specs.ReadingStops.{limited}
use Rattle.x7_forms.proofs.AskedLemmas.{unplayed_about}
use Rattle.x7_forms.proofs.ResultLemmas.{handed_on}
use Rattle.x7_device_forms.proofs.update.update.Goals as goal

pub returns-in_err-open_flash-clause-answered : goal.returns-in_err-open_flash-clause-answered
returns-in_err-open_flash-clause-answered g c = rw (handed_on c.from_residual.result c.in_err-open_flash.field-0.0 c.from_residual.ensures) (λ before after out.
    let first = g.F.Flash.state c.args.flash.now in
    let mid = g.F.Flash.state c.open_flash.new.flash in
    let old : Outside = record before { inputs = g.I.Inputs.state c.args.inputs.now; flash = first } in
    let new : Outside = record after { inputs = g.I.Inputs.state c.args.inputs.now; flash = mid } in
    let event = event_of c.in_err-open_flash.field-0.0 in
    record {
      ends = refused_ends c.args.flash_name.now c.args.stream_name.now old new event out
          (attach_refused_measured (Some (form.Update c.args.flash_name.now c.args.stream_name.now)) c.args.flash_name.now first mid event c.in_err-open_flash.ensures.refused)
          (attach_refused_last (form.Update c.args.flash_name.now c.args.stream_name.now) c.args.flash_name.now new.inputs first mid event c.in_err-open_flash.ensures.refused)
          (attach_refused_over c.args.flash_name.now c.args.stream_name.now old new event c.in_err-open_flash.ensures.refused) (keeps_all event.reason first mid c.open_flash.ensures.stays.bytes) (inl c.in_err-open_flash.ensures.called_alone);
      stops = attach_refused_stops c.args.flash_name.now c.args.stream_name.now (g.I.Inputs.state c.args.inputs.now) (g.I.Inputs.state c.args.inputs.now) (g.F.Flash.state c.args.flash.now)
          (g.F.Flash.state c.open_flash.new.flash) (event_of c.in_err-open_flash.field-0.0) c.in_err-open_flash.ensures.refused;
      judges = unopened_judges c.args.flash_name.now c.args.stream_name.now (sources (g.I.Inputs.state c.args.inputs.now) (g.F.Flash.state c.args.flash.now)) (sources (g.I.Inputs.state c.args.inputs.now) (g.F.Flash.state c.open_flash.new.flash)) (event_of c.in_err-open_flash.field-0.0) refl;
      asks = few_more (g.I.Inputs.state c.args.inputs.now) (g.I.Inputs.state c.args.inputs.now) 0 1 (omega arith) (few_at (g.I.Inputs.state c.args.inputs.now));
      stays = stays_at _;
      no_fault = tt;
    })

pub returns-in_err-read-clause-answered : goal.returns-in_err-read-clause-answered
returns-in_err-read-clause-answered g c = rw (handed_on c.from_residual-in_err-read.result c.in_err-read.field-0.0 c.from_residual-in_err-read.ensures) (λ before after out.
    let first = g.F.Flash.state c.args.flash.now in
    let mid = g.F.Flash.state c.open_flash.new.flash in
    let same = c.open_flash.ensures.stays.bytes in
    let old : Outside = record before { inputs = g.I.Inputs.state c.args.inputs.now; flash = first } in
    let new : Outside = record after { inputs = g.I.Inputs.state c.read_stream.new.inputs; flash = mid } in
    let event = event_of c.in_err-read.field-0.0 in
    let within = subst (λ (o : Option (List ℕ)). IfKnown o (λ all. length all ≤ flash_limit)) same c.in_ok-open_flash.ensures.within in
    record {
      ends = refused_ends c.args.flash_name.now c.args.stream_name.now old new event out
          (unplayed_measured (Some (form.Update c.args.flash_name.now c.args.stream_name.now)) mid c.args.stream_name.now event (inl refl) c.in_err-read.ensures.named)
          (unplayed_last (form.Update c.args.flash_name.now c.args.stream_name.now) new.inputs mid c.args.stream_name.now event (inl refl) c.in_err-read.ensures.named)
          (unread_over c.args.flash_name.now c.args.stream_name.now old new event within (c.in_err-read.ensures.caused first.bytes)) (keeps_all event.reason first mid same) (inl (inl c.in_ok-open_flash.ensures.called));
      stops = first_stops (form.Update c.args.flash_name.now c.args.stream_name.now) (limited stream_limit c.args.stream_name.now) [] (g.I.Inputs.state c.args.inputs.now)
          (g.I.Inputs.state c.read_stream.new.inputs) (event_of c.in_err-read.field-0.0) refl c.read_stream.ensures.asks.last c.read_stream.ensures.asks.once
          (unplayed_about c.args.stream_name.now (event_of c.in_err-read.field-0.0) c.in_err-read.ensures.named);
      judges = stream_judges c.args.flash_name.now c.args.stream_name.now (sources (g.I.Inputs.state c.args.inputs.now) (g.F.Flash.state c.args.flash.now))
          (sources (g.I.Inputs.state c.read_stream.new.inputs) (g.F.Flash.state c.open_flash.new.flash)) (event_of c.in_err-read.field-0.0)
          (unplayed_about c.args.stream_name.now (event_of c.in_err-read.field-0.0) c.in_err-read.ensures.named);
      asks = c.read_stream.ensures.asks.once;
      stays = c.read_stream.ensures.asks.stays;
      no_fault = tt;
    })

pub returns-in-Ok-clause-answered : goal.returns-in-Ok-clause-answered
returns-in-Ok-clause-answered g c = λ before after out.
    let i = g.I.Inputs in
    let first = g.F.Flash.state c.args.flash.now in
    let last = g.F.Flash.state c.update.new.flash in
    let stream = c.args.stream_name.now in
    let read = c.in_ok-read.read in
    let bytes = take (length c.deref.result.now - read.start) (drop read.start c.deref.result.now) in
    let same = c.open_flash.ensures.stays.bytes in
    let old : Outside = record before { inputs = i.state c.args.inputs.now; flash = first } in
    let new : Outside = record after { inputs = i.state c.read_stream.new.inputs; flash = last } in
    let within = subst (λ (o : Option (List ℕ)). IfKnown o (λ all. length all ≤ flash_limit)) same c.in_ok-open_flash.ensures.within in
    let has = data_given (with_inputs new.inputs.contents first.bytes) (CameIn (step_over (stream ∷ []) old.inputs new.inputs)) stream (data_from read) bytes (c.in_ok-read.ensures.caused first.bytes) (rest_of c.deref.result.now read.bytes.items read.start c.deref.ensures.value) in
    let updatable = subst (λ (o : Option (List ℕ)). IfKnown o IsUpdatable) same c.in-Ok.ensures.updatable in
    let becomes = subst (λ (o : Option (List ℕ)). BecomesBytes (IsAfterUpdate bytes) o last.bytes) same c.in-Ok.ensures.updated in
    let size = subst (λ (n : ℕ). n ≤ flash_limit) (sym c.update.ensures.only_uses.extent) c.in_ok-open_flash.ensures.size in
    record {
      ends = done_ends c.args.flash_name.now stream bytes old new out within has updatable size becomes
          (record { mid = history_of (g.F.Flash.state c.open_flash.new.flash); attached = c.in_ok-open_flash.ensures.called; updated = c.in-Ok.ensures.updated_calls });
      stops = tt;
      judges = tt;
      asks = c.read_stream.ensures.asks.once;
      stays = c.read_stream.ensures.asks.stays;
      no_fault = c.in_ok-read.ensures.no_fault;
    }

pub returns-in-Ok-clause-flash : goal.returns-in-Ok-clause-flash
returns-in-Ok-clause-flash g c =
    let i = g.I.Inputs in
    let first = g.F.Flash.state c.args.flash.now in
    let stream = c.args.stream_name.now in
    let read = c.in_ok-read.read in
    let bytes = take (length c.deref.result.now - read.start) (drop read.start c.deref.result.now) in
    let old = i.state c.args.inputs.now in
    let new = i.state c.read_stream.new.inputs in
    let any : (flash : List ℕ) → HasData (with_inputs new.contents (Some flash)) stream bytes =
    λ flash. data_given (with_inputs new.contents (Some flash)) (CameIn (step_over (stream ∷ []) old new)) stream (data_from read) bytes (c.in_ok-read.ensures.caused (Some flash)) (rest_of c.deref.result.now read.bytes.items read.start c.deref.ensures.value) in
    let left = updated_leaves c.args.flash_name.now stream bytes new first (g.F.Flash.state c.open_flash.new.flash) (g.F.Flash.state c.update.new.flash) c.in_ok-open_flash.ensures.called c.update.ensures.only_uses.extent any c.update.ensures.left in
    uses_updated c.args.flash_name.now stream new first (g.F.Flash.state c.open_flash.new.flash) (g.F.Flash.state c.update.new.flash) c.open_flash.ensures.stays c.open_flash.ensures.asks (inl c.in_ok-open_flash.ensures.called) c.update.ensures.only_uses c.update.ensures.follows left

pub returns-clause-answered : goal.returns-clause-answered
returns-clause-answered g c = λ before after out.
    let i = g.I.Inputs in
    let first = g.F.Flash.state c.args.flash.now in
    let mid = g.F.Flash.state c.open_flash.new.flash in
    let last = g.F.Flash.state c.update.new.flash in
    let name = c.args.flash_name.now in
    let stream = c.args.stream_name.now in
    let read = c.in_ok-read.read in
    let bytes = take (length c.deref.result.now - read.start) (drop read.start c.deref.result.now) in
    let stays = c.open_flash.ensures.stays in
    let old : Outside = record before { inputs = i.state c.args.inputs.now; flash = first } in
    let new : Outside = record after { inputs = i.state c.read_stream.new.inputs; flash = last } in
    let within = subst (λ (o : Option (List ℕ)). IfKnown o (λ all. length all ≤ flash_limit)) stays.bytes c.in_ok-open_flash.ensures.within in
    let has = data_given (with_inputs new.inputs.contents first.bytes) (CameIn (step_over (stream ∷ []) old.inputs new.inputs)) stream (data_from read) bytes (c.in_ok-read.ensures.caused first.bytes) (rest_of c.deref.result.now read.bytes.items read.start c.deref.ensures.value) in
    let reads = data_given (with_inputs new.inputs.contents None) (CameIn (step_over (stream ∷ []) old.inputs new.inputs)) stream (data_from read) bytes (c.in_ok-read.ensures.caused None) (rest_of c.deref.result.now read.bytes.items read.start c.deref.ensures.value) in
    let size = subst (λ (n : ℕ). n ≤ flash_limit) (sym c.update.ensures.only_uses.extent) c.in_ok-open_flash.ensures.size in
    let asked = c.update.ensures.only_uses.names ∙ c.open_flash.ensures.asks in
    let cause = cause_from bytes first mid last c.in-Err.fault stays.bytes stays.write_faults stays.faults c.in-Err.ensures.refused in
    record {
      ends = subst (λ (e : Event). CommandEndsAs (Some (form.Update name stream)) old new (Err e)) (sym c.refusal_of.ensures)
          (fault_ends name stream bytes old new c.in-Err.fault out asked within has reads size cause (λ early. let only = c.in-Err.ensures.unchanged early in only.bytes ∙ stays.bytes)
          (inr (bytes, has, (c.in-Err.fault, refl, record { mid = history_of mid; attached = c.in_ok-open_flash.ensures.called; refused = c.in-Err.ensures.refused_calls }))));
      stops = updated_stops c.args.flash_name.now c.args.stream_name.now (g.I.Inputs.state c.args.inputs.now) (g.I.Inputs.state c.read_stream.new.inputs) c.in-Err.fault (event_of c.refusal_of.result) c.refusal_of.ensures c.read_stream.ensures.asks.last c.read_stream.ensures.asks.once;
      judges = updated_judges c.args.flash_name.now c.args.stream_name.now (sources (g.I.Inputs.state c.args.inputs.now) (g.F.Flash.state c.args.flash.now))
          (sources (g.I.Inputs.state c.read_stream.new.inputs) (g.F.Flash.state c.update.new.flash)) c.in-Err.fault (event_of c.refusal_of.result) c.refusal_of.ensures
          (c.update.ensures.only_uses.attached ∙ c.in_ok-open_flash.ensures.attached);
      asks = c.read_stream.ensures.asks.once;
      stays = c.read_stream.ensures.asks.stays;
      no_fault = tt;
    }

pub returns-clause-flash : goal.returns-clause-flash
returns-clause-flash g c =
    let i = g.I.Inputs in
    let first = g.F.Flash.state c.args.flash.now in
    let stream = c.args.stream_name.now in
    let read = c.in_ok-read.read in
    let bytes = take (length c.deref.result.now - read.start) (drop read.start c.deref.result.now) in
    let old = i.state c.args.inputs.now in
    let new = i.state c.read_stream.new.inputs in
    let any : (flash : List ℕ) → HasData (with_inputs new.contents (Some flash)) stream bytes =
    λ flash. data_given (with_inputs new.contents (Some flash)) (CameIn (step_over (stream ∷ []) old new)) stream (data_from read) bytes (c.in_ok-read.ensures.caused (Some flash)) (rest_of c.deref.result.now read.bytes.items read.start c.deref.ensures.value) in
    let left = updated_leaves c.args.flash_name.now stream bytes new first (g.F.Flash.state c.open_flash.new.flash) (g.F.Flash.state c.update.new.flash) c.in_ok-open_flash.ensures.called c.update.ensures.only_uses.extent any c.update.ensures.left in
    uses_updated c.args.flash_name.now stream new first (g.F.Flash.state c.open_flash.new.flash) (g.F.Flash.state c.update.new.flash) c.open_flash.ensures.stays c.open_flash.ensures.asks (inl c.in_ok-open_flash.ensures.called) c.update.ensures.only_uses c.update.ensures.follows left

pub returns-in_err-open_flash-clause-flash : goal.returns-in_err-open_flash-clause-flash
returns-in_err-open_flash-clause-flash g c =
    let f = g.F.Flash in
    uses_opened c.args.flash_name.now c.args.stream_name.now (g.I.Inputs.state c.args.inputs.now) (f.state c.args.flash.now) (f.state c.open_flash.new.flash) c.open_flash.ensures.stays c.open_flash.ensures.asks c.in_err-open_flash.ensures.called_alone

pub returns-in_err-read-clause-flash : goal.returns-in_err-read-clause-flash
returns-in_err-read-clause-flash g c =
    let f = g.F.Flash in
    uses_opened c.args.flash_name.now c.args.stream_name.now (g.I.Inputs.state c.read_stream.new.inputs) (f.state c.args.flash.now) (f.state c.open_flash.new.flash) c.open_flash.ensures.stays c.open_flash.ensures.asks (inl c.in_ok-open_flash.ensures.called)
