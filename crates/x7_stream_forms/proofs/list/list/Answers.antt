use Rattle.std.proofs.Common.{◌≡◌, ℕ, ◌+◌, ◌-◌, ◌≤◌, ◌⊎◌, List, [], ◌∷◌, ◌++◌, Option, Some, Ok, Err, true, false, drop, subst, take, length, length-append, append-nil, length-drop, length-take-le, take_all, refl, sym, ap, ◌∙◌, inl, inr, arith}
use Rattle.std.proofs.lemmas.Result.{on_ok_weaker}
use Rattle.x7_words.specs.Sink.{SinkFails, appended, PutsPrefix}
use Rattle.x7_words.specs.Input.{preceded}
use Rattle.x7_words.specs.Word.{AreBytes}
use Rattle.x7_words.proofs.InputLemmas.{once_on, rest_on, stays_on}
use Rattle.x7_words.proofs.CountLemmas.{risen_from}
use Rattle.x7_listing.specs.Listing.{listing_of}
use Rattle.x7_listing.specs.StreamListing.{stream_listing}
use Rattle.x7_forms.specs.Event.{event_of, no_memory, status_of_event, writing_failed}
use Rattle.x7_forms.specs.Known.{stream_limit, with_inputs}
use Rattle.x7_forms.specs.Step.{CameIn, result_by, step_over}
use Rattle.x7_forms.specs.declared.refusal.Refusal.{Refusal}
use Rattle.x7_forms.specs.AskedForm as form
use Rattle.x7_outcome.specs.Ahead.{StaysNear}
use Rattle.x7_outcome.specs.Ending.{ListsSoFar}
use Rattle.x7_stream_forms.specs.Between.{ListsInTurns, ListsStream}
use Rattle.x7_forms.specs.Turn.{FollowsUnlessLast, longest_beginning, turn_size}
use Rattle.x7_outcome.proofs.ReadyLemmas.{at_ok}
use Rattle.x7_stream_forms.proofs.AheadLemmas.{prefix_given, prefix_near, longer_prefix, longer_twice, same_now, stays_near, turn_given, turn_near, without_prefix_near, unopened_near, unread_near, unwritten_near, why_weaker}
use Rattle.x7_stream_forms.proofs.Causes.{Ended, PutsListed, both_err, ends_same, list_ends, list_seen, listed_whole, out_of_memory, out_of_memory_before, without_prefix, unopened}
use Rattle.x7_forms.proofs.ReadLemmas.{asked_on, at_on, no_fault_on, turn_unread, whole_later}
use Rattle.x7_forms.proofs.ResultLemmas.{handed_on, err_weaker}
use Rattle.x7_stream_forms.proofs.TurnLemmas.{end_failed, fails_last, unlisted_last, prefix_failed, prefix_so_far, goes_on, line_prefix, line_then, stream_so_far, stream_whole, unread_end, write_failed}
use Rattle.x7_outcome.proofs.FeedLemmas.{taken_more}
use Rattle.x7_forms.proofs.AskedLemmas.{asks_opened, asks_read, asks_turn, without_prefix_about, unopened_about, unread_about}
use Rattle.x7_stream_forms.proofs.StopLemmas.{prefix_stops, put_stops, written_stops}
use Rattle.x7_outcome.proofs.StopLemmas.{first_stops}
use Rattle.x7_forms.specs.ReadingStops.{limited}
use Rattle.x7_stream_forms.proofs.list.list.Goals as goal

pub returns-in_err-open-clause-answered : goal.returns-in_err-open-clause-answered
returns-in_err-open-clause-answered g c = rw (handed_on c.from_residual.result c.in_err-open.field-0.0 c.from_residual.ensures) (λ before after.
    let i = g.I.Inputs in
    let o = g.O.Sink in
    let old = record before { inputs = i.state c.args.inputs.now; out = o.state c.args.out.now } in
    let new = record after { inputs = i.state c.open.new.inputs; out = o.state c.args.out.now } in
    let stream = c.args.stream_name.now in
    let event = event_of c.in_err-open.field-0.0 in
    let asks = asks_opened (i.state c.args.inputs.now) (i.state c.open.new.inputs) stream stream_limit c.open.ensures.asks in
    record {
      ends = list_ends stream old new (Err event) (unopened old.inputs new.inputs old.flash.bytes stream (SinkFails old.out new.out) old.out.written event c.in_err-open.ensures.refused c.open.ensures.asks.named)
          (stays_near event stream old new (unopened_near new.inputs.contents stream new.inputs.rest old.out.written new.out.written old.inputs new.inputs stream event c.open.ensures.asks.named (same_now old.out) c.in_err-open.ensures.refused));
      stops = first_stops (form.List c.args.stream_name.now) (limited stream_limit c.args.stream_name.now) [] (g.I.Inputs.state c.args.inputs.now) (g.I.Inputs.state c.open.new.inputs)
          (event_of c.in_err-open.field-0.0) refl asks.last asks.once
          (unopened_about (g.I.Inputs.state c.args.inputs.now) (g.I.Inputs.state c.open.new.inputs) c.args.stream_name.now (event_of c.in_err-open.field-0.0) c.in_err-open.ensures.refused);
      judges = tt;
      asks = asks.once;
      stays = asks.stays;
      no_fault = tt;
    })

pub returns-in_err-beginning-clause-answered : goal.returns-in_err-beginning-clause-answered
returns-in_err-beginning-clause-answered g c = rw (handed_on c.from_residual-in_err-beginning.result c.in_err-beginning.field-0.0 c.from_residual-in_err-beginning.ensures) (λ before after.
    let i = g.I.Inputs in
    let o = g.O.Sink in
    let old = record before { inputs = i.state c.args.inputs.now; out = o.state c.args.out.now } in
    let new = record after { inputs = i.state c.read_beginning.new.inputs; out = o.state c.args.out.now } in
    let stream = c.args.stream_name.now in
    let event = event_of c.in_err-beginning.field-0.0 in
    let asks = asks_read (i.state c.args.inputs.now) (i.state c.open.new.inputs) (i.state c.read_beginning.new.inputs) stream stream_limit c.open.ensures.asks c.read_beginning.ensures.gives_few in
    record {
      ends = list_ends stream old new (Err event)
          (without_prefix old.inputs (i.state c.open.new.inputs) new.inputs old.flash.bytes stream (SinkFails old.out new.out) old.out.written event c.open.ensures.asks.stays c.read_beginning.ensures.gives_few.stays c.in_ok-open.ensures.opened.found c.open.ensures.asks.named c.in_err-beginning.ensures.refused)
          (stays_near event stream old new (without_prefix_near new.inputs.contents stream new.inputs.rest old.out.written new.out.written
          (i.state c.open.new.inputs) new.inputs stream event refl refl c.read_beginning.ensures.gives_few.stays c.in_ok-open.ensures.opened.found c.open.ensures.asks.named c.read_beginning.ensures.short
          (same_now old.out) c.in_err-beginning.ensures.refused));
      stops = first_stops (form.List c.args.stream_name.now) (limited stream_limit c.args.stream_name.now) [] (g.I.Inputs.state c.args.inputs.now) (g.I.Inputs.state c.read_beginning.new.inputs)
          (event_of c.in_err-beginning.field-0.0) refl
          asks.last asks.once (without_prefix_about (g.I.Inputs.state c.open.new.inputs) (g.I.Inputs.state c.read_beginning.new.inputs) c.args.stream_name.now
          (event_of c.in_err-beginning.field-0.0) c.in_err-beginning.ensures.refused);
      judges = tt;
      asks = asks.once;
      stays = asks.stays;
      no_fault = tt;
    })

pub returns-in_err-put_beginning-clause-answered : goal.returns-in_err-put_beginning-clause-answered
returns-in_err-put_beginning-clause-answered g c = rw (handed_on c.from_residual-in_err-put_beginning.result c.in_err-put_beginning.field-0.0 c.from_residual-in_err-put_beginning.ensures) (λ before after.
    let i = g.I.Inputs in
    let o = g.O.Sink in
    let contents = (i.state c.read_beginning.new.inputs).contents in
    let old = (o.state c.args.out.now).written in
    let stream = c.args.stream_name.now in
    let C = CameIn (step_over (stream ∷ []) (i.state c.args.inputs.now) (i.state c.read_beginning.new.inputs)) in
    let given = (i.state c.read_beginning.new.inputs).given in
    let f = c.in_ok-beginning.ensures.begins in
    let taken = c.in_ok-beginning.beginning.bytes.items in
    let last = c.in_ok-beginning.beginning.last in
    let line = c.deref-line.result.now in
    let start = c.in_ok-beginning.beginning.start in
    let bytes = c.deref.result.now in
    let content = take (length bytes - start) (drop start bytes) in
    let cut : content ≡ drop start taken = take_all (length bytes - start) (drop start bytes) (omega (arith, length-drop start bytes)) ∙ ap (drop start) c.deref.ensures.value in
    let rest = (i.state c.read_beginning.new.inputs).rest in
    let opened = i.state c.open.new.inputs in
    let sel = rest_on opened.contents contents stream taken opened.rest rest c.read_beginning.ensures.gives_few.stays.map f.reads.takes.taken c.in_ok-open.ensures.opened.found in
    let listing : (left : List ℕ) → FollowsUnlessLast last left
    → stream_listing (taken ++ left) ≡ Ok (line ++ listing_of (content ++ left)) = λ left m. f.begins left m
    ∙ ap (λ (l : List ℕ). Ok (l ++ listing_of (drop start taken ++ left))) (sym c.deref-line.ensures.value) ∙ ap (λ (s : List ℕ). Ok (line ++ listing_of (s ++ left))) (sym cut) in
    let now = (o.state c.put_beginning.new.out).written in
    let Full : Type 0 = SinkFails (o.state c.args.out.now) (o.state c.put_beginning.new.out) in
    let r = event_of c.in_err-put_beginning.field-0.0 in
    let flash = before.flash.bytes in
    let on : (left : List ℕ) → stream_listing (taken ++ left) ≡ Ok (line ++ listing_of (content ++ left)) = λ left. listing left (λ l. let never : false ≡ true = sym c.if-beginning.false ∙ l in absurd cc) in
    let end : (r ≡ no_memory) ⊎ ((r ≡ writing_failed) × SinkFails (o.state c.args.out.now) (o.state c.put_beginning.new.out)) → Ended (with_inputs contents flash) C stream Full old now (Err r)
    = elim [
      | inl h ↦ ends_same (with_inputs contents flash) C stream Full old now r no_memory h (out_of_memory contents flash C stream taken rest Full old now sel (prefix_so_far taken line content old now c.are_bytes.ensures on c.in_err-put_beginning.ensures.prefix))
      | inr h ↦ ends_same (with_inputs contents flash) C stream Full old now r writing_failed h.0 (prefix_failed contents flash C stream taken line content rest last Full old now sel f.end h.1 c.are_bytes.ensures listing c.in_err-put_beginning.ensures.prefix)
    ] in
    let put = c.in_err-put_beginning.ensures.prefix [] (subst AreBytes (sym (append-nil _)) c.are_bytes.ensures) in
    let longer = longer_prefix old now _ put in
    let few : given ≤ longest_beginning = omega (arith, c.open.ensures.asks.named.given, c.read_beginning.ensures.short) in
    let near = unwritten_near contents stream rest old now _ given r (prefix_given contents stream given old now few longer) (prefix_near contents stream taken rest old now sel f.short longer) c.in_err-put_beginning.ensures.refused in
    let asks = asks_read (i.state c.args.inputs.now) (i.state c.open.new.inputs) (i.state c.read_beginning.new.inputs) stream stream_limit c.open.ensures.asks c.read_beginning.ensures.gives_few in
    record {
      ends = list_ends stream (record before { inputs = i.state c.args.inputs.now; out = o.state c.args.out.now })
          (record after { inputs = i.state c.read_beginning.new.inputs; out = o.state c.put_beginning.new.out }) (Err r) (end c.in_err-put_beginning.ensures.refused)
          (stays_near r stream (record before { inputs = i.state c.args.inputs.now; out = o.state c.args.out.now })
          (record after { inputs = i.state c.read_beginning.new.inputs; out = o.state c.put_beginning.new.out }) near);
      stops = prefix_stops (form.List c.args.stream_name.now) (g.I.Inputs.state c.args.inputs.now) (g.I.Inputs.state c.read_beginning.new.inputs) (event_of c.in_err-put_beginning.field-0.0) c.in_err-put_beginning.ensures.refused;
      judges = tt;
      asks = asks.once;
      stays = asks.stays;
      no_fault = tt;
    })

pub returns-then-beginning-clause-answered : goal.returns-then-beginning-clause-answered
returns-then-beginning-clause-answered g c = λ before after.
    let i = g.I.Inputs in
    let o = g.O.Sink in
    let contents = (i.state c.read_beginning.new.inputs).contents in
    let old = (o.state c.args.out.now).written in
    let stream = c.args.stream_name.now in
    let C = CameIn (step_over (stream ∷ []) (i.state c.args.inputs.now) (i.state c.read_beginning.new.inputs)) in
    let given = (i.state c.read_beginning.new.inputs).given in
    let f = c.in_ok-beginning.ensures.begins in
    let taken = c.in_ok-beginning.beginning.bytes.items in
    let last = c.in_ok-beginning.beginning.last in
    let line = c.deref-line.result.now in
    let start = c.in_ok-beginning.beginning.start in
    let bytes = c.deref.result.now in
    let content = take (length bytes - start) (drop start bytes) in
    let cut : content ≡ drop start taken = take_all (length bytes - start) (drop start bytes) (omega (arith, length-drop start bytes)) ∙ ap (drop start) c.deref.ensures.value in
    let rest = (i.state c.read_beginning.new.inputs).rest in
    let opened = i.state c.open.new.inputs in
    let sel = rest_on opened.contents contents stream taken opened.rest rest c.read_beginning.ensures.gives_few.stays.map f.reads.takes.taken c.in_ok-open.ensures.opened.found in
    let listing : (left : List ℕ) → FollowsUnlessLast last left
    → stream_listing (taken ++ left) ≡ Ok (line ++ listing_of (content ++ left)) = λ left m. f.begins left m
    ∙ ap (λ (l : List ℕ). Ok (l ++ listing_of (drop start taken ++ left))) (sym c.deref-line.ensures.value) ∙ ap (λ (s : List ℕ). Ok (line ++ listing_of (s ++ left))) (sym cut) in
    let now = (o.state c.put_short.new.out).written in
    let Full : Type 0 = SinkFails (o.state c.args.out.now) (o.state c.put_short.new.out) in
    let text = line ++ listing_of content in
    let same = stream_whole taken line content (listing [] (λ l. refl)) in
    let end = f.end c.if-beginning.true in
    let flash = before.flash.bytes in
    let first = record before { inputs = i.state c.args.inputs.now; out = o.state c.args.out.now } in
    let later = record after { inputs = i.state c.read_beginning.new.inputs; out = o.state c.put_short.new.out } in
    let ok = on_ok_weaker c.put_short.result (λ h. (text, listed_whole contents flash C stream taken text rest Full old now sel end same (omega (arith, f.short)) h)) c.put_short.ensures.listed in
    let Why : Refusal → Type 0 = λ r. ((event_of r ≡ no_memory) × (now ≡ old)) ⊎ ((event_of r ≡ writing_failed) × Full) in
    let err = both_err c.put_short.result (λ r. PutsPrefix old text now) Why (λ r. Ended (with_inputs contents flash) C stream Full old now (Err (event_of r)))
    (λ r p w.
    let by : ((event_of r ≡ no_memory) × (now ≡ old)) ⊎ ((event_of r ≡ writing_failed) × Full) → Ended (with_inputs contents flash) C stream Full old now (Err (event_of r))
    = elim [
      | inl h ↦ ends_same (with_inputs contents flash) C stream Full old now (event_of r) no_memory h.0 (out_of_memory_before (with_inputs contents flash) C stream Full old now h.1)
      | inr h ↦ ends_same (with_inputs contents flash) C stream Full old now (event_of r) writing_failed h.0 (end_failed contents flash C stream taken rest Full old now sel end h.1 (text, (same, p)))
    ] in
    by w)
    c.put_short.ensures.prefix c.put_short.ensures.refused in
    let near = both_err c.put_short.result (λ r. PutsPrefix old text now) Why (λ r. StaysNear (status_of_event (event_of r)) (Some (form.List stream)) first later)
    (λ r p w.
    let longer = longer_prefix old now text p in
    let few : given ≤ longest_beginning = omega (arith, c.open.ensures.asks.named.given, c.read_beginning.ensures.short) in
    stays_near (event_of r) stream first later (unwritten_near contents stream rest old now _ given (event_of r) (prefix_given contents stream given old now few longer) (prefix_near contents stream taken rest old now sel f.short longer) (why_weaker w)))
    c.put_short.ensures.prefix c.put_short.ensures.refused in
    let asks = asks_read (i.state c.args.inputs.now) (i.state c.open.new.inputs) (i.state c.read_beginning.new.inputs) stream stream_limit c.open.ensures.asks c.read_beginning.ensures.gives_few in
    record {
      ends = list_seen stream first later c.put_short.result ok err near;
      stops = written_stops _ _ (form.List c.args.stream_name.now) (g.I.Inputs.state c.args.inputs.now) (g.I.Inputs.state c.read_beginning.new.inputs) c.put_short.result c.put_short.ensures.refused;
      judges = tt;
      asks = asks.once;
      stays = asks.stays;
      no_fault = at_ok (result_by (λ _. false) c.put_short.result) (no_fault_on _ _ _ c.in_ok-open.ensures.no_fault c.in_ok-beginning.ensures.no_fault);
    }

pub returns-in_err-turn-clause-answered : goal.returns-in_err-turn-clause-answered
returns-in_err-turn-clause-answered g c = rw (handed_on c.from_residual-in_err-turn.result c.in_err-turn.field-0.0 c.from_residual-in_err-turn.ensures) (λ before after.
    let i = g.I.Inputs in
    let o = g.O.Sink in
    let v = c.loop-lister.invariant in
    let old = record before { inputs = i.state c.args.inputs.now; out = o.state c.args.out.now } in
    let new = record after { inputs = i.state c.next_turn.new.inputs; out = o.state c.loop-lister.out } in
    let stream = c.args.stream_name.now in
    let event = event_of c.in_err-turn.field-0.0 in
    let t = v.known.1.1 in
    let asks = asks_turn (i.state c.args.inputs.now) (i.state c.loop-lister.inputs) (i.state c.next_turn.new.inputs) stream v.known.0 stream_limit c.loop-lister.left v.known.1.3 v.known.1.2 v.once v.inputs c.next_turn.ensures.gives_few in
    record {
      ends = list_ends stream old new (Err event)
          (unread_end old.inputs (i.state c.loop-lister.inputs) new.inputs old.flash.bytes stream v.known.0 c.loop-lister.lister c.loop-lister.left (SinkFails old.out new.out) old.out.written new.out.written event
          v.inputs c.next_turn.ensures.gives_few.stays v.known.1.0 v.known.1.3 v.known.1.1 v.known.1.2 c.in_err-turn.ensures.refused c.next_turn.ensures.gives_few.asked)
          (stays_near event stream old new (unread_near new.inputs.contents stream new.inputs.rest old.out.written new.out.written (i.state c.loop-lister.inputs) new.inputs stream v.known.0 c.loop-lister.lister c.loop-lister.left event refl refl c.next_turn.ensures.gives_few.stays v.known.1.0 t
          (omega (arith, v.known.1.3.given, c.next_turn.ensures.gives_a_turn.given, v.piece)) (λ e. omega (arith, c.in_err-turn.ensures.over e, v.piece)) (same_now (o.state c.loop-lister.out)) c.in_err-turn.ensures.refused));
      stops = let v = c.loop-lister.invariant in first_stops (form.List c.args.stream_name.now) (limited stream_limit c.args.stream_name.now) [] (g.I.Inputs.state c.args.inputs.now)
          (g.I.Inputs.state c.next_turn.new.inputs) (event_of c.in_err-turn.field-0.0) refl
          asks.last asks.once
          (unread_about c.args.stream_name.now (event_of c.in_err-turn.field-0.0)
          (turn_unread (g.I.Inputs.state c.loop-lister.inputs) (g.I.Inputs.state c.next_turn.new.inputs) c.args.stream_name.now c.loop-lister.left
          (event_of c.in_err-turn.field-0.0) c.in_err-turn.ensures.refused));
      judges = tt;
      asks = asks.once;
      stays = asks.stays;
      no_fault = tt;
    })

pub returns-in_err-put_turn-clause-answered : goal.returns-in_err-put_turn-clause-answered
returns-in_err-put_turn-clause-answered g c = rw (handed_on c.from_residual-in_err-put_turn.result c.in_err-put_turn.field-0.0 c.from_residual-in_err-put_turn.ensures) (λ before after.
    let i = g.I.Inputs in
    let o = g.O.Sink in
    let contents = (i.state c.next_turn.new.inputs).contents in
    let old = (o.state c.args.out.now).written in
    let stream = c.args.stream_name.now in
    let C = CameIn (step_over (stream ∷ []) (i.state c.args.inputs.now) (i.state c.next_turn.new.inputs)) in
    let given = (i.state c.next_turn.new.inputs).given in
    let v = c.loop-lister.invariant in
    let taken = v.known.0 in
    let t = v.known.1.1 in
    let piece = take c.in_ok-turn.turn.count c.next_turn.new.buffer in
    let sel = taken_more (i.state c.loop-lister.inputs) (i.state c.next_turn.new.inputs) stream taken piece c.next_turn.ensures.gives_few.stays v.known.1.0 c.in_ok-turn.ensures.reads.takes.taken in
    let here = whole_later (i.state c.loop-lister.inputs).contents contents stream (preceded taken (i.state c.loop-lister.inputs).rest) c.next_turn.ensures.gives_few.stays.map v.known.1.0 in
    let now = (o.state c.put_turn.new.out).written in
    let Full : Type 0 = SinkFails (o.state c.args.out.now) (o.state c.put_turn.new.out) in
    let r = event_of c.in_err-put_turn.field-0.0 in
    let flash = before.flash.bytes in
    let end : ((r ≡ no_memory) × (now ≡ (o.state c.loop-lister.out).written)) ⊎ ((r ≡ writing_failed) × SinkFails (o.state c.loop-lister.out) (o.state c.put_turn.new.out)) → Ended (with_inputs contents flash) C stream Full old now (Err r)
    = elim [
      | inl h ↦
          let prefix_2 : ListsSoFar taken old now = subst (λ (w : Option (List ℕ)). ListsSoFar taken old w) (sym h.1) (stream_so_far c.loop-lister.lister old (o.state c.loop-lister.out).written taken t) in
          ends_same (with_inputs contents flash) C stream Full old now r no_memory h.0 (out_of_memory contents flash C stream taken (i.state c.loop-lister.inputs).rest Full old now here prefix_2)
      | inr h ↦
          let risen = risen_from (o.state c.args.out.now).faults (o.state c.loop-lister.out).faults (o.state c.put_turn.new.out).faults (omega (arith, v.written)) h.1 in
          let err : (left : List ℕ) → AreBytes (t.content ++ (piece ++ left)) → PutsPrefix (appended old t.line) (listing_of (t.content ++ (piece ++ left))) now
          = λ left fits. c.in_err-put_turn.ensures.prefix (appended old t.line) t.content left t.lists fits in
          ends_same (with_inputs contents flash) C stream Full old now r writing_failed h.0
          (write_failed contents flash C stream taken piece piece c.loop-lister.lister (i.state c.next_turn.new.inputs).rest Full old (o.state c.loop-lister.out).written now refl sel risen t c.are_bytes-in-loop-lister.ensures err)
    ] in
    let n = c.in_ok-turn.turn.count in
    let rest = (i.state c.next_turn.new.inputs).rest in
    let few : length piece ≤ turn_size = omega (arith, length-take-le n c.next_turn.new.buffer c.in_ok-turn.ensures.reads.within_buffer, c.in_ok-turn.ensures.reads.within_buffer, c.next_turn.ensures.length, v.piece) in
    let known = stream_whole taken t.line t.content (t.listing []) in
    let near = turn_near contents stream taken piece t.line t.content c.loop-lister.lister rest old (o.state c.loop-lister.out).written now sel t.short_header few known t.lists c.put_turn.ensures.extends in
    let gives = turn_given contents stream taken t.line t.content given c.loop-lister.lister (i.state c.loop-lister.inputs).rest old (o.state c.loop-lister.out).written now here
    (omega (arith, v.known.1.3.given, c.next_turn.ensures.gives_a_turn.given, v.piece)) known t.lists c.put_turn.ensures.extends in
    let asks = asks_turn (i.state c.args.inputs.now) (i.state c.loop-lister.inputs) (i.state c.next_turn.new.inputs) stream v.known.0 stream_limit c.loop-lister.left v.known.1.3 v.known.1.2 v.once v.inputs c.next_turn.ensures.gives_few in
    record {
      ends = list_ends stream (record before { inputs = i.state c.args.inputs.now; out = o.state c.args.out.now })
          (record after { inputs = i.state c.next_turn.new.inputs; out = o.state c.put_turn.new.out }) (Err r) (end c.in_err-put_turn.ensures.refused)
          (stays_near r stream (record before { inputs = i.state c.args.inputs.now; out = o.state c.args.out.now }) (record after { inputs = i.state c.next_turn.new.inputs; out = o.state c.put_turn.new.out })
          (unwritten_near contents stream rest old now _ given r gives near (why_weaker c.in_err-put_turn.ensures.refused)));
      stops = put_stops (form.List c.args.stream_name.now) (g.I.Inputs.state c.args.inputs.now) (g.I.Inputs.state c.next_turn.new.inputs) (event_of c.in_err-put_turn.field-0.0) c.in_err-put_turn.ensures.refused;
      judges = tt;
      asks = asks.once;
      stays = asks.stays;
      no_fault = tt;
    })

pub returns-then-turn-clause-answered : goal.returns-then-turn-clause-answered
returns-then-turn-clause-answered g c = λ before after.
    let i = g.I.Inputs in
    let o = g.O.Sink in
    let contents = (i.state c.next_turn.new.inputs).contents in
    let old = (o.state c.args.out.now).written in
    let stream = c.args.stream_name.now in
    let C = CameIn (step_over (stream ∷ []) (i.state c.args.inputs.now) (i.state c.next_turn.new.inputs)) in
    let given = (i.state c.next_turn.new.inputs).given in
    let v = c.loop-lister.invariant in
    let taken = v.known.0 in
    let t = v.known.1.1 in
    let n = c.in_ok-turn.turn.count in
    let piece = take n c.next_turn.new.buffer in
    let sel = taken_more (i.state c.loop-lister.inputs) (i.state c.next_turn.new.inputs) stream taken piece c.next_turn.ensures.gives_few.stays v.known.1.0 c.in_ok-turn.ensures.reads.takes.taken in
    let here = whole_later (i.state c.loop-lister.inputs).contents contents stream (preceded taken (i.state c.loop-lister.inputs).rest) c.next_turn.ensures.gives_few.stays.map v.known.1.0 in
    let lists : ListsInTurns c.put_turn.new.lister (appended old t.line) (o.state c.put_turn.new.out).written (t.content ++ piece) = c.in_ok-put_turn.ensures.listed (appended old t.line) t.content t.lists in
    let listing = goes_on taken piece t.line t.content t.listing in
    let now = (o.state c.put_end.new.out).written in
    let Full : Type 0 = SinkFails (o.state c.args.out.now) (o.state c.put_end.new.out) in
    let size : length (taken ++ piece) ≡ length taken + n = length-append taken piece ∙ ap (λ k. length taken + k) (length-take-le n c.next_turn.new.buffer c.in_ok-turn.ensures.reads.within_buffer) in
    let short : length (taken ++ piece) ≤ stream_limit = omega (arith, size, c.in_ok-turn.ensures.reads.within_limit, v.known.1.2) in
    let end = c.in_ok-turn.ensures.reads.end c.if-turn.true in
    let text = t.line ++ listing_of (t.content ++ piece) in
    let same = stream_whole (taken ++ piece) t.line (t.content ++ piece) (listing []) in
    let flash = before.flash.bytes in
    let ok = on_ok_weaker c.put_end.result (λ h. (
      text,
      listed_whole contents flash C stream (taken ++ piece) text (i.state c.next_turn.new.inputs).rest Full old now sel end same short
          (line_then old now t.line (listing_of (t.content ++ piece)) (h (appended old t.line) (t.content ++ piece) lists)),
    )) c.put_end.ensures.listed in
    let mid = (o.state c.put_turn.new.out).written in
    let known : ListsStream c.put_turn.new.lister old mid (taken ++ piece) = record { line = t.line; content = t.content ++ piece; lists = lists; listing = listing; short_header = omega (arith, t.short_header, length-append taken piece, length-append t.content piece) } in
    let err = both_err c.put_end.result (λ r. (first : Option (List ℕ)) (bytes : List ℕ) → ListsInTurns c.put_turn.new.lister first mid bytes → PutsPrefix first (listing_of bytes) now)
    (λ r. ((event_of r ≡ no_memory) × (now ≡ mid)) ⊎ ((event_of r ≡ writing_failed) × SinkFails (o.state c.put_turn.new.out) (o.state c.put_end.new.out)))
    (λ r. Ended (with_inputs contents flash) C stream Full old now (Err (event_of r)))
    (λ r p w.
    let prefix : PutsListed (taken ++ piece) old now = (text, (same, line_prefix old now t.line (listing_of (t.content ++ piece)) (p (appended old t.line) (t.content ++ piece) lists))) in
    let end : ((event_of r ≡ no_memory) × (now ≡ mid)) ⊎ ((event_of r ≡ writing_failed) × SinkFails (o.state c.put_turn.new.out) (o.state c.put_end.new.out)) → Ended (with_inputs contents flash) C stream Full old now (Err (event_of r))
    = elim [
      | inl h ↦
          let so_far : ListsSoFar (taken ++ piece) old now = subst (λ (x : Option (List ℕ)). ListsSoFar (taken ++ piece) old x) (sym h.1) (stream_so_far c.put_turn.new.lister old mid (taken ++ piece) known) in
          ends_same (with_inputs contents flash) C stream Full old now (event_of r) no_memory h.0 (out_of_memory contents flash C stream (taken ++ piece) (i.state c.next_turn.new.inputs).rest Full old now sel so_far)
      | inr h ↦
          let risen = risen_from (o.state c.args.out.now).faults (o.state c.put_turn.new.out).faults (o.state c.put_end.new.out).faults (omega (arith, v.written, c.put_turn.ensures.counts.faults)) h.1 in
          ends_same (with_inputs contents flash) C stream Full old now (event_of r) writing_failed h.0 (end_failed contents flash C stream (taken ++ piece) (i.state c.next_turn.new.inputs).rest Full old now sel (c.in_ok-turn.ensures.reads.end c.if-turn.true) risen prefix)
    ] in
    end w)
    c.put_end.ensures.prefix c.put_end.ensures.refused in
    let few : length piece ≤ turn_size = omega (arith, length-take-le n c.next_turn.new.buffer c.in_ok-turn.ensures.reads.within_buffer, c.in_ok-turn.ensures.reads.within_buffer, c.next_turn.ensures.length, v.piece) in
    let longer = longer_twice (o.state c.loop-lister.out).written (o.state c.put_turn.new.out).written now c.put_turn.ensures.extends c.put_end.ensures.extends in
    let whole = stream_whole taken t.line t.content (t.listing []) in
    let near = turn_near contents stream taken piece t.line t.content c.loop-lister.lister (i.state c.next_turn.new.inputs).rest old (o.state c.loop-lister.out).written now sel t.short_header few whole t.lists longer in
    let gives = turn_given contents stream taken t.line t.content given c.loop-lister.lister (i.state c.loop-lister.inputs).rest old (o.state c.loop-lister.out).written now here (omega (arith, v.known.1.3.given, c.next_turn.ensures.gives_a_turn.given, v.piece)) whole t.lists longer in
    let close = err_weaker c.put_end.result (λ r w. stays_near (event_of r) stream (record before { inputs = i.state c.args.inputs.now; out = o.state c.args.out.now })
    (record after { inputs = i.state c.next_turn.new.inputs; out = o.state c.put_end.new.out })
    (unwritten_near contents stream (i.state c.next_turn.new.inputs).rest old now _ given (event_of r) gives near (why_weaker w))) c.put_end.ensures.refused in
    let asks = asks_turn (i.state c.args.inputs.now) (i.state c.loop-lister.inputs) (i.state c.next_turn.new.inputs) stream v.known.0 stream_limit c.loop-lister.left v.known.1.3 v.known.1.2 v.once v.inputs c.next_turn.ensures.gives_few in
    record {
      ends = list_seen stream (record before { inputs = i.state c.args.inputs.now; out = o.state c.args.out.now }) (record after { inputs = i.state c.next_turn.new.inputs; out = o.state c.put_end.new.out }) c.put_end.result ok err close;
      stops = written_stops _ _ (form.List c.args.stream_name.now) (g.I.Inputs.state c.args.inputs.now) (g.I.Inputs.state c.next_turn.new.inputs) c.put_end.result c.put_end.ensures.refused;
      judges = tt;
      asks = asks.once;
      stays = asks.stays;
      no_fault = at_ok (result_by (λ _. false) c.put_end.result) (no_fault_on _ _ _ v.no_fault c.in_ok-turn.ensures.no_fault);
    }

pub loop-lister-preserved : goal.loop-lister-preserved
loop-lister-preserved g c =
    let i = g.I.Inputs in
    let o = g.O.Sink in
    let contents = (i.state c.next_turn.new.inputs).contents in
    let old = (o.state c.args.out.now).written in
    let stream = c.args.stream_name.now in
    let v = c.loop-lister.invariant in
    let taken = v.known.0 in
    let t = v.known.1.1 in
    let n = c.in_ok-turn.turn.count in
    let piece = take n c.next_turn.new.buffer in
    let sel = taken_more (i.state c.loop-lister.inputs) (i.state c.next_turn.new.inputs) stream taken piece c.next_turn.ensures.gives_few.stays v.known.1.0 c.in_ok-turn.ensures.reads.takes.taken in
    let lists : ListsInTurns c.put_turn.new.lister (appended old t.line) (o.state c.put_turn.new.out).written (t.content ++ piece) = c.in_ok-put_turn.ensures.listed (appended old t.line) t.content t.lists in
    let listing = goes_on taken piece t.line t.content t.listing in
    let size : length (taken ++ piece) ≡ length taken + n = length-append taken piece ∙ ap (λ k. length taken + k) (length-take-le n c.next_turn.new.buffer c.in_ok-turn.ensures.reads.within_buffer) in
    let full : n ≡ turn_size = c.in_ok-turn.ensures.reads.fills c.if-turn.false ∙ c.next_turn.ensures.length ∙ v.piece in
    record {
      selected = c.in_ok-turn.ensures.reads.takes.selected;
      inputs = stays_on _ _ _ v.inputs c.next_turn.ensures.gives_few.stays;
      no_fault = no_fault_on _ _ _ v.no_fault c.in_ok-turn.ensures.no_fault;
      once = once_on _ _ _ v.once c.in_ok-turn.ensures.reads.takes.selects (c.in_ok-turn.ensures.reads.no_end_read c.if-turn.false);
      written = c.in_ok-put_turn.ensures.no_fault ∙ v.written;
      left = omega (arith, v.left);
      piece = omega (arith, c.next_turn.ensures.length, v.piece);
      known = (
        taken ++ piece,
        (
          sel,
          record { line = t.line; content = t.content ++ piece; lists = lists; listing = listing; short_header = omega (arith, t.short_header, length-append taken piece, length-append t.content piece) },
          omega (arith, size, v.known.1.2, c.in_ok-turn.ensures.reads.within_limit),
          at_on stream taken piece (i.state c.loop-lister.inputs)
              (i.state c.next_turn.new.inputs) v.known.1.3 c.in_ok-turn.ensures.reads.takes c.next_turn.ensures.gives_few.asked,
        ),
      );
    }

pub loop-lister-init : goal.loop-lister-init
loop-lister-init g c =
    let i = g.I.Inputs in
    let o = g.O.Sink in
    let contents = (i.state c.read_beginning.new.inputs).contents in
    let old = (o.state c.args.out.now).written in
    let stream = c.args.stream_name.now in
    let now = i.state c.read_beginning.new.inputs in
    let f = c.in_ok-beginning.ensures.begins in
    let taken = c.in_ok-beginning.beginning.bytes.items in
    let last = c.in_ok-beginning.beginning.last in
    let line = c.deref-line.result.now in
    let start = c.in_ok-beginning.beginning.start in
    let bytes = c.deref.result.now in
    let content = take (length bytes - start) (drop start bytes) in
    let cut : content ≡ drop start taken = take_all (length bytes - start) (drop start bytes) (omega (arith, length-drop start bytes)) ∙ ap (drop start) c.deref.ensures.value in
    let opened = i.state c.open.new.inputs in
    let sel = rest_on opened.contents contents stream taken opened.rest now.rest c.read_beginning.ensures.gives_few.stays.map f.reads.takes.taken c.in_ok-open.ensures.opened.found in
    let listing : (left : List ℕ) → stream_listing (taken ++ left) ≡ Ok (line ++ listing_of (content ++ left)) = λ left.
    f.begins left (λ l. let never : false ≡ true = sym c.if-beginning.false ∙ l in absurd cc)
    ∙ ap (λ (l : List ℕ). Ok (l ++ listing_of (drop start taken ++ left))) (sym c.deref-line.ensures.value) ∙ ap (λ (s : List ℕ). Ok (line ++ listing_of (s ++ left))) (sym cut) in
    record {
      selected = f.reads.takes.selected;
      inputs = stays_on _ _ _ c.open.ensures.asks.stays c.read_beginning.ensures.gives_few.stays;
      no_fault = no_fault_on _ _ _ c.in_ok-open.ensures.no_fault c.in_ok-beginning.ensures.no_fault;
      written = c.in_ok-put_beginning.ensures.no_fault;
      once = once_on _ _ _ c.open.ensures.asks.once c.read_beginning.ensures.gives_few.selects (f.no_end_read c.if-beginning.false);
      left = omega arith;
      piece = refl;
      known = (
        taken,
        (
          sel,
          record { line = line; content = content; lists = c.in_ok-put_beginning.ensures.listed; listing = listing; short_header = omega (arith, f.short) },
          omega (arith, f.short, c.len-left.ensures),
          record {
            asked = asked_on stream (i.state c.open.new.inputs) now c.open.ensures.asks.named f.reads.asked;
            given =
                omega (arith, c.open.ensures.asks.named.given, f.reads.takes.given);
          },
        ),
      );
    }

-- ---- the output fails last

pub returns-in_err-open-clause-failed_last : goal.returns-in_err-open-clause-failed_last
returns-in_err-open-clause-failed_last g c = rw (handed_on c.from_residual.result c.in_err-open.field-0.0 c.from_residual.ensures) (inr (inr refl))

pub returns-in_err-beginning-clause-failed_last : goal.returns-in_err-beginning-clause-failed_last
returns-in_err-beginning-clause-failed_last g c = rw (handed_on c.from_residual-in_err-beginning.result c.in_err-beginning.field-0.0 c.from_residual-in_err-beginning.ensures) (inr (inr refl))

pub returns-in_err-put_beginning-clause-failed_last : goal.returns-in_err-put_beginning-clause-failed_last
returns-in_err-put_beginning-clause-failed_last g c = rw (handed_on c.from_residual-in_err-put_beginning.result c.in_err-put_beginning.field-0.0 c.from_residual-in_err-put_beginning.ensures)
    (elim c.in_err-put_beginning.ensures.refused [ inl h ↦ inl h | inr h ↦ inr (inl h.0) ])

pub returns-then-beginning-clause-failed_last : goal.returns-then-beginning-clause-failed_last
returns-then-beginning-clause-failed_last g c =
    let o = g.O.Sink in
    fails_last (o.state c.args.out.now) (o.state c.args.out.now) (o.state c.put_short.new.out) c.put_short.result c.put_short.ensures.refused c.put_short.ensures.no_fault

pub returns-in_err-turn-clause-failed_last : goal.returns-in_err-turn-clause-failed_last
returns-in_err-turn-clause-failed_last g c = rw (handed_on c.from_residual-in_err-turn.result c.in_err-turn.field-0.0 c.from_residual-in_err-turn.ensures) (inr (inr c.loop-lister.invariant.written))

pub returns-in_err-put_turn-clause-failed_last : goal.returns-in_err-put_turn-clause-failed_last
returns-in_err-put_turn-clause-failed_last g c = rw (handed_on c.from_residual-in_err-put_turn.result c.in_err-put_turn.field-0.0 c.from_residual-in_err-put_turn.ensures)
    (let o = g.O.Sink in unlisted_last (o.state c.args.out.now) (o.state c.loop-lister.out) (o.state c.put_turn.new.out) (event_of c.in_err-put_turn.field-0.0) c.in_err-put_turn.ensures.refused)

pub returns-then-turn-clause-failed_last : goal.returns-then-turn-clause-failed_last
returns-then-turn-clause-failed_last g c =
    let o = g.O.Sink in
    fails_last (o.state c.args.out.now) (o.state c.put_turn.new.out) (o.state c.put_end.new.out) c.put_end.result c.put_end.ensures.refused
    (on_ok_weaker c.put_end.result (λ same. same ∙ c.in_ok-put_turn.ensures.no_fault ∙ c.loop-lister.invariant.written) c.put_end.ensures.no_fault)
