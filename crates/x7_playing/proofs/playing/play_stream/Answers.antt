use Rattle.std.proofs.Common.{◌≡◌, ℕ, List, [], ◌∷◌, ◌++◌, ◌-◌, ◌≤◌, false, Ok, drop, length, length-append, length-take-le, take, ap, arith, inl, inr, subst, sym, ◌∙◌}
use Rattle.x7_header.specs.Header.{longest_header}
use Rattle.std.proofs.lemmas.List.{length-take}
use Rattle.std.proofs.lemmas.Result.{on_ok_weaker}
use Rattle.x7_words.specs.Input.{preceded}
use Rattle.x7_words.proofs.InputLemmas.{rest_on, stays_on}
use Rattle.x7_words.specs.Word.{AreBytes}
use Rattle.x7_forms.specs.Event.{event_of}
use Rattle.x7_forms.specs.Known.{stream_known, with_inputs}
use Rattle.x7_playing.specs.Playing.{PlaysOn}
use Rattle.x7_forms.specs.Step.{CameIn, IsCaused, step_over}
use Rattle.x7_forms.proofs.ResultLemmas.{handed_on, err_weaker, ok_weaker, from_ok}
use Rattle.x7_playing.proofs.PlayerLemmas.{may_less, may_on, on_on}
use Rattle.x7_forms.proofs.ReadLemmas.{header_refused, no_fault_on, reads_first, slice_of, stream_read, stream_refused, stream_unopened, stream_unread, turn_unread, unopened_unread, want_or_rest, want_unread, whole_later}
use Rattle.x7_forms.proofs.AskedLemmas.{asks_opened, asks_read, asks_rest}
use Rattle.x7_playing.proofs.playing.play_stream.Goals as goal

pub play-requires : goal.play-requires
play-requires g c =
    let count = c.in_ok-first.first.count in
    let start = c.in-Ok.start in
    let slice = take (count - start) (drop start c.next_turn.new.buffer) in
    may_less c.args.player.now c.args.limit (length slice) (omega (arith, c.in_ok-first.ensures.reads.within_limit, length-take (count - start) (drop start c.next_turn.new.buffer))) c.requires.may_play

pub play_rest-requires-clause-may_play : goal.play_rest-requires-clause-may_play
play_rest-requires-clause-may_play g c =
    let count = c.in_ok-first.first.count in
    let start = c.in-Ok.start in
    let slice = take (count - start) (drop start c.next_turn.new.buffer) in
    let plays : PlaysOn c.args.player.now c.play.new.self slice = from_ok c.play.result (sym c.is_err.ensures.value ∙ c.if-is_err.false) c.play.ensures.played in
    may_on c.args.player.now c.play.new.self slice c.args.limit (c.args.limit - count) (omega (arith, c.in_ok-first.ensures.reads.within_limit, length-take (count - start) (drop start c.next_turn.new.buffer))) plays c.requires.may_play

pub returns-else-is_err-clause-played : goal.returns-else-is_err-clause-played
returns-else-is_err-clause-played g c =
    let i = g.I.Inputs in
    let contents = (i.state c.play_rest.new.inputs).contents in
    let name = c.args.name.now in
    let count = c.in_ok-first.first.count in
    let buf = c.next_turn.new.buffer in
    let first = take count buf in
    let size : length first ≡ count = length-take-le count buf c.in_ok-first.ensures.reads.within_buffer in
    let fits : AreBytes first = c.are_bytes.ensures in
    let within : length first ≤ c.args.limit = omega (arith, size, c.in_ok-first.ensures.reads.within_limit) in
    let long : c.in_ok-first.first.last ≡ false → longest_header ≤ length first = λ e. omega (arith, size, c.in_ok-first.ensures.reads.fills e, c.next_turn.ensures.length, c.requires.buffer) in
    let opened = i.state c.open.new.inputs in
    let turned = i.state c.next_turn.new.inputs in
    let begins = rest_on opened.contents turned.contents name first opened.rest turned.rest c.next_turn.ensures.gives_few.stays.map c.in_ok-first.ensures.reads.takes.taken c.in_ok-open.ensures.opened.found in
    let select = whole_later turned.contents contents name (preceded first turned.rest) c.play_rest.ensures.gives_few.stays.map begins in
    let start = c.in-Ok.start in
    let slice = take (count - start) (drop start buf) in
    let same : drop start first ≡ slice = slice_of start count buf (omega (arith, size, c.in-Ok.ensures.within)) in
    let plays : PlaysOn c.args.player.now c.play.new.self slice = from_ok c.play.result (sym c.is_err.ensures.value ∙ c.if-is_err.false) c.play.ensures.played in
    let C = CameIn (step_over (name ∷ []) (i.state c.args.inputs.now) (i.state c.play_rest.new.inputs)) in
    ok_weaker c.play_rest.result (λ left p.
    let more = p.0 in
    let bytes : drop start first ++ more ≡ slice ++ more = ap (λ x. x ++ more) same in record {
      bytes = slice ++ more;
      within = omega (arith, p.1, within, size, length-append slice more, length-take (count - start) (drop start buf));
      plays = on_on c.args.player.now c.play.new.self c.play_rest.new.player slice more plays p.2;
      reads = λ flash. subst (λ (bytes : List ℕ). IsCaused (with_inputs contents flash) C (λ t. stream_known t c.args.limit name) (Ok (record { bytes = bytes; room = left }))) bytes
          (stream_read contents flash C name first more (drop start first) (i.state c.next_turn.new.inputs).rest (i.state c.play_rest.new.inputs).rest
          c.args.limit left c.in_ok-first.first.last select p.3.0 p.3.1 c.in_ok-first.ensures.reads.end long fits (omega (arith, p.1, size)) within c.in-Ok.ensures.data);
    }) c.play_rest.ensures.played

pub returns-in_err-open-clause-refused : goal.returns-in_err-open-clause-refused
returns-in_err-open-clause-refused g c = rw (handed_on c.from_residual.result c.in_err-open.field-0.0 c.from_residual.ensures) (λ flash.
    let i = g.I.Inputs in
    stream_unopened (i.state c.args.inputs.now) (i.state c.open.new.inputs) flash c.args.name.now c.args.limit (event_of c.in_err-open.field-0.0) c.in_err-open.ensures.refused c.open.ensures.asks.named)

pub returns-in_err-first-clause-refused : goal.returns-in_err-first-clause-refused
returns-in_err-first-clause-refused g c = rw (handed_on c.from_residual-in_err-first.result c.in_err-first.field-0.0 c.from_residual-in_err-first.ensures) (λ flash.
    let i = g.I.Inputs in
    stream_unread (i.state c.args.inputs.now) (i.state c.open.new.inputs) (i.state c.next_turn.new.inputs) flash c.args.name.now c.args.limit (event_of c.in_err-first.field-0.0)
    c.open.ensures.asks.stays c.next_turn.ensures.gives_few.stays c.in_ok-open.ensures.opened.found c.open.ensures.asks.named (inr (c.in_err-first.ensures.refused, c.next_turn.ensures.gives_few.asked)))

pub returns-else-is_err-clause-refused : goal.returns-else-is_err-clause-refused
returns-else-is_err-clause-refused g c =
    let i = g.I.Inputs in
    let count = c.in_ok-first.first.count in
    let first = take count c.next_turn.new.buffer in
    let size : length first ≡ count = length-take-le count c.next_turn.new.buffer c.in_ok-first.ensures.reads.within_buffer in
    let reads = reads_first (i.state c.open.new.inputs) (i.state c.next_turn.new.inputs) first c.in_ok-first.ensures.reads.takes c.next_turn.ensures.gives_few.asked c.next_turn.ensures.gives_few.stays in
    err_weaker c.play_rest.result (λ r h. λ flash.
    stream_unread (i.state c.args.inputs.now) (i.state c.open.new.inputs) (i.state c.play_rest.new.inputs) flash c.args.name.now c.args.limit (event_of r)
    c.open.ensures.asks.stays (stays_on _ _ _ c.next_turn.ensures.gives_few.stays c.play_rest.ensures.gives_few.stays) c.in_ok-open.ensures.opened.found c.open.ensures.asks.named
    (want_or_rest (i.state c.open.new.inputs) (i.state c.next_turn.new.inputs) (i.state c.play_rest.new.inputs) c.args.name.now first c.args.limit (c.args.limit - count) (event_of r) c.play_rest.ensures.gives_few.stays reads (omega (arith, size, c.in_ok-first.ensures.reads.within_limit)) h)) c.play_rest.ensures.refused

pub returns-in_err-skip_rest-in-Err-clause-refused : goal.returns-in_err-skip_rest-in-Err-clause-refused
returns-in_err-skip_rest-in-Err-clause-refused g c = rw (handed_on c.from_residual-in_err-skip_rest-in-Err.result c.in_err-skip_rest-in-Err.field-0.0 c.from_residual-in_err-skip_rest-in-Err.ensures) (λ flash.
    let i = g.I.Inputs in
    let count = c.in_ok-first.first.count in
    let first = take count c.next_turn.new.buffer in
    let size : length first ≡ count = length-take-le count c.next_turn.new.buffer c.in_ok-first.ensures.reads.within_buffer in
    let reads = reads_first (i.state c.open.new.inputs) (i.state c.next_turn.new.inputs) first c.in_ok-first.ensures.reads.takes c.next_turn.ensures.gives_few.asked c.next_turn.ensures.gives_few.stays in
    stream_unread (i.state c.args.inputs.now) (i.state c.open.new.inputs) (i.state c.skip_rest.new.inputs) flash c.args.name.now c.args.limit (event_of c.in_err-skip_rest-in-Err.field-0.0)
    c.open.ensures.asks.stays (stays_on _ _ _ c.next_turn.ensures.gives_few.stays c.skip_rest.ensures.gives_few.stays) c.in_ok-open.ensures.opened.found c.open.ensures.asks.named
    (want_or_rest (i.state c.open.new.inputs) (i.state c.next_turn.new.inputs) (i.state c.skip_rest.new.inputs)
    c.args.name.now first c.args.limit (c.args.limit - count) (event_of c.in_err-skip_rest-in-Err.field-0.0) c.skip_rest.ensures.gives_few.stays reads (omega (arith, size, c.in_ok-first.ensures.reads.within_limit)) (inr c.in_err-skip_rest-in-Err.ensures.refused)))

pub returns-in_ok-skip_rest-in-Err-clause-refused : goal.returns-in_ok-skip_rest-in-Err-clause-refused
returns-in_ok-skip_rest-in-Err-clause-refused g c = λ flash.
    let i = g.I.Inputs in
    let contents = (i.state c.skip_rest.new.inputs).contents in
    let name = c.args.name.now in
    let count = c.in_ok-first.first.count in
    let buf = c.next_turn.new.buffer in
    let first = take count buf in
    let size : length first ≡ count = length-take-le count buf c.in_ok-first.ensures.reads.within_buffer in
    let fits : AreBytes first = c.are_bytes.ensures in
    let within : length first ≤ c.args.limit = omega (arith, size, c.in_ok-first.ensures.reads.within_limit) in
    let long : c.in_ok-first.first.last ≡ false → longest_header ≤ length first = λ e. omega (arith, size, c.in_ok-first.ensures.reads.fills e, c.next_turn.ensures.length, c.requires.buffer) in
    let opened = i.state c.open.new.inputs in
    let turned = i.state c.next_turn.new.inputs in
    let begins = rest_on opened.contents turned.contents name first opened.rest turned.rest c.next_turn.ensures.gives_few.stays.map c.in_ok-first.ensures.reads.takes.taken c.in_ok-open.ensures.opened.found in
    let select = whole_later turned.contents contents name (preceded first turned.rest) c.skip_rest.ensures.gives_few.stays.map begins in
    let C = CameIn (step_over (name ∷ []) (i.state c.args.inputs.now) (i.state c.skip_rest.new.inputs)) in
    let p = c.in_ok-skip_rest-in-Err.ensures.read in
    stream_refused contents flash C name first p.0 (i.state c.next_turn.new.inputs).rest (i.state c.skip_rest.new.inputs).rest
    c.args.limit c.in_ok-first.first.last (event_of c.in-Err.refusal) select p.2.0 p.2.1 c.in_ok-first.ensures.reads.end long fits (omega (arith, p.1, size)) within c.in-Err.ensures.data

pub returns-in_err-open-clause-named : goal.returns-in_err-open-clause-named
returns-in_err-open-clause-named g c = rw (handed_on c.from_residual.result c.in_err-open.field-0.0 c.from_residual.ensures) (let i = g.I.Inputs in
    inl (unopened_unread (i.state c.args.inputs.now) (i.state c.open.new.inputs) c.args.name.now (event_of c.in_err-open.field-0.0) c.in_err-open.ensures.refused))

pub returns-in_err-first-clause-named : goal.returns-in_err-first-clause-named
returns-in_err-first-clause-named g c = rw (handed_on c.from_residual-in_err-first.result c.in_err-first.field-0.0 c.from_residual-in_err-first.ensures) (let i = g.I.Inputs in
    inl (turn_unread (i.state c.open.new.inputs) (i.state c.next_turn.new.inputs) c.args.name.now c.args.limit (event_of c.in_err-first.field-0.0) c.in_err-first.ensures.refused))

pub returns-else-is_err-clause-named : goal.returns-else-is_err-clause-named
returns-else-is_err-clause-named g c =
    let i = g.I.Inputs in
    err_weaker c.play_rest.result (λ r h. inl (want_unread (i.state c.next_turn.new.inputs) (i.state c.play_rest.new.inputs) c.args.name.now (c.args.limit - c.in_ok-first.first.count) (event_of r) h)) c.play_rest.ensures.refused

pub returns-in_err-skip_rest-in-Err-clause-named : goal.returns-in_err-skip_rest-in-Err-clause-named
returns-in_err-skip_rest-in-Err-clause-named g c = rw (handed_on c.from_residual-in_err-skip_rest-in-Err.result c.in_err-skip_rest-in-Err.field-0.0 c.from_residual-in_err-skip_rest-in-Err.ensures) (let i = g.I.Inputs in
    inl (turn_unread (i.state c.next_turn.new.inputs) (i.state c.skip_rest.new.inputs) c.args.name.now (c.args.limit - c.in_ok-first.first.count) (event_of c.in_err-skip_rest-in-Err.field-0.0) c.in_err-skip_rest-in-Err.ensures.refused.0))

pub returns-in_ok-skip_rest-in-Err-clause-named : goal.returns-in_ok-skip_rest-in-Err-clause-named
returns-in_ok-skip_rest-in-Err-clause-named g c =
    header_refused c.args.name.now (take c.in_ok-first.first.count c.next_turn.new.buffer) (event_of c.in-Err.refusal) c.in-Err.ensures.data

pub returns-else-is_err-clause-no_fault : goal.returns-else-is_err-clause-no_fault
returns-else-is_err-clause-no_fault g c =
    let i = g.I.Inputs in
    let turned = no_fault_on (i.state c.args.inputs.now) (i.state c.open.new.inputs) (i.state c.next_turn.new.inputs) c.in_ok-open.ensures.no_fault c.in_ok-first.ensures.no_fault in
    on_ok_weaker c.play_rest.result (λ n. no_fault_on (i.state c.args.inputs.now) (i.state c.next_turn.new.inputs) (i.state c.play_rest.new.inputs) turned n) c.play_rest.ensures.no_fault

pub returns-in_err-open-clause-asks : goal.returns-in_err-open-clause-asks
returns-in_err-open-clause-asks g c = asks_opened _ _ c.args.name.now c.args.limit c.open.ensures.asks

pub returns-in_err-first-clause-asks : goal.returns-in_err-first-clause-asks
returns-in_err-first-clause-asks g c = asks_read _ _ _ c.args.name.now c.args.limit c.open.ensures.asks c.next_turn.ensures.gives_few

pub returns-then-is_err-clause-asks : goal.returns-then-is_err-clause-asks
returns-then-is_err-clause-asks g c = asks_read _ _ _ c.args.name.now c.args.limit c.open.ensures.asks c.next_turn.ensures.gives_few

pub returns-else-is_err-clause-asks : goal.returns-else-is_err-clause-asks
returns-else-is_err-clause-asks g c =
    let i = g.I.Inputs in
    let count = c.in_ok-first.first.count in
    let first = take count c.next_turn.new.buffer in
    let size : length first ≡ count = length-take-le count c.next_turn.new.buffer c.in_ok-first.ensures.reads.within_buffer in
    let reads = reads_first (i.state c.open.new.inputs) (i.state c.next_turn.new.inputs) first c.in_ok-first.ensures.reads.takes c.next_turn.ensures.gives_few.asked c.next_turn.ensures.gives_few.stays in
    asks_rest c.in_ok-first.first.last (i.state c.args.inputs.now) (i.state c.open.new.inputs) (i.state c.next_turn.new.inputs) (i.state c.play_rest.new.inputs) c.args.name.now first c.args.limit (c.args.limit - count)
    c.open.ensures.asks reads (omega (arith, size, c.in_ok-first.ensures.reads.within_limit)) c.next_turn.ensures.gives_few c.in_ok-first.ensures.reads.no_end_read c.play_rest.ensures.gives_few c.play_rest.ensures.no_end_read

pub returns-in_err-skip_rest-in-Err-clause-asks : goal.returns-in_err-skip_rest-in-Err-clause-asks
returns-in_err-skip_rest-in-Err-clause-asks g c =
    let i = g.I.Inputs in
    let count = c.in_ok-first.first.count in
    let first = take count c.next_turn.new.buffer in
    let size : length first ≡ count = length-take-le count c.next_turn.new.buffer c.in_ok-first.ensures.reads.within_buffer in
    let reads = reads_first (i.state c.open.new.inputs) (i.state c.next_turn.new.inputs) first c.in_ok-first.ensures.reads.takes c.next_turn.ensures.gives_few.asked c.next_turn.ensures.gives_few.stays in
    asks_rest c.in_ok-first.first.last (i.state c.args.inputs.now) (i.state c.open.new.inputs) (i.state c.next_turn.new.inputs) (i.state c.skip_rest.new.inputs) c.args.name.now first c.args.limit (c.args.limit - count)
    c.open.ensures.asks reads (omega (arith, size, c.in_ok-first.ensures.reads.within_limit)) c.next_turn.ensures.gives_few c.in_ok-first.ensures.reads.no_end_read c.skip_rest.ensures.gives_few c.skip_rest.ensures.no_end_read

pub returns-in_ok-skip_rest-in-Err-clause-asks : goal.returns-in_ok-skip_rest-in-Err-clause-asks
returns-in_ok-skip_rest-in-Err-clause-asks g c =
    let i = g.I.Inputs in
    let count = c.in_ok-first.first.count in
    let first = take count c.next_turn.new.buffer in
    let size : length first ≡ count = length-take-le count c.next_turn.new.buffer c.in_ok-first.ensures.reads.within_buffer in
    let reads = reads_first (i.state c.open.new.inputs) (i.state c.next_turn.new.inputs) first c.in_ok-first.ensures.reads.takes c.next_turn.ensures.gives_few.asked c.next_turn.ensures.gives_few.stays in
    asks_rest c.in_ok-first.first.last (i.state c.args.inputs.now) (i.state c.open.new.inputs) (i.state c.next_turn.new.inputs) (i.state c.skip_rest.new.inputs) c.args.name.now first c.args.limit (c.args.limit - count)
    c.open.ensures.asks reads (omega (arith, size, c.in_ok-first.ensures.reads.within_limit)) c.next_turn.ensures.gives_few c.in_ok-first.ensures.reads.no_end_read c.skip_rest.ensures.gives_few c.skip_rest.ensures.no_end_read

pub next_turn-requires-clause-selected : goal.next_turn-requires-clause-selected
next_turn-requires-clause-selected g c = c.in_ok-open.ensures.opened.selected

pub next_turn-requires-clause-not_empty : goal.next_turn-requires-clause-not_empty
next_turn-requires-clause-not_empty g c = omega (arith, c.requires.buffer)

pub overflow_sub-left : goal.overflow_sub-left
overflow_sub-left g c = c.in_ok-first.ensures.reads.within_limit

pub play_rest-requires-clause-selected : goal.play_rest-requires-clause-selected
play_rest-requires-clause-selected g c = c.in_ok-first.ensures.reads.takes.selected

pub play_rest-requires-clause-buffer : goal.play_rest-requires-clause-buffer
play_rest-requires-clause-buffer g c = c.next_turn.ensures.length ∙ c.requires.buffer

pub play_rest-requires-clause-end : goal.play_rest-requires-clause-end
play_rest-requires-clause-end g c = c.in_ok-first.ensures.reads.end

pub skip_rest-requires-clause-selected : goal.skip_rest-requires-clause-selected
skip_rest-requires-clause-selected g c = c.in_ok-first.ensures.reads.takes.selected

pub skip_rest-requires-clause-not_empty : goal.skip_rest-requires-clause-not_empty
skip_rest-requires-clause-not_empty g c = omega (arith, c.next_turn.ensures.length, c.requires.buffer)

pub skip_rest-requires-clause-end : goal.skip_rest-requires-clause-end
skip_rest-requires-clause-end g c = c.in_ok-first.ensures.reads.end

pub returns-in_err-first-clause-length : goal.returns-in_err-first-clause-length
returns-in_err-first-clause-length g c = c.next_turn.ensures.length

pub returns-then-is_err-clause-length : goal.returns-then-is_err-clause-length
returns-then-is_err-clause-length g c = c.next_turn.ensures.length

pub returns-else-is_err-clause-length : goal.returns-else-is_err-clause-length
returns-else-is_err-clause-length g c = c.play_rest.ensures.length ∙ c.next_turn.ensures.length

pub returns-in_err-skip_rest-in-Err-clause-length : goal.returns-in_err-skip_rest-in-Err-clause-length
returns-in_err-skip_rest-in-Err-clause-length g c = c.skip_rest.ensures.length ∙ c.next_turn.ensures.length

pub returns-in_ok-skip_rest-in-Err-clause-length : goal.returns-in_ok-skip_rest-in-Err-clause-length
returns-in_ok-skip_rest-in-Err-clause-length g c = c.skip_rest.ensures.length ∙ c.next_turn.ensures.length
