use Rattle.std.proofs.Common.{[], ◌∷◌, ◌++◌, ◌+◌, None, arith, length, length-append, map, string_bytes, refl, ◌∙◌}
use Rattle.x7_words.proofs.InputLemmas.{few_at, few_more, few_on, stays_at, stays_on}
use Rattle.x7_forms.specs.Event.{event_of}
use Rattle.x7_forms.specs.Known.{StreamRead, stream_limit}
use Rattle.x7_forms.specs.Step.{CameIn, step_over}
use Rattle.x7_forms.proofs.ReadLemmas.{no_fault_at, no_fault_on, one_unplayed, rests_all, rests_none, stream_err, stream_next}
use Rattle.x7_forms.specs.ReadingStops.{limited_together}
use Rattle.x7_forms.proofs.AskedLemmas.{limits_first, limits_later, limits_next, limits_stop, room_left}
use Rattle.x7_forms.proofs.ResultLemmas.{handed_on}
use Rattle.x7_playing.proofs.playing.play_streams.Goals as goal

pub loop-name-init : goal.loop-name-init
loop-name-init g c =
    let i = g.I.Inputs in
    record {
      inputs = stays_at _;
      no_fault = no_fault_at _;
      asks = few_at _;
      within = omega arith;
      limits = limits_first (i.state c.args.inputs.now).contents stream_limit (map string_bytes c.args.streams.now);
      piece = refl;
      played = ([], (c.in-Ok.ensures, omega arith, rests_none (i.state c.args.inputs.now).contents (map string_bytes c.args.streams.now) stream_limit));
    }

pub play_stream-requires-clause-may_play : goal.play_stream-requires-clause-may_play
play_stream-requires-clause-may_play g c =
    let v = c.loop-name.invariant in
    (c.args.part.now, (v.played.0, (v.played.1.0, omega (arith, v.played.1.1))))

pub returns-in_err-left-clause-refused : goal.returns-in_err-left-clause-refused
returns-in_err-left-clause-refused g c = rw (handed_on c.from_residual.result c.in_err-left.field-0.0 c.from_residual.ensures) (λ flash.
    let i = g.I.Inputs in
    let v = c.loop-name.invariant in
    stream_err string_bytes (i.state c.args.inputs.now) (i.state c.loop-name.inputs) (i.state c.play_stream.new.inputs) flash c.args.streams.now c.loop-name.name-index stream_limit c.loop-name.left c.name-item.result c.as_str.result.now v.played.0
    (event_of c.in_err-left.field-0.0) v.inputs c.play_stream.ensures.asks.stays c.loop-name-test.true c.name-item.is c.as_str.ensures.value v.played.1.2 (c.in_err-left.ensures.refused flash))

pub loop-name-preserved : goal.loop-name-preserved
loop-name-preserved g c =
    let i = g.I.Inputs in
    let v = c.loop-name.invariant in
    let name = c.as_str.result.now in
    let C = CameIn (step_over (name ∷ []) (i.state c.loop-name.inputs) (i.state c.play_stream.new.inputs)) in
    let p = c.in_ok-left.ensures.played in
    let read : StreamRead = record { bytes = p.bytes; room = c.in_ok-left.left } in
    let now = (i.state c.play_stream.new.inputs).contents in
    let later = limits_later string_bytes (i.state c.loop-name.inputs).contents now c.args.streams.now stream_limit c.loop-name.name-index c.loop-name.left c.play_stream.ensures.asks.stays.map v.within (omega (arith, v.played.1.1)) v.limits in
    let next = stream_next string_bytes (i.state c.loop-name.inputs).contents now C c.args.streams.now c.loop-name.name-index stream_limit c.loop-name.left c.name-item.result name v.played.0 read
    c.play_stream.ensures.asks.stays.map c.loop-name-test.true c.name-item.is c.as_str.ensures.value v.played.1.2 p.reads in
    record {
      inputs = stays_on _ _ _ v.inputs c.play_stream.ensures.asks.stays;
      no_fault = no_fault_on _ _ _ v.no_fault c.in_ok-left.ensures.no_fault;
      asks = few_on _ _ _ c.loop-name.name-index 1 v.asks c.play_stream.ensures.asks.once;
      within = omega (arith, c.loop-name-test.true);
      limits = limits_next string_bytes (limited_together now stream_limit (map string_bytes c.args.streams.now)) now c.args.streams.now c.loop-name.name-index c.loop-name.left c.in_ok-left.left c.name-item.result name
          c.loop-name-test.true c.name-item.is c.as_str.ensures.value later (room_left now C name c.loop-name.left read (omega (arith, p.within)) (p.reads None));
      piece = c.play_stream.ensures.length ∙ v.piece;
      played = (v.played.0 ++ p.bytes, (p.plays c.args.part.now v.played.0 v.played.1.0, omega (arith, v.played.1.1, p.within, length-append v.played.0 p.bytes), next));
    }

pub returns-clause-played : goal.returns-clause-played
returns-clause-played g c =
    let i = g.I.Inputs in
    let v = c.loop-name.invariant in (
      v.played.0,
      v.played.1.0,
      λ flash. rests_all string_bytes (i.state c.loop-name.inputs).contents flash (CameIn (step_over (map string_bytes c.args.streams.now) (i.state c.args.inputs.now) (i.state c.loop-name.inputs)))
          c.args.streams.now c.loop-name.name-index stream_limit c.loop-name.left v.played.0 c.loop-name-test.false v.played.1.2,
    )

pub returns-in_err-left-clause-named : goal.returns-in_err-left-clause-named
returns-in_err-left-clause-named g c = rw (handed_on c.from_residual.result c.in_err-left.field-0.0 c.from_residual.ensures)
    (one_unplayed string_bytes c.args.streams.now c.loop-name.name-index c.name-item.result c.as_str.result.now (event_of c.in_err-left.field-0.0) c.loop-name-test.true c.name-item.is c.as_str.ensures.value c.in_err-left.ensures.named)

pub returns-in_err-left-clause-stops : goal.returns-in_err-left-clause-stops
returns-in_err-left-clause-stops g c = rw (handed_on c.from_residual.result c.in_err-left.field-0.0 c.from_residual.ensures) (let i = g.I.Inputs in
    let v = c.loop-name.invariant in
    let old = i.state c.args.inputs.now in
    let now = (i.state c.play_stream.new.inputs).contents in
    limits_stop string_bytes (limited_together now stream_limit (map string_bytes c.args.streams.now)) now c.args.streams.now c.loop-name.name-index c.loop-name.left c.name-item.result c.as_str.result.now
    old (i.state c.loop-name.inputs) (i.state c.play_stream.new.inputs) (event_of c.in_err-left.field-0.0) c.loop-name-test.true c.name-item.is c.as_str.ensures.value (limits_later string_bytes (i.state c.loop-name.inputs).contents now c.args.streams.now stream_limit c.loop-name.name-index c.loop-name.left c.play_stream.ensures.asks.stays.map v.within (omega (arith, v.played.1.1)) v.limits) v.asks c.play_stream.ensures.asks.once c.play_stream.ensures.asks.last c.in_err-left.ensures.named)

pub returns-in_err-left-clause-asks : goal.returns-in_err-left-clause-asks
returns-in_err-left-clause-asks g c =
    let i = g.I.Inputs in
    let first = i.state c.args.inputs.now in
    let last = i.state c.play_stream.new.inputs in
    let count = c.loop-name.name-index in
    few_more first last (count + 1) (length c.args.streams.now) (omega (arith, c.loop-name-test.true)) (few_on first (i.state c.loop-name.inputs) last count 1 c.loop-name.invariant.asks c.play_stream.ensures.asks.once)

pub returns-clause-asks : goal.returns-clause-asks
returns-clause-asks g c = few_more (g.I.Inputs.state c.args.inputs.now) (g.I.Inputs.state c.loop-name.inputs) c.loop-name.name-index (length c.args.streams.now) (omega (arith, c.loop-name.invariant.within)) c.loop-name.invariant.asks
