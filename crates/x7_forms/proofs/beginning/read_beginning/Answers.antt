use Rattle.std.proofs.Common.{◌≤◌, ◌<◌, ◌+◌, ◌++◌, ◌-◌, ◌≡◌, ◌∙◌, ℕ, List, min, ap, arith, drop, false, inl, inr, length, length-append, length-drop, length-take-le, refl, subst, take}
use Rattle.x7_header.specs.Header.{EndsInHeader, longest_header}
use Rattle.x7_words.proofs.InputLemmas.{stays_on}
use Rattle.x7_forms.specs.declared.beginning.Judged.{Judged}
use Rattle.x7_forms.specs.Event.{event_of}
use Rattle.x7_forms.specs.Known.{stream_limit}
use Rattle.x7_forms.specs.Turn.{IsJudged, turn_size}
use Rattle.std.proofs.lemmas.List.{take-append-le}
use Rattle.x7_forms.proofs.BeginningLemmas.{found_none, found_some, beginning_read, joined_taken, none_given, piece_of, reads_by, refused_soon, unread_turn}
use Rattle.x7_forms.proofs.AskedLemmas.{gives_on}
use Rattle.x7_forms.proofs.ReadLemmas.{no_fault_on}
use Rattle.x7_forms.proofs.ResultLemmas.{handed_on}
use Rattle.x7_forms.proofs.beginning.read_beginning.Goals as goal

-- what a turn read is appended
joined_by : (old mid buffer rest : List ℕ) (count : ℕ) → count ≤ length buffer → mid ≡ old ++ take count (buffer ++ rest) → mid ≡ old ++ take count buffer
joined_by old mid buffer rest count within e = e ∙ ap (λ t. old ++ t) (take-append-le count buffer rest within)

pub returns-in-Some-clause-begins : goal.returns-in-Some-clause-begins
returns-in-Some-clause-begins g c =
    let i = g.I.Inputs in
    let v = c.loop-bytes.invariant in
    let count = c.in_ok-turn.turn.count in
    let old = c.loop-bytes.bytes.items in
    let piece = take count c.next_turn.new.buffer in
    let mid = c.put_text.new.text.items in
    let bytes = c.deref-in-loop-bytes.result.now in
    let within : count ≤ length c.next_turn.new.buffer = c.in_ok-turn.ensures.reads.within_buffer in
    let joined = joined_by old c.put_text.new.text.items c.next_turn.new.buffer (drop c.min-count.result c.loop-bytes.piece) count within c.in_ok-put_text.ensures.appends in
    let long = length-take-le count c.next_turn.new.buffer within in
    let p = piece_of old mid piece c.deref.result.now bytes c.wanted.result joined c.deref-in-loop-bytes.ensures.value
    (omega (arith, long, c.in_ok-turn.ensures.reads.within_buffer, c.min-count.ensures, length-take-le c.min-count.result c.loop-bytes.piece (omega (arith, c.min-count.ensures, v.piece))))
    c.wanted.ensures.not_zero c.deref.ensures.value c.wanted.ensures.fixed c.wanted.ensures.waits v.waiting in
    beginning_read old mid piece bytes c.in-Some.judged.line.items c.wanted.result c.in-Some.judged.start c.in_ok-turn.turn.last (i.state c.args.inputs.now) (i.state c.loop-bytes.inputs) (i.state c.next_turn.new.inputs)
    p joined c.deref-in-loop-bytes.ensures.value
    (reads_by (i.state c.args.inputs.now) (i.state c.loop-bytes.inputs) old v.selected v.taken v.given v.asked v.inputs v.selects) c.in_ok-turn.ensures.reads.takes c.next_turn.ensures.gives_few.asked
    c.next_turn.ensures.gives_few.stays c.in_ok-turn.ensures.reads.end (λ e. omega (arith, v.ends, c.in_ok-turn.ensures.reads.no_end_read e)) v.few
    (omega (arith, long, c.in_ok-turn.ensures.reads.within_buffer, c.min-count.ensures, length-take-le c.min-count.result c.loop-bytes.piece (omega (arith, c.min-count.ensures, v.piece))))
    (found_some c.in_ok-judged.field-0 c.in-Some.judged _ (λ (j : Judged). IsJudged bytes c.in_ok-turn.turn.last j.line.items j.start) c.in-Some.is c.in_ok-judged.ensures.judged)

pub returns-in_err-judged-clause-refused : goal.returns-in_err-judged-clause-refused
returns-in_err-judged-clause-refused g c = rw (handed_on c.from_residual-in_err-judged.result c.in_err-judged.field-0.0 c.from_residual-in_err-judged.ensures) (let i = g.I.Inputs in
    let v = c.loop-bytes.invariant in
    let count = c.in_ok-turn.turn.count in
    let old = c.loop-bytes.bytes.items in
    let piece = take count c.next_turn.new.buffer in
    let mid = c.put_text.new.text.items in
    let bytes = c.deref-in-loop-bytes.result.now in
    let within : count ≤ length c.next_turn.new.buffer = c.in_ok-turn.ensures.reads.within_buffer in
    let joined = joined_by old c.put_text.new.text.items c.next_turn.new.buffer (drop c.min-count.result c.loop-bytes.piece) count within c.in_ok-put_text.ensures.appends in
    let long = length-take-le count c.next_turn.new.buffer within in
    let p = piece_of old mid piece c.deref.result.now bytes c.wanted.result joined c.deref-in-loop-bytes.ensures.value
    (omega (arith, long, c.in_ok-turn.ensures.reads.within_buffer, c.min-count.ensures, length-take-le c.min-count.result c.loop-bytes.piece (omega (arith, c.min-count.ensures, v.piece))))
    c.wanted.ensures.not_zero c.deref.ensures.value c.wanted.ensures.fixed c.wanted.ensures.waits v.waiting in
    elim c.in_err-judged.ensures.refused [
      | inl h ↦ inl h
      | inr h ↦ inr (inr (record {
        place = h.0;
        bytes = bytes;
        last = c.in_ok-turn.turn.last;
        reports = h.1;
        taken = joined_taken (i.state c.args.inputs.now) (i.state c.loop-bytes.inputs) (i.state c.next_turn.new.inputs) old piece mid bytes c.next_turn.ensures.gives_few.stays v.taken c.in_ok-turn.ensures.reads.takes.taken joined c.deref-in-loop-bytes.ensures.value;
        end = c.in_ok-turn.ensures.reads.end;
        refused = h.2;
        no_byte_after = refused_soon old piece bytes c.wanted.result h.0 p h.3;
      }))
    ])

pub returns-in_err-turn-clause-refused : goal.returns-in_err-turn-clause-refused
returns-in_err-turn-clause-refused g c = rw (handed_on c.from_residual.result c.in_err-turn.field-0.0 c.from_residual.ensures) (let i = g.I.Inputs in
    let v = c.loop-bytes.invariant in
    let old = c.loop-bytes.bytes.items in
    unread_turn (i.state c.args.inputs.now) (i.state c.loop-bytes.inputs) (i.state c.next_turn.new.inputs) c.args.stream_name.now old (stream_limit - c.len-left.result) (event_of c.in_err-turn.field-0.0)
    (reads_by (i.state c.args.inputs.now) (i.state c.loop-bytes.inputs) old v.selected v.taken v.given v.asked v.inputs v.selects) (omega (arith, v.few, c.len-left.ensures)) c.next_turn.ensures.gives_few.asked
    (λ e. absurd (omega (arith, c.in_err-turn.ensures.over e, v.few, c.len-left.ensures, v.piece, c.min-count.ensures, length-take-le c.min-count.result c.loop-bytes.piece (omega (arith, c.min-count.ensures, v.piece)))))
    (λ e. none_given (i.state c.args.inputs.now) (i.state c.loop-bytes.inputs) (i.state c.next_turn.new.inputs) old c.deref.result.now c.wanted.result (length (take c.min-count.result c.loop-bytes.piece)) c.wanted.ensures.not_zero
    (omega (arith, c.min-count.ensures, length-take-le c.min-count.result c.loop-bytes.piece (omega (arith, c.min-count.ensures, v.piece)))) c.deref.ensures.value c.wanted.ensures.fixed c.wanted.ensures.waits v.waiting c.next_turn.ensures.gives_few.stays
    (reads_by (i.state c.args.inputs.now) (i.state c.loop-bytes.inputs) old v.selected v.taken v.given v.asked v.inputs v.selects) (c.in_err-turn.ensures.fails_early e)) c.in_err-turn.ensures.refused)

pub loop-bytes-preserved : goal.loop-bytes-preserved
loop-bytes-preserved g c =
    let i = g.I.Inputs in
    let v = c.loop-bytes.invariant in
    let count = c.in_ok-turn.turn.count in
    let old = c.loop-bytes.bytes.items in
    let buf = c.next_turn.new.buffer in
    let piece = take count buf in
    let mid = c.put_text.new.text.items in
    let bytes = c.deref-in-loop-bytes.result.now in
    let asked_for : length (take c.min-count.result c.loop-bytes.piece) ≡ c.min-count.result = length-take-le c.min-count.result c.loop-bytes.piece (omega (arith, c.min-count.ensures, v.piece)) in
    let within : count ≤ length buf = c.in_ok-turn.ensures.reads.within_buffer in
    let joined = joined_by old c.put_text.new.text.items buf (drop c.min-count.result c.loop-bytes.piece) count within c.in_ok-put_text.ensures.appends in
    let none = found_none c.in_ok-judged.field-0 ((c.in_ok-turn.turn.last ≡ false) × (length bytes ≤ longest_header) × EndsInHeader bytes) (λ (j : Judged). IsJudged bytes c.in_ok-turn.turn.last j.line.items j.start) c.in_default.is c.in_ok-judged.ensures.judged in
    record {
      selected = c.in_ok-turn.ensures.reads.takes.selected;
      inputs = stays_on _ _ _ v.inputs c.next_turn.ensures.gives_few.stays;
      no_fault = no_fault_on _ _ _ v.no_fault c.in_ok-turn.ensures.no_fault;
      piece = omega (arith, length-append buf (drop c.min-count.result c.loop-bytes.piece), length-drop c.min-count.result c.loop-bytes.piece, c.next_turn.ensures.length, asked_for, v.piece, c.min-count.ensures);
      few = omega (arith, none.1, ap length c.deref-in-loop-bytes.ensures.value);
      waiting = λ some. subst EndsInHeader c.deref-in-loop-bytes.ensures.value none.2;
      asked = c.next_turn.ensures.gives_few.asked ∙ v.asked;
      selects = c.in_ok-turn.ensures.reads.takes.selects ∙ v.selects;
      ends = omega (arith, v.ends, c.in_ok-turn.ensures.reads.no_end_read none.0);
      given = omega (arith, v.given, c.in_ok-turn.ensures.reads.takes.given, ap length joined, length-append old piece);
      taken = joined_taken (i.state c.args.inputs.now) (i.state c.loop-bytes.inputs) (i.state c.next_turn.new.inputs) old piece mid mid c.next_turn.ensures.gives_few.stays v.taken c.in_ok-turn.ensures.reads.takes.taken joined refl;
    }

pub returns-in-Some-clause-no_fault : goal.returns-in-Some-clause-no_fault
returns-in-Some-clause-no_fault g c = no_fault_on _ _ _ c.loop-bytes.invariant.no_fault c.in_ok-turn.ensures.no_fault

pub returns-in_err-turn-clause-gives_few : goal.returns-in_err-turn-clause-gives_few
returns-in_err-turn-clause-gives_few g c =
    let i = g.I.Inputs in
    let v = c.loop-bytes.invariant in
    gives_on (i.state c.args.inputs.now) (i.state c.loop-bytes.inputs) (i.state c.next_turn.new.inputs) c.loop-bytes.bytes.items stream_limit (stream_limit - c.len-left.result)
    (reads_by (i.state c.args.inputs.now) (i.state c.loop-bytes.inputs) c.loop-bytes.bytes.items v.selected v.taken v.given v.asked v.inputs v.selects) (omega (arith, v.few, c.len-left.ensures)) v.ends c.next_turn.ensures.gives_few

pub returns-in_err-turn-clause-short : goal.returns-in_err-turn-clause-short
returns-in_err-turn-clause-short g c =
    let v = c.loop-bytes.invariant in
    omega (arith, v.given, v.few, c.next_turn.ensures.gives_a_turn.given, v.piece, c.min-count.ensures, length-take-le c.min-count.result c.loop-bytes.piece (omega (arith, c.min-count.ensures, v.piece)))

pub returns-in_err-put_text-clause-gives_few : goal.returns-in_err-put_text-clause-gives_few
returns-in_err-put_text-clause-gives_few g c =
    let i = g.I.Inputs in
    let v = c.loop-bytes.invariant in
    gives_on (i.state c.args.inputs.now) (i.state c.loop-bytes.inputs) (i.state c.next_turn.new.inputs) c.loop-bytes.bytes.items stream_limit (stream_limit - c.len-left.result)
    (reads_by (i.state c.args.inputs.now) (i.state c.loop-bytes.inputs) c.loop-bytes.bytes.items v.selected v.taken v.given v.asked v.inputs v.selects) (omega (arith, v.few, c.len-left.ensures)) v.ends c.next_turn.ensures.gives_few

pub returns-in_err-put_text-clause-short : goal.returns-in_err-put_text-clause-short
returns-in_err-put_text-clause-short g c =
    let v = c.loop-bytes.invariant in
    omega (arith, v.given, v.few, c.next_turn.ensures.gives_a_turn.given, v.piece, c.min-count.ensures, length-take-le c.min-count.result c.loop-bytes.piece (omega (arith, c.min-count.ensures, v.piece)))

pub returns-in-Some-clause-gives_few : goal.returns-in-Some-clause-gives_few
returns-in-Some-clause-gives_few g c =
    let i = g.I.Inputs in
    let v = c.loop-bytes.invariant in
    gives_on (i.state c.args.inputs.now) (i.state c.loop-bytes.inputs) (i.state c.next_turn.new.inputs) c.loop-bytes.bytes.items stream_limit (stream_limit - c.len-left.result)
    (reads_by (i.state c.args.inputs.now) (i.state c.loop-bytes.inputs) c.loop-bytes.bytes.items v.selected v.taken v.given v.asked v.inputs v.selects) (omega (arith, v.few, c.len-left.ensures)) v.ends c.next_turn.ensures.gives_few

pub returns-in-Some-clause-short : goal.returns-in-Some-clause-short
returns-in-Some-clause-short g c =
    let v = c.loop-bytes.invariant in
    omega (arith, v.given, v.few, c.next_turn.ensures.gives_a_turn.given, v.piece, c.min-count.ensures, length-take-le c.min-count.result c.loop-bytes.piece (omega (arith, c.min-count.ensures, v.piece)))

pub returns-in_err-judged-clause-gives_few : goal.returns-in_err-judged-clause-gives_few
returns-in_err-judged-clause-gives_few g c =
    let i = g.I.Inputs in
    let v = c.loop-bytes.invariant in
    gives_on (i.state c.args.inputs.now) (i.state c.loop-bytes.inputs) (i.state c.next_turn.new.inputs) c.loop-bytes.bytes.items stream_limit (stream_limit - c.len-left.result)
    (reads_by (i.state c.args.inputs.now) (i.state c.loop-bytes.inputs) c.loop-bytes.bytes.items v.selected v.taken v.given v.asked v.inputs v.selects) (omega (arith, v.few, c.len-left.ensures)) v.ends c.next_turn.ensures.gives_few

pub returns-in_err-judged-clause-short : goal.returns-in_err-judged-clause-short
returns-in_err-judged-clause-short g c =
    let v = c.loop-bytes.invariant in
    omega (arith, v.given, v.few, c.next_turn.ensures.gives_a_turn.given, v.piece, c.min-count.ensures, length-take-le c.min-count.result c.loop-bytes.piece (omega (arith, c.min-count.ensures, v.piece)))

-- the buffer of a turn has as many bytes as are asked for
asked_for : (piece : List ℕ) (n wanted : ℕ) → length piece ≡ turn_size → n ≡ min wanted 65536 → length (take n piece) ≡ n
asked_for piece n wanted long is = length-take-le n piece (omega (arith, long, is))

-- a turn that is not the last leaves no fewer bytes than the fixed ones
fixed_there : (was n asked count now : ℕ) → (was < 13 → was + n ≡ 13) → asked ≡ min n 65536 → count ≡ asked → now ≡ was + count → 13 ≤ now
fixed_there was n asked count now fixed is all sum = grind arith

pub overflow_sub-left : goal.overflow_sub-left
overflow_sub-left g c = omega (arith, c.loop-bytes.invariant.few, c.len-left.ensures)

pub slice_bounds-next_turn-end : goal.slice_bounds-next_turn-end
slice_bounds-next_turn-end g c = omega (arith, asked_for c.loop-bytes.piece c.min-count.result c.wanted.result c.loop-bytes.invariant.piece c.min-count.ensures)

pub next_turn-requires-clause-not_empty : goal.next_turn-requires-clause-not_empty
next_turn-requires-clause-not_empty g c =
    omega (arith, asked_for c.loop-bytes.piece c.min-count.result c.wanted.result c.loop-bytes.invariant.piece c.min-count.ensures, c.min-count.ensures, c.wanted.ensures.not_zero)

pub slice_bounds-put_text-end : goal.slice_bounds-put_text-end
slice_bounds-put_text-end g c =
    let n = c.min-count.result in
    let count = c.in_ok-turn.turn.count in
    let buf = c.next_turn.new.buffer in
    let asked = asked_for c.loop-bytes.piece n c.wanted.result c.loop-bytes.invariant.piece c.min-count.ensures in
    let within : count ≤ length buf = c.in_ok-turn.ensures.reads.within_buffer in
    omega (arith, length-take-le count (buf ++ drop n c.loop-bytes.piece) (omega (arith, length-append buf (drop n c.loop-bytes.piece), within)))

pub judge-requires : goal.judge-requires
judge-requires g c = record {
  long = λ more.
      let count = c.in_ok-turn.turn.count in
      let buf = c.next_turn.new.buffer in
      let old = c.loop-bytes.bytes.items in
      let piece = take count buf in
      let asked = asked_for c.loop-bytes.piece c.min-count.result c.wanted.result c.loop-bytes.invariant.piece c.min-count.ensures in
      let within : count ≤ length buf = c.in_ok-turn.ensures.reads.within_buffer in
      let joined = joined_by old c.put_text.new.text.items buf (drop c.min-count.result c.loop-bytes.piece) count within c.in_ok-put_text.ensures.appends in
      fixed_there (length old) c.wanted.result c.min-count.result count (length c.deref-in-loop-bytes.result.now)
      (subst (λ (o : List ℕ). length o < 13 → length o + c.wanted.result ≡ 13) c.deref.ensures.value c.wanted.ensures.fixed) c.min-count.ensures (c.in_ok-turn.ensures.reads.fills more ∙ c.next_turn.ensures.length ∙ asked)
      (ap length c.deref-in-loop-bytes.ensures.value ∙ ap length joined ∙ length-append old piece ∙ ap (λ (n : ℕ). length old + n) (length-take-le count buf within));
}

pub loop-bytes-smaller : goal.loop-bytes-smaller
loop-bytes-smaller g c =
    let count = c.in_ok-turn.turn.count in
    let old = c.loop-bytes.bytes.items in
    let buf = c.next_turn.new.buffer in
    let bytes = c.deref-in-loop-bytes.result.now in
    let asked = asked_for c.loop-bytes.piece c.min-count.result c.wanted.result c.loop-bytes.invariant.piece c.min-count.ensures in
    let within : count ≤ length buf = c.in_ok-turn.ensures.reads.within_buffer in
    let joined = joined_by old c.put_text.new.text.items buf (drop c.min-count.result c.loop-bytes.piece) count within c.in_ok-put_text.ensures.appends in
    let none = found_none c.in_ok-judged.field-0 ((c.in_ok-turn.turn.last ≡ false) × (length bytes ≤ longest_header) × EndsInHeader bytes) (λ (j : Judged). IsJudged bytes c.in_ok-turn.turn.last j.line.items j.start) c.in_default.is c.in_ok-judged.ensures.judged in
    omega (
      arith,
      c.loop-bytes.invariant.few,
      ap length joined,
      length-append old (take count buf),
      length-take-le count buf within,
      c.in_ok-turn.ensures.reads.fills none.0,
      c.next_turn.ensures.length,
      asked,
      c.min-count.ensures,
      c.wanted.ensures.not_zero,
    )
