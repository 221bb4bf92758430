use Rattle.std.proofs.Common.{◌≡◌, ◌≤◌, ◌<◌, ◌+◌, ◌-◌, length, true}
use Rattle.x7_header.specs.Header.{EndsInHeader, longest_header}
use Rattle.x7_words.specs.Input.{InputsStay, NoInputFault, TakenBy}
use Rattle.x7_forms.specs.Known.{stream_limit}
use Rattle.x7_forms.specs.Turn.{turn_size}
use Rattle.x7_forms.proofs.beginning.read_beginning.Given as goal

abbrev pub invariant-loop-bytes : goal.invariant-loop-bytes
invariant-loop-bytes g l =
    let i = g.I.Inputs in
    record {
      selected : (i.state l.inputs).selected ≡ true;
      inputs : InputsStay (i.state l.fn.inputs) (i.state l.inputs);
      no_fault : NoInputFault (i.state l.fn.inputs) (i.state l.inputs);
      piece : length l.piece ≡ turn_size;
      few : length l.bytes.items ≤ longest_header;
      waiting : 0 < length l.bytes.items → EndsInHeader l.bytes.items;
      asked : (i.state l.inputs).asked ≡ (i.state l.fn.inputs).asked;
      selects : (i.state l.inputs).selects ≡ (i.state l.fn.inputs).selects;
      ends : (i.state l.inputs).ends ≤ (i.state l.fn.inputs).ends;
      given : (i.state l.inputs).given ≤ (i.state l.fn.inputs).given + length l.bytes.items;
      taken : TakenBy (i.state l.inputs).contents (i.state l.fn.inputs).rest l.bytes.items (i.state l.inputs).rest;
    }

abbrev pub decreases-loop-bytes : goal.decreases-loop-bytes
decreases-loop-bytes g l = stream_limit - length l.bytes.items
