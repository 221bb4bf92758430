use Rattle.std.proofs.Common.{◌≡◌, ℕ, List, ◌+◌, ◌≤◌, length, true}
use Rattle.x7_words.specs.Input.{AsksOnce, NoInputFault, RestIsWhole, InputsStay, preceded}
use Rattle.x7_forms.specs.Known.{stream_limit}
use Rattle.x7_forms.specs.Turn.{turn_size}
use Rattle.x7_forms.proofs.ReadLemmas.{IsAt}
use Rattle.x7_stream_forms.specs.Between.{ListsStream}
use Rattle.x7_stream_forms.proofs.list.list.Given as goal

abbrev pub invariant-loop-lister : goal.invariant-loop-lister
invariant-loop-lister g l =
    let i = g.I.Inputs in
    let o = g.O.Sink in
    record {
      selected : (i.state l.inputs).selected ≡ true;
      inputs : InputsStay (i.state l.fn.inputs) (i.state l.inputs);
      no_fault : NoInputFault (i.state l.fn.inputs) (i.state l.inputs);
      written : (o.state l.out).faults ≡ (o.state l.fn.out).faults;
      once : AsksOnce (i.state l.fn.inputs) (i.state l.inputs);
      left : l.left ≤ stream_limit;
      piece : length l.piece ≡ turn_size;
      known : (taken : List ℕ) × (RestIsWhole (i.state l.inputs).contents l.stream_name (preceded taken (i.state l.inputs).rest) × ListsStream l.lister (o.state l.fn.out).written (o.state l.out).written taken × (length taken + l.left ≡ stream_limit) × IsAt l.stream_name taken (i.state l.inputs));
    }

abbrev pub decreases-loop-lister : goal.decreases-loop-lister
decreases-loop-lister g l = l.left
