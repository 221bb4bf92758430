use Rattle.std.proofs.Common.{◌≡◌, ℕ, List, ◌+◌, ◌≤◌, ◌++◌, length, true}
use Rattle.x7_words.specs.Input.{InputsStay, NoInputFault}
use Rattle.x7_forms.specs.Turn.{ReadsBytes, turn_size}
use Rattle.x7_forms.proofs.read.read_rest.Given as goal

abbrev pub invariant-loop-turn : goal.invariant-loop-turn
invariant-loop-turn g l =
    let i = g.I.Inputs in
    record {
      selected : (i.state l.inputs).selected ≡ true;
      inputs : InputsStay (i.state l.fn.inputs) (i.state l.inputs);
      no_fault : NoInputFault (i.state l.fn.inputs) (i.state l.inputs);
      ends : (i.state l.inputs).ends ≤ (i.state l.fn.inputs).ends;
      left : l.left ≤ l.limit;
      piece : length l.piece ≡ turn_size;
      known : (taken : List ℕ) × ((l.onto.items ≡ l.fn.onto.items ++ taken) × (length taken + l.left ≡ l.limit) × ReadsBytes (i.state l.fn.inputs) taken (i.state l.inputs));
    }

abbrev pub decreases-loop-turn : goal.decreases-loop-turn
decreases-loop-turn g l = l.left
