use Rattle.std.proofs.Common.{◌≡◌, ℕ, List, ◌+◌, ◌≤◌, length, true}
use Rattle.x7_words.specs.Input.{InputsStay, NoInputFault}
use Rattle.x7_forms.specs.Turn.{ReadsBytes}
use Rattle.x7_forms.proofs.read.skip_rest.Given as goal

abbrev pub invariant-loop-turn : goal.invariant-loop-turn
invariant-loop-turn g l =
    let i = g.I.Inputs in
    record {
      selected : (i.state l.inputs).selected ≡ true;
      inputs : InputsStay (i.state l.fn.inputs) (i.state l.inputs);
      no_fault : NoInputFault (i.state l.fn.inputs) (i.state l.inputs);
      ends : (i.state l.inputs).ends ≤ (i.state l.fn.inputs).ends;
      left : l.left ≤ l.limit;
      buffer : length l.buffer ≡ length l.fn.buffer;
      known : (taken : List ℕ) × ((length taken + l.left ≡ l.limit) × ReadsBytes (i.state l.fn.inputs) taken (i.state l.inputs));
    }

abbrev pub decreases-loop-turn : goal.decreases-loop-turn
decreases-loop-turn g l = l.left
