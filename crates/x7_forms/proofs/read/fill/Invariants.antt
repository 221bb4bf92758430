use Rattle.std.proofs.Common.{◌≡◌, ◌≤◌, ◌-◌, length, take}
use Rattle.x7_words.specs.Input.{InputsStay, NoInputFault, TakesInput}
use Rattle.x7_forms.proofs.read.fill.Given as goal

abbrev pub invariant-loop-at : goal.invariant-loop-at
invariant-loop-at g l =
    let i = g.I.Inputs in
    record {
      within : l.at ≤ length l.buffer;
      length : length l.buffer ≡ length l.fn.buffer;
      took : TakesInput (i.state l.fn.inputs) (take l.at l.buffer) (i.state l.inputs);
      asked : (i.state l.inputs).asked ≡ (i.state l.fn.inputs).asked;
      ends : (i.state l.inputs).ends ≤ (i.state l.fn.inputs).ends;
      inputs : InputsStay (i.state l.fn.inputs) (i.state l.inputs);
      no_fault : NoInputFault (i.state l.fn.inputs) (i.state l.inputs);
    }

abbrev pub decreases-loop-at : goal.decreases-loop-at
decreases-loop-at g l = length l.buffer - l.at
