use Rattle.std.proofs.Common.{◌≡◌, ℕ, List, ◌+◌, ◌≤◌, length, true}
use Rattle.x7_words.specs.Input.{AsksOnce, NoInputFault, RestIsWhole, InputsStay, preceded}
use Rattle.x7_forms.specs.Known.{text_limit}
use Rattle.x7_forms.specs.Turn.{turn_size}
use Rattle.x7_forms.proofs.ReadLemmas.{IsAt}
use Rattle.x7_outcome.specs.Feeding.{IsFed}
use Rattle.x7_outcome.proofs.feeding.feed_whole.Given as goal

abbrev pub invariant-loop-read : goal.invariant-loop-read
invariant-loop-read g l =
    let i = g.I.Inputs in
    let t = g.T.TakesLines in
    record {
      selected : (i.state l.inputs).selected ≡ true;
      inputs : InputsStay (i.state l.fn.inputs) (i.state l.inputs);
      no_fault : NoInputFault (i.state l.fn.inputs) (i.state l.inputs);
      once : AsksOnce (i.state l.fn.inputs) (i.state l.inputs);
      left : l.left ≤ text_limit;
      piece : length l.piece ≡ turn_size;
      known : (taken : List ℕ) × (RestIsWhole (i.state l.inputs).contents l.name (preceded taken (i.state l.inputs).rest) × IsFed (t.took l.fn.taker) (t.fails l.fn.taker) l.read taken × (length taken + l.left ≡ text_limit) × IsAt l.name taken (i.state l.inputs));
    }

abbrev pub decreases-loop-read : goal.decreases-loop-read
decreases-loop-read g l = l.left
