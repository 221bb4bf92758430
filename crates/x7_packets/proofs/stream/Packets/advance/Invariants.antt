use Rattle.std.proofs.Common.{◌≡◌, ℕ, List, true, false}
use Rattle.x7_words.specs.Input.{InputsStay, NoInputFault, TakenBy}
use Rattle.x7_packets.specs.Stream.{RunIsReady, TookBytes}
use Rattle.x7_packets.proofs.StreamLemmas.{AsksToReadOn, HasRoom, turns_left}
use Rattle.x7_packets.proofs.stream.Packets.advance.Given as goal

abbrev pub invariant-loop-self : goal.invariant-loop-self
invariant-loop-self g l =
    let i = g.I.Inputs in
    record {
      selected : (i.state l.inputs).selected ≡ true;
      inputs : InputsStay (i.state l.fn.inputs) (i.state l.inputs);
      no_fault : NoInputFault (i.state l.fn.inputs) (i.state l.inputs);
      asks : AsksToReadOn (i.state l.fn.inputs) (i.state l.inputs);
      good : l.self.has_failed ≡ false;
      on : l.self.is_done ≡ false;
      reads : (more : List ℕ) × TakenBy (i.state l.inputs).contents (i.state l.fn.inputs).rest more (i.state l.inputs).rest × TookBytes l.fn.self l.self more;
      room : HasRoom l.fn.self l.self;
      waits : RunIsReady l.fn.self → (l.self ≡ l.fn.self) × (l.inputs ≡ l.fn.inputs);
    }

abbrev pub decreases-loop-self : goal.decreases-loop-self
decreases-loop-self g l = turns_left l.self.cutter.kept l.self.left
