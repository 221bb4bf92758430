use Rattle.std.proofs.Common.{take, flat_map, ◌≡◌}
use Rattle.x7_words.specs.Sink.{SinkFaultsNeverFall, PutsAll}
use Rattle.x7_words.proofs.sink.write_pieces.Given as goal

abbrev pub invariant-loop-piece : goal.invariant-loop-piece
invariant-loop-piece g l =
    let s = g.S.Sink in
    record {
      written : PutsAll (s.state l.fn.sink) (flat_map (λ p. p.now) (take l.piece-index l.pieces)) (s.state l.sink);
      counts : SinkFaultsNeverFall (s.state l.fn.sink) (s.state l.sink);
      no_fault : (s.state l.sink).faults ≡ (s.state l.fn.sink).faults;
    }
