use Rattle.std.proofs.Common.{length, take, ◌-◌, ◌≤◌, ◌≡◌}
use Rattle.x7_words.specs.Sink.{SinkFaultsNeverFall, PutsAll}
use Rattle.x7_words.proofs.sink.write_all.Given as goal

abbrev pub invariant-loop-at : goal.invariant-loop-at
invariant-loop-at g l =
    let s = g.S.Sink in
    record {
      within : l.at ≤ length l.text;
      written : PutsAll (s.state l.fn.sink) (take l.at l.text) (s.state l.sink);
      counts : SinkFaultsNeverFall (s.state l.fn.sink) (s.state l.sink);
      no_fault : (s.state l.sink).faults ≡ (s.state l.fn.sink).faults;
    }

abbrev pub decreases-loop-at : goal.decreases-loop-at
decreases-loop-at g l = length l.text - l.at
