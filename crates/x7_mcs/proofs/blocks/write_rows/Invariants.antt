use Rattle.std.proofs.Common.{◌≡◌, ◌+◌, ◌%◌, ◌<◌, ◌≤◌, length, vec_capacity}
use Rattle.x7_mcs.specs.Record.{block_size}
use Rattle.x7_words.specs.Sink.{SinkFaultsNeverFall}
use Rattle.x7_mcs.proofs.BlockLemmas.{Goes}
use Rattle.x7_mcs.proofs.blocks.write_rows.Given as goal

abbrev pub invariant-loop-rest : goal.invariant-loop-rest
invariant-loop-rest g l =
    let s = g.S.Sink in
    record {
      goes : Goes (s.state l.fn.out).written (s.state l.out).written l.flash l.place l.rest;
      left : l.place + length l.rest ≡ length l.flash;
      begins : 0 < length l.rest → l.place % block_size ≡ 0;
      room : 262204 ≤ vec_capacity l.block;
      counts : SinkFaultsNeverFall (s.state l.fn.out) (s.state l.out);
      no_fault : (s.state l.out).faults ≡ (s.state l.fn.out).faults;
    }

abbrev pub decreases-loop-rest : goal.decreases-loop-rest
decreases-loop-rest g l = length l.rest
