use Rattle.std.proofs.Common.{◌≡◌, ◌≤◌, length, vec_capacity}
use Rattle.x7_words.specs.Sink.{SinkFaultsNeverFall}
use Rattle.x7_report.specs.Frames.{line_of_rank, room_at_once}
use Rattle.x7_report.proofs.LinesLemmas.{Sent}
use Rattle.x7_report.proofs.streamed.write_lines.Given as goal

abbrev pub invariant-loop-rest : goal.invariant-loop-rest
invariant-loop-rest g l =
    let s = g.S.Sink in
    record {
      sent : Sent (s.state l.fn.out).written (s.state l.out).written (line_of_rank l.part l.memory) l.ranks l.rest;
      room : room_at_once ≤ vec_capacity l.buffer;
      counts : SinkFaultsNeverFall (s.state l.fn.out) (s.state l.out);
      no_fault : (s.state l.out).faults ≡ (s.state l.fn.out).faults;
    }

abbrev pub decreases-loop-rest : goal.decreases-loop-rest
decreases-loop-rest g l = length l.rest
