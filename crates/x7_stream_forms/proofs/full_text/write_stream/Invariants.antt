use Rattle.std.proofs.Common.{◌≡◌, ◌≤◌, vec_capacity}
use Rattle.x7_words.specs.Sink.{SinkFaultsNeverFall}
use Rattle.x7_planner.specs.FullStreamPieces.{puts_left, piece_limit}
use Rattle.x7_stream_forms.proofs.FullTextLemmas.{Sent}
use Rattle.x7_stream_forms.proofs.full_text.write_stream.Given as goal

abbrev pub invariant-loop-more : goal.invariant-loop-more
invariant-loop-more g l =
    let s = g.O.Sink in
    record {
      sent : Sent l.fn.stream.part l.fn.stream.plan l.stream (s.state l.fn.out).written (s.state l.out).written;
      room : piece_limit ≤ vec_capacity l.piece;
      counts : SinkFaultsNeverFall (s.state l.fn.out) (s.state l.out);
      no_fault : (s.state l.out).faults ≡ (s.state l.fn.out).faults;
    }

abbrev pub decreases-loop-more : goal.decreases-loop-more
decreases-loop-more g l = puts_left l.stream
