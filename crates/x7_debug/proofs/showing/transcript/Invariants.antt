use Rattle.std.proofs.Common.{◌≡◌, take}
use Rattle.x7_debug.specs.Session.{MovesTo}
use Rattle.x7_debug.specs.Showing.{final_position, transcript_of}
use Rattle.x7_debug.proofs.showing.transcript.Given as goal

abbrev pub invariant-loop-order : goal.invariant-loop-order
invariant-loop-order l = record {
  moves : MovesTo l.fn.session l.session (final_position l.fn.session.part l.fn.session.stream (take l.order-index l.script));
  text : l.text.items ≡ transcript_of l.fn.session.part l.fn.session.stream (take l.order-index l.script);
}
