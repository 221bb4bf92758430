use Rattle.std.proofs.Common.{◌+◌, ◌-◌, ◌*◌, ◌≤◌, take, length, vec_len, vec_capacity}
use Rattle.x7_packets.specs.Cutter.{calls_left}
use Rattle.x7_listing.specs.Pens.{ListsMore, lister_with}
use Rattle.x7_listing.proofs.list.lister.take_piece.Given as goal

abbrev pub invariant-loop-taken : goal.invariant-loop-taken
invariant-loop-taken l = record {
  within : l.at ≤ length l.piece;
  room : vec_len l.text + 64 * calls_left l.cutter (length l.piece - l.at) + 3 * (length l.cutter.kept + (length l.piece - l.at)) + 64 ≤ vec_capacity l.text;
  has_listed : ListsMore (lister_with l.fn.cutter l.fn.pen l.fn.text.items) (lister_with l.cutter l.now l.text.items) (take l.at l.piece);
}

abbrev pub decreases-loop-taken : goal.decreases-loop-taken
decreases-loop-taken l = calls_left l.cutter (length l.piece - l.at)
