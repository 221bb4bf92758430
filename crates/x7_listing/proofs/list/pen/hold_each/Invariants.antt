use Rattle.std.proofs.Common.{ℕ, List, ◌++◌, ◌*◌, take}
use Rattle.x7_text.specs.Reads.{StaysWithin}
use Rattle.x7_listing.specs.Lister.{GapListed}
use Rattle.x7_listing.proofs.list.pen.hold_each.Given as goal

abbrev pub invariant-loop-byte : goal.invariant-loop-byte
invariant-loop-byte l = record {
  room : StaysWithin l.fn.text l.text (19 * l.byte-index);
  listed : (given start gap : List ℕ) → GapListed (given ++ l.fn.text.items) start l.fn.pen.in_line (take l.fn.pen.count l.fn.pen.held) gap
      → GapListed (given ++ l.text.items) start l.now.in_line (take l.now.count l.now.held) (gap ++ take l.byte-index l.bytes);
}
