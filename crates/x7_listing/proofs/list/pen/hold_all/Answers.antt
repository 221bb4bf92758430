use Rattle.std.proofs.Common.{take}
use Rattle.x7_listing.proofs.GapLemmas.{listed_all}
use Rattle.x7_listing.proofs.list.pen.hold_all.Goals as goal

pub returns-clause-listed : goal.returns-clause-listed
returns-clause-listed c = λ given start gap g.
    listed_all given c.args.text.now.items c.put_bytes-after.new.text.items _ start c.args.pen.in_line _ _ (take c.args.pen.count c.args.pen.held) gap
    c.args.bytes.now g c.if-bytes-lt4.false c.put_bytes-after.ensures.appends.items c.put_bytes-after.ensures.count c.put_bytes-in_line.ensures.appends.items
    c.put_bytes-in_line.ensures.count
