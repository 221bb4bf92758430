use Rattle.std.proofs.Common.{length, sym, ◌∙◌}
use Rattle.x7_listing.proofs.BitLemmas.{some_there}
use Rattle.x7_listing.proofs.asm.DigitPairsLemmas.{no_pairs, unread}
use Rattle.x7_listing.proofs.asm.header.bytes_of_pairs.Goals as goal

pub returns-then-not-read_byte_row : goal.returns-then-not-read_byte_row
returns-then-not-read_byte_row c =
    no_pairs c.args.digits.now c.loop-rest.bytes.items c.loop-rest.rest.now c.split_at.result.0.now c.split_at.result.1.now c.min.result c.split_at.ensures.front c.split_at.ensures.back c.min.ensures c.loop-rest.invariant.1
    (unread c.read_byte_row.result c.split_at.result.0.now c.make_room.new.text.items c.read_byte_row.new.out.items c.if-not-read_byte_row.true c.read_byte_row.ensures.reads) (some_there (length c.loop-rest.rest.now) (sym c.loop-rest-test.true ∙ c.is_empty.ensures))
