use Rattle.std.proofs.Common.{◌+◌, ◌*◌, ◌/◌, arith}
use Rattle.x7_listing.proofs.asm.fast.QuickLemmas.{stays_cut}
use Rattle.x7_listing.proofs.asm.fast.WordsAtLemmas.{takes_words}
use Rattle.x7_listing.proofs.asm.fast.quick.read_data_line.Goals as goal

pub returns : goal.returns
returns c =
    record {
      takes = takes_words c.args.text.now c.prefix_of_hex-prefix.result.bytes c.args.out.now.items c.put.new.text.items c.truncate.new.self.items c.row_digits.result
          c.prefix_of_hex-prefix.result.digit_count (c.prefix_of_hex-prefix.result.digit_count / 8)
          (c.len.result + 4 * (c.prefix_of_hex-prefix.result.digit_count / 8)) (omega (arith, c.told-text))
          (c.is_data.ensures c.if-not-is_data.false) (c.is_spaced.ensures c.if-not-is_spaced.false) (omega arith) c.prefix_of_hex-prefix.ensures.length c.prefix_of_hex-prefix.ensures.bytes (omega arith) (omega (arith, c.prefix_of_hex-prefix.ensures.most)) (omega arith)
          c.row_digits.ensures c.prefix_of_hex-prefix.ensures.digits (omega (arith, c.len.ensures)) c.put.ensures.appends.items c.truncate.ensures.items;
      room = stays_cut _ c.put.ensures.appends (omega (arith, c.prefix_of_hex-prefix.ensures.length)) c.truncate.ensures.len c.truncate.ensures.capacity;
    }
