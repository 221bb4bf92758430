use Rattle.std.proofs.Common.{ap, arith, bit_and, get_or}
use Rattle.x7_words.proofs.ZipLemmas.{next_in_place, more_in_place, all_in_place}
use Rattle.x7_files.proofs.flash.clear_bits.Goals as goal

pub loop-i-preserved : goal.loop-i-preserved
loop-i-preserved c =
    let old = next_in_place bit_and c.loop-i.bytes c.args.bytes.now c.args.given.now c.loop-i.i 0 (omega arith) (omega arith) c.loop-i.invariant in
    more_in_place bit_and c.loop-i.bytes c.args.bytes.now c.args.given.now c.loop-i.i _ (omega arith) (omega arith) c.loop-i.invariant (ap (λ x. bit_and x (get_or c.args.given.now c.loop-i.i 0)) old)

pub returns : goal.returns
returns c = all_in_place bit_and c.loop-i.bytes c.args.bytes.now c.args.given.now c.loop-i.i (omega arith) (omega arith) c.loop-i.invariant
