use Rattle.std.proofs.Common.{ap, arith, get_or, sym, ◌∙◌}
use Rattle.x7_words.specs.Flash.{erased_sector}
use Rattle.x7_words.proofs.FlashLemmas.{get_or_erased_sector, length_erased_sector}
use Rattle.x7_words.proofs.ZipLemmas.{next_in_place, more_in_place, all_in_place}
use Rattle.x7_in_memory.specs.Memory.{left_byte}
use Rattle.x7_in_memory.proofs.flash.erase_in_place.Goals as goal

pub loop-i-preserved : goal.loop-i-preserved
loop-i-preserved c =
    let f = left_byte c.args.torn in
    let i = c.loop-i.i in
    let old = c.args.bytes.now in
    let is = next_in_place f c.loop-i.bytes old erased_sector i 0 (omega arith) (omega (arith, length_erased_sector)) c.loop-i.invariant in
    more_in_place f c.loop-i.bytes old erased_sector i _ (omega arith) (omega (arith, length_erased_sector)) c.loop-i.invariant
    (c.left_byte.ensures ∙ ap (λ x. f x 255) is ∙ ap (f (get_or old i 0)) (sym (get_or_erased_sector i (omega arith))))

pub returns : goal.returns
returns c = all_in_place (left_byte c.args.torn) c.loop-i.bytes c.args.bytes.now erased_sector c.loop-i.i (omega arith) (omega (arith, length_erased_sector)) c.loop-i.invariant
