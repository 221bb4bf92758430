use Rattle.std.proofs.Common.{ap, arith, bit_and, get_or, sym, ◌∙◌}
use Rattle.x7_words.specs.Flash.{zip_with}
use Rattle.x7_words.proofs.ZipLemmas.{all_in_place, get_or_zip_with, length_zip_with, more_in_place, next_in_place}
use Rattle.x7_in_memory.specs.Memory.{left_byte}
use Rattle.x7_in_memory.proofs.flash.program_in_place.Goals as goal

pub loop-i-preserved : goal.loop-i-preserved
loop-i-preserved c =
    let f = left_byte c.args.torn in
    let i = c.loop-i.i in
    let old = c.args.bytes.now in
    let given = c.args.given.now in
    let target = zip_with bit_and old given in
    let long = length_zip_with bit_and old given c.requires in
    let is = next_in_place f c.loop-i.bytes old target i 0 (omega arith) (omega (arith, long)) c.loop-i.invariant in
    more_in_place f c.loop-i.bytes old target i _ (omega arith) (omega (arith, long)) c.loop-i.invariant
    (c.left_byte.ensures ∙ ap (λ x. f x (bit_and x (get_or given i 0))) is ∙ ap (f (get_or old i 0)) (sym (get_or_zip_with bit_and old given i (omega arith) (omega arith))))

pub returns : goal.returns
returns c =
    let old = c.args.bytes.now in
    let given = c.args.given.now in
    all_in_place (left_byte c.args.torn) c.loop-i.bytes old (zip_with bit_and old given) c.loop-i.i (omega arith) (omega (arith, length_zip_with bit_and old given c.requires)) c.loop-i.invariant
