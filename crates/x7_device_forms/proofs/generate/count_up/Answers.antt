use Rattle.std.proofs.Common.{◌<◌, ◌∷◌, [], ◌++◌, ℕ, List, length, ap, sym, ◌∙◌, arith}
use Rattle.std.proofs.lemmas.List.{length-set, take_more_set}
use Rattle.x7_device_forms.proofs.GenerateLemmas.{counted_more}
use Rattle.x7_device_forms.proofs.generate.count_up.Goals as goal

pub loop-i-preserved : goal.loop-i-preserved
loop-i-preserved c =
    let v = c.loop-i.invariant in
    let i : ℕ = c.loop-i.i in
    let word : ℕ = c.loop-i.word in
    let inside : i < length c.loop-i.frame.items = omega (arith, c.loop-i-test.true, c.len-i-end.ensures, v.length) in
    record {
      length = length-set c.loop-i.frame.items i word ∙ v.length;
      prefix = take_more_set c.loop-i.frame.items i word inside ∙ ap (λ (t : List ℕ). t ++ word ∷ []) v.prefix ∙ sym (counted_more c.args.first i word v.word);
      word = omega (arith, v.word);
    }
