use Rattle.std.proofs.Common.{codes}
use Rattle.std.proofs.lemmas.Result.{on_ok_weaker}
use Rattle.x7_text.specs.Digits.{hex_word}
use Rattle.x7_device_forms.proofs.GenerateLemmas.{three_put}
use Rattle.x7_device_forms.proofs.generate.put_sum.Goals as goal

pub returns : goal.returns
returns c =
    on_ok_weaker c.put_text-3.result (λ last. three_put c.args.text.now.items c.put_text.new.text.items c.put_text-2.new.text.items c.put_text-3.new.text.items (codes "sum ") (hex_word c.args.sum) (codes "\n") c.hex_of_word.result
    c.in_ok-put_text.ensures.appends c.in_ok-put_text-2.ensures.appends c.hex_of_word.ensures last) c.put_text-3.ensures.appends
