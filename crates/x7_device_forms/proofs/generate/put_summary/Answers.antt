use Rattle.std.proofs.Common.{◌++◌, ℕ, codes, ap, ◌∙◌}
use Rattle.std.proofs.lemmas.Result.{on_ok_weaker}
use Rattle.x7_outcome.specs.Generate.{count_line}
use Rattle.x7_device_forms.proofs.GenerateLemmas.{summary_put}
use Rattle.x7_device_forms.proofs.generate.put_summary.Goals as goal

pub returns : goal.returns
returns c =
    let s = c.args.summary in
    on_ok_weaker c.put_sum.result (λ sum. summary_put c.args.name.now c.args.seed s.planned s.size s.phase s.sum c.args.text.now.items c.put_gen_line.new.text.items c.put_count.new.text.items c.put_count-2.new.text.items c.put_count-3.new.text.items c.put_sum.new.text.items
    c.in_ok-put_gen_line.ensures c.in_ok-put_count.ensures c.in_ok-put_count-2.ensures (c.in_ok-put_count-3.ensures ∙ ap (λ (n : ℕ). c.put_count-2.new.text.items ++ count_line (codes "phase ") n) c.from.ensures) sum) c.put_sum.ensures
