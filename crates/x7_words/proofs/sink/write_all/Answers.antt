use Rattle.std.proofs.Common.{arith, ◌∙◌}
use Rattle.std.proofs.lemmas.Grind.{common_steps}
use Rattle.x7_words.proofs.SinkLemmas.{counts_on, written_more, puts_prefix}
use Rattle.x7_words.proofs.sink.write_all.Goals as goal

pub returns-in_err-at-clause-prefix : goal.returns-in_err-at-clause-prefix
returns-in_err-at-clause-prefix g c = puts_prefix _ _ _ c.loop-at.at (c.in_err-at.ensures.nothing_written ∙ c.loop-at.invariant.written)

pub loop-at-preserved : goal.loop-at-preserved
loop-at-preserved g c =
    record {
      within = grind (arith, common_steps, c.in_ok-at.ensures.within);
      written = written_more _ _ _ c.args.text.now c.loop-at.at c.in_ok-at.field-0 c.loop-at.invariant.written (grind (arith, common_steps, c.in_ok-at.ensures.appends));
      counts = counts_on _ _ _ c.loop-at.invariant.counts c.in_ok-at.ensures.counts;
      no_fault = c.in_ok-at.ensures.no_fault ∙ c.loop-at.invariant.no_fault;
    }
