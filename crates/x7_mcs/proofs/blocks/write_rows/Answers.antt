use Rattle.std.proofs.Common.{◌≡◌, ◌+◌, ◌%◌, ◌++◌, length, List, ℕ, ap, arith, ◌∙◌}
use Rattle.x7_mcs.specs.Record.{block_size}
use Rattle.x7_words.proofs.SinkLemmas.{counts_on}
use Rattle.x7_text.specs.Row.{rows}
use Rattle.x7_mcs.specs.Text.{row_lines}
use Rattle.x7_mcs.proofs.BlockLemmas.{begins_more, block_failed, block_put}
use Rattle.x7_mcs.proofs.blocks.write_rows.Goals as goal

pub returns-in_err-write_all-clause-prefix : goal.returns-in_err-write_all-clause-prefix
returns-in_err-write_all-clause-prefix g c =
    let s = g.S.Sink in
    let block : c.deref.result.now ≡ row_lines c.loop-rest.place (rows 16 c.split_at.result.0.now) = c.deref.ensures.value ∙ c.put_rows.ensures.appends ∙ ap (λ (t : List ℕ). t ++ row_lines c.loop-rest.place (rows 16 c.split_at.result.0.now)) c.clear.ensures.items in
    block_failed (s.state c.args.out.now).written (s.state c.loop-rest.out).written c.args.flash.now c.loop-rest.place c.loop-rest.rest.now c.split_at.result.0.now c.split_at.result.1.now c.deref.result.now c.min.result
    c.loop-rest.invariant.goes c.min.ensures (omega arith) c.split_at.ensures.front c.split_at.ensures.back (omega arith) block (s.state c.write_all.new.sink).written c.in_err-write_all.ensures.prefix

pub loop-rest-preserved : goal.loop-rest-preserved
loop-rest-preserved g c =
    let s = g.S.Sink in
    let block : c.deref.result.now ≡ row_lines c.loop-rest.place (rows 16 c.split_at.result.0.now) = c.deref.ensures.value ∙ c.put_rows.ensures.appends ∙ ap (λ (t : List ℕ). t ++ row_lines c.loop-rest.place (rows 16 c.split_at.result.0.now)) c.clear.ensures.items in
    record {
      goes =
          block_put (s.state c.args.out.now).written (s.state c.loop-rest.out).written c.args.flash.now c.loop-rest.place c.loop-rest.rest.now c.split_at.result.0.now c.split_at.result.1.now c.deref.result.now c.min.result
          c.loop-rest.invariant.goes c.min.ensures (omega arith) c.split_at.ensures.front c.split_at.ensures.back (omega arith) block (s.state c.write_all.new.sink).written c.in_ok-write_all.ensures.appends;
      left = omega arith;
      begins = λ more. ap (λ n. (c.loop-rest.place + n) % block_size) (omega arith) ∙ begins_more c.loop-rest.place (length c.loop-rest.rest.now) c.min.result (length c.split_at.result.1.now) c.min.ensures (omega arith) (c.loop-rest.invariant.begins (omega arith)) more;
      room = omega arith;
      counts = counts_on _ _ _ c.loop-rest.invariant.counts c.in_ok-write_all.ensures.counts;
      no_fault = c.in_ok-write_all.ensures.no_fault ∙ c.loop-rest.invariant.no_fault;
    }
