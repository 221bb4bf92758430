use Rattle.std.proofs.Common.{◌≡◌, ◌++◌, List, ℕ, refl, ap, arith, ◌∙◌}
use Rattle.std.specs.List.{flat_map}
use Rattle.x7_words.proofs.SinkLemmas.{counts_at, counts_on}
use Rattle.x7_report.specs.Frames.{line_of_rank}
use Rattle.x7_report.proofs.LinesLemmas.{none_sent, more_sent, next_failed}
use Rattle.x7_report.proofs.streamed.write_lines.Goals as goal

pub loop-rest-init : goal.loop-rest-init
loop-rest-init g c =
    let s = g.S.Sink in
    record { sent = none_sent (s.state c.args.out.now).written (line_of_rank c.args.part.now c.args.memory.now) c.args.ranks.now; room = c.requires.room; counts = counts_at _; no_fault = refl }

pub returns-in_err-write_all-clause-prefix : goal.returns-in_err-write_all-clause-prefix
returns-in_err-write_all-clause-prefix g c =
    let s = g.S.Sink in
    let m = line_of_rank c.args.part.now c.args.memory.now in
    let block : c.deref.result.now ≡ flat_map m c.split_at.result.0.now = c.deref.ensures.value ∙ c.put_lines.ensures.appends.items ∙ ap (λ (t : List ℕ). t ++ flat_map m c.split_at.result.0.now) c.clear.ensures.items in
    next_failed (s.state c.args.out.now).written (s.state c.loop-rest.out).written m c.args.ranks.now c.loop-rest.rest.now c.split_at.result.0.now c.split_at.result.1.now c.min.result
    c.loop-rest.invariant.sent c.split_at.ensures.front c.split_at.ensures.back (s.state c.write_all.new.sink).written (rw (← block) c.in_err-write_all.ensures.prefix)

pub loop-rest-preserved : goal.loop-rest-preserved
loop-rest-preserved g c =
    let s = g.S.Sink in
    let m = line_of_rank c.args.part.now c.args.memory.now in
    let block : c.deref.result.now ≡ flat_map m c.split_at.result.0.now = c.deref.ensures.value ∙ c.put_lines.ensures.appends.items ∙ ap (λ (t : List ℕ). t ++ flat_map m c.split_at.result.0.now) c.clear.ensures.items in
    record {
      sent = more_sent (s.state c.args.out.now).written (s.state c.loop-rest.out).written m c.args.ranks.now c.loop-rest.rest.now c.split_at.result.0.now c.split_at.result.1.now c.min.result
          c.loop-rest.invariant.sent c.split_at.ensures.front c.split_at.ensures.back (s.state c.write_all.new.sink).written (rw (← block) c.in_ok-write_all.ensures.appends);
      room = omega (arith, c.put_lines.ensures.appends.room, c.loop-rest.invariant.room);
      counts = counts_on _ _ _ c.loop-rest.invariant.counts c.in_ok-write_all.ensures.counts;
      no_fault = c.in_ok-write_all.ensures.no_fault ∙ c.loop-rest.invariant.no_fault;
    }
