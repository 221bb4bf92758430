use Rattle.std.proofs.Common.{◌≤◌, ◌%◌, ◌^◌, length, arith}
use Rattle.x7_part.specs.AddressOrder.{addresses_in}
use Rattle.x7_memory.specs.PartFrames.{frame_at}
use Rattle.x7_outcome.specs.Generate.{words_sum}
use Rattle.x7_device_forms.proofs.GenerateLemmas.{sum_all, sum_more}
use Rattle.x7_device_forms.proofs.generate.memory_sum.Goals as goal

pub loop-rank-preserved : goal.loop-rank-preserved
loop-rank-preserved c =
    let part = c.args.part.now in
    let m = frame_at part c.args.memory.now in
    let v = c.loop-rank.invariant in
    let found = c.in-Some.ensures.found in
    record {
      within = omega (arith, found.0);
      total = sum_more m c.loop-rank.rank c.in-Some.far c.loop-rank.total c.frame_sum-total.result _ (words_sum m (addresses_in part) % 2 ^ 32) (addresses_in part) found.0 found.1 c.frame_sum-total.ensures (omega arith) v.total;
    }

pub returns : goal.returns
returns c =
    let part = c.args.part.now in
    let m = frame_at part c.args.memory.now in
    let long : length (addresses_in part) ≤ c.loop-rank.rank = omega (arith, c.loop-rank-test.false, c.frames-rank-end.ensures.value) in
    sum_all m c.loop-rank.rank c.loop-rank.total (words_sum m (addresses_in part) % 2 ^ 32) (addresses_in part) long (omega arith) c.loop-rank.invariant.total
