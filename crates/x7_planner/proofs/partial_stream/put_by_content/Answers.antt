use Rattle.std.proofs.Common.{subst, sym}
use Rattle.std.proofs.lemmas.Result.{on_ok_weaker}
use Rattle.x7_planner.specs.Content.{AreFirsts, AreStarts, planned_rows}
use Rattle.x7_planner.proofs.BurstLemmas.{sections_written}
use Rattle.x7_planner.proofs.partial_stream.put_by_content.Goals as goal

pub starts_of-requires-clause-firsts : goal.starts_of-requires-clause-firsts
starts_of-requires-clause-firsts c = subst (AreFirsts (planned_rows c.args.frames.now)) (sym c.deref.ensures.value) c.in_ok-firsts.ensures

pub put_groups-requires : goal.put_groups-requires
put_groups-requires c = record {
  frames = c.requires.frames;
  firsts = subst (AreFirsts (planned_rows c.args.frames.now)) (sym c.deref-2.ensures.value) c.in_ok-firsts.ensures;
  starts = subst (AreStarts c.args.plan.now.rows (planned_rows c.args.frames.now)) (sym c.deref-3.ensures.value) c.in_ok-starts.ensures;
}

pub put_alone-requires-clause-by_content : goal.put_alone-requires-clause-by_content
put_alone-requires-clause-by_content c = record {
  frames = c.requires.frames;
  firsts = subst (AreFirsts (planned_rows c.args.frames.now)) (sym c.deref-2.ensures.value) c.in_ok-firsts.ensures;
  starts = subst (AreStarts c.args.plan.now.rows (planned_rows c.args.frames.now)) (sym c.deref-3.ensures.value) c.in_ok-starts.ensures;
}

pub returns : goal.returns
returns c =
    on_ok_weaker c.put_alone.result (λ e. sections_written c.args.part.now c.args.plan.now.rows c.args.out.now.items c.put_groups.new.out.items c.put_alone.new.out.items c.in_ok-put_groups.ensures e) c.put_alone.ensures
