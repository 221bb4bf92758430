use Rattle.std.proofs.Common.{◌≡◌, ◌≤◌, ◌++◌, ℕ, List, length, drop, ◌+◌, subst, sym, ap, ◌∙◌, arith}
use Rattle.x7_part.specs.AddressOrder.{addresses_in}
use Rattle.x7_part.specs.Part.{frame_words}
use Rattle.x7_memory.specs.Plan.{AreApart, PlanRow}
use Rattle.x7_outcome.specs.Generate.{plan_of_seed, row_by, rows_after}
use Rattle.x7_device_forms.proofs.GenerateLemmas.{plan_is, rows_all, rows_apart, rows_more}
use Rattle.x7_device_forms.proofs.generate.plan_of_seed.Goals as goal

pub loop-rank-preserved : goal.loop-rank-preserved
loop-rank-preserved c =
    let part = c.args.part.now in
    let v = c.loop-rank.invariant in
    let found = c.in-Some.ensures.found in
    let prefix : List PlanRow = c.loop-rank.draft.rows in
    let now : c.push_row.new.draft.rows ≡ prefix ++ row_by (frame_words part) c.in-Some.far _ =
    c.in_ok-push_row.ensures.added ∙ ap (λ (w : ℕ). prefix ++ row_by w c.in-Some.far c.next_number-number.result) v.width ∙ ap (λ (n : ℕ). prefix ++ row_by (frame_words part) c.in-Some.far n) c.next_number-number.ensures in
    record {
      within = omega (arith, found.0);
      room = c.push_row.ensures.room ∙ v.room;
      width = c.push_row.ensures.width ∙ v.width;
      rows = ap (λ (n : ℕ). c.push_row.new.draft.rows ++ rows_after (frame_words part) n (drop (c.loop-rank.rank + 1) (addresses_in part))) c.next_number-number.ensures
          ∙ rows_more (frame_words part) c.loop-rank.number c.loop-rank.rank c.in-Some.far (addresses_in part) prefix c.push_row.new.draft.rows (plan_of_seed part c.args.seed).rows found.0 found.1 now v.rows;
    }

pub finish-requires : goal.finish-requires
finish-requires c =
    let part = c.args.part.now in
    let v = c.loop-rank.invariant in
    let long : length (addresses_in part) ≤ c.loop-rank.rank = omega (arith, c.loop-rank-test.false, c.frames-rank-end.ensures.value) in
    let rows : c.loop-rank.draft.rows ≡ (plan_of_seed part c.args.seed).rows = rows_all (frame_words part) c.loop-rank.number c.loop-rank.rank (addresses_in part) c.loop-rank.draft.rows (plan_of_seed part c.args.seed).rows long v.rows in
    record { apart = subst (λ (t : List PlanRow). AreApart t) (sym rows) (rows_apart part c.args.seed c.frames-rank-end.ensures.order) }

pub returns : goal.returns
returns c =
    let part = c.args.part.now in
    let v = c.loop-rank.invariant in
    let long : length (addresses_in part) ≤ c.loop-rank.rank = omega (arith, c.loop-rank-test.false, c.frames-rank-end.ensures.value) in
    let rows : c.loop-rank.draft.rows ≡ (plan_of_seed part c.args.seed).rows = rows_all (frame_words part) c.loop-rank.number c.loop-rank.rank (addresses_in part) c.loop-rank.draft.rows (plan_of_seed part c.args.seed).rows long v.rows in
    plan_is part c.args.seed c.loop-rank.draft c.finish.result c.frames-rank-end.ensures.order rows v.width c.finish.ensures.width c.finish.ensures.same_rows c.finish.ensures.plan
