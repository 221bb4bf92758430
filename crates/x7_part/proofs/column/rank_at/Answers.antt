use Rattle.std.proofs.Common.{◌-◌, ℕ, Option, Some, None, arith}
use Rattle.std.specs.Prelude.{IfNone}
use Rattle.x7_part.proofs.ColumnLemmas.{no_frame, no_frame_first, nothing, past_frames}
use Rattle.x7_part.proofs.column.rank_at.Goals as goal

none_by : (rank : Option ℕ) (P Q : Type 0) → (P → Q) → IfNone rank P → IfNone rank Q
none_by None P Q f p = f p
none_by (Some r) P Q f p = tt

pub returns-then-after-eq0-clause-no_frame : goal.returns-then-after-eq0-clause-no_frame
returns-then-after-eq0-clause-no_frame c far = no_frame_first c.args.columns.now c.args.slot_number far c.requires.table (λ k d h. c.begun_by_slot-after.ensures.after k d (omega arith) h)

pub returns-clause-no_frame : goal.returns-clause-no_frame
returns-clause-no_frame c =
    let before = c.begun_by_slot-after.ensures.before (c.begun_by_slot-after.result - 1) nothing (omega arith) in
    let within = c.begun_by_slot-after.ensures.within in
    none_by c.rank_in-2.result _ _
    (λ past far. no_frame c.args.columns.now c.args.slot_number c.begun_by_slot-after.result far c.requires.table within
    c.if-after-eq0.false c.begun_by_slot-after.ensures.before c.begun_by_slot-after.ensures.after (past_frames _ _ _ before (past nothing (omega arith)))) c.rank_in-2.ensures.not_in_column
