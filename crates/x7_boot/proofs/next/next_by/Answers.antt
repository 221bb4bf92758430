use Rattle.std.proofs.Common.{ap, sym, ◌∙◌}
use Rattle.x7_regs.specs.Control.{forbids_fallback}
use Rattle.x7_engine.specs.Kept.{is_fallback}
use Rattle.x7_boot.specs.Boot.{next_by}
use Rattle.x7_boot.specs.declared.next.Next.TheVariants.{Again}
use Rattle.x7_boot.proofs.BootCourseLemmas.{fallback_next, last_fails, stops_next}
use Rattle.x7_boot.proofs.next.next_by.Goals as goal
use Rattle.x7_boot.proofs.next.next_by.Goals.{then-is_fallback-via-then-is_fallback, then-is_fallback-via-else-is_fallback+then-forbids_fallback}

-- an attempt failed that was a fallback, or whose CTL0 forbids one
pub returns-then-is_fallback-clause-table : goal.returns-then-is_fallback-clause-table
returns-then-is_fallback-clause-table c = λ part t device kind. sym (ap (next_by part c.args.number t) c.in-Failed.is ∙ elim c.then-is_fallback.branch [
  | then-is_fallback-via-then-is_fallback w ↦ last_fails part c.args.number t c.in-Failed.field-0 (ap is_fallback kind ∙ sym c.is_fallback.ensures ∙ w.if-is_fallback.true)
  | then-is_fallback-via-else-is_fallback+then-forbids_fallback w ↦
      stops_next part c.args.number t c.in-Failed.field-0
      (ap forbids_fallback (sym (w.value-else-is_fallback.ensures.owing part t.kept t.wrapped t.bytes device)) ∙ sym w.forbids_fallback.ensures ∙ w.if-forbids_fallback.true)
])

-- an attempt failed, and a fallback follows
pub returns-else-forbids_fallback-clause-table : goal.returns-else-forbids_fallback-clause-table
returns-else-forbids_fallback-clause-table c = λ part t device kind.
    ap (λ k. Again k 0) (c.kept_after-in-Failed.ensures.kept part t device)
    ∙ sym (ap (next_by part c.args.number t) c.in-Failed.is ∙ fallback_next part c.args.number t c.in-Failed.field-0 (ap is_fallback kind ∙ sym c.is_fallback.ensures ∙ c.if-is_fallback.false)
    (ap forbids_fallback (sym (c.value-else-is_fallback.ensures.owing part t.kept t.wrapped t.bytes device)) ∙ sym c.forbids_fallback.ensures ∙ c.if-forbids_fallback.false))
