use Rattle.std.proofs.Common.{sym, ◌∙◌}
use Rattle.x7_update.proofs.CaseLemmas.{true_or_false}
use Rattle.x7_update.proofs.SlotLemmas.{so_far_free, so_far_spent}
use Rattle.x7_update.proofs.slots.look_at_slot.Goals as goal

pub returns-then-is_same-2-clause-slots : goal.returns-then-is_same-2-clause-slots
returns-then-is_same-2-clause-slots c =
    so_far_free c.args.first_sector.now c.args.slot c.in_default.ensures.leads c.args.before
    (λ o. true_or_false c.is_same.result (c.is_same.ensures.1 (c.four_at-switch.ensures ∙ o)) c.if-is_same.false)
    (sym c.four_at-switch.ensures ∙ c.is_same-2.ensures.0 c.if-is_same-2.true) c.requires.before

pub returns-clause-slots : goal.returns-clause-slots
returns-clause-slots c =
    so_far_spent c.args.first_sector.now c.args.slot c.in_default.ensures.leads c.args.before
    (λ o. true_or_false c.is_same.result (c.is_same.ensures.1 (c.four_at-switch.ensures ∙ o)) c.if-is_same.false)
    (λ f. true_or_false c.is_same-2.result (c.is_same-2.ensures.1 (c.four_at-switch.ensures ∙ f)) c.if-is_same-2.false) c.requires.before
