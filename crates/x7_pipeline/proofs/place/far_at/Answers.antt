use Rattle.std.proofs.Common.{sym, ◌∙◌, arith}
use Rattle.x7_pipeline.proofs.SlotLemmas.{is_base_so}
use Rattle.x7_pipeline.proofs.FarLemmas.{far_at_none, found_here, far_past}
use Rattle.x7_pipeline.proofs.place.far_at.Goals as goal

pub returns-then-not-is_address : goal.returns-then-not-is_address
returns-then-not-is_address c = far_at_none c.args.part.now c.args.base c.args.n (sym (rw c.if-not-is_address.true at (is_base_so c.args.part.now c.args.base c.is_address.result c.is_address.ensures.listed)))

pub returns-in-Frame : goal.returns-in-Frame
returns-in-Frame c =
    found_here c.args.part.now c.args.base c.args.n c.loop-place.place c.in-Frame.far
    (sym (rw c.if-not-is_address.false at (is_base_so c.args.part.now c.args.base c.is_address.result c.is_address.ensures.listed)))
    (let count = c.slots_from-place-end.ensures in omega arith) c.loop-place.invariant c.in-Frame.ensures

pub returns : goal.returns
returns c =
    c.last_address.ensures
    ∙ far_past c.args.part.now c.args.base c.args.n c.loop-place.place
    (sym (rw c.if-not-is_address.false at (is_base_so c.args.part.now c.args.base c.is_address.result c.is_address.ensures.listed)))
    (let count = c.slots_from-place-end.ensures in omega arith) c.loop-place.invariant
