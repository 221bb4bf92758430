use Rattle.std.proofs.Common.{◌≡◌, ℕ, ◌∙◌, ◌-◌, ◌*◌, ◌++◌, length, take, drop, get_or, Err, ap, subst, arith}
use Rattle.x7_part.specs.Slot.{slots_in}
use Rattle.x7_part.specs.declared.slot.Slot.TheVariants.{End}
use Rattle.x7_planner.specs.FullStream.{words_of_slots}
use Rattle.x7_planner.specs.FullStreamPieces.{most_frame_size}
use Rattle.x7_planner.specs.Writer.{bytes_of_words}
use Rattle.x7_planner.proofs.SlotLemmas.{all_slots, slot_more, slots_none}
use Rattle.x7_planner.proofs.WithinLemmas.{within_after, within_call, within_handed}
use Rattle.x7_planner.proofs.full_stream.put_slots.Goals as goal

pub loop-n-init : goal.loop-n-init
loop-n-init c = record { order = omega arith; items = slots_none c.args.part.now c.args.plan.now c.args.out.now.items c.args.from; within = omega arith; room = omega arith }

pub loop-n-preserved : goal.loop-n-preserved
loop-n-preserved c = record {
  order = omega (arith, c.loop-n.invariant.order);
  items = slot_more c.args.part.now c.args.plan.now c.args.out.now.items c.loop-n.out.items c.put_words.new.out.items c.args.from c.loop-n.n c.slot_after.result c.loop-n.invariant.order (omega (arith, c.loop-n-test.true, c.requires.within))
      (c.slot_after.ensures ∙ ap (λ t. get_or t c.loop-n.n End) (all_slots c.args.part.now c.first_address-first.result c.loop-n.n c.first_address-first.ensures.part c.first_address-first.ensures.first)) c.loop-n.invariant.items
      (c.in_ok-put_words.ensures.appends ∙ ap (λ t. c.loop-n.out.items ++ bytes_of_words t) c.frame_at.ensures.words);
  within = omega (arith, c.in_ok-put_words.ensures.length, c.frame_at.ensures.most, c.loop-n.invariant.within, c.loop-n.invariant.order);
  room = omega (arith, c.put_words.ensures.room, c.loop-n.invariant.room);
}

pub slot_after-requires : goal.slot_after-requires
slot_after-requires c = record { address = c.first_address-first.ensures.address }

pub returns-in_err-put_words-clause-within : goal.returns-in_err-put_words-clause-within
returns-in_err-put_words-clause-within c = within_handed c.args.out.now c.put_words.new.out c.from_residual.result (most_frame_size * (c.args.to - c.args.from)) c.from_residual.ensures.0 (λ e.
    within_after c.args.out.now c.loop-n.out c.put_words.new.out (Err e) _ (most_frame_size * (c.loop-n.n - c.args.from)) most_frame_size _ c.loop-n.invariant.items c.loop-n.invariant.within c.loop-n.invariant.room
    (within_call c.loop-n.out c.put_words.new.out (Err e) (4 * length c.frame_at.result.now) most_frame_size tt c.in_err-put_words.ensures.unchanged c.put_words.ensures.room c.in_err-put_words.ensures.no_room (omega (arith, c.frame_at.ensures.most)))
    (omega (arith, c.loop-n.invariant.order, c.loop-n-test.true)))

pub returns-clause-appends : goal.returns-clause-appends
returns-clause-appends c =
    subst (λ (n : ℕ). c.loop-n.out.items ≡ c.args.out.now.items ++ bytes_of_words (words_of_slots c.args.part.now c.args.plan.now (drop c.args.from (take n (slots_in c.args.part.now))))) (omega (arith, c.loop-n-test.false, c.loop-n.auto.n-end)) c.loop-n.invariant.items

pub returns-clause-within : goal.returns-clause-within
returns-clause-within c = record { within = omega (arith, c.loop-n.invariant.within, c.loop-n.invariant.order, c.loop-n.auto.n-end); failed = tt; room = c.loop-n.invariant.room; no_room = tt }
