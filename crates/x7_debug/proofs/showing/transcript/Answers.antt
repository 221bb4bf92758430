use Rattle.std.proofs.Common.{◌≡◌, ℕ, ◌+◌, ◌<◌, ◌++◌, List, length, take, drop, get_or, ap, rules, sym, ◌∙◌, arith}
use Rattle.std.proofs.lemmas.List.{take-append-drop}
use Rattle.x7_debug.specs.declared.order.Order.{Order}
use Rattle.x7_debug.specs.declared.order.Order.TheVariants as order
use Rattle.x7_debug.specs.Session.{MovesTo}
use Rattle.x7_debug.specs.Showing.{FollowsSomeOrders, final_position, order_shown}
use Rattle.x7_debug.proofs.ShowingLemmas.{moves_on, position_more, shows, text_more}
use Rattle.x7_debug.proofs.showing.transcript.Goals as goal

pub returns-in_err-show-clause-some_orders : goal.returns-in_err-show-clause-some_orders
returns-in_err-show-clause-some_orders c =
    let old = c.args.session.now in
    let orders : List Order = c.args.script.now in
    let i = c.loop-order.order-index in
    let items : List Order = c.orders-order-items.result.now in
    let o : Order = get_or items i (order.Step 0) in
    let same : items ≡ orders = c.orders-order-items.ensures in
    let below : i < length orders = omega (arith, ap length same, c.loop-order-test.true) in
    let some : FollowsSomeOrders old c.follow.new.self orders = record {
      done = take (i + 1) orders;
      left = drop (i + 1) orders;
      all = sym (take-append-drop (i + 1) orders);
      follows = moves_on old c.loop-order.session c.follow.new.self (final_position old.part old.stream (take i orders)) (final_position old.part old.stream (take (i + 1) orders)) o c.loop-order.invariant.moves c.follow.ensures
          (position_more old.part old.stream orders i o (order.Step 0) below (ap (λ (t : List Order). get_or t i (order.Step 0)) same));
    } in
    search rules

pub loop-order-preserved : goal.loop-order-preserved
loop-order-preserved c =
    let old = c.args.session.now in
    let orders : List Order = c.args.script.now in
    let i = c.loop-order.order-index in
    let items : List Order = c.orders-order-items.result.now in
    let o : Order = get_or items i (order.Step 0) in
    let same : items ≡ orders = c.orders-order-items.ensures in
    let below : i < length orders = omega (arith, ap length same, c.loop-order-test.true) in
    let is : o ≡ get_or orders i (order.Step 0) = ap (λ (t : List Order). get_or t i (order.Step 0)) same in
    let there : ℕ = final_position old.part old.stream (take (i + 1) orders) in
    let moved : MovesTo old c.follow.new.self there
    = moves_on old c.loop-order.session c.follow.new.self (final_position old.part old.stream (take i orders)) there o c.loop-order.invariant.moves c.follow.ensures (position_more old.part old.stream orders i o (order.Step 0) below is) in
    record {
      moves = moved;
      text =
          c.in_ok-show.ensures ∙ ap (λ (t : List ℕ). c.loop-order.text.items ++ t) (shows old c.follow.new.self there o moved)
          ∙ ap (λ (t : List ℕ). t ++ order_shown old.part old.stream there o) c.loop-order.invariant.text
          ∙ text_more old.part old.stream orders i o (order.Step 0) below is;
    }
