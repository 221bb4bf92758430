-- The lines of a text up to one that is read next.
use Rattle.std.proofs.Common.{◌≡◌, ℕ, List, ◌++◌, length}
use Rattle.x7_text.specs.Lines.{split}
use Rattle.x7_debug.specs.declared.order.Order.{Order}
use Rattle.x7_debug.specs.Script.{AreOrders}

-- the first lines of a text, `count` of them, are read and come to these orders, and the rest of the text is left
pub record HasReadLines (text rest : List ℕ) (orders : List Order) (count : ℕ) : Type 0 where
  pub before : List (List ℕ)
  pub texts : split text ≡ before ++ split rest
  pub good : AreOrders before orders
  pub counted : count ≡ length before
