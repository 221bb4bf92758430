-- Scripts: the orders to a session, a line each (this project's choice).
use Rattle.std.specs.Prelude.{◌≡◌, ◌≢◌, ℕ, ◌+◌, ◌<◌, ◌^◌, Bool, true, not, List, ◌∷◌, ◌++◌, length, map, codes, decimal, Result, Ok, Err}
use Rattle.std.specs.List.{AllByRecursion, filter}
use Rattle.x7_text.specs.Digits.{hex_word}
use Rattle.x7_text.specs.Lines.{means_nothing, split}
use Rattle.x7_debug.specs.declared.fault.ScriptFault.{ScriptFault}
use Rattle.x7_debug.specs.declared.fault.ScriptFault.TheVariants as fault
use Rattle.x7_debug.specs.declared.order.Order.{Order}
use Rattle.x7_debug.specs.declared.order.Order.TheVariants as order
use Rattle.x7_debug.specs.declared.order.Stop.{Stop}
use Rattle.x7_debug.specs.declared.order.Stop.TheVariants as stop

-- a line that is neither empty nor a comment
abbrev pub has_meaning : List ℕ → Bool
has_meaning line = not (means_nothing line)

-- the words that name a stop after `until`
abbrev pub stop_text : Stop → List ℕ
stop_text stop.Synced = codes "synced"
stop_text stop.Searching = codes "searching"
stop_text stop.Stopped = codes "stopped"
stop_text (stop.Phase phase) = codes "phase " ++ decimal phase

-- the line of an order: numbers in decimal, an address in eight upper-case hexadecimal digits
abbrev pub order_text : Order → List ℕ
order_text (order.Step count) = codes "step " ++ decimal count
order_text (order.Back count) = codes "back " ++ decimal count
order_text (order.Go position) = codes "go " ++ decimal position
order_text (order.Until stop) = codes "until " ++ stop_text stop
order_text order.Regs = codes "regs"
order_text order.Phase = codes "phase"
order_text (order.Frame far) = codes "frame " ++ hex_word far

-- the phase of a stop is within its three bits
abbrev pub FitsStop : Stop → Type 0
FitsStop (stop.Phase phase) = phase < 8
FitsStop _ = Unit {0}

-- the numbers of an order are within their 32 bits, and a phase within its three
abbrev pub FitsOrder : Order → Type 0
FitsOrder (order.Step count) = count < 2 ^ 32
FitsOrder (order.Back count) = count < 2 ^ 32
FitsOrder (order.Go position) = position < 2 ^ 32
FitsOrder (order.Until stop) = FitsStop stop
FitsOrder order.Regs = Unit {0}
FitsOrder order.Phase = Unit {0}
FitsOrder (order.Frame far) = far < 2 ^ 32

-- of `lines` those that have a meaning are those of `orders`, in order
pub record AreOrders (lines : List (List ℕ)) (orders : List Order) : Type 0 where
  pub texts : filter has_meaning lines ≡ map order_text orders
  pub fit : AllByRecursion FitsOrder orders

-- a line that has a meaning and is no order's
pub record IsNoOrder (line : List ℕ) : Type 0 where
  pub meaning : has_meaning line ≡ true
  pub no_order : (order : Order) → FitsOrder order → line ≢ order_text order

-- line n, counted from 1, is the first line that has a meaning and is no order's
pub record IsFirstBadLine (text : List ℕ) (n : ℕ) : Type 0 where
  pub before : List (List ℕ)
  pub bad : List ℕ
  pub after : List (List ℕ)
  pub texts : split text ≡ before ++ bad ∷ after
  pub orders : List Order
  pub good : AreOrders before orders
  pub count : n ≡ length before + 1
  pub is_bad : IsNoOrder bad

-- what a text comes to: its orders, or its first bad line; want of memory is never the text's
abbrev pub IsScriptOf : List ℕ → Result (List Order) ScriptFault → Type 0
IsScriptOf text (Ok orders) = AreOrders (split text) orders
IsScriptOf text (Err (fault.Line n)) = IsFirstBadLine text n
IsScriptOf text (Err fault.NoMemory) = ⊥

-- a text comes to its orders, or to its first bad line
abbrev pub HasScript : List ℕ → Type 0
HasScript text = (r : Result (List Order) ScriptFault) × IsScriptOf text r
