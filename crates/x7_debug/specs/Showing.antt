-- What a script shows of a stream: each order at the position where it leaves the session (this project's choice).
use Rattle.std.specs.Prelude.{◌≡◌, ℕ, ◌+◌, ◌-◌, List, [], ◌∷◌, ◌++◌, Option, None, Some, codes, decimal, fold, min}
use Rattle.x7_text.specs.Digits.{hex_word}
use Rattle.x7_part.specs.Part.{PartData}
use Rattle.x7_memory.specs.FrameMap.{FrameMap}
use Rattle.x7_engine.specs.declared.snapshot.Snapshot.{Snapshot}
use Rattle.x7_report.specs.Frames.{frame_text}
use Rattle.x7_report.specs.State.{end_text, phase_text, reg_text}
use Rattle.x7_debug.specs.declared.order.Order.{Order}
use Rattle.x7_debug.specs.declared.order.Order.TheVariants as order
use Rattle.x7_debug.specs.Position.{last_of, memory_at_position, state_at_position, until_of}
use Rattle.x7_debug.specs.Session.{MovesTo, SessionState}

-- the position (a count of bytes) that an order brings a session to from `at`: a move ends at 0 or at the last position
-- at the farthest, and an order that only shows something leaves the position as it is
abbrev pub position_after : PartData → List ℕ → ℕ → Order → ℕ
position_after part stream at (order.Step count) = min (at + count) (last_of part stream)
position_after part stream at (order.Back count) = at - count
position_after part stream at (order.Go position) = min position (last_of part stream)
position_after part stream at (order.Until stop) = until_of part stream stop at
position_after part stream at order.Regs = at
position_after part stream at order.Phase = at
position_after part stream at (order.Frame far) = at

-- the position to which orders bring a session that begins at position 0
abbrev pub final_position : PartData → List ℕ → List Order → ℕ
final_position part stream orders = fold (position_after part stream) 0 orders

-- a session moved to where `orders` lead from position 0 on
abbrev pub FollowsOrders : SessionState → SessionState → List Order → Type 0
FollowsOrders old new orders = MovesTo old new (final_position old.part old.stream orders)

-- a session moved to where the first orders lead from position 0 on: none of `orders`, some, or all
pub record FollowsSomeOrders (old new : SessionState) (orders : List Order) : Type 0 where
  pub done : List Order
  pub left : List Order
  pub all : orders ≡ done ++ left
  pub follows : FollowsOrders old new done

-- the line of where a move led: the position, which is the count of bytes taken, and where these end
unfoldable pub position_text : Snapshot → List ℕ
position_text r = codes "at " ++ (decimal r.taken ++ (codes " " ++ (end_text r.end ++ codes "\n")))

-- the line of an address where there is no frame
unfoldable pub none_text : ℕ → List ℕ
none_text far = codes "none " ++ (hex_word far ++ codes "\n")

-- the line of the frame at address `far`, or the line that says that there is none
abbrev pub frame_shown : ℕ → Option (List ℕ) → List ℕ
frame_shown far None = none_text far
frame_shown far (Some words) = frame_text far words

-- what an order shows where the device has the state `r` and these frames
abbrev pub shown_by : Order → Snapshot → FrameMap → List ℕ
shown_by (order.Step count) r frames = position_text r
shown_by (order.Back count) r frames = position_text r
shown_by (order.Go position) r frames = position_text r
shown_by (order.Until stop) r frames = position_text r
shown_by order.Regs r frames = reg_text r
shown_by order.Phase r frames = phase_text r
shown_by (order.Frame far) r frames = frame_shown far (frames far)

-- what an order shows at a position of a stream
abbrev pub order_shown : PartData → List ℕ → ℕ → Order → List ℕ
order_shown part stream n order = shown_by order (state_at_position part stream n) (memory_at_position part stream n)

-- what orders show, of which the first begins at position `at`
abbrev pub transcript_from : PartData → List ℕ → ℕ → List Order → List ℕ
transcript_from part stream at [] = []
transcript_from part stream at (o ∷ orders) = order_shown part stream (position_after part stream at o) o ++ transcript_from part stream (position_after part stream at o) orders

-- what a script shows of a stream on a new device of the part
abbrev pub transcript_of : PartData → List ℕ → List Order → List ℕ
transcript_of part stream orders = transcript_from part stream 0 orders
