-- What a turn of a device does. A device takes the bytes of a piece in turns, each a step over the next of them (this
-- project's choice).
use Rattle.std.specs.Prelude.{◌≡◌, ℕ, ◌+◌, ◌-◌, ◌<◌, ◌≤◌, Bool, false, IsTrue, List, length, None}
use Rattle.x7_packets.specs.Cutter.{between, calls_left}
use Rattle.x7_engine.specs.Past.{GivesNoWord, ForEachPast, TakesJust}
use Rattle.x7_engine.specs.Standing.{CanBeGiven, DeviceState, NoWordDue, fed_more, fed_of}
use Rattle.x7_engine.specs.UntilStarted.{CommandsLast}

-- a device that can take the bytes of a piece from byte `at`, from 0, on: nothing stopped it, no word is due, and it
-- can be given them
pub record MayTakePiece (d : DeviceState) (piece : List ℕ) (at : ℕ) : Type 0 where
  pub within : at ≤ length piece
  pub going : d.registers.values.stop ≡ None
  pub no_word_due : NoWordDue d
  pub fits : CanBeGiven d (length piece - at)

-- in a turn a device keeps its part, takes just the bytes `more` and gives no word, and none of the bytes but the last
-- ends a write to CMD, a read or a word in a header's place that is no header
pub record TurnTakes (old new : DeviceState) (more : List ℕ) : Type 0 where
  pub part : new.part ≡ old.part
  pub takes : TakesJust old new more
  pub silent : GivesNoWord old new more
  pub commands : ForEachPast old (λ p. CommandsLast p.bytes more)

-- a turn: a device before and after it, a piece, and the places in the piece, from 0, where the turn begins and ends
pub record Turn : Type 0 where
  pub old : DeviceState
  pub new : DeviceState
  pub piece : List ℕ
  pub from : ℕ
  pub to : ℕ

-- the turn from one device and place of a piece to others
abbrev pub turn_of : DeviceState → DeviceState → List ℕ → ℕ → ℕ → Turn
turn_of old new piece from to = record { old = old; new = new; piece = piece; from = from; to = to }

-- in a turn a device took the bytes of the piece between the two places, and counted them
pub record TurnMoves (t : Turn) : Type 0 where
  pub forward : t.from ≤ t.to
  pub within : t.to ≤ length t.piece
  pub taken : t.new.taken ≡ t.old.taken + (t.to - t.from)
  pub fed : fed_of t.new ≡ fed_more t.old (t.to - t.from)
  pub turn : TurnTakes t.old t.new (between t.piece t.from t.to)

-- a device used up a piece: it is at the piece's end, nothing stopped it, and no word is due
pub record IsUsedUp (d : DeviceState) (piece : List ℕ) (at : ℕ) : Type 0 where
  pub all : at ≡ length piece
  pub going : d.registers.values.stop ≡ None
  pub no_word_due : NoWordDue d

-- where nothing stopped a device in a turn, the calls of its cutter that may at most be left in the piece are fewer than
-- before
abbrev pub HasFewerCalls : Turn → Type 0
HasFewerCalls t = t.new.registers.values.stop ≡ None → calls_left t.new.cutter (length t.piece - t.to) < calls_left t.old.cutter (length t.piece - t.from)

-- a device took a turn, and used up the piece where it says so; where it doesn't and nothing stopped it, the calls of
-- its cutter that may at most be left in the piece are fewer than before
pub record TurnAnswers (t : Turn) (says_used_up : Bool) : Type 0 where
  pub turned : TurnMoves t
  pub used_up : IsTrue says_used_up → IsUsedUp t.new t.piece t.to
  pub goes_on : says_used_up ≡ false → HasFewerCalls t
