-- What a call that feeds a device leaves of it, and of the buffer that is given the words read out, and what it answers
-- (this project's choice).
use Rattle.std.specs.Prelude.{◌≡◌, ℕ, ◌+◌, ◌<◌, ◌≤◌, ◌++◌, List, length, take, None}
use Rattle.x7_engine.specs.declared.fed.Fed.{Fed}
use Rattle.x7_engine.specs.declared.until_started.UntilStarted.{UntilStarted}
use Rattle.x7_engine.specs.Past.{AnswersAt, AnswersUntilAt, ForEachPast, HasPast, Past, TakesJust, later, prefix_taken, prefix_taken_until, reads_given_at}
use Rattle.x7_engine.specs.ReadBuffer.{HoldsWithinMost, IsFull, ReadBufState, with_words}
use Rattle.x7_engine.specs.Standing.{DeviceState, HasStopped, due_count, fed_more, fed_of}
use Rattle.x7_engine.specs.UntilRead.{RoomBefore}

-- A device took just the first `count` bytes of a piece, counted them, and kept its part. One that had stopped before
-- took none, and is as it was.
pub record TakesFirst (old new : DeviceState) (piece : List ℕ) (count : ℕ) : Type 0 where
  pub within : count ≤ length piece
  pub part : new.part ≡ old.part
  pub taken : new.taken ≡ old.taken + count
  pub fed : fed_of new ≡ fed_more old count
  pub stands : TakesJust old new (take count piece)
  pub stopped : HasStopped old → (new ≡ old) × (count ≡ 0)

-- a device, and the buffer that is given the words that it reads out
pub record DeviceAndBuffer : Type 0 where
  pub device : DeviceState
  pub buffer : ReadBufState

-- this device with this buffer
abbrev pub with_buffer : DeviceState → ReadBufState → DeviceAndBuffer
with_buffer device buffer = record { device = device; buffer = buffer }

-- the buffer was given just the next words: those given in the past `after` are those given in the past `before`, and
-- then these
abbrev pub GivesWordsNext : Past → Past → DeviceAndBuffer → DeviceAndBuffer → Type 0
GivesWordsNext before after old new =
    (words : List ℕ)
    × (new.buffer ≡ with_words old.buffer words)
    × (reads_given_at new.device after ≡ reads_given_at old.device before ++ words)

-- A buffer was given the next words that a device reads out with the first `count` bytes of a piece; at any fewer of
-- these bytes it had room for each word so far. Where the device had stopped before, the buffer is as it was.
pub record GivesWordsOfFirst (old new : DeviceAndBuffer) (piece : List ℕ) (count : ℕ) : Type 0 where
  pub words : ForEachPast old.device (λ p. GivesWordsNext p (later p (take count piece)) old new)
  pub within_most : HoldsWithinMost new.buffer.most new.buffer.words
  pub room : ForEachPast old.device (λ p. RoomBefore p piece count (reads_given_at old.device p) old.buffer)
  pub stopped : HasStopped old.device → new.buffer ≡ old.buffer

-- a device that goes on gave a buffer the words due, all of them or as many as there is room for, and is else as it was
pub record GivesWordsDue (old new : DeviceAndBuffer) : Type 0 where
  pub full : 0 < due_count new.device.registers.values.due → IsFull new.buffer
  pub within_most : HoldsWithinMost new.buffer.most new.buffer.words
  pub going : new.device.registers.values.stop ≡ None
  pub part : new.device.part ≡ old.device.part
  pub taken : new.device.taken ≡ old.device.taken
  pub fed : new.device.fed ≡ old.device.fed
  pub cutter : new.device.cutter ≡ old.device.cutter
  pub stands : ForEachPast old.device (λ p. HasPast new.device p)
  pub given : ForEachPast old.device (λ p. GivesWordsNext p p old new)

-- the answer of a feed says what the old bytes, and then those taken of a piece, come to
abbrev pub AnswersFor : DeviceState → DeviceAndBuffer → List ℕ → Fed → Type 0
AnswersFor old new piece answer = ForEachPast old (λ p. AnswersAt (later p (prefix_taken piece answer)) new.device new.buffer answer)

-- the answer of a feed up to the end of startup says what the old bytes, and then those taken of a piece, come to
abbrev pub AnswersUntilFor : DeviceState → DeviceAndBuffer → List ℕ → UntilStarted → Type 0
AnswersUntilFor old new piece answer = ForEachPast old (λ p. AnswersUntilAt (later p (prefix_taken_until piece answer)) new.device new.buffer answer)
