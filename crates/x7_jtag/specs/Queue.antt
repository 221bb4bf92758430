-- The queue between a port and its device: bytes in, bits of the words read out (this project's choice). In each
-- definition `reads` gives the words that a device reads out of the bytes given to it.
use Rattle.std.specs.Prelude.{◌≡◌, ℕ, ◌+◌, ◌-◌, ◌*◌, ◌/◌, ◌%◌, ◌^◌, ◌<◌, ◌≤◌, ◌==◌, ◌&&◌, nat_lt, Bool, true, false, if◌then◌else◌, List, [], ◌∷◌, ◌++◌, length, slice_index}
use Rattle.std.specs.List.{fold}
use Rattle.x7_words.specs.Word.{AreBytes}

-- an event of a queue: a byte offered, a clock that shifts a bit out, a reset of the device
pub data QueueEvent : Type 0 where
  Byte : (byte : ℕ) → QueueEvent
  Bit : QueueEvent
  Program : QueueEvent

-- the bytes given to the device since its reset, those held back, and how many bits of the words read out are out: they
-- went to TDO or were dropped
pub record Queue : Type 0 where
  pub given : List ℕ
  pub held : List ℕ
  pub out : ℕ

-- a queue of these bytes given and held, and of `out` bits that are out
abbrev pub queue_of : List ℕ → List ℕ → ℕ → Queue
queue_of given held out = record { given = given; held = held; out = out }

-- a queue after its device was given also the bytes `more`
abbrev pub with_given : Queue → List ℕ → Queue
with_given q more = record q { given = q.given ++ more }

-- the number of all bits of the words that the bytes `given` read out
abbrev pub bits_read : (List ℕ → List ℕ) → List ℕ → ℕ
bits_read reads given = 32 * length (reads given)

-- a word read out, or a part of one, waits: fewer bits are out than were read out
abbrev pub waits : (List ℕ → List ℕ) → List ℕ → ℕ → Bool
waits reads given out = nat_lt out (bits_read reads given)

-- the most bytes held
abbrev pub most_bytes_held : ℕ
most_bytes_held = 64

-- a queue after byte `x` in its turn: given where no word waits, else held after the others
abbrev pub in_turn : (List ℕ → List ℕ) → Queue → ℕ → Queue
in_turn reads q x = if waits reads q.given q.out then record q { held = q.held ++ x ∷ [] } else with_given q (x ∷ [])

-- a queue after its held bytes came in their turn again: they go to the device in order until a word waits, and the
-- rest stays held
abbrev pub give_held : (List ℕ → List ℕ) → Queue → Queue
give_held reads q = fold (in_turn reads) (record q { held = [] }) q.held

-- a queue after all words that wait were dropped, the held bytes were given, and what they read out was dropped
abbrev pub dropped : (List ℕ → List ℕ) → Queue → Queue
dropped reads q = queue_of (q.given ++ q.held) [] (bits_read reads (q.given ++ q.held))

-- a queue as the next byte finds it: where a word waits and the most bytes are held, `dropped` has made room
abbrev pub queue_with_room : (List ℕ → List ℕ) → Queue → Queue
queue_with_room reads q = if waits reads q.given q.out && length q.held == most_bytes_held then dropped reads q else q

-- a queue after a byte is offered
abbrev pub offered : (List ℕ → List ℕ) → Queue → ℕ → Queue
offered reads q x = in_turn reads (queue_with_room reads q) x

-- a queue after a clock that shifts a bit out: one bit more is out, where one waited, and where it was the last that
-- waited, held bytes go to the device
abbrev pub shifted_out : (List ℕ → List ℕ) → Queue → Queue
shifted_out reads q = if waits reads q.given q.out then give_held reads (record q { out = q.out + 1 }) else q

-- bit `n` of words, from 0, where each word begins with its highest bit
abbrev pub word_bit : List ℕ → ℕ → Bool
word_bit words n = slice_index words (n / 32) / 2 ^ (31 - n % 32) % 2 == 1

-- the bit that a clock shows: the one after those that are out, and 0 where none waits
abbrev pub bit_shown : (List ℕ → List ℕ) → Queue → Bool
bit_shown reads q = if waits reads q.given q.out then word_bit (reads q.given) q.out else false

-- the queue of a new port
abbrev pub empty_queue : Queue
empty_queue = queue_of [] [] 0

-- a queue after an event
abbrev pub by_event : (List ℕ → List ℕ) → Queue → QueueEvent → Queue
by_event reads q (Byte x) = offered reads q x
by_event reads q Bit = shifted_out reads q
by_event reads q Program = empty_queue

-- the queue of a new port after events
abbrev pub queue_after : (List ℕ → List ℕ) → List QueueEvent → Queue
queue_after reads es = fold (by_event reads) empty_queue es

-- what holds of a port's queue: no more bits are out than were read out, at most `most_bytes_held` bytes are held, and
-- none unless a word waits; what is given and held are bytes
pub record QueueIsSound (reads : List ℕ → List ℕ) (q : Queue) : Type 0 where
  pub within : q.out ≤ bits_read reads q.given
  pub room : length q.held ≤ most_bytes_held
  pub waiting : 0 < length q.held → waits reads q.given q.out ≡ true
  pub fits : AreBytes (q.given ++ q.held)
