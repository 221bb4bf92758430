-- What a tap, which is the test access port as the code keeps it, and its device stand for: a port after some clocks
-- (this project's choice).
use Rattle.std.specs.Prelude.{◌≡◌, ◌⊎◌, false, ℕ, ◌+◌, ◌*◌, ◌<◌, ◌≤◌, List, [], ◌∷◌, ◌++◌, length}
use Rattle.std.specs.Option.{IsSome}
use Rattle.x7_words.specs.Word.{AreBytes}
use Rattle.x7_part.specs.Part.{PartData}
use Rattle.x7_engine.specs.declared.fed.Fed.{Fed}
use Rattle.x7_engine.specs.declared.fed.Fed.TheVariants as fed
use Rattle.x7_engine.specs.Kept.{on_the_bench}
use Rattle.x7_engine.specs.Standing.{CanBeGiven, DeviceState, DeviceStandsFor, NoWordDue, reads_given}
use Rattle.x7_engine.specs.State.{first_stop_of_bytes}
use Rattle.x7_jtag.specs.declared.instruction.Instruction.{Instruction}
use Rattle.x7_jtag.specs.declared.instruction.Instruction.TheVariants as instruction
use Rattle.x7_jtag.specs.declared.state.State.{State}
use Rattle.x7_jtag.specs.declared.state.State.TheVariants as state
use Rattle.x7_jtag.specs.Port.{Port, port_after, words_read_out}
use Rattle.x7_jtag.specs.Queue.{Queue, most_bytes_held}
use Rattle.x7_jtag.specs.State.{PortClock}

-- the stored values of a queue: the bytes held, the latest word taken of the device, and how many of its bits are still
-- to go out
pub record QueueState : Type 0 where
  pub held : List ℕ
  pub word : ℕ
  pub bits_left : ℕ

-- a queue after it took the first of `words`, or as it was where the device gave none
abbrev pub with_word_taken : QueueState → List ℕ → QueueState
with_word_taken queue [] = queue
with_word_taken queue (word ∷ words) = record { held = queue.held; word = word; bits_left = 32 }

-- the stored values of a tap
pub record TapState : Type 0 where
  pub state : State
  pub instruction : Instruction
  pub register : ℕ
  pub count : ℕ
  pub queue : QueueState

-- `bytes` are the first of the bytes `given`: all of them, or some in which a stop comes, as those that a device took
-- up to its stop
pub record TookOfGiven (part : PartData) (given bytes : List ℕ) : Type 0 where
  pub fits : AreBytes given
  pub rest : List ℕ
  pub parts : given ≡ bytes ++ rest
  pub over : (rest ≡ []) ⊎ IsSome (first_stop_of_bytes part on_the_bench bytes)

-- how many of a piece's `count` bytes count as given, by what a feed of the piece answers: those taken, where a word is
-- due, and else all, also those after a stop
abbrev pub given_by : Fed → ℕ → ℕ
given_by (fed.ReadFull taken) count = taken
given_by _ count = count

-- the words that were taken of a device that took `bytes`: those read out, but for the ones that are still due
abbrev pub reads_taken : PartData → DeviceState → List ℕ → List ℕ
reads_taken part device bytes = reads_given part on_the_bench device bytes

-- ---- how many bytes

-- a byte can be offered: the device can be given it after as many bytes as a queue holds at most
abbrev pub CanBeOffered : DeviceState → Type 0
CanBeOffered device = CanBeGiven device (most_bytes_held + 1)

-- `count` bytes can be offered, one after another, beside those that the queue holds, and then still one byte more
abbrev pub CanAllBeOffered : QueueState → DeviceState → ℕ → Type 0
CanAllBeOffered queue device count = CanBeGiven device (length queue.held + count + (most_bytes_held + 1))

-- after a step the bytes that a queue holds and its device took are at most `count` more than before
abbrev pub AreGivenAtMost : QueueState → DeviceState → QueueState → DeviceState → ℕ → Type 0
AreGivenAtMost old_queue old_device new_queue new_device count =
    new_device.taken + length new_queue.held ≤ old_device.taken + length old_queue.held + count

-- ---- what a queue, or a tap, and its device stand for

-- a queue and its device stand for the queue of a port; the device may owe a word though no bit of one is left
pub record QueueHolds (part : PartData) (k : QueueState) (d : DeviceState) (q : Queue) : Type 0 where
  pub bytes : List ℕ
  pub took : TookOfGiven part q.given bytes
  pub device : DeviceStandsFor part on_the_bench false d bytes
  pub held_is : k.held ≡ q.held
  pub held_fits : AreBytes q.held
  pub out_is : q.out + k.bits_left ≡ 32 * length (reads_taken part d bytes)
  pub bits_left_is : k.bits_left ≤ 32
  pub prefix : List ℕ
  pub word_is : 0 < k.bits_left → reads_taken part d bytes ≡ prefix ++ k.word ∷ []

-- a queue and its device stand for the queue of a port, and where no bit is left the device owes no word: the next one
-- is taken of it as soon as the last bit of the one before has gone out
pub record QueueStandsFor (part : PartData) (k : QueueState) (d : DeviceState) (q : Queue) : Type 0 where
  pub holds : QueueHolds part k d q
  pub no_word_due : k.bits_left ≡ 0 → NoWordDue d

-- a step on a queue and its device makes of the queue of a port that they stand for what `after` says; `after` is given
-- the words that a device of the part reads out, as a function of the bytes given to it
abbrev pub QueueBecomes : QueueState → DeviceState → QueueState → DeviceState → ((List ℕ → List ℕ) → Queue → Queue) → Type 0
QueueBecomes old_queue old_device new_queue new_device after =
    (part : PartData) (q : Queue) → QueueStandsFor part old_queue old_device q → QueueStandsFor part new_queue new_device (after (words_read_out part) q)

-- a tap and its device stand for a port
pub record StandsForPort (part : PartData) (t : TapState) (d : DeviceState) (p : Port) : Type 0 where
  pub state_is : t.state ≡ p.state
  pub instruction_is : t.instruction ≡ p.instruction
  pub register_is : t.register ≡ p.register
  pub count_is : t.count ≡ p.count
  pub queue_is : QueueStandsFor part t.queue d p.queue

-- an action of a tap on its device makes of the port that they stand for what `after` says
abbrev pub PortBecomes : TapState → DeviceState → TapState → DeviceState → (PartData → Port → Port) → Type 0
PortBecomes old_tap old_device new_tap new_device after =
    (part : PartData) (p : Port) → StandsForPort part old_tap old_device p → StandsForPort part new_tap new_device (after part p)

-- a tap and its device stand for a port that was new before the clocks `cs`
abbrev pub TapStandsFor : PartData → TapState → DeviceState → List PortClock → Type 0
TapStandsFor part tap device cs = StandsForPort part tap device (port_after part cs)

-- a step on a tap and its device makes the clocks that `made` says of the port before the step
abbrev pub MakesClocks : TapState → DeviceState → TapState → DeviceState → (Port → List PortClock) → Type 0
MakesClocks old_tap old_device new_tap new_device made =
    (part : PartData) (cs : List PortClock) → TapStandsFor part old_tap old_device cs
    → TapStandsFor part new_tap new_device (cs ++ made (port_after part cs))

-- `Fact` holds of each device and of the port that it and a tap stand for, which was new before some clocks
abbrev pub ForEachPort : (PartData → DeviceState → Port → Type 0) → Type 0
ForEachPort Fact = (part : PartData) (t : TapState) (d : DeviceState) (cs : List PortClock) → TapStandsFor part t d cs → Fact part d (port_after part cs)

-- the tap is in Shift-DR under CFG_IN, and the next bit is the first of a byte
pub record TakesBytes (t : TapState) : Type 0 where
  pub in_shift : t.state ≡ state.ShiftDr
  pub under : t.instruction ≡ instruction.CfgIn
  pub at_first : t.count ≡ 0

-- the last of bytes, or `before` where there is none
abbrev pub last_or : ℕ → List ℕ → ℕ
last_or before [] = before
last_or before (b ∷ bs) = last_or b bs
