-- What the device of a port shows (this project's choice).
use Rattle.std.specs.Prelude.{ℕ, ◌+◌, ◌-◌, ◌/◌, false, List, length, take, Option}
use Rattle.x7_part.specs.Part.{PartData}
use Rattle.x7_engine.specs.declared.snapshot.Snapshot.{Snapshot}
use Rattle.x7_engine.specs.Kept.{on_the_bench}
use Rattle.x7_engine.specs.Past.{past_of, state_owing_at}
use Rattle.x7_engine.specs.Standing.{frames_among}
use Rattle.x7_engine.specs.State.{history_taken, why_stopped, memory_of_bytes, first_stop_of_bytes, taken_of}
use Rattle.x7_engine.specs.Stop.{fault_of_stop}
use Rattle.x7_engine.specs.declared.fault.Fault.{Fault}
use Rattle.x7_memory.specs.FrameMap.{FrameMap}
use Rattle.x7_jtag.specs.Port.{Port, words_read_out}

-- the bytes that the device took of those given: all, or those up to the device's stop
abbrev pub bytes_taken : PartData → Port → List ℕ
bytes_taken part p = take (taken_of part on_the_bench p.queue.given) p.queue.given

-- the number of words that are due: of those read out, the ones after the word whose bits go out
abbrev pub port_words_due : PartData → Port → ℕ
port_words_due part p = length (words_read_out part p.queue.given) - (p.queue.out / 32 + 1)

-- the device's state but its memory, where `due` words of frame data are due
abbrev pub state_with_due : PartData → Port → ℕ → Snapshot
state_with_due part p due = state_owing_at (past_of part on_the_bench false (bytes_taken part p)) due

-- the device's state but its memory; FAR counts the words of frame data that went out, and the one whose bits go out
abbrev pub state_shown : PartData → Port → Snapshot
state_shown part p = state_with_due part p (frames_among (history_taken part on_the_bench (bytes_taken part p)) (port_words_due part p))

-- the fault that stopped the device, if one did
abbrev pub fault_shown : PartData → Port → Option Fault
fault_shown part p = fault_of_stop (why_stopped (first_stop_of_bytes part on_the_bench (bytes_taken part p)))

-- the device's frames
abbrev pub memory_shown : PartData → Port → FrameMap
memory_shown part p = memory_of_bytes part on_the_bench (bytes_taken part p)
