-- The command `play`: the report of the streams' data (this project's choice).
use Rattle.std.specs.Prelude.{ℕ, List, is_some, Result, Ok, Err, false, if◌then◌else◌, length, nat_lt}
use Rattle.x7_part.specs.Part.{PartData}
use Rattle.x7_engine.specs.Kept.{on_the_bench}
use Rattle.x7_engine.specs.State.{why_stopped, memory_of_bytes, reads_of, state_of, first_stop_of_bytes}
use Rattle.x7_engine.specs.Stop.{fault_of_stop}
use Rattle.x7_report.specs.Reports.{PlayTextState, report_text}
use Rattle.x7_forms.specs.Event.{Event, too_many_reads}
use Rattle.x7_forms.specs.Known.{Answer, Known, and_so, streams_known, part_known, reads_limit, stream_limit}

-- the report of a new device of the part that took `bytes`, and whether a fault stopped the device
abbrev pub report_of : PartData → List ℕ → Answer
report_of part bytes = record {
  stopped = is_some (fault_of_stop (why_stopped (first_stop_of_bytes part on_the_bench bytes)));
  text = report_text part (state_of part on_the_bench false bytes) (reads_of part on_the_bench bytes) (memory_of_bytes part on_the_bench bytes);
}

-- the report of a play of `bytes`, or the event that these read out more than `reads_limit` words
unfoldable pub reported : PartData → List ℕ → Result Answer Event
reported part bytes = if nat_lt reads_limit (length (reads_of part on_the_bench bytes)) then Err too_many_reads else Ok (report_of part bytes)

-- `play PART STREAM..`: one report of the data of all streams, one after the other, or the event in place of it
abbrev pub played : Known → List ℕ → List (List ℕ) → Result Answer Event
played known part streams = and_so (part_known known part) (λ p. and_so (streams_known known stream_limit streams) (reported p))

-- the answer of a report that is ready to be written
abbrev pub play_answer : PlayTextState → Answer
play_answer text = record { stopped = text.stopped; text = text.text }
