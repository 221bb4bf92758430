-- The last run of a reader of packets, without the bytes that it lends (this project's choice).
use Rattle.std.specs.Prelude.{ℕ}
use Rattle.x7_packets.specs.declared.header.Step.{Step}
use Rattle.x7_packets.specs.declared.stream.LastRun.{LastRun}
use Rattle.x7_packets.specs.declared.stream.LastRun.TheVariants as last

-- the last run of a reader, without the bytes that it lends
pub data FoundRun : Type 0 where
  Skip : FoundRun
  Sync : FoundRun
  Head : ℕ → Step → FoundRun
  Word : ℕ → ℕ → FoundRun
  Body : ℕ → FoundRun
  Tail : FoundRun
  End : FoundRun

-- the last run of a reader, by the reader's field
abbrev pub found_of : LastRun → FoundRun
found_of last.Skip = FoundRun.Skip
found_of last.Sync = FoundRun.Sync
found_of (last.Head w step) = FoundRun.Head w step
found_of (last.Word register w) = FoundRun.Word register w
found_of (last.Body register) = FoundRun.Body register
found_of last.Tail = FoundRun.Tail
found_of last.End = FoundRun.End
