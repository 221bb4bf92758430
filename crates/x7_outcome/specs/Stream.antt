-- What streams that were read stand for: their data (this project's choice).
use Rattle.std.specs.Prelude.{ℕ, List, drop}
use Rattle.x7_outcome.specs.declared.stream.Stream.{Stream}

-- the data of a stream that was read: its bytes from byte `start` on, from 0
abbrev pub data_from : Stream → List ℕ
data_from s = drop s.start s.bytes.items
