-- A user's session: a device that stands at a position of a stream (this project's choice). What a stream has from a
-- sync word up to a DESYNC is called a session too (`docs/MAP.md`, words with several senses).
use Rattle.std.specs.Prelude.{◌≡◌, ◌≤◌, ◌++◌, ℕ, List, false, take}
use Rattle.x7_part.specs.Part.{PartData}
use Rattle.x7_engine.specs.Kept.{on_the_bench}
use Rattle.x7_engine.specs.Past.{ForEachPast}
use Rattle.x7_engine.specs.Standing.{DeviceState, DeviceStandsFor, NoWordDue}
use Rattle.x7_engine.specs.State.{taken_of}
use Rattle.x7_debug.specs.Position.{last_of}

-- the part, the bytes of the stream, the position, the least position that the records lead back to, and how many bytes
-- the device was ever fed
pub record SessionState : Type 0 where
  pub part : PartData
  pub stream : List ℕ
  pub at : ℕ
  pub oldest : ℕ
  pub fed : ℕ

-- a new session of a part and a stream: at position 0, which is the oldest too, and its device was fed nothing
pub record IsNewSession (part : PartData) (stream : List ℕ) (s : SessionState) : Type 0 where
  pub part_is : s.part ≡ part
  pub stream_is : s.stream ≡ stream
  pub at : s.at ≡ 0
  pub oldest : s.oldest ≡ 0
  pub fed : s.fed ≡ 0

-- the session keeps its part and its stream, and stands at position n
pub record MovesTo (old new : SessionState) (n : ℕ) : Type 0 where
  pub part : new.part ≡ old.part
  pub stream : new.stream ≡ old.stream
  pub at : new.at ≡ n

-- a device took the first n bytes of a stream, and no word that it read out is due
pub record StandsAtPosition (part : PartData) (stream : List ℕ) (d : DeviceState) (n : ℕ) : Type 0 where
  pub stands : DeviceStandsFor part on_the_bench false d (take n stream)
  pub taken : d.taken ≡ n
  pub within : n ≤ last_of part stream
  pub no_word_due : NoWordDue d

-- a device takes `piece`, up to and with the byte at which it stops, and no word that it read out is due
abbrev pub TakesUpToStop : DeviceState → DeviceState → List ℕ → Type 0
TakesUpToStop old new piece =
    ForEachPast old (λ p. DeviceStandsFor p.part p.kept p.wrapped new (take (taken_of p.part p.kept (p.bytes ++ piece)) (p.bytes ++ piece)) × NoWordDue new)
