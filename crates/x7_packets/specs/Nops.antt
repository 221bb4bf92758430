-- No-ops in a row, and a cutter that stays as it is through bytes that enter no access (UG470, packet types).
use Rattle.std.specs.Prelude.{◌≡◌, ℕ, List, replicate}
use Rattle.std.specs.List.{flat_map}
use Rattle.x7_words.specs.Word.{bytes_of_word}
use Rattle.x7_packets.specs.Cutter.{CutterState, CutterStandsFor}
use Rattle.x7_packets.specs.History.{history}
use Rattle.x7_packets.specs.PacketWords.{no_op}
use Rattle.x7_packets.specs.Reading.{Place, EndedSession}

-- the bytes of the word `w`, `count` times
abbrev pub equal_bytes : ℕ → ℕ → List ℕ
equal_bytes w count = flat_map bytes_of_word (replicate count w)

-- the bytes of `count` no-ops
abbrev pub nop_bytes : ℕ → List ℕ
nop_bytes count = equal_bytes no_op count

-- a cutter that stays as it is stands for these bytes too, whose history is that of the reading before
pub record IdlesThrough (c : CutterState) (bytes : List ℕ) (sessions : List EndedSession) (place : Place) : Type 0 where
  pub new_place : Place
  pub stands : CutterStandsFor c bytes sessions new_place
  pub nothing : history sessions new_place ≡ history sessions place
