-- A player that was given the stream of which `gen` makes the summary (this project's choice).
use Rattle.std.specs.Prelude.{ℕ, ◌≡◌, ◌≤◌, List, length}
use Rattle.x7_part.specs.Part.{PartData}
use Rattle.x7_engine.specs.Kept.{on_the_bench}
use Rattle.x7_engine.specs.State.{reads_of}
use Rattle.x7_forms.specs.Known.{reads_limit}
use Rattle.x7_playing.specs.Playing.{HasPlayed}
use Rattle.x7_playing.specs.declared.player.Player.{Player}

-- a player was given a stream of `size` bytes, which reads out at most `reads_limit` words
abbrev pub TookStream : PartData → List ℕ → Player → ℕ → Type 0
TookStream part stream player size = HasPlayed part stream player × (size ≡ length stream) × (length (reads_of part on_the_bench stream) ≤ reads_limit)
