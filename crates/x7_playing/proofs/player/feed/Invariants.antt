use Rattle.std.proofs.Common.{◌≡◌, ◌-◌, ◌≤◌, ◌++◌, ℕ, List, length, take, vec_len, false}
use Rattle.x7_part.specs.Part.{PartData}
use Rattle.x7_forms.specs.Known.{reads_limit}
use Rattle.x7_playing.specs.Playing.{HasPlayedBy, DevicePlayed, empty_buffer, play_state}
use Rattle.x7_playing.proofs.player.feed.Given as goal

abbrev pub invariant-feeds : goal.invariant-feeds
invariant-feeds l = record {
  at : l.at ≤ length l.piece;
  buffer : l.buffer ≡ empty_buffer;
  few : vec_len l.reads ≤ reads_limit;
  plays : (part : PartData) (bytes : List ℕ) → HasPlayedBy false part bytes (play_state l.fn.device l.fn.buffer l.fn.reads.items) → DevicePlayed part (bytes ++ take l.at l.piece) l.device l.reads.items;
}

abbrev pub decreases-feeds : goal.decreases-feeds
decreases-feeds l = reads_limit - vec_len l.reads
