use Rattle.std.proofs.Common.{◌≡◌, ℕ, List, ◌+◌, ◌≤◌, drop, length, map, string_bytes}
use Rattle.x7_words.specs.Input.{AsksAtMost, InputsStay, NoInputFault}
use Rattle.x7_forms.specs.Turn.{play_turn_size}
use Rattle.x7_forms.specs.Known.{stream_limit}
use Rattle.x7_playing.specs.Playing.{HasPlayed}
use Rattle.x7_forms.specs.ReadingStops.{limited_together}
use Rattle.x7_forms.proofs.ReadLemmas.{Rests}
use Rattle.x7_forms.proofs.AskedLemmas.{LimitsFrom}
use Rattle.x7_playing.proofs.playing.play_streams.Given as goal

abbrev pub invariant-loop-name : goal.invariant-loop-name
invariant-loop-name g l =
    let i = g.I.Inputs in
    record {
      inputs : InputsStay (i.state l.fn.inputs) (i.state l.inputs);
      no_fault : NoInputFault (i.state l.fn.inputs) (i.state l.inputs);
      asks : AsksAtMost (i.state l.fn.inputs) l.name-index (i.state l.inputs);
      within : l.name-index ≤ length l.streams;
      limits : LimitsFrom (limited_together (i.state l.inputs).contents stream_limit (map string_bytes l.streams)) (i.state l.inputs).contents l.name-index l.left (map string_bytes (drop l.name-index l.streams));
      piece : length l.piece ≡ play_turn_size;
      played : (whole : List ℕ) × (HasPlayed l.part whole l.player × (length whole + l.left ≤ stream_limit) × Rests (i.state l.inputs).contents (map string_bytes l.streams) stream_limit (map string_bytes (drop l.name-index l.streams)) l.left whole);
    }
