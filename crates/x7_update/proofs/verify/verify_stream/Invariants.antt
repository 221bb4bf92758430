use Rattle.std.proofs.Common.{◌≡◌, ◌/◌, ◌-◌, length}
use Rattle.x7_words.specs.Flash.{sector_size}
use Rattle.x7_words.specs.FlashHistory.{history_of, with_calls}
use Rattle.x7_update.specs.UpdateCalls.{reading}
use Rattle.x7_update.specs.Writing.{IsReadStep}
use Rattle.x7_update.proofs.verify.verify_stream.Given as goal

abbrev pub invariant-loop-sector : goal.invariant-loop-sector
invariant-loop-sector g l =
    let f = g.F.Flash in
    let first = f.state l.fn.flash in
    record {
      made : history_of (f.state l.flash) ≡ with_calls (history_of first) (reading first.extent l.stream l.stream_place (l.stream_place / sector_size) (l.sector - l.stream_place / sector_size));
      reads : IsReadStep first (f.state l.flash);
      buffer : length l.buffer ≡ sector_size;
    }
