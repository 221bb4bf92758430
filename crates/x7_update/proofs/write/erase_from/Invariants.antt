use Rattle.std.proofs.Common.{◌≡◌, ◌/◌, ◌-◌}
use Rattle.x7_words.specs.Flash.{sector_size}
use Rattle.x7_words.specs.FlashHistory.{history_of, with_calls}
use Rattle.x7_update.specs.UpdateCalls.{erasing}
use Rattle.x7_update.specs.Writing.{IsWriteStep}
use Rattle.x7_update.proofs.write.erase_from.Given as goal

abbrev pub invariant-loop-sector : goal.invariant-loop-sector
invariant-loop-sector g l =
    let f = g.F.Flash in
    record {
      made : history_of (f.state l.flash) ≡ with_calls (history_of (f.state l.fn.flash)) (erasing (l.place / sector_size) (l.sector - l.place / sector_size));
      writes : IsWriteStep (f.state l.fn.flash) (f.state l.flash);
    }
