use Rattle.std.proofs.Common.{◌≡◌, ◌-◌}
use Rattle.x7_words.specs.Flash.{OnlyReads}
use Rattle.x7_boot.specs.Attempt.{IsUnderWay, attempt_at}
use Rattle.x7_boot.specs.BlockReads.{HasRead}
use Rattle.x7_boot.specs.Pages.{ArePages}
use Rattle.x7_boot.specs.Reads.{HasCalled, IsSince, answers_since}
use Rattle.x7_boot.proofs.FlashAttemptLemmas.{ReadsSoFar}
use Rattle.x7_boot.proofs.flash_attempt.try_once.Given as goal

abbrev pub invariant-pages : goal.invariant-pages
invariant-pages g l =
    let f = g.F.Flash in
    let a = attempt_at l.fn.device.part l.fn.kept l.fn.address in
    record {
      feeds : IsUnderWay a (answers_since g.first (f.state l.flash)) l.device l.place;
      kept : ArePages (answers_since g.first (f.state l.flash)) l.pages.pages.entries;
      read : HasRead (answers_since g.first (f.state l.flash)) l.pages.pages;
      since : IsSince g.first (f.state l.flash);
      called : HasCalled (ReadsSoFar a (answers_since g.first (f.state l.flash)) l.place) (f.state l.fn.flash) (f.state l.flash);
      no_fault : (f.state l.flash).faults ≡ (f.state l.fn.flash).faults;
      flash : OnlyReads (f.state l.fn.flash) (f.state l.flash);
      size : l.size ≡ (f.state l.flash).extent;
    }

abbrev pub decreases-pages : goal.decreases-pages
decreases-pages g l = l.size - l.place

abbrev pub ghost-load : goal.ghost-load
ghost-load g a = g.first
