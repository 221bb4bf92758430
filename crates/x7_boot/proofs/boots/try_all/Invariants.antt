use Rattle.std.proofs.Common.{◌≡◌, ◌+◌, ◌-◌, ◌<◌, ◌≤◌, false}
use Rattle.x7_words.specs.Flash.{OnlyReads}
use Rattle.x7_words.specs.Word.{AreBytes}
use Rattle.x7_regs.specs.declared.boot_status.Kind.TheVariants.{Bench}
use Rattle.x7_engine.specs.Kept.{is_fallback}
use Rattle.x7_boot.specs.Attempt.{attempt_at}
use Rattle.x7_boot.specs.BlockReads.{HasRead}
use Rattle.x7_boot.specs.Boot.{HasLedTo, ReadsInAttempts, most_iprogs}
use Rattle.x7_boot.specs.Pages.{ArePages}
use Rattle.x7_boot.specs.Reads.{HasCalled, IfAgrees, IsSince, answers_since}
use Rattle.x7_boot.proofs.boots.try_all.Given as goal

abbrev pub invariant-attempts : goal.invariant-attempts
invariant-attempts g l =
    let f = g.F.Flash in
    let answers = answers_since g.first (f.state l.flash) in
    record {
      led : IfAgrees answers (λ all. AreBytes all → HasLedTo (attempt_at l.fn.device.part l.kept l.address) all l.attempts.items l.number);
      part : l.device.part ≡ l.fn.device.part;
      not_on_bench : l.kept.kind ≡ Bench → ⊥;
      number : l.number ≤ most_iprogs;
      room : is_fallback l.kept.kind ≡ false → l.number < most_iprogs;
      pages : ArePages answers l.pages.pages.entries;
      read : HasRead answers l.pages.pages;
      since : IsSince g.first (f.state l.flash);
      called : HasCalled (ReadsInAttempts l.fn.device.part answers l.number) (f.state l.fn.flash) (f.state l.flash);
      no_fault : (f.state l.flash).faults ≡ (f.state l.fn.flash).faults;
      flash : OnlyReads (f.state l.fn.flash) (f.state l.flash);
    }

abbrev pub decreases-attempts : goal.decreases-attempts
decreases-attempts g l = most_iprogs + 1 - l.number

abbrev pub ghost-try_once : goal.ghost-try_once
ghost-try_once g a = g.first
