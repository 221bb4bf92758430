use Rattle.std.proofs.Common.{◌+◌, ◌∙◌, ℕ, rules, subst}
use Rattle.x7_words.specs.Word.{AreBytes}
use Rattle.x7_words.proofs.FlashLemmas.{reads_on}
use Rattle.x7_part.specs.Part.{PartData}
use Rattle.x7_boot.specs.Attempt.{AttemptEnds, attempt_at}
use Rattle.x7_boot.specs.Boot.{ReadsInAttempt}
use Rattle.x7_boot.specs.Pages.{FaultsCounted}
use Rattle.x7_boot.specs.Reads.{IfAgrees, answers_since}
use Rattle.x7_boot.proofs.BootedLemmas.{attempts_next, boot_due, boot_ends, boot_reads, led_next}
use Rattle.x7_boot.specs.declared.attempt.Ending.{Ending}
use Rattle.x7_boot.specs.declared.boots.BootEnd.{BootEnd}
use Rattle.x7_boot.proofs.BlockLemmas.{ends_on}
use Rattle.x7_boot.proofs.ReadLemmas.{later_on, since_on}
use Rattle.x7_boot.proofs.boots.try_all.Goals as goal

pub attempts-preserved : goal.attempts-preserved
attempts-preserved g c =
    let s = g.F.Flash.state in
    let i = c.attempts.invariant in
    let t = c.in_ok-ending.ensures in
    let next = c.next_by.ensures in
    let latest = answers_since g.first (s c.try_once.new.flash) in
    let later = later_on {P = ReadsInAttempt (attempt_at c.attempts.device.part c.attempts.kept c.attempts.address) latest} g.first (s c.attempts.flash) (s c.try_once.new.flash) i.since c.try_once.ensures.only_reads.extent c.try_once.ensures.called in
    let tries = subst (λ (p : PartData). IfAgrees latest (λ all. AreBytes all → AttemptEnds (attempt_at p c.attempts.kept c.attempts.address) all c.try_once.new.device c.in_ok-ending.ending)) i.part t.tried in
    record {
      led = led_next c.args.device.now.part c.attempts.kept c.attempts.address latest c.attempts.attempts.items c.attempts.number (λ all agrees. i.led all (later.agrees all agrees)) c.try_once.new.device c.in_ok-ending.ending c.push.new.self.items c.next_by.result tries next.table c.in-Ok.ensures.items c.in-Again.next_kept c.in-Again.next_address c.in-Again.is;
      part = t.part ∙ i.part;
      not_on_bench = next.not_on_bench c.in-Again.next_kept c.in-Again.next_address c.in-Again.is;
      number = attempts_next c.attempts.kept.kind c.in-Again.next_kept.kind c.attempts.number (next.no_second_fallback c.in-Again.next_kept c.in-Again.next_address c.in-Again.is) (next.most c.in-Again.next_kept c.in-Again.next_address c.in-Again.is) i.room;
      room = next.most c.in-Again.next_kept c.in-Again.next_address c.in-Again.is;
      pages = c.try_once.ensures.pages;
      read = t.kept_pages;
      since = since_on {P = ReadsInAttempt (attempt_at c.attempts.device.part c.attempts.kept c.attempts.address) latest} g.first (s c.attempts.flash) (s c.try_once.new.flash) i.since c.try_once.ensures.called;
      called = boot_due c.args.device.now.part c.attempts.device.part c.attempts.kept c.attempts.address g.first (s c.args.flash.now) (s c.attempts.flash) (s c.try_once.new.flash) c.attempts.attempts.items c.attempts.number i.since i.flash.bytes c.try_once.ensures.only_reads.extent i.part i.led i.called c.try_once.ensures.called;
      no_fault = t.faults ∙ i.no_fault;
      flash = reads_on _ _ _ i.flash t.only_reads;
    }

pub returns-in-Ends-clause-booted : goal.returns-in-Ends-clause-booted
returns-in-Ends-clause-booted g c =
    let s = g.F.Flash.state in
    let i = c.attempts.invariant in
    let t = c.in_ok-ending.ensures in
    let next = c.next_by.ensures in
    let latest = answers_since g.first (s c.try_once.new.flash) in
    let later = later_on {P = ReadsInAttempt (attempt_at c.attempts.device.part c.attempts.kept c.attempts.address) latest} g.first (s c.attempts.flash) (s c.try_once.new.flash) i.since c.try_once.ensures.only_reads.extent c.try_once.ensures.called in
    let tries = subst (λ (p : PartData). IfAgrees latest (λ all. AreBytes all → AttemptEnds (attempt_at p c.attempts.kept c.attempts.address) all c.try_once.new.device c.in_ok-ending.ending)) i.part t.tried in
    record {
      booted = boot_ends c.args.device.now.part c.attempts.kept c.attempts.address latest c.attempts.attempts.items c.attempts.number (λ all agrees. i.led all (later.agrees all agrees)) c.try_once.new.device c.in_ok-ending.ending c.push.new.self.items c.next_by.result tries next.table c.in-Ok.ensures.items c.in-Ends.end c.in-Ends.is;
      keeps_part = t.part ∙ i.part;
      no_word_due = t.no_word_due;
    }

-- ---- what an attempt read

pub returns-in-Ends-clause-called : goal.returns-in-Ends-clause-called
returns-in-Ends-clause-called g c =
    let s = g.F.Flash.state in
    let i = c.attempts.invariant in
    boot_reads c.args.device.now.part (answers_since g.first (s c.try_once.new.flash)) (s c.args.flash.now) (s c.try_once.new.flash) (c.attempts.number + 1)
    (boot_due c.args.device.now.part c.attempts.device.part c.attempts.kept c.attempts.address g.first (s c.args.flash.now) (s c.attempts.flash) (s c.try_once.new.flash) c.attempts.attempts.items c.attempts.number i.since i.flash.bytes c.try_once.ensures.only_reads.extent i.part i.led i.called c.try_once.ensures.called)

pub returns-in_err-ending-clause-called : goal.returns-in_err-ending-clause-called
returns-in_err-ending-clause-called g c =
    let s = g.F.Flash.state in
    let i = c.attempts.invariant in
    boot_reads c.args.device.now.part (answers_since g.first (s c.try_once.new.flash)) (s c.args.flash.now) (s c.try_once.new.flash) (c.attempts.number + 1)
    (boot_due c.args.device.now.part c.attempts.device.part c.attempts.kept c.attempts.address g.first (s c.args.flash.now) (s c.attempts.flash) (s c.try_once.new.flash) c.attempts.attempts.items c.attempts.number i.since i.flash.bytes c.try_once.ensures.only_reads.extent i.part i.led i.called c.try_once.ensures.called)

pub returns-in_default-clause-called : goal.returns-in_default-clause-called
returns-in_default-clause-called g c =
    let s = g.F.Flash.state in
    let i = c.attempts.invariant in
    boot_reads c.args.device.now.part (answers_since g.first (s c.try_once.new.flash)) (s c.args.flash.now) (s c.try_once.new.flash) (c.attempts.number + 1)
    (boot_due c.args.device.now.part c.attempts.device.part c.attempts.kept c.attempts.address g.first (s c.args.flash.now) (s c.attempts.flash) (s c.try_once.new.flash) c.attempts.attempts.items c.attempts.number i.since i.flash.bytes c.try_once.ensures.only_reads.extent i.part i.led i.called c.try_once.ensures.called)

pub returns-in_err-ending-clause-only_reads : goal.returns-in_err-ending-clause-only_reads
returns-in_err-ending-clause-only_reads g c = reads_on _ _ _ c.attempts.invariant.flash c.try_once.ensures.only_reads

pub returns-in_default-clause-only_reads : goal.returns-in_default-clause-only_reads
returns-in_default-clause-only_reads g c = reads_on _ _ _ c.attempts.invariant.flash c.try_once.ensures.only_reads

-- ---- an attempt that was not read

pub returns-in_err-ending-clause-faults : goal.returns-in_err-ending-clause-faults
returns-in_err-ending-clause-faults g c =
    let f = g.F.Flash in
    let last = (f.state c.try_once.new.flash).faults in
    let faults : FaultsCounted (f.state c.args.flash.now).faults last c.try_once.result = subst (λ (n : ℕ). FaultsCounted n last c.try_once.result) c.attempts.invariant.no_fault c.try_once.ensures.faults in
    search rules

-- ---- the blocks that were read

pub returns-in-Ends-clause-blocks : goal.returns-in-Ends-clause-blocks
returns-in-Ends-clause-blocks g c = c.try_once.ensures.blocks

pub returns-in-Ends-clause-ends : goal.returns-in-Ends-clause-ends
returns-in-Ends-clause-ends g c = let kept = c.in_ok-ending.ensures.kept_pages in kept.good

pub returns-in_default-clause-blocks : goal.returns-in_default-clause-blocks
returns-in_default-clause-blocks g c = c.try_once.ensures.blocks

pub returns-in_default-clause-ends : goal.returns-in_default-clause-ends
returns-in_default-clause-ends g c = let kept = c.in_ok-ending.ensures.kept_pages in kept.good

pub returns-in_err-ending-clause-blocks : goal.returns-in_err-ending-clause-blocks
returns-in_err-ending-clause-blocks g c = c.try_once.ensures.blocks

pub returns-in_err-ending-clause-ends : goal.returns-in_err-ending-clause-ends
returns-in_err-ending-clause-ends g c =
    ends_on Ending BootEnd c.from_residual.result c.in_err-ending.field-0.0 (answers_since g.first (g.F.Flash.state c.try_once.new.flash)).calls c.from_residual.ensures c.in_err-ending.ensures.ends
