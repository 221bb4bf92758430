use Rattle.std.proofs.Common.{ℕ, subst, ◌+◌, length, sym, refl, rules, ◌∙◌, arith}
use Rattle.x7_words.proofs.FlashLemmas.{reads_at, reads_on}
use Rattle.x7_boot.specs.declared.attempt.Ending.{Ending}
use Rattle.x7_boot.specs.declared.cache.Loaded.{Loaded}
use Rattle.x7_boot.specs.Attempt.{IsUnderWay, attempt_at}
use Rattle.x7_boot.specs.Pages.{FaultsCounted}
use Rattle.x7_boot.specs.Reads.{answers_since}
use Rattle.x7_boot.proofs.PageLemmas.{from_limited, reaches}
use Rattle.x7_boot.proofs.FlashAttemptLemmas.{ReadsSoFar, ends_here, feeds_later, feeds_on, feeds_ready, load_ends, load_goes, reads_so_far, stops_here, tries_ended, tries_out, tries_stopped}
use Rattle.x7_boot.proofs.BlockLemmas.{ends_on}
use Rattle.x7_boot.proofs.ReadLemmas.{called_none, later_on, since_on}
use Rattle.x7_boot.proofs.flash_attempt.try_once.Goals as goal

pub pages-init : goal.pages-init
pages-init g c =
    let now = g.F.Flash.state c.args.flash.now in
    let a = attempt_at c.args.device.now.part c.args.kept c.args.address in
    record {
      feeds = subst (λ (n : ℕ). IsUnderWay a (answers_since g.first now) c.begin.new.device n) (sym c.from-place.ensures) (c.begin.ensures (answers_since g.first now));
      kept = c.requires.1.0;
      read = c.requires.1.1.1.1.1.1;
      since = c.requires.1.1.0;
      called = called_none (ReadsSoFar a (answers_since g.first now) c.from-place.result) now (0, λ inside. omega arith, omega arith);
      no_fault = refl;
      flash = reads_at _;
      size = c.size-size.ensures.extent;
    }

pub run_out-requires : goal.run_out-requires
run_out-requires g c = let f = c.pages.invariant.feeds in ends_here c.args.device.now.part c.args.kept c.pages.device f.bytes c.requires.1.1.1.1.1.0 f.stands f.not_ended f.due

pub returns-then-place-size-clause-tried : goal.returns-then-place-size-clause-tried
returns-then-place-size-clause-tried g c = λ all agrees fits.
    let i = c.pages.invariant in
    let f = i.feeds in
    tries_out c.args.device.now.part c.args.kept c.args.address (answers_since g.first (g.F.Flash.state c.pages.flash)) all c.pages.device c.run_out.new.device c.pages.place c.run_out.result agrees f (omega (arith, c.if-place-size.true, i.size))
    (c.run_out.ensures.wrapped c.args.device.now.part c.args.kept f.bytes f.stands) c.run_out.ensures.ending

-- ---- a page that was read

pub pages-preserved : goal.pages-preserved
pages-preserved g c =
    let i = c.pages.invariant in
    let s = g.F.Flash.state in
    let latest = answers_since g.first (s c.load.new.flash) in
    let f = feeds_later c.args.device.now.part c.args.kept c.args.address (answers_since g.first (s c.pages.flash)) latest c.pages.device c.pages.place (later_on g.first (s c.pages.flash) (s c.load.new.flash) i.since c.load.ensures.only_reads.extent c.load.ensures.called) i.feeds in
    let t = c.take_page.ensures c.args.device.now.part c.args.kept f.bytes f.stands f.going f.not_ended in
    let from = c.bytes_from-bytes.ensures.holds latest (omega (arith, c.if-place-size.false, i.size, c.load.ensures.only_reads.extent)) c.load.ensures.pages c.in_ok-loaded.ensures.read in
    record {
      feeds = feeds_on c.args.device.now.part c.args.kept c.args.address latest c.pages.device c.take_page.new.device c.bytes_from-bytes.result.now c.pages.place (c.pages.place + length c.bytes_from-bytes.result.now) c.take_page.result refl f from.bytes_are t c.in-GoesOn.is;
      kept = c.load.ensures.pages;
      read = c.in_ok-loaded.ensures.kept;
      since = since_on g.first (s c.pages.flash) (s c.load.new.flash) i.since c.load.ensures.called;
      called = load_goes c.args.device.now.part c.args.kept c.args.address g.first (s c.args.flash.now) (s c.pages.flash) (s c.load.new.flash) c.pages.device c.pages.place i.since i.flash.bytes c.load.ensures.only_reads.extent i.feeds (omega (arith, c.if-place-size.false, i.size)) c.load.new.self.block.items i.called c.in_ok-loaded.loaded c.bytes_from-bytes.result.now c.in_ok-loaded.ensures.called c.in_ok-loaded.ensures.read c.bytes_from-bytes.ensures.ends;
      no_fault = c.in_ok-loaded.ensures.faults ∙ i.no_fault;
      flash = reads_on _ _ _ i.flash c.in_ok-loaded.ensures.only_reads;
      size = i.size ∙ sym c.load.ensures.only_reads.extent;
    }

pub returns-in-Ends-clause-tried : goal.returns-in-Ends-clause-tried
returns-in-Ends-clause-tried g c =
    let i = c.pages.invariant in
    let s = g.F.Flash.state in
    let latest = answers_since g.first (s c.load.new.flash) in
    let f = feeds_later c.args.device.now.part c.args.kept c.args.address (answers_since g.first (s c.pages.flash)) latest c.pages.device c.pages.place (later_on g.first (s c.pages.flash) (s c.load.new.flash) i.since c.load.ensures.only_reads.extent c.load.ensures.called) i.feeds in
    let t = c.take_page.ensures c.args.device.now.part c.args.kept f.bytes f.stands f.going f.not_ended in
    let from = c.bytes_from-bytes.ensures.holds latest (omega (arith, c.if-place-size.false, i.size, c.load.ensures.only_reads.extent)) c.load.ensures.pages c.in_ok-loaded.ensures.read in
    λ all agrees fits.
    tries_ended c.args.device.now.part c.args.kept c.args.address latest all c.pages.device c.take_page.new.device c.bytes_from-bytes.result.now c.pages.place (c.pages.place + length c.bytes_from-bytes.result.now) c.take_page.result c.in-Ends.ending agrees (omega arith) f
    (from.bytes_are all agrees) t c.in-Ends.is

pub returns-in-Stops-clause-tried : goal.returns-in-Stops-clause-tried
returns-in-Stops-clause-tried g c =
    let i = c.pages.invariant in
    let s = g.F.Flash.state in
    let latest = answers_since g.first (s c.load.new.flash) in
    let f = feeds_later c.args.device.now.part c.args.kept c.args.address (answers_since g.first (s c.pages.flash)) latest c.pages.device c.pages.place (later_on g.first (s c.pages.flash) (s c.load.new.flash) i.since c.load.ensures.only_reads.extent c.load.ensures.called) i.feeds in
    let t = c.take_page.ensures c.args.device.now.part c.args.kept f.bytes f.stands f.going f.not_ended in
    let from = c.bytes_from-bytes.ensures.holds latest (omega (arith, c.if-place-size.false, i.size, c.load.ensures.only_reads.extent)) c.load.ensures.pages c.in_ok-loaded.ensures.read in
    λ all agrees fits.
    tries_stopped c.args.device.now.part c.args.kept c.args.address latest all c.pages.device c.take_page.new.device c.run_out-in-Stops.new.device c.bytes_from-bytes.result.now c.pages.place (c.pages.place + length c.bytes_from-bytes.result.now) c.take_page.result c.run_out-in-Stops.result agrees fits (omega arith) f
    (from.bytes_are all agrees) t c.in-Stops.is (c.run_out-in-Stops.ensures.wrapped c.args.device.now.part c.args.kept _ t.stands) c.run_out-in-Stops.ensures.ending

pub run_out-requires-in-Stops : goal.run_out-requires-in-Stops
run_out-requires-in-Stops g c =
    let f = c.pages.invariant.feeds in
    stops_here c.args.device.now.part c.args.kept c.take_page.new.device f.bytes c.bytes_from-bytes.result.now c.take_page.result c.requires.1.1.1.1.1.0 (c.take_page.ensures c.args.device.now.part c.args.kept f.bytes f.stands f.going f.not_ended) c.in-Stops.is

pub take_page-requires : goal.take_page-requires
take_page-requires g c =
    let i = c.pages.invariant in
    let s = g.F.Flash.state in
    let latest = answers_since g.first (s c.load.new.flash) in
    let from = c.bytes_from-bytes.ensures.holds latest (omega (arith, c.if-place-size.false, i.size, c.load.ensures.only_reads.extent)) c.load.ensures.pages c.in_ok-loaded.ensures.read in
    feeds_ready c.args.device.now.part c.args.kept c.args.address (answers_since g.first (s c.pages.flash)) c.pages.device c.pages.place (length c.bytes_from-bytes.result.now)
    (let limit = from_limited latest c.pages.place c.bytes_from-bytes.result.now (omega (arith, c.requires.1.1.1.0, i.flash.extent, c.load.ensures.only_reads.extent)) from in omega (arith, limit)) i.feeds

pub pages-smaller : goal.pages-smaller
pages-smaller g c =
    let i = c.pages.invariant in
    let from = c.bytes_from-bytes.ensures.holds (answers_since g.first (g.F.Flash.state c.load.new.flash)) (omega (arith, c.if-place-size.false, i.size, c.load.ensures.only_reads.extent)) c.load.ensures.pages c.in_ok-loaded.ensures.read in
    omega (arith, from.some, c.if-place-size.false)

pub bytes_from-bytes-requires-clause-block : goal.bytes_from-bytes-requires-clause-block
bytes_from-bytes-requires-clause-block g c =
    let i = c.pages.invariant in
    reaches (answers_since g.first (g.F.Flash.state c.load.new.flash)) c.pages.place c.load.new.self.block.items c.in_ok-loaded.loaded (omega (arith, c.if-place-size.false, i.size, c.load.ensures.only_reads.extent)) c.in_ok-loaded.ensures.read

pub bytes_from-bytes-requires-clause-page : goal.bytes_from-bytes-requires-clause-page
bytes_from-bytes-requires-clause-page g c =
    let i = c.pages.invariant in
    record {
      flash = answers_since g.first (g.F.Flash.state c.load.new.flash);
      are = c.load.ensures.pages;
      within = omega (arith, c.if-place-size.false, i.size, c.load.ensures.only_reads.extent);
      there = c.in_ok-loaded.ensures.there;
    }

-- ---- a page that was not read

pub returns-in_err-loaded-clause-faults : goal.returns-in_err-loaded-clause-faults
returns-in_err-loaded-clause-faults g c =
    let f = g.F.Flash in
    let last = (f.state c.load.new.flash).faults in
    let faults : FaultsCounted (f.state c.args.flash.now).faults last c.load.result = subst (λ (n : ℕ). FaultsCounted n last c.load.result) c.pages.invariant.no_fault c.load.ensures.faults in
    search rules

pub returns-in_err-loaded-clause-called : goal.returns-in_err-loaded-clause-called
returns-in_err-loaded-clause-called g c =
    let i = c.pages.invariant in
    let s = g.F.Flash.state in
    load_ends c.args.device.now.part c.args.kept c.args.address g.first (s c.args.flash.now) (s c.pages.flash) (s c.load.new.flash) c.pages.device c.pages.place i.since i.flash.bytes c.load.ensures.only_reads.extent i.feeds (omega (arith, c.if-place-size.false, i.size)) c.load.new.self.block.items i.called c.load.result c.load.ensures.called

pub returns-in_err-loaded-clause-only_reads : goal.returns-in_err-loaded-clause-only_reads
returns-in_err-loaded-clause-only_reads g c = reads_on _ _ _ c.pages.invariant.flash c.load.ensures.only_reads

-- ---- an attempt that ended

pub returns-then-place-size-clause-pages : goal.returns-then-place-size-clause-pages
returns-then-place-size-clause-pages g c = c.pages.invariant.kept

pub returns-then-place-size-clause-called : goal.returns-then-place-size-clause-called
returns-then-place-size-clause-called g c =
    let s = g.F.Flash.state in
    reads_so_far (attempt_at c.args.device.now.part c.args.kept c.args.address) (answers_since g.first (s c.pages.flash)) (s c.args.flash.now) (s c.pages.flash) c.pages.place c.pages.invariant.called

pub returns-in-Ends-clause-called : goal.returns-in-Ends-clause-called
returns-in-Ends-clause-called g c =
    let i = c.pages.invariant in
    let s = g.F.Flash.state in
    load_ends c.args.device.now.part c.args.kept c.args.address g.first (s c.args.flash.now) (s c.pages.flash) (s c.load.new.flash) c.pages.device c.pages.place i.since i.flash.bytes c.load.ensures.only_reads.extent i.feeds (omega (arith, c.if-place-size.false, i.size)) c.load.new.self.block.items i.called c.load.result c.load.ensures.called

pub returns-in-Ends-clause-only_reads : goal.returns-in-Ends-clause-only_reads
returns-in-Ends-clause-only_reads g c = reads_on _ _ _ c.pages.invariant.flash c.in_ok-loaded.ensures.only_reads

pub returns-in-Stops-clause-called : goal.returns-in-Stops-clause-called
returns-in-Stops-clause-called g c =
    let i = c.pages.invariant in
    let s = g.F.Flash.state in
    load_ends c.args.device.now.part c.args.kept c.args.address g.first (s c.args.flash.now) (s c.pages.flash) (s c.load.new.flash) c.pages.device c.pages.place i.since i.flash.bytes c.load.ensures.only_reads.extent i.feeds (omega (arith, c.if-place-size.false, i.size)) c.load.new.self.block.items i.called c.load.result c.load.ensures.called

pub returns-in-Stops-clause-only_reads : goal.returns-in-Stops-clause-only_reads
returns-in-Stops-clause-only_reads g c = reads_on _ _ _ c.pages.invariant.flash c.in_ok-loaded.ensures.only_reads

-- ---- the blocks that were read

pub returns-then-place-size-clause-kept_pages : goal.returns-then-place-size-clause-kept_pages
returns-then-place-size-clause-kept_pages g c = c.pages.invariant.read

pub returns-then-place-size-clause-blocks : goal.returns-then-place-size-clause-blocks
returns-then-place-size-clause-blocks g c = let i = c.pages.invariant in i.read.blocks

pub returns-then-place-size-clause-ends : goal.returns-then-place-size-clause-ends
returns-then-place-size-clause-ends g c = let i = c.pages.invariant in i.read.good

pub returns-in-Ends-clause-kept_pages : goal.returns-in-Ends-clause-kept_pages
returns-in-Ends-clause-kept_pages g c = c.in_ok-loaded.ensures.kept

pub returns-in-Ends-clause-blocks : goal.returns-in-Ends-clause-blocks
returns-in-Ends-clause-blocks g c = c.load.ensures.blocks

pub returns-in-Ends-clause-ends : goal.returns-in-Ends-clause-ends
returns-in-Ends-clause-ends g c = let kept = c.in_ok-loaded.ensures.kept in kept.good

pub returns-in-Stops-clause-kept_pages : goal.returns-in-Stops-clause-kept_pages
returns-in-Stops-clause-kept_pages g c = c.in_ok-loaded.ensures.kept

pub returns-in-Stops-clause-blocks : goal.returns-in-Stops-clause-blocks
returns-in-Stops-clause-blocks g c = c.load.ensures.blocks

pub returns-in-Stops-clause-ends : goal.returns-in-Stops-clause-ends
returns-in-Stops-clause-ends g c = let kept = c.in_ok-loaded.ensures.kept in kept.good

pub returns-in_err-loaded-clause-blocks : goal.returns-in_err-loaded-clause-blocks
returns-in_err-loaded-clause-blocks g c = c.load.ensures.blocks

pub returns-in_err-loaded-clause-ends : goal.returns-in_err-loaded-clause-ends
returns-in_err-loaded-clause-ends g c =
    ends_on Loaded Ending c.from_residual.result c.in_err-loaded.field-0.0 (answers_since g.first (g.F.Flash.state c.load.new.flash)).calls c.from_residual.ensures c.in_err-loaded.ensures.ends
