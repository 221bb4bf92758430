use Rattle.std.proofs.Common.{◌≡◌, [], ◌∷◌, ◌++◌, List, Ok, Err, refl, ap, ◌∙◌, ◌+◌, ◌-◌, ◌*◌, ℕ, IsSome, Vec, arith, length, nat_eq, subst, sym, take}
use Rattle.std.specs.Map.{lookup}
use Rattle.std.specs.declared.alloc.Global.{Global}
use Rattle.lru.specs.LruCache.{LruCache}
use Rattle.x7_words.specs.declared.flash_call.FlashCall.{FlashCall}
use Rattle.x7_words.specs.declared.flash_call.FlashCall.TheVariants as call
use Rattle.x7_boot.specs.BlockReads.{AreAbsent, PageStore, kept_pages, numbers_from, numbers_of}
use Rattle.x7_boot.specs.Pages.{BlockCalls, IsBlock, LoadCalls, LoadsBy, ReadsOnce, block_end, page_size}
use Rattle.x7_boot.specs.Reads.{HasCalled, answers_since}
use Rattle.x7_boot.specs.declared.cache.Loaded.{Loaded}
use Rattle.x7_boot.specs.declared.cache.Loaded.TheVariants.{Read}
use Rattle.x7_boot.proofs.BlockLemmas.{ends_on, missed, not_promoted, order_used, read_blocks, read_good, read_kept, there_at, unread_blocks, unread_ends, used_kept}
use Rattle.x7_boot.proofs.PageLemmas.{block_on, not_loaded, pages_on, pages_on_promote, there_promoted}
use Rattle.x7_boot.proofs.ReadLemmas.{called_none, called_with, since_called}
use Rattle.x7_boot.proofs.cache.PageCache.load.Goals as goal

-- ---- a page that is there

pub returns-then-promote-clause-pages : goal.returns-then-promote-clause-pages
returns-then-promote-clause-pages g c =
    pages_on_promote (answers_since g.first (g.F.Flash.state c.args.flash.now)) (nat_eq c.args.number) c.args.self.now.pages c.promote.new.self c.promote.ensures.entries c.requires.1.0

pub returns-then-promote-clause-there : goal.returns-then-promote-clause-there
returns-then-promote-clause-there g c =
    subst (λ (k : LruCache ℕ (Vec ℕ Global)). IsSome (lookup (nat_eq c.args.number) k.entries)) (sym c.promote.ensures.entries)
    (there_promoted (nat_eq c.args.number) c.args.self.now.pages.entries (sym c.promote.ensures.value ∙ c.if-promote.true))

pub returns-then-promote-clause-called : goal.returns-then-promote-clause-called
returns-then-promote-clause-called g c = called_none (λ calls. ReadsOnce c.args.number calls × (calls ≡ [])) (g.F.Flash.state c.args.flash.now) (tt, refl)

pub returns-then-promote-clause-kept : goal.returns-then-promote-clause-kept
returns-then-promote-clause-kept g c =
    used_kept (answers_since g.first (g.F.Flash.state c.args.flash.now)) c.args.number c.args.self.now.pages c.promote.new.self c.requires.1.1.1.1.1.1 (sym c.promote.ensures.value ∙ c.if-promote.true) c.promote.ensures.entries

pub returns-then-promote-clause-blocks : goal.returns-then-promote-clause-blocks
returns-then-promote-clause-blocks g c = let kept = c.requires.1.1.1.1.1.1 in kept.blocks

pub returns-then-promote-clause-ends : goal.returns-then-promote-clause-ends
returns-then-promote-clause-ends g c = let kept = c.requires.1.1.1.1.1.1 in kept.good

pub returns-then-promote-clause-order : goal.returns-then-promote-clause-order
returns-then-promote-clause-order g c = (
  there_at c.args.number c.args.self.now.pages.entries (sym c.promote.ensures.value ∙ c.if-promote.true),
  order_used c.args.number c.args.self.now.pages c.promote.new.self (sym c.promote.ensures.value ∙ c.if-promote.true) c.promote.ensures.entries,
)

-- ---- a block that is read

pub keep_block-requires-clause-within : goal.keep_block-requires-clause-within
keep_block-requires-clause-within g c =
    let some = c.absent_page_count-count.ensures.positive in
    let last = c.absent_page_count-count.ensures.within (c.args.number + c.absent_page_count-count.result - 1) (omega (arith, some)) in
    let long = c.in_ok-read_block.ensures.read.long in
    omega (arith, some, last, long, c.size.ensures.extent, c.read_block.ensures.only_reads.extent)

pub returns-clause-read : goal.returns-clause-read
returns-clause-read g c =
    let s = g.F.Flash.state in (
      c.absent_page_count-count.ensures.positive,
      subst (λ (block : Vec ℕ Global). IsBlock (answers_since g.first (s c.read_block.new.flash)) c.args.number c.absent_page_count-count.result block.items) (sym c.keep_block.ensures.block)
          (block_on g.first (s c.args.flash.now) (s c.read_block.new.flash) c.requires.1.1.0 c.read_block.ensures.only_reads.extent c.read_block.ensures.called c.args.number c.absent_page_count-count.result c.read_block.new.block.items c.in_ok-read_block.ensures.read),
    )

pub returns-clause-pages : goal.returns-clause-pages
returns-clause-pages g c =
    let s = g.F.Flash.state in
    c.keep_block.ensures.pages (answers_since g.first (s c.read_block.new.flash)) (block_on g.first (s c.args.flash.now) (s c.read_block.new.flash) c.requires.1.1.0 c.read_block.ensures.only_reads.extent c.read_block.ensures.called c.args.number c.absent_page_count-count.result c.read_block.new.block.items c.in_ok-read_block.ensures.read)
    (pages_on g.first (s c.args.flash.now) (s c.read_block.new.flash) c.requires.1.1.0 c.read_block.ensures.only_reads.extent c.read_block.ensures.called c.promote.new.self.entries
    (pages_on_promote (answers_since g.first (s c.args.flash.now)) (nat_eq c.args.number) c.args.self.now.pages c.promote.new.self c.promote.ensures.entries c.requires.1.0))

pub returns-in_default-clause-pages : goal.returns-in_default-clause-pages
returns-in_default-clause-pages g c =
    let s = g.F.Flash.state in
    c.keep_block.ensures.pages (answers_since g.first (s c.read_block.new.flash)) (block_on g.first (s c.args.flash.now) (s c.read_block.new.flash) c.requires.1.1.0 c.read_block.ensures.only_reads.extent c.read_block.ensures.called c.args.number c.absent_page_count-count.result c.read_block.new.block.items c.in_ok-read_block.ensures.read)
    (pages_on g.first (s c.args.flash.now) (s c.read_block.new.flash) c.requires.1.1.0 c.read_block.ensures.only_reads.extent c.read_block.ensures.called c.promote.new.self.entries
    (pages_on_promote (answers_since g.first (s c.args.flash.now)) (nat_eq c.args.number) c.args.self.now.pages c.promote.new.self c.promote.ensures.entries c.requires.1.0))

pub returns-in_err-read_block-clause-pages : goal.returns-in_err-read_block-clause-pages
returns-in_err-read_block-clause-pages g c =
    let s = g.F.Flash.state in
    pages_on g.first (s c.args.flash.now) (s c.read_block.new.flash) c.requires.1.1.0 c.read_block.ensures.only_reads.extent c.read_block.ensures.called c.promote.new.self.entries
    (pages_on_promote (answers_since g.first (s c.args.flash.now)) (nat_eq c.args.number) c.args.self.now.pages c.promote.new.self c.promote.ensures.entries c.requires.1.0)

pub returns-clause-called : goal.returns-clause-called
returns-clause-called g c =
    let s = g.F.Flash.state in
    subst (λ (block : Vec ℕ Global). HasCalled (LoadCalls c.args.number block.items (Ok (Read c.absent_page_count-count.result))) (s c.args.flash.now) (s c.read_block.new.flash)) (sym c.keep_block.ensures.block) c.in_ok-read_block.ensures.called

pub returns-in_default-clause-called : goal.returns-in_default-clause-called
returns-in_default-clause-called g c =
    let s = g.F.Flash.state in
    called_with (BlockCalls c.args.number c.read_block.new.block.items c.read_block.result) (λ calls. ReadsOnce c.args.number calls × Unit {0}) (s c.args.flash.now) (s c.read_block.new.flash) (λ calls it. (it.0, tt)) c.read_block.ensures.called

pub returns-in_err-read_block-clause-called : goal.returns-in_err-read_block-clause-called
returns-in_err-read_block-clause-called g c =
    let s = g.F.Flash.state in
    called_with (BlockCalls c.args.number c.read_block.new.block.items c.read_block.result) (LoadCalls c.args.number c.read_block.new.block.items c.from_residual.result) (s c.args.flash.now) (s c.read_block.new.flash)
    (λ calls it. (it.0, not_loaded c.from_residual.result c.in_err-read_block.field-0.0 (λ loaded. LoadsBy c.args.number c.read_block.new.block.items loaded calls) c.from_residual.ensures)) c.read_block.ensures.called

-- ---- the pages that are kept, and the blocks that were read

pub keep_block-requires-clause-absent : goal.keep_block-requires-clause-absent
keep_block-requires-clause-absent g c =
    let s = g.F.Flash.state in
    let one = answers_since g.first (s c.args.flash.now) in
    let count = c.absent_page_count-count.result in
    let found = c.absent_page_count-count.ensures in
    let m = missed one c.size.result c.args.number count c.args.self.now.pages c.promote.new.self c.requires.1.1.1.1.1.1 c.size.ensures.extent found.positive found.most found.within found.absent found.ends (sym c.promote.ensures.value ∙ c.if-promote.false) c.promote.ensures.entries in
    m.next.absent

pub keep_block-requires-clause-room : goal.keep_block-requires-clause-room
keep_block-requires-clause-room g c =
    let s = g.F.Flash.state in
    let one = answers_since g.first (s c.args.flash.now) in
    let count = c.absent_page_count-count.result in
    let found = c.absent_page_count-count.ensures in
    let m = missed one c.size.result c.args.number count c.args.self.now.pages c.promote.new.self c.requires.1.1.1.1.1.1 c.size.ensures.extent found.positive found.most found.within found.absent found.ends (sym c.promote.ensures.value ∙ c.if-promote.false) c.promote.ensures.entries in
    omega (arith, m.has.room)

pub keep_block-requires-clause-fits : goal.keep_block-requires-clause-fits
keep_block-requires-clause-fits g c =
    let s = g.F.Flash.state in
    let one = answers_since g.first (s c.args.flash.now) in
    let count = c.absent_page_count-count.result in
    let found = c.absent_page_count-count.ensures in
    let m = missed one c.size.result c.args.number count c.args.self.now.pages c.promote.new.self c.requires.1.1.1.1.1.1 c.size.ensures.extent found.positive found.most found.within found.absent found.ends (sym c.promote.ensures.value ∙ c.if-promote.false) c.promote.ensures.entries in
    omega (arith, m.has.room, m.has.kept.fits)

pub returns-clause-order : goal.returns-clause-order
returns-clause-order g c =
    let s = g.F.Flash.state in
    let one = answers_since g.first (s c.args.flash.now) in
    let count = c.absent_page_count-count.result in
    let found = c.absent_page_count-count.ensures in
    let m = missed one c.size.result c.args.number count c.args.self.now.pages c.promote.new.self c.requires.1.1.1.1.1.1 c.size.ensures.extent found.positive found.most found.within found.absent found.ends (sym c.promote.ensures.value ∙ c.if-promote.false) c.promote.ensures.entries in
    let same = not_promoted c.args.number c.args.self.now.pages c.promote.new.self (sym c.promote.ensures.value ∙ c.if-promote.false) c.promote.ensures.entries in (
      subst (λ (k : PageStore). AreAbsent c.args.number count (numbers_of k)) same m.next.absent,
      c.in-Ok.ensures.taken.numbers ∙ ap (λ (n : ℕ). take n (numbers_from c.args.number count ++ numbers_of c.promote.new.self)) m.has.room
          ∙ ap (λ (k : PageStore). take kept_pages (numbers_from c.args.number count ++ numbers_of k)) same,
    )

pub returns-clause-kept : goal.returns-clause-kept
returns-clause-kept g c =
    let s = g.F.Flash.state in
    let one = answers_since g.first (s c.args.flash.now) in
    let count = c.absent_page_count-count.result in
    let found = c.absent_page_count-count.ensures in
    let m = missed one c.size.result c.args.number count c.args.self.now.pages c.promote.new.self c.requires.1.1.1.1.1.1 c.size.ensures.extent found.positive found.most found.within found.absent found.ends (sym c.promote.ensures.value ∙ c.if-promote.false) c.promote.ensures.entries in
    let other = answers_since g.first (s c.read_block.new.flash) in
    let size : other.extent ≡ one.extent = c.read_block.ensures.only_reads.extent in
    let block = c.read_block.new.block.items in
    let h = c.in_ok-read_block.ensures.called in
    let are : other.calls ≡ one.calls ++ call.Read (c.args.number * page_size) block ∷ [] = since_called g.first (s c.args.flash.now) (s c.read_block.new.flash) h.calls c.requires.1.1.0 h.are ∙ ap (λ (l : List FlashCall). one.calls ++ l) h.such.1 in
    let long : length block ≡ block_end c.args.number count one.extent - c.args.number * page_size = c.in_ok-read_block.ensures.read.long ∙ ap (λ (n : ℕ). block_end c.args.number count n - c.args.number * page_size) size in
    read_kept one other c.promote.new.self size m.has c.args.number count block c.requires.1.1.1.1.0 m.next long are c.keep_block.new.self.pages c.in-Ok.ensures.taken

pub returns-clause-blocks : goal.returns-clause-blocks
returns-clause-blocks g c = let kept = returns-clause-kept g c in kept.blocks

pub returns-clause-ends : goal.returns-clause-ends
returns-clause-ends g c = let kept = returns-clause-kept g c in kept.good

pub returns-in_default-clause-blocks : goal.returns-in_default-clause-blocks
returns-in_default-clause-blocks g c =
    let s = g.F.Flash.state in
    let one = answers_since g.first (s c.args.flash.now) in
    let count = c.absent_page_count-count.result in
    let found = c.absent_page_count-count.ensures in
    let m = missed one c.size.result c.args.number count c.args.self.now.pages c.promote.new.self c.requires.1.1.1.1.1.1 c.size.ensures.extent found.positive found.most found.within found.absent found.ends (sym c.promote.ensures.value ∙ c.if-promote.false) c.promote.ensures.entries in
    let other = answers_since g.first (s c.read_block.new.flash) in
    let size : other.extent ≡ one.extent = c.read_block.ensures.only_reads.extent in
    let block = c.read_block.new.block.items in
    let h = c.in_ok-read_block.ensures.called in
    let are : other.calls ≡ one.calls ++ call.Read (c.args.number * page_size) block ∷ [] = since_called g.first (s c.args.flash.now) (s c.read_block.new.flash) h.calls c.requires.1.1.0 h.are ∙ ap (λ (l : List FlashCall). one.calls ++ l) h.such.1 in
    let long : length block ≡ block_end c.args.number count one.extent - c.args.number * page_size = c.in_ok-read_block.ensures.read.long ∙ ap (λ (n : ℕ). block_end c.args.number count n - c.args.number * page_size) size in
    read_blocks one other c.promote.new.self size m.has c.args.number count block c.requires.1.1.1.1.0 m.next long are

pub returns-in_default-clause-ends : goal.returns-in_default-clause-ends
returns-in_default-clause-ends g c =
    let s = g.F.Flash.state in
    let one = answers_since g.first (s c.args.flash.now) in
    let count = c.absent_page_count-count.result in
    let found = c.absent_page_count-count.ensures in
    let m = missed one c.size.result c.args.number count c.args.self.now.pages c.promote.new.self c.requires.1.1.1.1.1.1 c.size.ensures.extent found.positive found.most found.within found.absent found.ends (sym c.promote.ensures.value ∙ c.if-promote.false) c.promote.ensures.entries in
    let other = answers_since g.first (s c.read_block.new.flash) in
    let size : other.extent ≡ one.extent = c.read_block.ensures.only_reads.extent in
    let block = c.read_block.new.block.items in
    let h = c.in_ok-read_block.ensures.called in
    let are : other.calls ≡ one.calls ++ call.Read (c.args.number * page_size) block ∷ [] = since_called g.first (s c.args.flash.now) (s c.read_block.new.flash) h.calls c.requires.1.1.0 h.are ∙ ap (λ (l : List FlashCall). one.calls ++ l) h.such.1 in
    let long : length block ≡ block_end c.args.number count one.extent - c.args.number * page_size = c.in_ok-read_block.ensures.read.long ∙ ap (λ (n : ℕ). block_end c.args.number count n - c.args.number * page_size) size in
    read_good one other c.promote.new.self size m.has c.args.number count block c.requires.1.1.1.1.0 m.next long are

pub returns-in_err-read_block-clause-blocks : goal.returns-in_err-read_block-clause-blocks
returns-in_err-read_block-clause-blocks g c =
    let s = g.F.Flash.state in
    let one = answers_since g.first (s c.args.flash.now) in
    let count = c.absent_page_count-count.result in
    let found = c.absent_page_count-count.ensures in
    let m = missed one c.size.result c.args.number count c.args.self.now.pages c.promote.new.self c.requires.1.1.1.1.1.1 c.size.ensures.extent found.positive found.most found.within found.absent found.ends (sym c.promote.ensures.value ∙ c.if-promote.false) c.promote.ensures.entries in
    let other = answers_since g.first (s c.read_block.new.flash) in
    let size : other.extent ≡ one.extent = c.read_block.ensures.only_reads.extent in
    let block = c.read_block.new.block.items in
    let h = c.in_err-read_block.ensures.called in
    let are : other.calls ≡ one.calls ++ h.calls = since_called g.first (s c.args.flash.now) (s c.read_block.new.flash) h.calls c.requires.1.1.0 h.are in
    unread_blocks one other c.promote.new.self size m.has c.args.number count block c.requires.1.1.1.1.0 m.next h.calls are c.in_err-read_block.field-0.0 h.such.1 (λ e. c.in_err-read_block.ensures.failed_length (ap Err e))

pub returns-in_err-read_block-clause-ends : goal.returns-in_err-read_block-clause-ends
returns-in_err-read_block-clause-ends g c =
    let s = g.F.Flash.state in
    let one = answers_since g.first (s c.args.flash.now) in
    let count = c.absent_page_count-count.result in
    let found = c.absent_page_count-count.ensures in
    let m = missed one c.size.result c.args.number count c.args.self.now.pages c.promote.new.self c.requires.1.1.1.1.1.1 c.size.ensures.extent found.positive found.most found.within found.absent found.ends (sym c.promote.ensures.value ∙ c.if-promote.false) c.promote.ensures.entries in
    let other = answers_since g.first (s c.read_block.new.flash) in
    let size : other.extent ≡ one.extent = c.read_block.ensures.only_reads.extent in
    let block = c.read_block.new.block.items in
    let h = c.in_err-read_block.ensures.called in
    let are : other.calls ≡ one.calls ++ h.calls = since_called g.first (s c.args.flash.now) (s c.read_block.new.flash) h.calls c.requires.1.1.0 h.are in
    ends_on (Unit {0}) Loaded c.from_residual.result c.in_err-read_block.field-0.0 other.calls c.from_residual.ensures (unread_ends one other c.promote.new.self size m.has c.args.number count block c.requires.1.1.1.1.0 m.next h.calls are (Unit {0}) c.in_err-read_block.field-0.0 h.such.1)
