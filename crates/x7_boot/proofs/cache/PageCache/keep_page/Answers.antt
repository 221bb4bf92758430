use Rattle.std.proofs.Common.{◌≡◌, ◌+◌, ◌*◌, ℕ, IsSome, Vec, arith, length, min, nat_eq, subst, sym}
use Rattle.std.specs.Map.{lookup}
use Rattle.std.specs.declared.alloc.Global.{Global}
use Rattle.lru.specs.LruCache.{LruCache}
use Rattle.x7_boot.specs.Pages.{page_size}
use Rattle.x7_boot.proofs.BlockLemmas.{takes_one}
use Rattle.x7_boot.proofs.PageLemmas.{pages_split, there_put}
use Rattle.x7_boot.proofs.cache.PageCache.keep_page.Goals as goal

pub returns-in-Ok-Some-clause-pages : goal.returns-in-Ok-Some-clause-pages
returns-in-Ok-Some-clause-pages c = λ count less flash block are.
    let stop : c.min-end.result ≡ min (c.args.index * page_size + page_size) (length c.args.self.now.block.items) = let e = c.min-end.ensures in let l = c.len.ensures in omega (arith, e, l) in
    pages_split flash c.args.number count c.args.index c.min-end.result c.args.self.now.pages c.push.new.self c.extend_from_slice.new.self c.args.self.now.block.items c.deref.result.now c.clear.new.self.items
    c.in-Ok-Some.ensures.entries c.in-Ok.ensures.items c.clear.ensures.items c.deref.ensures.value stop c.requires.within block less are

pub returns-in-Ok-None-clause-pages : goal.returns-in-Ok-None-clause-pages
returns-in-Ok-None-clause-pages c = λ count less flash block are.
    let stop : c.min-end.result ≡ min (c.args.index * page_size + page_size) (length c.args.self.now.block.items) = let e = c.min-end.ensures in let l = c.len.ensures in omega (arith, e, l) in
    pages_split flash c.args.number count c.args.index c.min-end.result c.args.self.now.pages c.push.new.self c.extend_from_slice.new.self c.args.self.now.block.items c.deref.result.now c.clear.new.self.items
    c.in-Ok-None.ensures.entries c.in-Ok.ensures.items c.clear.ensures.items c.deref.ensures.value stop c.requires.within block less are

pub returns-in-Ok-Some-clause-there : goal.returns-in-Ok-Some-clause-there
returns-in-Ok-Some-clause-there c =
    subst (λ (k : LruCache ℕ (Vec ℕ Global)). IsSome (lookup (nat_eq (c.args.number + c.args.index)) k.entries)) (sym c.in-Ok-Some.ensures.entries)
    (there_put c.args.self.now.pages (c.args.number + c.args.index) c.extend_from_slice.new.self)

pub returns-in-Ok-None-clause-there : goal.returns-in-Ok-None-clause-there
returns-in-Ok-None-clause-there c =
    subst (λ (k : LruCache ℕ (Vec ℕ Global)). IsSome (lookup (nat_eq (c.args.number + c.args.index)) k.entries)) (sym c.in-Ok-None.ensures.entries)
    (there_put c.args.self.now.pages (c.args.number + c.args.index) c.extend_from_slice.new.self)

pub returns-in-Ok-Some-clause-taken : goal.returns-in-Ok-Some-clause-taken
returns-in-Ok-Some-clause-taken c = takes_one (c.args.number + c.args.index) c.args.self.now.pages c.push.new.self c.extend_from_slice.new.self c.requires.room c.requires.absent c.in-Ok-Some.ensures.entries

pub returns-in-Ok-None-clause-taken : goal.returns-in-Ok-None-clause-taken
returns-in-Ok-None-clause-taken c = takes_one (c.args.number + c.args.index) c.args.self.now.pages c.push.new.self c.extend_from_slice.new.self c.requires.room c.requires.absent c.in-Ok-None.ensures.entries
