use Rattle.std.proofs.Common.{◌/◌, ◌%◌, ◌-◌, ◌<◌, drop, length, subst, sym, take}
use Rattle.x7_boot.specs.Pages.{BlockReaches, EndsWithBlock, IsBlock, IsLoaded, page_size}
use Rattle.x7_boot.specs.declared.cache.Loaded.{Loaded}
use Rattle.x7_boot.proofs.PageLemmas.{ends_with_block, from_block, from_rest}
use Rattle.x7_boot.proofs.cache.PageCache.bytes_from.Goals as goal

pub returns-in-Read-clause-holds : goal.returns-in-Read-clause-holds
returns-in-Read-clause-holds c = λ flash within are read.
    let r : (0 < c.in-Read.field-0) × IsBlock flash (c.args.place / page_size) c.in-Read.field-0 c.args.self.now.block.items =
    subst (IsLoaded flash (c.args.place / page_size) c.args.self.now.block.items) c.in-Read.is read in
    from_block flash c.args.place c.in-Read.field-0 c.args.self.now.block.items c.deref.result.now within r.0 r.1 c.deref.ensures.value

pub returns-in-Cached-clause-holds : goal.returns-in-Cached-clause-holds
returns-in-Cached-clause-holds c = λ flash within are read. from_rest flash c.args.place c.rest_of_page.result.now within (c.rest_of_page.ensures flash are within)

pub returns-in-Read-clause-ends : goal.returns-in-Read-clause-ends
returns-in-Read-clause-ends c =
    let lent = c.deref.result.now in
    subst (λ (loaded : Loaded). EndsWithBlock c.args.place c.args.self.now.block.items loaded (take (length lent - c.args.place % page_size) (drop (c.args.place % page_size) lent))) (sym c.in-Read.is)
    (ends_with_block c.args.place c.args.self.now.block.items c.deref.result.now (subst (BlockReaches c.args.place c.args.self.now.block.items) c.in-Read.is c.requires.block) c.deref.ensures.value)
