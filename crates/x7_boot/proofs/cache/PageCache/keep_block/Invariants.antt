use Rattle.std.proofs.Common.{◌≡◌, ◌+◌, ◌-◌, ◌≤◌, ◌<◌, IsSome, nat_eq}
use Rattle.std.specs.Map.{lookup}
use Rattle.x7_boot.specs.BlockReads.{TakesPages}
use Rattle.x7_boot.specs.Pages.{KeepsPages}
use Rattle.x7_boot.proofs.cache.PageCache.keep_block.Given as goal

abbrev pub invariant-pages : goal.invariant-pages
invariant-pages l = record {
  most : l.left ≤ l.fn.count;
  same : l.self.block ≡ l.fn.self.block;
  kept : KeepsPages l.fn.self.block.items l.fn.number l.fn.count l.fn.self.pages.entries l.self.pages.entries;
  there : l.left < l.fn.count → IsSome (lookup (nat_eq (l.fn.number + l.left)) l.self.pages.entries);
  taken : TakesPages (l.fn.number + l.left) (l.fn.count - l.left) l.fn.self.pages l.self.pages;
}

abbrev pub decreases-pages : goal.decreases-pages
decreases-pages l = l.left
