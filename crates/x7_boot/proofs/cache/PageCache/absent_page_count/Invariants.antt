use Rattle.std.proofs.Common.{◌≡◌, ◌*◌, ◌<◌, ℕ, None, nat_eq}
use Rattle.std.specs.Map.{lookup}
use Rattle.x7_boot.specs.Pages.{page_size}
use Rattle.x7_boot.proofs.cache.PageCache.absent_page_count.Given as goal

abbrev pub invariant-loop-page : goal.invariant-loop-page
invariant-loop-page l = record {
  after : l.fn.number < l.page-counter;
  within : (page : ℕ) → page < l.page-counter → page * page_size < l.fn.size;
  absent : (page : ℕ) → l.fn.number < page → page < l.page-counter → lookup (nat_eq page) l.fn.self.pages.entries ≡ None;
}
