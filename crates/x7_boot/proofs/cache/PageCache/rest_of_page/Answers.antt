use Rattle.std.proofs.Common.{ap, sym, ◌∙◌, option_copied}
use Rattle.x7_boot.proofs.PageLemmas.{place_in, rest_among}
use Rattle.x7_boot.proofs.cache.PageCache.rest_of_page.Goals as goal

pub slice_bounds-result-count : goal.slice_bounds-result-count
slice_bounds-result-count c = place_in c.args.place c.args.self.now.pages.entries c.in-Some.page.now c.deref.result.now c.requires (sym c.peek.ensures ∙ ap option_copied c.in-Some.is) c.deref.ensures.value

pub slice_bounds-result-start : goal.slice_bounds-result-start
slice_bounds-result-start c = place_in c.args.place c.args.self.now.pages.entries c.in-Some.page.now c.deref.result.now c.requires (sym c.peek.ensures ∙ ap option_copied c.in-Some.is) c.deref.ensures.value

pub returns-in-Some : goal.returns-in-Some
returns-in-Some c = λ flash are within. rest_among flash c.args.place c.args.self.now.pages.entries c.in-Some.page.now c.deref.result.now are within (sym c.peek.ensures ∙ ap option_copied c.in-Some.is) c.deref.ensures.value
