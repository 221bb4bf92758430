use Rattle.std.proofs.Common.{◌∙◌, sym}
use Rattle.x7_planner.proofs.ContentLemmas.{start_same, start_new}
use Rattle.x7_planner.proofs.content.start_at.Goals as goal

pub returns-then-have_same_words-clause-first : goal.returns-then-have_same_words-clause-first
returns-then-have_same_words-clause-first c = start_same c.args.frames.now c.args.start c.args.place _ c.requires.start c.requires.inside (sym c.have_same_words.ensures ∙ c.if-have_same_words.true)

pub returns-clause-first : goal.returns-clause-first
returns-clause-first c = start_new c.args.frames.now c.args.start c.args.place _ c.requires.start c.requires.inside (sym c.have_same_words.ensures ∙ c.if-have_same_words.false)
