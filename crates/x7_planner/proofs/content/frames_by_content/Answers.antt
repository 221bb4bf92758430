use Rattle.std.proofs.Common.{rules}
use Rattle.std.proofs.lemmas.List.Sorted.{answers_always}
use Rattle.x7_planner.proofs.ContentLemmas.{by_words, grouped_is, words_order}
use Rattle.x7_planner.proofs.content.frames_by_content.Goals as goal

pub returns : goal.returns
returns c =
    grouped_is c.args.plan.now.rows c.in_ok-frames.frames.items c.sort_by.new.self.items c.in_ok-frames.ensures.rows c.in_ok-frames.ensures.places c.sort_by.ensures.permutation
    (c.in_ok-sort_by.ensures.sorted by_words words_order (answers_always _ _ _ (λ f a r g h. search rules)))
    (c.sort_by.ensures.stable by_words words_order (answers_always _ _ _ (λ f a r g h. search rules)))
