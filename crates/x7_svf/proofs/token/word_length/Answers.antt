use Rattle.std.proofs.Common.{arith, sym, ◌∙◌}
use Rattle.x7_svf.proofs.TokenLemmas.{word_at}
use Rattle.x7_svf.proofs.token.word_length.Goals as goal

pub returns-else-is_word_byte-clause-first : goal.returns-else-is_word_byte-clause-first
returns-else-is_word_byte-clause-first c = λ line p. word_at line c.args.text.now c.loop-end.end p c.loop-end.invariant.within c.loop-end.invariant.words (λ l. sym c.is_word_byte.ensures ∙ c.if-is_word_byte.false)

pub returns-after-loop-end-clause-first : goal.returns-after-loop-end-clause-first
returns-after-loop-end-clause-first c = λ line p. word_at line c.args.text.now c.loop-end.end p c.loop-end.invariant.within c.loop-end.invariant.words (λ l. absurd (omega (arith, l, c.loop-end-test.false)))
