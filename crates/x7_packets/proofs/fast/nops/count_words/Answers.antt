use Rattle.std.proofs.Common.{◌≡◌, ◌<◌, ℕ, length, take, replicate, arith, ap, ◌∙◌}
use Rattle.x7_words.specs.Word.{AreBytes, words_of_bytes}
use Rattle.x7_words.proofs.ListLemmas.{all_from_places}
use Rattle.x7_words.proofs.WordLemmas.{chunk_count, words_count}
use Rattle.x7_packets.proofs.NopLemmas.{chunk_more, equal_taken}
use Rattle.x7_packets.proofs.fast.nops.count_words.Goals as goal

pub returns-then-word_of-word-clause-within : goal.returns-then-word_of-word-clause-within
returns-then-word_of-word-clause-within c =
    let count : length c.as_chunks.result.0.now ≡ length (words_of_bytes c.args.bytes.now) = chunk_count c.args.bytes.now c.as_chunks.result.0.now c.as_chunks.ensures.front in
    omega (arith, count, words_count c.args.bytes.now, c.loop-i-test.true)

pub returns-then-word_of-word-clause-equal : goal.returns-then-word_of-word-clause-equal
returns-then-word_of-word-clause-equal c =
    let bytes = c.args.bytes.now in
    let fits : AreBytes bytes = all_from_places (λ b. b < 256) bytes (λ k h. omega (arith, c.type_inv.bytes k)) in
    equal_taken c.loop-i.i c.args.word bytes fits (returns-then-word_of-word-clause-within c) c.loop-i.invariant

pub loop-i-preserved : goal.loop-i-preserved
loop-i-preserved c = chunk_more c.args.bytes.now c.as_chunks.result.0.now c.loop-i.i c.word_of.result c.args.word c.as_chunks.ensures.front c.loop-i-test.true c.word_of.ensures.value c.if-word_of-word.false c.loop-i.invariant

pub returns-clause-within : goal.returns-clause-within
returns-clause-within c =
    let count : length c.as_chunks.result.0.now ≡ length (words_of_bytes c.args.bytes.now) = chunk_count c.args.bytes.now c.as_chunks.result.0.now c.as_chunks.ensures.front in
    omega (arith, count, words_count c.args.bytes.now)

pub returns-clause-equal : goal.returns-clause-equal
returns-clause-equal c =
    let bytes = c.args.bytes.now in
    let count : c.loop-i.i ≡ length c.as_chunks.result.0.now = omega (arith, c.loop-i-test.false, c.loop-i.auto.i-end) in
    let fits : AreBytes bytes = all_from_places (λ b. b < 256) bytes (λ k h. omega (arith, c.type_inv.bytes k)) in
    equal_taken (length c.as_chunks.result.0.now) c.args.word bytes fits (returns-clause-within c)
    (ap (λ (k : ℕ). take k (words_of_bytes bytes)) (let same : length c.as_chunks.result.0.now ≡ c.loop-i.i = omega (arith, count) in same) ∙ c.loop-i.invariant ∙ ap (λ (k : ℕ). replicate k c.args.word) count)
