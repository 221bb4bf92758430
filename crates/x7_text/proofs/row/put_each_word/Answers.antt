use Rattle.std.proofs.Common.{arith, [], ◌≡◌, ◌++◌, ◌∙◌, ap, ◌/◌, codes, length, map, take}
use Rattle.x7_text.proofs.OpenLineLemmas.{written_words_length, written_one_more}
use Rattle.x7_words.proofs.WordLemmas.{map_take_more, words_of_bytes_all}
use Rattle.x7_text.specs.Row.{in_line_after, open_text, spaced}
use Rattle.x7_words.specs.Word.{word_of_bytes, words_of_bytes}
use Rattle.x7_text.proofs.row.put_each_word.Goals as goal

pub put_word-count-requires-clause-room : goal.put_word-count-requires-clause-room
put_word-count-requires-clause-room c =
    omega (arith, c.loop-word.text.ok.0, c.args.text.now.ok.0, c.as_chunks.ensures.front_len, written_words_length _ _ _ _ _ _ (omega arith) c.loop-word.invariant.0)

pub loop-word-preserved : goal.loop-word-preserved
loop-word-preserved c =
    rw (map_take_more c.as_chunks.result.0.now c.loop-word.word-index [] c.word_of.result (omega arith) c.word_of.ensures.value)
    (written_one_more _ _ _ _ _ _ _ _ _ _ _ c.loop-word.invariant.0 c.put_word-count.ensures.appends.items c.put_word-count.ensures.count c.put_word-count.ensures.open, omega arith)

pub returns : goal.returns
returns c =
    let all : map word_of_bytes (take c.loop-word.word-index c.as_chunks.result.0.now) ≡ words_of_bytes c.args.bytes.now =
    words_of_bytes_all c.args.bytes.now c.as_chunks.result.0.now (length c.args.bytes.now / 4) c.loop-word.word-index c.as_chunks.ensures.front (omega arith) (omega arith) in
    record {
      count = c.loop-word.invariant.0.count_is ∙ ap (in_line_after 8 c.args.in_line) all;
      below = omega arith;
      appends = record {
        items = c.loop-word.invariant.0.text_is ∙ ap (λ ws. c.args.text.now.items ++ open_text 8 (codes "data") spaced c.args.in_line ws) all;
        within = omega (arith, c.loop-word.text.ok.0, c.args.text.now.ok.0, c.as_chunks.ensures.front_len, written_words_length _ _ _ _ _ _ (omega arith) c.loop-word.invariant.0);
        room = omega arith;
      };
    }
