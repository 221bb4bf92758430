use Rattle.std.proofs.Common.{◌≤◌, map, take, vec_capacity, codes}
use Rattle.x7_text.specs.Row.{spaced}
use Rattle.x7_text.proofs.OpenLineLemmas.{WrittenSoFar}
use Rattle.x7_words.specs.Word.{word_of_bytes}
use Rattle.x7_text.proofs.row.put_each_word.Given as goal

abbrev pub invariant-loop-word : goal.invariant-loop-word
invariant-loop-word l =
    WrittenSoFar 8 (codes "data") spaced l.fn.in_line l.fn.text.items (map word_of_bytes (take l.word-index l.words)) l.text.items l.count
    × (vec_capacity l.fn.text ≤ vec_capacity l.text)
