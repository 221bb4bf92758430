use Rattle.std.proofs.Common.{◌≡◌, ◌<◌, ◌^◌, map, drop}
use Rattle.x7_words.specs.Word.{word_of_bytes, words_of_bytes}
use Rattle.x7_crc.specs.Check.{check_after, writes_to}
use Rattle.x7_crc.proofs.check.fold_words.Given as goal

abbrev pub invariant-loop-word : goal.invariant-loop-word
invariant-loop-word l = (check_after l.check (writes_to l.register (map word_of_bytes (drop l.word-index l.words))) ≡ check_after l.fn.before (writes_to l.register (words_of_bytes l.fn.bytes))) × (l.check < 2 ^ 32)
