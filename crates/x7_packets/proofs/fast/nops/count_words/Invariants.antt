use Rattle.std.proofs.Common.{◌≡◌, take, replicate}
use Rattle.x7_words.specs.Word.{words_of_bytes}
use Rattle.x7_packets.proofs.fast.nops.count_words.Given as goal

abbrev pub invariant-loop-i : goal.invariant-loop-i
invariant-loop-i l = take l.i (words_of_bytes l.bytes) ≡ replicate l.i l.word
