use Rattle.std.proofs.Common.{◌+◌, ◌*◌, ◌/◌, [], ℕ, List, sym, subst, arith, length, map, take}
use Rattle.x7_words.specs.Word.{word_of_bytes}
use Rattle.x7_packets.specs.History.{entered_all, History}
use Rattle.x7_packets.specs.Packet.{payload_steps}
use Rattle.x7_regs.specs.Register.{number_of}
use Rattle.x7_words.proofs.WordLemmas.{map_take_more, words_of_bytes_all}
use Rattle.x7_crc.specs.Checker.{IsCheckState}
use Rattle.x7_crc.proofs.CheckerLemmas.{entered_more}
use Rattle.x7_crc.proofs.checker.after_written_words.Goals as goal

pub loop-word-preserved : goal.loop-word-preserved
loop-word-preserved c = λ h n s.
    let ws : List ℕ = map word_of_bytes (take c.loop-word.word-index c.as_chunks.result.0.now) in
    rw (map_take_more c.as_chunks.result.0.now c.loop-word.word-index [] c.word_of.result (omega arith) c.word_of.ensures.value)
    (subst (λ (g : History). IsCheckState c.after_written_word-now.result.check c.after_written_word-now.result.held g) (sym (entered_more (number_of c.args.reg) n ws c.word_of.result h))
    (c.after_written_word-now.ensures (entered_all n (payload_steps (number_of c.args.reg) ws) h) (n + 4 * length ws + 4) (c.loop-word.invariant h n s)))

pub returns : goal.returns
returns c = λ h n s.
    subst (λ (ws : List ℕ). IsCheckState c.loop-word.now.check c.loop-word.now.held (entered_all n (payload_steps (number_of c.args.reg) ws) h))
    (words_of_bytes_all c.args.bytes.now c.as_chunks.result.0.now (length c.args.bytes.now / 4) c.loop-word.word-index c.as_chunks.ensures.front (omega arith) (omega arith)) (c.loop-word.invariant h n s)
