use Rattle.std.proofs.Common.{ℕ, map, take}
use Rattle.x7_words.specs.Word.{word_of_bytes}
use Rattle.x7_packets.specs.History.{entered_all, History}
use Rattle.x7_packets.specs.Packet.{payload_steps}
use Rattle.x7_regs.specs.Register.{number_of}
use Rattle.x7_crc.specs.Checker.{IsCheckState}
use Rattle.x7_crc.proofs.checker.after_written_words.Given as goal

abbrev pub invariant-loop-word : goal.invariant-loop-word
invariant-loop-word l = (h : History) (n : ℕ) → IsCheckState l.fn.state.check l.fn.state.held h → IsCheckState l.now.check l.now.held (entered_all n (payload_steps (number_of l.reg) (map word_of_bytes (take l.word-index l.words))) h)
