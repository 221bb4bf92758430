use Rattle.std.proofs.Common.{◌≡◌, ◌*◌, ◌+◌, ℕ, take, None}
use Rattle.x7_words.specs.Word.{words_of_bytes}
use Rattle.x7_packets.specs.History.{History, entered_all}
use Rattle.x7_packets.specs.Packet.{payload_steps}
use Rattle.x7_flow.specs.Standing.{FramesFit}
use Rattle.x7_regs.specs.Register.{number_of}
use Rattle.x7_engine.specs.declared.kept.Kept.{Kept}
use Rattle.x7_engine.specs.Standing.{RegistersStandFor, registers_in}
use Rattle.x7_engine.proofs.registers.Registers.take_words_one_by_one.Given as goal

abbrev pub invariant-loop-word : goal.invariant-loop-word
invariant-loop-word l = record {
  going : l.self.values.stop ≡ None;
  count : l.taken ≡ 4 * l.word-index;
  due : l.self.values.due ≡ l.initial.self.values.due;
  frames : FramesFit l.part l.self.frames;
  stands : (kept : Kept) (h : History) (n : ℕ) → RegistersStandFor l.part kept (registers_in l.initial.self) h n
      → RegistersStandFor l.part kept (registers_in l.self) (entered_all n (payload_steps (number_of l.reg) (take l.word-index (words_of_bytes l.bytes))) h) (n + l.taken);
}
