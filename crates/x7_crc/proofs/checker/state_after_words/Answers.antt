use Rattle.std.proofs.Common.{ℕ, subst}
use Rattle.x7_words.specs.Word.{words_of_bytes}
use Rattle.x7_packets.specs.History.{entered_all}
use Rattle.x7_packets.specs.Packet.{payload_steps}
use Rattle.x7_crc.specs.Checker.{IsCheckState}
use Rattle.x7_crc.proofs.CheckerLemmas.{plain_words}
use Rattle.x7_crc.proofs.checker.state_after_words.Goals as goal

pub returns : goal.returns
returns c = λ h n s.
    subst (λ (r : ℕ). IsCheckState c.after_written_words.result.check c.after_written_words.result.held (entered_all n (payload_steps r (words_of_bytes c.args.bytes.now)) h)) c.in-Some.ensures.number (c.after_written_words.ensures h n s)

pub returns-in_default : goal.returns-in_default
returns-in_default c = λ h n s. plain_words c.args.register n c.args.state.check c.args.state.held c.fold_slice.result (words_of_bytes c.args.bytes.now) h c.in_default.ensures.not_steering c.fold_slice.ensures.value s
