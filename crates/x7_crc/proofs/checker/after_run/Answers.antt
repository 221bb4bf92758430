use Rattle.std.proofs.Common.{◌≡◌, ℕ, List, [], ◌∷◌, ◌∙◌, ap, sym, subst}
use Rattle.x7_words.specs.Word.{word_of_bytes, words_of_bytes}
use Rattle.x7_packets.specs.History.{entered_all}
use Rattle.x7_packets.specs.Packet.{payload_steps}
use Rattle.x7_crc.specs.Checker.{IsCheckState}
use Rattle.x7_crc.proofs.checker.after_run.Goals as goal

pub returns-in-Word : goal.returns-in-Word
returns-in-Word c = λ h n s.
    let one : words_of_bytes c.bytes_of.result ≡ c.in-Word.word ∷ [] =
    ap words_of_bytes c.bytes_of.ensures.value
    ∙ ap (λ (w : ℕ). w ∷ []) (ap word_of_bytes (sym c.bytes_of.ensures.value) ∙ c.bytes_of.ensures.back) in
    rw c.in-Word.is (
    subst (λ (ws : List ℕ). IsCheckState c.state_after_words.result.check c.state_after_words.result.held (entered_all n (payload_steps c.in-Word.register ws) h)) one
    (c.state_after_words.ensures h n s))
