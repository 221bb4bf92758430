use Rattle.std.proofs.Common.{ℕ, ap, ◌∙◌}
use Rattle.x7_words.specs.Word.{bytes_of_word}
use Rattle.x7_packets.specs.PacketWords.{type1_write_header}
use Rattle.x7_packets.proofs.FlashSlotLemmas.{slot_joined}
use Rattle.x7_packets.proofs.slot.flash_slot.Goals as goal

pub returns : goal.returns
returns c =
    c.copy_from_slice.ensures.after ∙ c.as_flattened.ensures.value
    ∙ slot_joined c.args.switch c.args.start _ _ _ _ _ c.bytes_of.ensures.value
    (c.bytes_of-2.ensures.value ∙ ap bytes_of_word (c.type1_write_header-2.ensures ∙ ap (λ (r : ℕ). type1_write_header r 1) c.number-2.ensures.value))
    (c.bytes_of-write_command.ensures.value ∙ ap bytes_of_word (c.type1_write_header.ensures ∙ ap (λ (r : ℕ). type1_write_header r 1) c.number.ensures.value))
    (c.bytes_of-3.ensures.value ∙ ap bytes_of_word c.code.ensures.value)
    (c.bytes_of-4.ensures.value ∙ ap bytes_of_word c.code-2.ensures.value)
