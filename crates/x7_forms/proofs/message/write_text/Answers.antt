use Rattle.x7_words.proofs.SinkLemmas.{puts_or_fails}
use Rattle.x7_forms.proofs.message.write_text.Goals as goal

pub returns : goal.returns
returns g c =
    let all = c.write_pieces.ensures in
    rw (← c.as_bytes.ensures.value) (puts_or_fails _ _ _ c.write_pieces.result all.appends all.failed all.prefix)
