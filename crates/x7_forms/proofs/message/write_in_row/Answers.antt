use Rattle.std.proofs.Common.{◌≡◌, ◌++◌, ◌∙◌, List, ℕ, ap, append_assoc, codes, sym}
use Rattle.x7_words.proofs.SinkLemmas.{puts_or_fails}
use Rattle.x7_words.specs.declared.input.Failed.{Failed}
use Rattle.x7_forms.proofs.message.write_in_row.Goals as goal

-- the pieces are the line
joined : (before name label key row n k r : List ℕ) → n ≡ name → k ≡ key → r ≡ row
    → before ++ (n ++ (label ++ (k ++ (codes " in row " ++ (r ++ codes "\n"))))) ≡ before ++ (name ++ (label ++ ((key ++ codes " in row " ++ row) ++ codes "\n")))
joined before name label key row n k r en ek er = rw (en, ek, er) (ap (λ t. before ++ (name ++ (label ++ t))) (sym (append_assoc (key ++ codes " in row ") row (codes "\n") ∙ append_assoc key (codes " in row ") (row ++ codes "\n"))))

pub returns : goal.returns
returns g c =
    let all = c.write_pieces.ensures in
    rw (← joined _ _ _ _ _ _ _ _ c.as_bytes.ensures.value c.as_bytes-2.ensures.value (c.as_bytes-row.ensures.value ∙ c.format.ensures.text))
    (puts_or_fails {E = Failed} _ _ _ c.write_pieces.result all.appends all.failed all.prefix)
