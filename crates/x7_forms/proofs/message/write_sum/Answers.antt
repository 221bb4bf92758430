use Rattle.std.proofs.Common.{◌≡◌, ◌++◌, ◌∙◌, List, ℕ, ap, append_assoc, codes, sym}
use Rattle.x7_words.proofs.SinkLemmas.{puts_or_fails}
use Rattle.x7_words.specs.declared.input.Failed.{Failed}
use Rattle.x7_forms.proofs.message.write_sum.Goals as goal

-- a line feed after the words of a sum
ended : (line want got end : List ℕ) → line ++ (codes " want " ++ (want ++ (codes " got " ++ (got ++ end)))) ≡ (line ++ (codes " want " ++ (want ++ (codes " got " ++ got)))) ++ end
ended line want got end =
    sym (append_assoc line (codes " want " ++ (want ++ (codes " got " ++ got))) end ∙ ap (λ t. line ++ (codes " want " ++ t)) (append_assoc want (codes " got " ++ got) end))

-- the pieces are the line
joined : (before name label line want got n l w g : List ℕ) → n ≡ name → l ≡ line → w ≡ want → g ≡ got
    → before ++ (n ++ (label ++ (l ++ (codes " want " ++ (w ++ (codes " got " ++ (g ++ codes "\n"))))))) ≡ before ++ (name ++ (label ++ ((line ++ (codes " want " ++ (want ++ (codes " got " ++ got)))) ++ codes "\n")))
joined before name label line want got n l w g en el ew eg = rw (en, el, ew, eg) (ap (λ t. before ++ (name ++ (label ++ t))) (ended line want got (codes "\n")))

pub returns : goal.returns
returns g c =
    let all = c.write_pieces.ensures in
    rw (← joined _ _ _ _ _ _ _ _ _ _ c.as_bytes.ensures.value (c.as_bytes-line.ensures.value ∙ c.format.ensures.text) c.hex_of_byte.ensures c.hex_of_byte-2.ensures)
    (puts_or_fails {E = Failed} _ _ _ c.write_pieces.result all.appends all.failed all.prefix)
