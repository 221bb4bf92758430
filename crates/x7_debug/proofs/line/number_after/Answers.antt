use Rattle.std.proofs.Common.{◌≡◌, ◌≢◌, ◌<◌, ◌^◌, ◌++◌, ◌∙◌, ℕ, List, MatchOption, None, Option, Some, ap, decimal, sym}
use Rattle.std.proofs.lemmas.List.{append_cancel_left}
use Rattle.x7_text.specs.Digits.{IsDecimalBelow}
use Rattle.x7_debug.proofs.line.number_after.Goals as goal

after_words : (line words digits : List ℕ) (number : Option ℕ) → line ≡ words ++ digits → IsDecimalBelow (2 ^ 32) digits number → MatchOption number ((n : ℕ) → n < 2 ^ 32 → line ≢ words ++ decimal n) (λ n. (n < 2 ^ 32) × (line ≡ words ++ decimal n))
after_words line words digits None is none = λ n small same. none n small (append_cancel_left words digits (decimal n) (sym is ∙ same))
after_words line words digits (Some n) is number = (number.0, is ∙ ap (λ (d : List ℕ). words ++ d) number.1)

pub returns : goal.returns
returns c = after_words c.args.line.now c.args.words.now c.in_ok-digits.digits.now c.number_of_decimal.result c.in_ok-digits.ensures c.number_of_decimal.ensures
