use Rattle.std.proofs.Common.{◌≡◌, ◌∙◌, sym, arith}
use Rattle.std.proofs.lemmas.Fmt.{decimal_injective}
use Rattle.x7_text.proofs.reading.decimal_below.Goals as goal

pub returns-else-number-limit : goal.returns-else-number-limit
returns-else-number-limit c = λ n h e.
    let same : n ≡ c.in-Some.number = decimal_injective n c.in-Some.number (omega arith) (omega arith) (sym e ∙ c.in-Some.ensures.1) in
    omega arith
