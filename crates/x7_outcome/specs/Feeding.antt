-- What a text comes to that is read line by line while it comes (this project's choice).
use Rattle.std.specs.Prelude.{ℕ, List, Result, MatchResult}
use Rattle.x7_text.specs.LineReader.{FailsFrom, GivesOrFails, ReaderState, StandsFor}
use Rattle.x7_text.specs.Lines.{split}

-- what the result `read` of reading `text` line by line says: a reader took all of it, or there is a fault for which
-- every text that begins with `text` is refused
abbrev pub IsFed : {T F : Type 0} → (T → List (List ℕ) → Type 0) → (F → List (List ℕ) → Type 0) → Result (ReaderState T) F → List ℕ → Type 0
IsFed took fails read text = MatchResult read (λ reader. StandsFor took reader text) (λ f. FailsFrom (fails f) text)

-- what the result `read` of reading the whole of `text` says: what its lines give, or the fault for which they are
-- refused
abbrev pub LinesGive : {A F : Type 0} → (A → List (List ℕ) → Type 0) → (F → List (List ℕ) → Type 0) → Result A F → List ℕ → Type 0
LinesGive gives fails read text = GivesOrFails gives fails (split text) read
