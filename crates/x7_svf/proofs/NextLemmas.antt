-- The token that comes next, by the tokens of a statement and by what comes after it.
use Rattle.std.proofs.Common.{◌≡◌, ℕ, List, [], ◌∷◌, refl, ap, ◌∙◌}
use Rattle.x7_svf.specs.Token.{TokenOnLine, token_of}
use Rattle.x7_svf.specs.Svf.{tokens_before_end, tokens_after_end}
use Rattle.x7_svf.specs.declared.token.NextToken.{NextToken}
use Rattle.x7_svf.specs.declared.token.NextToken.TheVariants as next_token

-- tokens of which the first is this one, and the rest
abbrev first_of : ℕ → NextToken → List ℕ → List TokenOnLine → List TokenOnLine
first_of line t rest qs = record { line = line; token = token_of t rest } ∷ qs

-- a word or a bracket
pub tokens_there : (ps : List TokenOnLine) (line : ℕ) (t : NextToken) (rest : List ℕ) (qs : List TokenOnLine) → ps ≡ first_of line t rest qs → (t ≡ next_token.End → ⊥) → tokens_before_end ps ≡ token_of t rest ∷ tokens_before_end qs
tokens_there ps line (next_token.Word n) rest qs e not = ap tokens_before_end e
tokens_there ps line next_token.Open rest qs e not = ap tokens_before_end e
tokens_there ps line next_token.Close rest qs e not = ap tokens_before_end e
tokens_there ps line next_token.End rest qs e not = absurd (not refl)

pub after_there : (ps : List TokenOnLine) (line : ℕ) (t : NextToken) (rest : List ℕ) (qs : List TokenOnLine) → ps ≡ first_of line t rest qs → (t ≡ next_token.End → ⊥) → tokens_after_end ps ≡ tokens_after_end qs
after_there ps line (next_token.Word n) rest qs e not = ap tokens_after_end e
after_there ps line next_token.Open rest qs e not = ap tokens_after_end e
after_there ps line next_token.Close rest qs e not = ap tokens_after_end e
after_there ps line next_token.End rest qs e not = absurd (not refl)

-- the end of a statement
pub tokens_end : (ps : List TokenOnLine) (line : ℕ) (t : NextToken) (rest : List ℕ) (qs : List TokenOnLine) → ps ≡ first_of line t rest qs → t ≡ next_token.End → tokens_before_end ps ≡ []
tokens_end ps line t rest qs e is = ap tokens_before_end e ∙ ap (λ (u : NextToken). tokens_before_end (first_of line u rest qs)) is
