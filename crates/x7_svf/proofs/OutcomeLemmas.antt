-- What tokens come to, statement by statement.
use Rattle.std.specs.Prelude.{Result, Ok, Err}
use Rattle.std.proofs.Common.{◌≡◌, ℕ, zero, suc, ◌≤◌, List, [], ◌∷◌, ◌++◌, length, Option, Some, refl, sym, ap, ◌∙◌, append_assoc, arith}
use Rattle.x7_svf.specs.Token.{Token, Word, Open, Close, End, TokenOnLine}
use Rattle.x7_svf.specs.declared.statement.Statement.{Statement}
use Rattle.x7_svf.specs.Svf.{tokens_if_ended, first_statement, outcome, outcome_by, tokens_after_end, with_first}
use Rattle.x7_svf.specs.declared.fault.SvfFault.{SvfFault}

fewer_by : (line : ℕ) (m : Token) (ps : List TokenOnLine) → length (tokens_if_ended (tokens_after_end ps)) ≤ length ps → length (tokens_if_ended (tokens_after_end (record { line = line; token = m } ∷ ps))) ≤ length ps
fewer_by line (Word w) ps h = h
fewer_by line Open ps h = h
fewer_by line Close ps h = h
fewer_by line End ps h = omega arith

few : (ps : List TokenOnLine) → length (tokens_if_ended (tokens_after_end ps)) ≤ length ps
few [] = omega arith
few (p ∷ ps) = let h = fewer_by p.line p.token ps (few ps) in omega (arith, h)

enough : (n m : ℕ) (ps : List TokenOnLine) → length ps ≤ n → length ps ≤ m → outcome_by n ps ≡ outcome_by m ps
enough n m [] h k = refl
enough zero m (p ∷ ps) h k = absurd (omega (arith, h))
enough (suc n) zero (p ∷ ps) h k = absurd (omega (arith, k))
enough (suc n) (suc m) (p ∷ ps) h k =
    let f = fewer_by p.line p.token ps (few ps) in
    ap (with_first p.line (first_statement (p ∷ ps))) (enough n m (tokens_if_ended (tokens_after_end (p ∷ ps))) (omega (arith, f, h)) (omega (arith, f, k)))

pub outcome_first : (p : TokenOnLine) (ps : List TokenOnLine) → outcome (p ∷ ps) ≡ with_first p.line (first_statement (p ∷ ps)) (outcome (tokens_if_ended (tokens_after_end (p ∷ ps))))
outcome_first p ps =
    let f = fewer_by p.line p.token ps (few ps) in
    ap (with_first p.line (first_statement (p ∷ ps))) (enough (length ps) (length (tokens_if_ended (tokens_after_end (p ∷ ps)))) (tokens_if_ended (tokens_after_end (p ∷ ps))) (omega (arith, f)) (omega arith))

-- statements before what the tokens after them come to
abbrev pub after_all : List Statement → Result (List Statement) SvfFault → Result (List Statement) SvfFault
after_all ss (Ok more) = Ok (ss ++ more)
after_all ss (Err f) = Err f

one_more : (line : ℕ) (ss : List Statement) (s : Statement) (r : Result (List Statement) SvfFault) → after_all ss (with_first line (Some s) r) ≡ after_all (ss ++ s ∷ []) r
one_more line ss s (Ok more) = ap (λ (x : List Statement). Ok x) (sym (append_assoc ss (s ∷ []) more))
one_more line ss s (Err f) = refl

-- tokens after statements, of which the first is this
module _ (ps before : List TokenOnLine) (ss : List Statement) (p : TokenOnLine) (left : List TokenOnLine) (h : outcome ps ≡ after_all ss (outcome before)) (e : before ≡ p ∷ left) where
  by_first : outcome ps ≡ after_all ss (with_first p.line (first_statement before) (outcome (tokens_if_ended (tokens_after_end before))))
  by_first = h ∙ ap (λ (qs : List TokenOnLine). after_all ss (outcome qs)) e ∙ ap (after_all ss) (outcome_first p left)
      ∙ sym (ap (λ (qs : List TokenOnLine). after_all ss (with_first p.line (first_statement qs) (outcome (tokens_if_ended (tokens_after_end qs))))) e)

  pub one_on : (rest : List TokenOnLine) (s : Statement) → tokens_after_end before ≡ Some rest → Some s ≡ first_statement before → outcome ps ≡ after_all (ss ++ s ∷ []) (outcome rest)
  one_on rest s a is =
      by_first ∙ sym (ap (λ (o : Option Statement). after_all ss (with_first p.line o (outcome (tokens_if_ended (tokens_after_end before))))) is) ∙ one_more p.line ss s (outcome (tokens_if_ended (tokens_after_end before)))
      ∙ ap (λ (r : Option (List TokenOnLine)). after_all (ss ++ s ∷ []) (outcome (tokens_if_ended r))) a
