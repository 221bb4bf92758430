-- One statement more, whose digits are saved.
use Rattle.std.proofs.Common.{◌≡◌, ◌⊎◌, inl, inr, ℕ, List, [], ◌∷◌, ◌++◌, ◌≤◌, length, Some, sym, ap, subst, ◌∙◌}
use Rattle.std.proofs.lemmas.List.{map-append}
use Rattle.x7_words.proofs.ListLemmas.{all_append}
use Rattle.x7_svf.specs.declared.statement.Statement.{Statement}
use Rattle.x7_svf.specs.declared.stored.StoredStatement.{StoredStatement}
use Rattle.x7_svf.specs.Token.{TokenOnLine}
use Rattle.x7_svf.specs.Source.{SourceState, tokens_left}
use Rattle.x7_svf.specs.Span.{StaysSaved}
use Rattle.x7_svf.specs.Stored.{AreStoredWithin, IsStoredWithin, statement_in, statements_in, stored_if}
use Rattle.x7_svf.specs.Svf.{BeginWithStatement, first_statement, outcome, tokens_after_end}
use Rattle.x7_svf.proofs.OutcomeLemmas.{after_all, one_on}
use Rattle.x7_svf.proofs.SpanLemmas.{all_stored_more, prefix_long, statements_stay}

-- a source from before its next token, there, and after the statement there
module _ (ps : List TokenOnLine) (before here after : SourceState) (out new : List StoredStatement) (one : StoredStatement) (e : new ≡ out ++ one ∷ []) (w : AreStoredWithin (length before.saved) out)
    (same : here.saved ≡ before.saved) (f : StaysSaved here.saved after.saved) where
  prefix_here : StaysSaved before.saved after.saved
  prefix_here = subst (λ (k : List ℕ). StaysSaved k after.saved) same f

  pub stored_on : (p : TokenOnLine) (left : List TokenOnLine) → outcome ps ≡ after_all (statements_in before.saved out) (outcome (tokens_left before)) → tokens_left before ≡ p ∷ left → tokens_left before ≡ tokens_left here
      → stored_if after.saved (Some one) ≡ first_statement (tokens_left here) → tokens_after_end (tokens_left here) ≡ Some (tokens_left after)
      → outcome ps ≡ after_all (statements_in after.saved new) (outcome (tokens_left after))
  stored_on p left h first there is a =
      let s : Statement = statement_in after.saved one in
      let all : statements_in after.saved new ≡ statements_in before.saved out ++ s ∷ [] =
      ap (statements_in after.saved) e ∙ map-append (statement_in after.saved) out (one ∷ []) ∙ ap (λ (ss : List Statement). ss ++ s ∷ []) (statements_stay before.saved after.saved prefix_here out w) in
      one_on ps (tokens_left before) (statements_in before.saved out) p left h first (tokens_left after) s (ap tokens_after_end there ∙ a) (is ∙ sym (ap first_statement there))
      ∙ sym (ap (λ (ss : List Statement). after_all ss (outcome (tokens_left after))) all)

  pub all_within : IsStoredWithin (length after.saved) one → AreStoredWithin (length after.saved) new
  all_within o =
      let few : length before.saved ≤ length after.saved = prefix_long before.saved after.saved prefix_here in
      subst (AreStoredWithin (length after.saved)) (sym e) (all_append (IsStoredWithin (length after.saved)) out (one ∷ []) (all_stored_more (length before.saved) (length after.saved) out few w) (o, tt))

  -- tokens begin with a statement, the first of all or this one
  pub one_begins : (length out ≡ 0) × (tokens_left before ≡ ps) ⊎ BeginWithStatement ps → tokens_left before ≡ tokens_left here → stored_if after.saved (Some one) ≡ first_statement (tokens_left here) → BeginWithStatement ps
  one_begins (inl z) there is = (statement_in after.saved one, ap first_statement (sym z.1 ∙ there) ∙ sym is)
  one_begins (inr b) there is = b
