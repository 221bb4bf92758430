-- The words after a keyword, one by one; no statement whose words are saved has more than four.
use Rattle.std.proofs.Common.{◌≡◌, ℕ, ◌||◌, ◌≤◌, Bool, true, false, if◌then◌else◌, List, [], ◌∷◌, ◌++◌, length, take, Option, Some, None, codes, refl, ap, sym, ◌∙◌, append_assoc, append-nil, arith}
use Rattle.std.specs.Char.{to_ascii_lowercase}
use Rattle.std.specs.List.{list_all}
use Rattle.std.specs.Prelude.{nat_eq}
use Rattle.std.proofs.lemmas.Grind.{common_steps}
use Rattle.std.proofs.lemmas.Bool.{and_left}
use Rattle.x7_svf.specs.Token.{Token, TokenOnLine, token_of}
use Rattle.x7_svf.specs.Source.{SourceState, left_after}
use Rattle.x7_svf.specs.Span.{words_saved}
use Rattle.x7_svf.specs.Words.{is_free_token, is_keyword, runtest_statement, statement_if_words, statement_of_words, word_before, words_of}
use Rattle.x7_svf.specs.Svf.{tokens_before_end}
use Rattle.x7_svf.specs.declared.token.NextToken.{NextToken}
use Rattle.x7_svf.specs.declared.token.NextToken.TheVariants as next_token
use Rattle.x7_svf.specs.declared.span.Span.{Span}
use Rattle.x7_svf.specs.declared.statement.Statement.{Statement}
use Rattle.x7_svf.specs.declared.words.SavedWords.{SavedWords}
use Rattle.x7_svf.specs.declared.words.SavedWords.TheVariants as words
use Rattle.x7_words.proofs.CaseLemmas.{both_true}

-- words after words
abbrev pub after_words : List (List ℕ) → Option (List (List ℕ)) → Option (List (List ℕ))
after_words ws None = None
after_words ws (Some vs) = Some (ws ++ vs)

none_if : (b : Bool) (x : Option Statement) → x ≡ None → (if b then None else x) ≡ None
none_if true x e = refl
none_if false x e = e

five : (k a b c d e : List ℕ) (ws : List (List ℕ)) → statement_of_words k (a ∷ b ∷ c ∷ d ∷ e ∷ ws) ≡ None
five k a b c d e ws =
    none_if (is_keyword k (codes "STATE")) _ (none_if (is_keyword k (codes "RUNTEST")) _ (none_if (is_keyword k (codes "ENDIR") || is_keyword k (codes "ENDDR")) _
    (none_if (is_keyword k (codes "HIR") || is_keyword k (codes "HDR") || is_keyword k (codes "TIR") || is_keyword k (codes "TDR")) _ (none_if (is_keyword k (codes "TRST")) None refl))))

more_words : (k : List ℕ) (ws : List (List ℕ)) (w : List ℕ) (vs : List (List ℕ)) → 4 ≤ length ws → statement_of_words k (ws ++ w ∷ vs) ≡ None
more_words k [] w vs l = absurd (omega (arith, l))
more_words k (a ∷ []) w vs l = absurd (omega (arith, l))
more_words k (a ∷ b ∷ []) w vs l = absurd (omega (arith, l))
more_words k (a ∷ b ∷ c ∷ []) w vs l = absurd (omega (arith, l))
more_words k (a ∷ b ∷ c ∷ d ∷ []) w vs l = five k a b c d w vs
more_words k (a ∷ b ∷ c ∷ d ∷ e ∷ ws) w vs l = five k a b c d e (ws ++ w ∷ vs)

too_many : (k : List ℕ) (ws : List (List ℕ)) (w : List ℕ) (o : Option (List (List ℕ))) → 4 ≤ length ws → statement_if_words k (after_words ws (word_before w o)) ≡ None
too_many k ws w None l = refl
too_many k ws w (Some vs) l = more_words k ws w vs l

one_more : (ws : List (List ℕ)) (w : List ℕ) (o : Option (List (List ℕ))) → after_words ws (word_before w o) ≡ after_words (ws ++ w ∷ []) o
one_more ws w None = refl
one_more ws w (Some vs) = ap Some (sym (append_assoc ws (w ∷ []) vs))

-- the words so far, and the tokens of the rest, which begin with a word
module _ (ms : Option (List (List ℕ))) (ws : List (List ℕ)) (tokens : List Token) (here : SourceState) (t : NextToken) (n : ℕ) (same : ms ≡ after_words ws (words_of tokens))
    (e : tokens ≡ token_of t here.rest ∷ tokens_before_end (left_after here t)) (is : t ≡ next_token.Word n) where
  word_next : ms ≡ after_words ws (word_before (take n here.rest) (words_of (tokens_before_end (left_after here (next_token.Word n)))))
  word_next = same ∙ ap (λ (xs : List Token). after_words ws (words_of xs)) (e ∙ ap (λ (u : NextToken). token_of u here.rest ∷ tokens_before_end (left_after here u)) is)

  pub fifth : (key : List ℕ) → length ws ≡ 4 → None ≡ statement_if_words key ms
  fifth key four = sym (ap (statement_if_words key) word_next ∙ too_many key ws (take n here.rest) (words_of (tokens_before_end (left_after here (next_token.Word n)))) (omega (arith, four)))

  pub words_on : (more : List (List ℕ)) (word : List ℕ) (left : List TokenOnLine) → more ≡ ws ++ word ∷ [] → word ≡ take n here.rest → left ≡ left_after here (next_token.Word n) → ms ≡ after_words more (words_of (tokens_before_end left))
  words_on more word left g w l =
      let grown : more ≡ ws ++ take n here.rest ∷ [] = g ∙ ap (λ (x : List ℕ). ws ++ x ∷ []) w in
      word_next ∙ one_more ws (take n here.rest) (words_of (tokens_before_end (left_after here (next_token.Word n)))) ∙ sym (λ i. after_words (grown i) (words_of (tokens_before_end (l i))))

-- no token is left: the words so far are all
pub all_said : (key : List ℕ) (ms : Option (List (List ℕ))) (ws : List (List ℕ)) (tokens : List Token) → ms ≡ after_words ws (words_of tokens) → tokens ≡ [] → statement_if_words key ms ≡ statement_of_words key ws
all_said key ms ws tokens same e = ap (statement_if_words key) (same ∙ ap (λ (xs : List Token). after_words ws (words_of xs)) e) ∙ ap (statement_of_words key) (append-nil ws)

-- a token that may stand among any words
pub free_on : (m : Token) (ms : List Token) → is_free_token m ≡ true → list_all is_free_token (m ∷ ms) ≡ list_all is_free_token ms
free_on m ms e = rw e refl

-- ---- words that are saved

-- a word that is RUNTEST isn't STATE
other_value : (n : ℕ) → nat_eq n 114 ≡ true → nat_eq n 115 ≡ false
other_value n h = grind (arith, common_steps)

not_state : (k : List ℕ) → is_keyword k (codes "RUNTEST") ≡ true → is_keyword k (codes "STATE") ≡ false
not_state [] h = refl
not_state (c ∷ cs) h =
    let parts = both_true (nat_eq (to_ascii_lowercase c) 114) _ h in
    and_left (nat_eq (to_ascii_lowercase c) 115) _ (other_value (to_ascii_lowercase c) parts.0)

second : (a b : Bool) (x y z : Option Statement) → a ≡ false → b ≡ true → (if a then x else (if b then y else z)) ≡ y
second true b x y z e f = absurd cc
second false true x y z e f = refl
second false false x y z e f = absurd cc

-- what RUNTEST and the words after it say
pub runtest_said : (k : List ℕ) (ws : List (List ℕ)) → is_keyword k (codes "RUNTEST") ≡ true → statement_of_words k ws ≡ runtest_statement ws
runtest_said k ws h = second (is_keyword k (codes "STATE")) (is_keyword k (codes "RUNTEST")) _ _ _ (not_state k h) h

-- no RUNTEST is said by fewer words than two
pub no_runtest : (saved : List ℕ) (ws : SavedWords) → ((a b : Span) → ws ≡ words.Two a b → ⊥) → ((a b c : Span) → ws ≡ words.Three a b c → ⊥) → ((a b c d : Span) → ws ≡ words.Four a b c d → ⊥)
    → None ≡ runtest_statement (words_saved saved ws)
no_runtest saved words.None two three four = refl
no_runtest saved (words.One a) two three four = refl
no_runtest saved (words.Two a b) two three four = absurd (two a b refl)
no_runtest saved (words.Three a b c) two three four = absurd (three a b c refl)
no_runtest saved (words.Four a b c d) two three four = absurd (four a b c d refl)

unless_runtest : (b : Bool) (x y : Option Statement) → b ≡ false → y ≡ None → (if b then x else y) ≡ None
unless_runtest true x y e f = absurd cc
unless_runtest false x y e f = f

nothing_said : (k : List ℕ) (x : Option Statement) → is_keyword k (codes "RUNTEST") ≡ false
    → (if is_keyword k (codes "STATE") then None else (if is_keyword k (codes "RUNTEST") then x else (if is_keyword k (codes "ENDIR") || is_keyword k (codes "ENDDR") then None
    else (if is_keyword k (codes "HIR") || is_keyword k (codes "HDR") || is_keyword k (codes "TIR") || is_keyword k (codes "TDR") then None else (if is_keyword k (codes "TRST") then None else None))))) ≡ None
nothing_said k x h =
    none_if (is_keyword k (codes "STATE")) _ (unless_runtest (is_keyword k (codes "RUNTEST")) x _ h (none_if (is_keyword k (codes "ENDIR") || is_keyword k (codes "ENDDR")) _
    (none_if (is_keyword k (codes "HIR") || is_keyword k (codes "HDR") || is_keyword k (codes "TIR") || is_keyword k (codes "TDR")) _ (none_if (is_keyword k (codes "TRST")) None refl))))

-- another keyword says nothing but with one word
pub not_one : (k saved : List ℕ) (ws : SavedWords) → is_keyword k (codes "RUNTEST") ≡ false → ((a : Span) → ws ≡ words.One a → ⊥) → None ≡ statement_of_words k (words_saved saved ws)
not_one k saved words.None h one = sym (nothing_said k _ h)
not_one k saved (words.One a) h one = absurd (one a refl)
not_one k saved (words.Two a b) h one = sym (nothing_said k _ h)
not_one k saved (words.Three a b c) h one = sym (nothing_said k _ h)
not_one k saved (words.Four a b c d) h one = sym (nothing_said k _ h)
