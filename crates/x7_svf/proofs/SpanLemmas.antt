-- What is saved stays where more is saved.
use Rattle.std.specs.Prelude.{IfSome}
use Rattle.std.proofs.Common.{◌≡◌, inl, inr, ℕ, ◌+◌, ◌-◌, ◌≤◌, List, [], ◌∷◌, length, take, drop, ◌++◌, Option, Some, None, refl, ap, sym, subst, ◌∙◌, arith}
use Rattle.std.proofs.lemmas.Bool.{cases_lt}
use Rattle.std.proofs.lemmas.List.{drop-take, take-append-le, take-take, take_all}
use Rattle.x7_svf.specs.Bits.{bits_of}
use Rattle.x7_svf.specs.Fields.{bits_if}
use Rattle.x7_svf.specs.Span.{AreWordsWithin, StaysSaved, bytes_in, digits_if, span_end_if, span_end, words_saved}
use Rattle.x7_svf.specs.Stored.{AreStoredWithin, IsStored, IsStoredWithin, statement_in, statements_in, stored_if}
use Rattle.x7_svf.specs.declared.span.Span.{Span}
use Rattle.x7_svf.specs.declared.statement.Statement.{Statement}
use Rattle.x7_svf.specs.declared.statement.Statement.TheVariants as statement
use Rattle.x7_svf.specs.declared.stored.StoredStatement.{StoredStatement}
use Rattle.x7_svf.specs.declared.stored.StoredStatement.TheVariants as stored
use Rattle.x7_svf.specs.declared.words.SavedWords.{SavedWords}
use Rattle.x7_svf.specs.declared.words.SavedWords.TheVariants as words

pub prefix_long : (a b : List ℕ) → StaysSaved a b → length a ≤ length b
prefix_long a b f = elim (cases_lt (length b) (length a)) [
  | inl l ↦ omega (arith, ap length (sym (take_all (length a) b (omega (arith, l))) ∙ f))
  | inr l ↦ omega (arith, l)
]

-- what is saved stays where nothing more is saved, and where more is put after it
pub all_stays : (a b : List ℕ) → b ≡ a → StaysSaved a b
all_stays a b e = subst (λ (x : List ℕ). StaysSaved a x) (sym e) (take_all (length a) a (omega arith))

pub more_stays : (a b more : List ℕ) → b ≡ a ++ more → StaysSaved a b
more_stays a b more e = ap (take (length a)) e ∙ take-append-le (length a) a more (omega arith) ∙ take_all (length a) a (omega arith)

pub prefix_on : (a b c : List ℕ) → StaysSaved a b → StaysSaved b c → StaysSaved a c
prefix_on a b c f g = sym (take-take (length a) (length b) c (prefix_long a b f)) ∙ ap (take (length a)) g ∙ f

module _ (a b : List ℕ) (f : StaysSaved a b) where
  pub bytes_stay : (s : Span) → span_end s ≤ length a → bytes_in b s ≡ bytes_in a s
  bytes_stay s w =
      let m : ℕ = length a - s.from in
      let sum : s.from + m ≡ length a = omega (arith, w) in
      let part : drop s.from a ≡ take m (drop s.from b) = ap (drop s.from) (sym f) ∙ ap (λ (k : ℕ). drop s.from (take k b)) (sym sum) ∙ drop-take s.from m b in
      sym (ap (take s.count) part ∙ take-take s.count m (drop s.from b) (omega (arith, w)))

  pub option_stays : (o : Option Span) → span_end_if o ≤ length a → digits_if b o ≡ digits_if a o
  option_stays None w = refl
  option_stays (Some s) w = ap Some (bytes_stay s w)

  pub words_stay : (ws : SavedWords) → AreWordsWithin (length a) ws → words_saved b ws ≡ words_saved a ws
  words_stay words.None w = refl
  words_stay (words.One p) w = ap (λ (x : List ℕ). x ∷ []) (bytes_stay p w)
  words_stay (words.Two p q) w = λ i. bytes_stay p w.0 i ∷ bytes_stay q w.1 i ∷ []
  words_stay (words.Three p q r) w = λ i. bytes_stay p w.0 i ∷ bytes_stay q w.1 i ∷ bytes_stay r w.2 i ∷ []
  words_stay (words.Four p q r s) w = λ i. bytes_stay p w.0 i ∷ bytes_stay q w.1 i ∷ bytes_stay r w.2 i ∷ bytes_stay s w.3 i ∷ []

  pub statement_stays : (s : StoredStatement) → IsStoredWithin (length a) s → statement_in b s ≡ statement_in a s
  statement_stays stored.Reset w = refl
  statement_stays stored.Idle w = refl
  statement_stays (stored.IdleClocks n) w = refl
  statement_stays stored.Nothing w = refl
  statement_stays (stored.Scan s) w = λ i. statement.Scan (record { register = s.register; tdi = bits_of s.bit_count (bytes_stay s.tdi w.0 i); tdo = bits_if s.bit_count (option_stays s.tdo w.1 i); mask = bits_if s.bit_count (option_stays s.mask w.2 i) })

  pub statements_stay : (ss : List StoredStatement) → AreStoredWithin (length a) ss → statements_in b ss ≡ statements_in a ss
  statements_stay [] w = refl
  statements_stay (s ∷ ss) w = λ i. statement_stays s w.0 i ∷ statements_stay ss w.1 i

pub stored_more : (n m : ℕ) (s : StoredStatement) → n ≤ m → IsStoredWithin n s → IsStoredWithin m s
stored_more n m (stored.Scan s) l w = (omega (arith, l, w.0), omega (arith, l, w.1), omega (arith, l, w.2))
stored_more n m stored.Reset l w = w
stored_more n m stored.Idle l w = w
stored_more n m (stored.IdleClocks x) l w = w
stored_more n m stored.Nothing l w = w

pub all_stored_more : (n m : ℕ) (ss : List StoredStatement) → n ≤ m → AreStoredWithin n ss → AreStoredWithin m ss
all_stored_more n m [] l w = w
all_stored_more n m (s ∷ ss) l w = (stored_more n m s l w.0, all_stored_more n m ss l w.1)

pub words_more : (n m : ℕ) (ws : SavedWords) → n ≤ m → AreWordsWithin n ws → AreWordsWithin m ws
words_more n m words.None l w = w
words_more n m (words.One p) l w = omega (arith, l, w)
words_more n m (words.Two p q) l w = (omega (arith, l, w.0), omega (arith, l, w.1))
words_more n m (words.Three p q r) l w = (omega (arith, l, w.0), omega (arith, l, w.1), omega (arith, l, w.2))
words_more n m (words.Four p q r s) l w = (omega (arith, l, w.0), omega (arith, l, w.1), omega (arith, l, w.2), omega (arith, l, w.3))

-- what is stored where nothing is saved is stored anywhere
pub stored_anywhere : (saved : List ℕ) (o : Option StoredStatement) (s : Option Statement) → stored_if [] o ≡ s → IfSome o (IsStoredWithin 0) → IsStored saved o s
stored_anywhere saved None s e w = (e, w)
stored_anywhere saved (Some x) s e w = (ap Some (statement_stays [] saved refl x w) ∙ e, stored_more 0 (length saved) x (omega arith) w)
