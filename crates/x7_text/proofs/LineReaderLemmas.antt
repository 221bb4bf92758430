-- A text by its whole lines and what is left, and readers that take it in pieces.
use Rattle.std.proofs.Common.{◌≡◌, ℕ, ◌+◌, ◌≤◌, true, List, [], ◌∷◌, ◌++◌, Result, Ok, Err, IfErr, length, refl, ap, sym, subst, ◌∙◌, arith, append_assoc, length-append}
use Rattle.std.specs.List.{flat_map, AllByRecursion}
use Rattle.x7_text.specs.Lines.{has_no_end, joined_lines, split}
use Rattle.x7_text.specs.LineReader.{FailsFrom, IsCut, ReaderState, StandsFor, TakesPrefix, TakesWhole, WantsAt}
use Rattle.x7_text.proofs.PieceLemmas.{free_both, joined_ahead, some_line, split_alone}
use Rattle.x7_text.proofs.SplitLemmas.{joined_split, split_free, split_line, split_some}

-- ---- whole lines, and the text after them

-- lines with their ends
abbrev pub ended : List (List ℕ) → List ℕ
ended ls = flat_map (λ (l : List ℕ). l ++ 10 ∷ []) ls

abbrev pub AreFree : List (List ℕ) → Type 0
AreFree ls = AllByRecursion (λ line. has_no_end line ≡ true) ls

pub left_some : (ls ts : List (List ℕ)) → (ts ≡ [] → ⊥) → ls ++ ts ≡ [] → ⊥
left_some [] ts h e = h e
left_some (l ∷ ls) ts h e = cc

joined_after : (ls ts : List (List ℕ)) → (ts ≡ [] → ⊥) → joined_lines (ls ++ ts) ≡ ended ls ++ joined_lines ts
joined_after [] ts h = refl
joined_after (l ∷ ls) ts h =
    joined_ahead l (ls ++ ts) (left_some ls ts h) ∙ ap (λ t. l ++ 10 ∷ t) (joined_after ls ts h)
    ∙ sym (ap (λ t. t ++ joined_lines ts) (append_assoc l (10 ∷ []) (ended ls)) ∙ append_assoc l (10 ∷ ended ls) (joined_lines ts))

free_left : (ls ts : List (List ℕ)) → AreFree (ls ++ ts) → AreFree ls
free_left [] ts h = tt
free_left (l ∷ ls) ts h = (h.0, free_left ls ts h.1)

free_last : (ls : List (List ℕ)) (t : List ℕ) → AreFree (ls ++ t ∷ []) → has_no_end t ≡ true
free_last [] t h = h.0
free_last (l ∷ ls) t h = free_last ls t h.1

split_after : (ls : List (List ℕ)) (t : List ℕ) → AreFree ls → split (ended ls ++ t) ≡ ls ++ split t
split_after [] t h = refl
split_after (l ∷ ls) t h =
    ap (λ x. split (x ++ t)) (append_assoc l (10 ∷ []) (ended ls)) ∙ ap split (append_assoc l (10 ∷ ended ls) t)
    ∙ split_line l (ended ls ++ t) h.0 ∙ ap (λ x. l ∷ x) (split_after ls t h.1)

ended_long : (ls : List (List ℕ)) → length ls ≤ length (ended ls)
ended_long [] = omega arith
ended_long (l ∷ ls) = let k = ended_long ls in omega (arith, k, length-append (l ++ 10 ∷ []) (ended ls), length-append l (10 ∷ []))

-- the lines of a text are some whole lines, and those of a rest
module _ (text rest : List ℕ) (ls : List (List ℕ)) (e : split text ≡ ls ++ split rest) where
  pub prefix_is : text ≡ ended ls ++ rest
  prefix_is = sym (joined_split text) ∙ ap joined_lines e ∙ joined_after ls (split rest) (split_some rest) ∙ ap (λ t. ended ls ++ t) (joined_split rest)

  pub prefix_on : (more : List ℕ) → split (text ++ more) ≡ ls ++ split (rest ++ more)
  prefix_on more =
      ap (λ t. split (t ++ more)) prefix_is ∙ ap split (append_assoc (ended ls) rest more)
      ∙ split_after ls (rest ++ more) (free_left ls (split rest) (subst AreFree e (split_free text)))

  pub prefix_long : length ls + length rest ≤ length text
  prefix_long = omega (arith, ended_long ls, ap length prefix_is, length-append (ended ls) rest)

-- what is left after the whole lines of a text holds no line end
pub cut_free : (text rest : List ℕ) (ls : List (List ℕ)) → IsCut text ls rest → has_no_end rest ≡ true
cut_free text rest ls e = free_last ls rest (subst AreFree e (split_free text))

pub cut_prefix : (text rest : List ℕ) (ls : List (List ℕ)) → IsCut text ls rest → split text ≡ ls ++ split rest
cut_prefix text rest ls e = e ∙ ap (λ t. ls ++ t) (sym (split_alone rest (cut_free text rest ls e)))

pub cut_on : (text rest : List ℕ) (ls : List (List ℕ)) (more : List ℕ) → IsCut text ls rest → split (text ++ more) ≡ ls ++ split (rest ++ more)
cut_on text rest ls more e = prefix_on text rest ls (cut_prefix text rest ls e) more

pub cut_long : (text rest : List ℕ) (ls : List (List ℕ)) → IsCut text ls rest → length ls + length rest ≤ length text
cut_long text rest ls e = prefix_long text rest ls (cut_prefix text rest ls e)

-- a line that has its end, and more text
pub whole_line : (held line more : List ℕ) → has_no_end held ≡ true → has_no_end line ≡ true → split (held ++ (line ++ 10 ∷ more)) ≡ (held ++ line) ∷ split more
whole_line held line more f g = ap split (sym (append_assoc held line (10 ∷ more))) ∙ split_line (held ++ line) more (free_both held line f g)

-- ---- lines one by one

-- after some lines, those of a text were taken but for the rest
pub record HasTaken {B : Type 0} (taken : B → List (List ℕ) → Type 0) (ls : List (List ℕ)) (text rest : List ℕ) (b : B) (n : ℕ) : Type 0 where
  pub more : List (List ℕ)
  pub texts : split text ≡ more ++ split rest
  pub took : taken b (ls ++ more)
  pub counts : n ≡ length (ls ++ more)

module _ {B : Type 0} (taken : B → List (List ℕ) → Type 0) (ls : List (List ℕ)) (text rest : List ℕ) where
  pub one_taken : (line after : List ℕ) (a b : B) (n m : ℕ) → split rest ≡ line ∷ split after → (h : HasTaken taken ls text rest a n) → m ≡ n + 1 → taken b ((ls ++ h.more) ++ line ∷ []) → HasTaken taken ls text after b m
  one_taken line after a b n m e h next t = record {
    more = h.more ++ line ∷ [];
    texts = h.texts ∙ ap (λ x. h.more ++ x) e ∙ sym (append_assoc h.more (line ∷ []) (split after));
    took = subst (taken b) (append_assoc ls h.more (line ∷ [])) t;
    counts = omega (arith, next, h.counts, length-append (ls ++ h.more) (line ∷ []), ap length (append_assoc ls h.more (line ∷ [])));
  }

  -- the lines taken in all and the bytes left are at most the lines before the text and its bytes
  pub few_taken : (b : B) (n k : ℕ) → k ≡ length ls → HasTaken taken ls text rest b n → n + length rest ≤ k + length text
  few_taken b n k e h = omega (arith, prefix_long text rest h.more h.texts, h.counts, length-append ls h.more)

  pub all_taken : (b : B) (line : List ℕ) (n : ℕ) → split rest ≡ line ∷ [] → HasTaken taken ls text rest b n → TakesWhole taken ls text b line n
  all_taken b line n e h = record { more = h.more; cut = h.texts ∙ ap (λ x. h.more ++ x) e; took = h.took; count = h.counts }

  pub at_fault : (fails : List (List ℕ) → Type 0) (line after : List ℕ) (b : B) (n : ℕ) → split rest ≡ line ∷ split after → (h : HasTaken taken ls text rest b n)
      → ((more : List ℕ) → fails ((ls ++ h.more) ++ line ∷ split more)) → (more : List ℕ) → fails (ls ++ split (text ++ more))
  at_fault fails line after b n e h f more =
      let p = some_line rest line after e in
      let q : split (rest ++ more) ≡ line ∷ split (after ++ more) = ap (λ x. split (x ++ more)) p.0 ∙ ap split (append_assoc line (10 ∷ after) more) ∙ split_line line (after ++ more) p.1 in
      subst fails (append_assoc ls h.more (line ∷ split (after ++ more)) ∙ ap (λ x. ls ++ (h.more ++ x)) (sym q) ∙ ap (λ x. ls ++ x) (sym (prefix_on text rest h.more h.texts more))) (f (after ++ more))

-- ---- want of memory

module _ (wants : List (List ℕ) → List ℕ → Type 0) (lines : List (List ℕ)) where
  -- at a line that has its end, after others of its text
  pub wants_here : (more : List (List ℕ)) (text rest line after : List ℕ) → split text ≡ more ++ split rest → split rest ≡ line ∷ split after → wants (lines ++ more) line → WantsAt wants lines text
  wants_here more text rest line after e f w = record { before = more; line = line; after = split after; texts = e ∙ ap (λ x. more ++ x) f; wanting = w }

  -- at a line of what is left, after lines of the text
  pub wants_after : (more : List (List ℕ)) (text rest : List ℕ) → split text ≡ more ++ split rest → WantsAt wants (lines ++ more) rest → WantsAt wants lines text
  wants_after more text rest e w = record {
    before = more ++ w.before;
    line = w.line;
    after = w.after;
    texts = e ∙ ap (λ x. more ++ x) w.texts ∙ sym (append_assoc more w.before (w.line ∷ w.after));
    wanting = subst (λ x. wants x w.line) (append_assoc lines more w.before) w.wanting;
  }

  -- at the last line of a text
  pub wants_last : {A F : Type 0} (r : Result A F) (is_want : F → Type 0) (more : List (List ℕ)) (text rest : List ℕ) → IsCut text more rest
      → IfErr r (λ f. is_want f → wants (lines ++ more) rest) → IfErr r (λ f. is_want f → WantsAt wants lines text)
  wants_last (Ok _) is_want more text rest e w = tt
  wants_last (Err f) is_want more text rest e w = λ want. record { before = more; line = rest; after = []; texts = e; wanting = w want }

-- what holds of each fault holds of that of a result
pub each_fault : {A F : Type 0} (r : Result A F) (P : F → Type 0) → ((f : F) → P f) → IfErr r P
each_fault (Ok _) P f = tt
each_fault (Err e) P f = f e

-- ---- readers

module _ {B : Type 0} (taken : B → List (List ℕ) → Type 0) where
  -- what a reader took, and how many lines, is that of its view
  pub view_took : (r q : ReaderState B) (lines : List (List ℕ)) → r ≡ q → taken q.taker lines → taken r.taker lines
  view_took r q lines e t = subst (λ (x : ReaderState B). taken x.taker lines) (sym e) t

  pub view_count : (r q : ReaderState B) (n : ℕ) → r ≡ q → q.count ≡ n → r.count ≡ n
  view_count r q n e h = ap (λ (x : ReaderState B). x.count) e ∙ h

  -- the lines that a reader took and the bytes that it holds are at most the bytes of its text
  pub few_lines : (r : ReaderState B) (text : List ℕ) → StandsFor taken r text → r.count + length r.held ≤ length text
  few_lines r text s = omega (arith, cut_long text r.held s.lines s.cut, s.count)

  -- a piece ends no line
  pub held_on : (r q : ReaderState B) (text piece : List ℕ) → q.taker ≡ r.taker → q.count ≡ r.count → q.held ≡ r.held ++ piece → has_no_end piece ≡ true → StandsFor taken r text → StandsFor taken q (text ++ piece)
  held_on r q text piece same count held free s = record {
    lines = s.lines;
    cut = cut_on text r.held s.lines piece s.cut ∙ ap (λ t. s.lines ++ t) (split_alone (r.held ++ piece) (free_both r.held piece (cut_free text r.held s.lines s.cut) free) ∙ ap (λ h. h ∷ []) (sym held));
    took = subst (λ b. taken b s.lines) (sym same) s.took;
    count = count ∙ s.count;
  }

  -- a piece ends the line that is held
  pub line_ends : (r q : ReaderState B) (text piece line rest : List ℕ) (s : StandsFor taken r text) → split piece ≡ line ∷ split rest → q.held ≡ [] → q.count ≡ r.count + 1 → taken q.taker (s.lines ++ (r.held ++ line) ∷ []) → TakesPrefix taken q text piece rest
  line_ends r q text piece line rest s e clear count t =
      let p = some_line piece line rest e in
      record {
        prefix = line ++ 10 ∷ [];
        parts = p.0 ∙ sym (append_assoc line (10 ∷ []) rest);
        clear = clear;
        stands = record {
          lines = s.lines ++ (r.held ++ line) ∷ [];
          cut =
              cut_on text r.held s.lines (line ++ 10 ∷ []) s.cut ∙ ap (λ x. s.lines ++ x) (whole_line r.held line [] (cut_free text r.held s.lines s.cut) p.1)
              ∙ sym (append_assoc s.lines ((r.held ++ line) ∷ []) ([] ∷ [])) ∙ ap (λ h. (s.lines ++ (r.held ++ line) ∷ []) ++ h ∷ []) (sym clear);
          took = t;
          count = omega (arith, count, s.count, length-append s.lines ((r.held ++ line) ∷ []));
        };
      }

  -- a line that a piece ends is at fault
  pub line_fails : (fails : List (List ℕ) → Type 0) (r : ReaderState B) (text piece line rest : List ℕ) (s : StandsFor taken r text) → split piece ≡ line ∷ split rest
      → ((more : List ℕ) → fails (s.lines ++ (r.held ++ line) ∷ split more)) → FailsFrom fails (text ++ piece)
  line_fails fails r text piece line rest s e f more =
      let p = some_line piece line rest e in
      subst fails
      (ap (λ x. s.lines ++ x) (sym (whole_line r.held line (rest ++ more) (cut_free text r.held s.lines s.cut) p.1))
      ∙ sym (cut_on text r.held s.lines (line ++ 10 ∷ (rest ++ more)) s.cut)
      ∙ ap (λ x. split (text ++ x)) (sym (ap (λ x. x ++ more) p.0 ∙ append_assoc line (10 ∷ rest) more)) ∙ ap split (sym (append_assoc text piece more)))
      (f (rest ++ more))

  -- where no beginning of a line is held, the lines of a text and more are those taken and those of `more`
  lines_of : (r : ReaderState B) (text more : List ℕ) (s : StandsFor taken r text) → r.held ≡ [] → split (text ++ more) ≡ s.lines ++ split more
  lines_of r text more s clear = cut_on text r.held s.lines more s.cut ∙ ap (λ h. s.lines ++ split (h ++ more)) clear

  pub lines_taken : (r q : ReaderState B) (text piece rest : List ℕ) (s : StandsFor taken r text) → r.held ≡ [] → q.held ≡ rest → TakesWhole taken s.lines piece q.taker rest q.count → StandsFor taken q (text ++ piece)
  lines_taken r q text piece rest s clear held w = record {
    lines = s.lines ++ w.more;
    cut = lines_of r text piece s clear ∙ ap (λ x. s.lines ++ x) w.cut ∙ sym (append_assoc s.lines w.more (rest ∷ [])) ∙ ap (λ h. (s.lines ++ w.more) ++ h ∷ []) (sym held);
    took = w.took;
    count = w.count;
  }

  pub lines_fail : (fails : List (List ℕ) → Type 0) (r : ReaderState B) (text piece : List ℕ) (s : StandsFor taken r text) → r.held ≡ [] → ((more : List ℕ) → fails (s.lines ++ split (piece ++ more))) → FailsFrom fails (text ++ piece)
  lines_fail fails r text piece s clear f more = subst fails (sym (lines_of r text (piece ++ more) s clear) ∙ ap split (sym (append_assoc text piece more))) (f more)
