-- The lines of a text that comes in pieces: its first line, its only line, and texts that hold no line end.
use Rattle.std.proofs.Common.{◌≡◌, ◌==◌, ℕ, ◌/◌, ◌%◌, ◌^◌, ◌<◌, Bool, true, false, if◌then◌else◌, List, [], ◌∷◌, ◌++◌, Option, None, Some, MatchOption, Bor, length, map, refl, ap, sym, subst, ◌∙◌, arith}
use Rattle.std.proofs.lemmas.Grind.{common_steps}
use Rattle.std.specs.List.{flat_map, AllByRecursion}
use Rattle.x7_text.specs.Digits.{hex_byte, hex_digit, hex_word}
use Rattle.x7_text.specs.Lines.{has_no_end, joined_lines, on_first, split}
use Rattle.x7_text.proofs.SplitLemmas.{joined_split, split_free, split_some}

-- ---- texts that hold no line end

free_by : (b : Bool) (xs ys : List ℕ) → (if b then false else has_no_end xs) ≡ true → (has_no_end xs ≡ true → has_no_end (xs ++ ys) ≡ true) → (if b then false else has_no_end (xs ++ ys)) ≡ true
free_by true xs ys h f = absurd cc
free_by false xs ys h f = f h

pub free_both : (xs ys : List ℕ) → has_no_end xs ≡ true → has_no_end ys ≡ true → has_no_end (xs ++ ys) ≡ true
free_both [] ys h k = k
free_both (x ∷ xs) ys h k = free_by (x == 10) xs ys h (λ g. free_both xs ys g k)

pub free_more : (x : ℕ) (xs : List ℕ) → (x == 10) ≡ false → has_no_end xs ≡ true → has_no_end (x ∷ xs) ≡ true
free_more x xs e h = rw e h

digit_free : (n : ℕ) → (hex_digit n == 10) ≡ false
digit_free n = grind (arith, common_steps)

digits_free_more : (ns xs : List ℕ) → has_no_end xs ≡ true → has_no_end (map hex_digit ns ++ xs) ≡ true
digits_free_more [] xs h = h
digits_free_more (n ∷ ns) xs h = free_more (hex_digit n) (map hex_digit ns ++ xs) (digit_free n) (digits_free_more ns xs h)

pub hex_free : (bs : List ℕ) → has_no_end (flat_map hex_byte bs) ≡ true
hex_free [] = refl
hex_free (b ∷ bs) = digits_free_more (b / 2 ^ 4 % 16 ∷ b % 16 ∷ []) (flat_map hex_byte bs) (hex_free bs)

pub word_free : (w : ℕ) → has_no_end (hex_word w) ≡ true
word_free w = digits_free_more (w / 2 ^ 28 % 16 ∷ w / 2 ^ 24 % 16 ∷ w / 2 ^ 20 % 16 ∷ w / 2 ^ 16 % 16 ∷ w / 2 ^ 12 % 16 ∷ w / 2 ^ 8 % 16 ∷ w / 2 ^ 4 % 16 ∷ w % 16 ∷ []) [] refl

alone_by : (b : Bool) (c : ℕ) (cs : List ℕ) → (if b then false else has_no_end cs) ≡ true → (has_no_end cs ≡ true → split cs ≡ cs ∷ []) → (if b then [] ∷ split cs else on_first c (split cs)) ≡ (c ∷ cs) ∷ []
alone_by true c cs h f = absurd cc
alone_by false c cs h f = ap (on_first c) (f h)

-- a text that holds no line end is one line
pub split_alone : (t : List ℕ) → has_no_end t ≡ true → split t ≡ t ∷ []
split_alone [] h = refl
split_alone (c ∷ cs) h = alone_by (c == 10) c cs h (split_alone cs)

-- ---- the first line of a text

-- what the first line and the text after it are
abbrev pub FirstLine : List ℕ → List ℕ → Option (Bor (List ℕ)) → Type 0
FirstLine text t o = MatchOption o (split text ≡ t ∷ []) (λ more. (split text ≡ t ∷ split more.now) × (length more.now < length text))

pub at_some : (text t : List ℕ) (o : Option (Bor (List ℕ))) (x : Bor (List ℕ)) → o ≡ Some x → FirstLine text t o → (split text ≡ t ∷ split x.now) × (length x.now < length text)
at_some text t o x e h = subst (λ p. FirstLine text t p) e h

pub at_none : (text t : List ℕ) (o : Option (Bor (List ℕ))) → o ≡ None → FirstLine text t o → split text ≡ t ∷ []
at_none text t o e h = subst (λ p. FirstLine text t p) e h

pub first_free : (text t : List ℕ) (ts : List (List ℕ)) → split text ≡ t ∷ ts → has_no_end t ≡ true
first_free text t ts e = (subst (AllByRecursion (λ line. has_no_end line ≡ true)) e (split_free text)).0

-- the only line of a text is the text, and holds no end
pub only_line : (text t : List ℕ) → split text ≡ t ∷ [] → (text ≡ t) × (has_no_end text ≡ true)
only_line text t e =
    let is : text ≡ t = sym (joined_split text) ∙ ap joined_lines e in
    (is, subst (λ s. has_no_end s ≡ true) (sym is) (first_free text t [] e))

pub joined_ahead : (t : List ℕ) (ts : List (List ℕ)) → (ts ≡ [] → ⊥) → joined_lines (t ∷ ts) ≡ t ++ 10 ∷ joined_lines ts
joined_ahead t [] h = absurd (h refl)
joined_ahead t (u ∷ us) h = refl

-- the first of several lines, its end and the others are the text
pub some_line : (text t more : List ℕ) → split text ≡ t ∷ split more → (text ≡ t ++ 10 ∷ more) × (has_no_end t ≡ true)
some_line text t more e =
    let is : text ≡ t ++ 10 ∷ more = sym (joined_split text) ∙ ap joined_lines e ∙ joined_ahead t (split more) (split_some more) ∙ ap (λ s. t ++ 10 ∷ s) (joined_split more) in
    (is, first_free text t (split more) e)
