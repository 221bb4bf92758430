-- Texts cut at their line ends.
use Rattle.std.proofs.Common.{◌≡◌, ◌==◌, ℕ, zero, suc, ◌+◌, ◌-◌, ◌<◌, ◌≤◌, Bool, true, false, if◌then◌else◌, List, [], ◌∷◌, ◌++◌, length, take, drop, get_or, refl, ap, sym, ◌∙◌, arith, take_all, length-drop, append_assoc}
use Rattle.std.proofs.lemmas.Grind.{common_steps}
use Rattle.std.specs.List.{flat_map, AllByRecursion}
use Rattle.x7_text.specs.Lines.{has_no_end, joined_lines, on_first, split}

-- the text up to its first line end
at_end : (b : Bool) (c : ℕ) (cs : List ℕ) → b ≡ true → (if b then [] ∷ split cs else on_first c (split cs)) ≡ [] ∷ split cs
at_end true c cs e = refl
at_end false c cs e = absurd cc

before_end : (b : Bool) (c : ℕ) (cs : List ℕ) (t : List ℕ) (ts : List (List ℕ)) → (b ≡ true → ⊥) → split cs ≡ t ∷ ts → (if b then [] ∷ split cs else on_first c (split cs)) ≡ (c ∷ t) ∷ ts
before_end true c cs t ts h e = absurd (h refl)
before_end false c cs t ts h e = ap (on_first c) e

first_by : (t : List ℕ) (k : ℕ) → ((j : ℕ) → j < k → (get_or t j 0 == 10) ≡ true → ⊥) → k < length t → (get_or t k 0 == 10) ≡ true → split t ≡ take k t ∷ split (drop (suc k) t)
first_by [] k h l e = absurd (omega arith)
first_by (c ∷ cs) zero h l e = at_end (c == 10) c cs e
first_by (c ∷ cs) (suc k) h l e = before_end (c == 10) c cs (take k cs) (split (drop (suc k) cs)) (h 0 (omega arith)) (first_by cs k (λ j i. h (suc j) (omega arith)) (omega arith) e)

pub first_line : (t : List ℕ) (k : ℕ) → ((j : ℕ) → 0 ≤ j → j < k → (get_or t j 0 == 10) ≡ true → ⊥) → k < length t → (get_or t k 0 == 10) ≡ true
    → (split t ≡ take k t ∷ split (take (length t - (k + 1)) (drop (k + 1) t))) × (length (take (length t - (k + 1)) (drop (k + 1) t)) < length t)
first_line t k h l e =
    let long : length (drop (k + 1) t) ≡ length t - (k + 1) = length-drop (k + 1) t in
    let all : take (length t - (k + 1)) (drop (k + 1) t) ≡ drop (k + 1) t = take_all (length t - (k + 1)) (drop (k + 1) t) (omega arith) in
    let one : suc k ≡ k + 1 = omega arith in
    (first_by t k (λ j i. h j (omega arith) i) l e ∙ ap (λ (j : ℕ). take k t ∷ split (drop j t)) one ∙ ap (λ s. take k t ∷ split s) (sym all), omega (arith, ap length all, long))

pub last_line : (t : List ℕ) → ((j : ℕ) → 0 ≤ j → j < length t → (get_or t j 0 == 10) ≡ true → ⊥) → split t ≡ t ∷ []
last_line [] h = refl
last_line (c ∷ cs) h = before_end (c == 10) c cs cs [] (h 0 (omega arith) (omega arith)) (last_line cs (λ j i l. h (suc j) (omega arith) (omega arith)))

-- the lines of a text joined are the text
joined_first : (c : ℕ) (ts : List (List ℕ)) → joined_lines (on_first c ts) ≡ c ∷ joined_lines ts
joined_first c [] = refl
joined_first c (t ∷ []) = refl
joined_first c (t ∷ u ∷ us) = refl

joined_ahead : (ts : List (List ℕ)) → (ts ≡ [] → ⊥) → joined_lines ([] ∷ ts) ≡ 10 ∷ joined_lines ts
joined_ahead [] h = absurd (h refl)
joined_ahead (t ∷ ts) h = refl

first_some : (b : Bool) (c : ℕ) (ts us : List (List ℕ)) → (if b then [] ∷ ts else on_first c us) ≡ [] → ⊥
first_some true c ts us e = cc
first_some false c ts [] e = cc
first_some false c ts (u ∷ us) e = cc

pub split_some : (t : List ℕ) → split t ≡ [] → ⊥
split_some [] e = cc
split_some (c ∷ cs) e = first_some (c == 10) c (split cs) (split cs) e

number_is : (b c : ℕ) → (c == b) ≡ true → c ≡ b
number_is b c e = grind (arith, common_steps)

joined_by : (b : Bool) (c : ℕ) (cs : List ℕ) → (b ≡ true → c ≡ 10) → joined_lines (split cs) ≡ cs → joined_lines (if b then [] ∷ split cs else on_first c (split cs)) ≡ c ∷ cs
joined_by true c cs h e = joined_ahead (split cs) (split_some cs) ∙ ap (λ t. 10 ∷ t) e ∙ ap (λ (d : ℕ). d ∷ cs) (sym (h refl))
joined_by false c cs h e = joined_first c (split cs) ∙ ap (λ t. c ∷ t) e

pub joined_split : (t : List ℕ) → joined_lines (split t) ≡ t
joined_split [] = refl
joined_split (c ∷ cs) = joined_by (c == 10) c cs (number_is 10 c) (joined_split cs)

-- none of the lines of a text holds a line end
free_on : (c : ℕ) (ts : List (List ℕ)) → (c == 10) ≡ false → AllByRecursion (λ line. has_no_end line ≡ true) ts → AllByRecursion (λ line. has_no_end line ≡ true) (on_first c ts)
free_on c [] e h = (rw e refl, tt)
free_on c (t ∷ ts) e h = (rw e h.0, h.1)

free_by : (b : Bool) (c : ℕ) (ts : List (List ℕ)) → (c == 10) ≡ b → AllByRecursion (λ line. has_no_end line ≡ true) ts → AllByRecursion (λ line. has_no_end line ≡ true) (if b then [] ∷ ts else on_first c ts)
free_by true c ts e h = (refl, h)
free_by false c ts e h = free_on c ts e h

pub split_free : (t : List ℕ) → AllByRecursion (λ line. has_no_end line ≡ true) (split t)
split_free [] = (refl, tt)
split_free (c ∷ cs) = free_by (c == 10) c (split cs) refl (split_free cs)

-- lines with their ends are split into them
ended_by : (b : Bool) (c : ℕ) (t rest : List ℕ) (us : List (List ℕ)) → (if b then false else has_no_end t) ≡ true → (has_no_end t ≡ true → split (t ++ 10 ∷ rest) ≡ t ∷ us)
    → (if b then [] ∷ split (t ++ 10 ∷ rest) else on_first c (split (t ++ 10 ∷ rest))) ≡ (c ∷ t) ∷ us
ended_by true c t rest us h e = absurd cc
ended_by false c t rest us h e = ap (on_first c) (e h)

pub split_line : (t rest : List ℕ) → has_no_end t ≡ true → split (t ++ 10 ∷ rest) ≡ t ∷ split rest
split_line [] rest h = refl
split_line (c ∷ t) rest h = ended_by (c == 10) c t rest (split rest) h (split_line t rest)

pub split_ended : (lines : List (List ℕ)) → AllByRecursion (λ line. has_no_end line ≡ true) lines → split (flat_map (λ line. line ++ 10 ∷ []) lines) ≡ lines ++ [] ∷ []
split_ended [] h = refl
split_ended (t ∷ ts) h = ap split (append_assoc t (10 ∷ []) (flat_map (λ line. line ++ 10 ∷ []) ts)) ∙ split_line t (flat_map (λ line. line ++ 10 ∷ []) ts) h.0 ∙ ap (λ us. t ∷ us) (split_ended ts h.1)
