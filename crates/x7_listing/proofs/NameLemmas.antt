-- The name before the first space of a text.
use Rattle.std.proofs.Common.{◌≡◌, ◌==◌, ℕ, zero, suc, ◌+◌, ◌-◌, ◌<◌, ◌≤◌, Bool, true, false, if◌then◌else◌, List, [], ◌∷◌, ◌++◌, Option, None, Some, MatchOption, length, take, drop, get_or, refl, ap, sym, ◌∙◌, arith, length-append, length-drop, take_all}
use Rattle.x7_listing.specs.BitLine.{has_no_space, IsCutAtSpace}
use Rattle.std.proofs.lemmas.Bool.{eqb-true}
use Rattle.x7_regs.specs.Register.{reg_name, reg_number_count}
use Rattle.x7_regs.proofs.NamedLemmas.{register_place}
use Rattle.x7_listing.proofs.GuessLemmas.{before_space, name_before_space, name_free}

space_at : (name rest : List ℕ) → get_or (name ++ 32 ∷ rest) (length name) 0 ≡ 32
space_at [] rest = refl
space_at (c ∷ cs) rest = space_at cs rest

-- a text without a space where a register's name would end
pub no_space : (t : List ℕ) → ((j : ℕ) → j < 10 → j < length t → get_or t j 0 ≡ 32 → ⊥) → (n : ℕ) (rest : List ℕ) → n < reg_number_count → t ≡ reg_name n ++ 32 ∷ rest → ⊥
no_space t h n rest k e =
    let at : get_or t (length (reg_name n)) 0 ≡ 32 = ap (λ (s : List ℕ). get_or s (length (reg_name n)) 0) e ∙ space_at (reg_name n) rest in
    h (length (reg_name n)) (register_place n k).2 (omega (arith, ap length e, length-append (reg_name n) (32 ∷ rest))) at

at_space : (b : Bool) (c : ℕ) (cs : List ℕ) → b ≡ true → (if b then [] else c ∷ before_space cs) ≡ []
at_space true c cs e = refl
at_space false c cs e = absurd cc

before_it : (b : Bool) (c : ℕ) (cs t : List ℕ) → (b ≡ true → ⊥) → before_space cs ≡ t → (if b then [] else c ∷ before_space cs) ≡ c ∷ t
before_it true c cs t h e = absurd (h refl)
before_it false c cs t h e = ap (λ s. c ∷ s) e

-- what stands before the first space
pub first_space : (t : List ℕ) (k : ℕ) → ((j : ℕ) → j < k → get_or t j 0 ≡ 32 → ⊥) → k < length t → get_or t k 0 ≡ 32 → before_space t ≡ take k t
first_space [] k h l e = absurd (omega arith)
first_space (c ∷ cs) zero h l e = at_space (c == 32) c cs (ap (λ d. d == 32) e)
first_space (c ∷ cs) (suc k) h l e = before_it (c == 32) c cs (take k cs) (λ f. h 0 (omega arith) (eqb-true c 32 f)) (first_space cs k (λ j i. h (suc j) (omega arith)) (omega arith) e)

-- a text whose first word is no register's name
pub no_register : (t : List ℕ) (k : ℕ) → before_space t ≡ take k t → ((n : ℕ) → n < reg_number_count → take k t ≡ reg_name n → ⊥) → (n : ℕ) (rest : List ℕ) → n < reg_number_count → t ≡ reg_name n ++ 32 ∷ rest → ⊥
no_register t k e none n rest h is = none n h (sym e ∙ ap before_space is ∙ name_before_space (reg_name n) rest (name_free n h))

-- a text without a space
pub no_space_at_all : (t : List ℕ) → ((j : ℕ) → 0 ≤ j → j < length t → (get_or t j 0 == 32) ≡ true → ⊥) → (word rest : List ℕ) → t ≡ word ++ 32 ∷ rest → ⊥
no_space_at_all t h word rest e =
    let at : get_or t (length word) 0 ≡ 32 = ap (λ (s : List ℕ). get_or s (length word) 0) e ∙ space_at word rest in
    h (length word) (omega arith) (omega (arith, ap length e, length-append word (32 ∷ rest))) (ap (λ d. d == 32) at)

free_not : (b : Bool) (cs : List ℕ) (k : ℕ) → (b ≡ true → ⊥) → has_no_space (take k cs) ≡ true → (if b then false else has_no_space (take k cs)) ≡ true
free_not true cs k h e = absurd (h refl)
free_not false cs k h e = e

free_before : (t : List ℕ) (k : ℕ) → ((j : ℕ) → 0 ≤ j → j < k → (get_or t j 0 == 32) ≡ true → ⊥) → k < length t → has_no_space (take k t) ≡ true
free_before [] k h l = absurd (omega arith)
free_before (c ∷ cs) zero h l = refl
free_before (c ∷ cs) (suc k) h l = free_not (c == 32) cs k (h 0 (omega arith) (omega arith)) (free_before cs k (λ j i m. h (suc j) (omega arith) (omega arith)) (omega arith))

split_at : (t : List ℕ) (k : ℕ) → k < length t → (get_or t k 0 == 32) ≡ true → t ≡ take k t ++ 32 ∷ drop (suc k) t
split_at [] k l e = absurd (omega arith)
split_at (c ∷ cs) zero l e = ap (λ (d : ℕ). d ∷ cs) (eqb-true c 32 e)
split_at (c ∷ cs) (suc k) l e = ap (λ s. c ∷ s) (split_at cs k (omega arith) e)

-- a text at a space
at_place : (t : List ℕ) (k : ℕ) → k < length t → (get_or t k 0 == 32) ≡ true → t ≡ take k t ++ 32 ∷ take (length t - (k + 1)) (drop (k + 1) t)
at_place t k l e =
    let one : suc k ≡ k + 1 = omega arith in
    let all : take (length t - (k + 1)) (drop (k + 1) t) ≡ drop (k + 1) t = take_all (length t - (k + 1)) (drop (k + 1) t) (omega (arith, length-drop (k + 1) t)) in
    split_at t k l e ∙ ap (λ (j : ℕ). take k t ++ 32 ∷ drop j t) one ∙ ap (λ s. take k t ++ 32 ∷ s) (sym all)

-- a text after a name and a space
pub after_name : (t name : List ℕ) (k : ℕ) → k < length t → get_or t k 0 ≡ 32 → take k t ≡ name → t ≡ name ++ 32 ∷ take (length t - (k + 1)) (drop (k + 1) t)
after_name t name k l e is = at_place t k l (ap (λ (b : ℕ). b == 32) e) ∙ ap (λ s. s ++ 32 ∷ take (length t - (k + 1)) (drop (k + 1) t)) is

-- a text at its first space
pub cut_at : (t : List ℕ) (k : ℕ) → ((j : ℕ) → 0 ≤ j → j < k → (get_or t j 0 == 32) ≡ true → ⊥) → k < length t → (get_or t k 0 == 32) ≡ true → IsCutAtSpace t (take k t) (take (length t - (k + 1)) (drop (k + 1) t))
cut_at t k h l e = record { parts = at_place t k l e; free = free_before t k h l }

-- what `None` says under a condition, where the condition holds
pub where_known : {A : Type 0} (P Q : Type 0) (R : A → Type 0) (r : Option A) → P → MatchOption r (P → Q) R → MatchOption r Q R
where_known P Q R None p h = h p
where_known P Q R (Some x) p h = h
