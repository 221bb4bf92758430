-- Lemmas by cases that several crates cite: truth values, and what a result says.
use Rattle.std.proofs.Common.{◌≡◌, Bool, true, false, not, ◌&&◌, ◌⊎◌, inl, inr, refl}
use Rattle.std.specs.Prelude.{Result, Ok, Err, MatchResult, IfOk, IfErr}

pub true_or_false : (b : Bool) → (b ≡ true) ⊎ (b ≡ false)
true_or_false true = inl refl
true_or_false false = inr refl

pub both_true : (a b : Bool) → (a && b) ≡ true → (a ≡ true) × (b ≡ true)
both_true true b e = (refl, e)
both_true false b e = absurd cc

pub not_false : (b : Bool) → not b ≡ false → b ≡ true
not_false true e = refl
not_false false e = absurd cc

-- what a result says where it is a value
pub ok_side : {X E : Type 0} (result : Result X E) (P : X → Type 0) (Q : E → Type 0) → MatchResult result P Q → IfOk result P
ok_side (Ok x) P Q h = h
ok_side (Err e) P Q h = tt

-- what a result says where it is an error
pub err_side : {X E : Type 0} (result : Result X E) (P : X → Type 0) (Q : E → Type 0) → MatchResult result P Q → IfErr result Q
err_side (Ok x) P Q h = tt
err_side (Err e) P Q h = h
